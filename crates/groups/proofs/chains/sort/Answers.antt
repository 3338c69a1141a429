-- The live part is sorted where it lies; what follows it stays.
use Rattle.groups.proofs.Sorts.{sort_live, sort_rest}
use Rattle.groups.proofs.chains.sort.Goals as goal

pub returns : goal.returns
returns g c = record {
  live = sort_live c.args.places.now c.sort_places.new.places c.args.used c.requires.within c.requires.apart c.sort_places.ensures.shuffled c.sort_places.ensures.ascends;
  rest = sort_rest c.args.places.now c.sort_places.new.places c.args.used c.requires.within c.requires.apart c.sort_places.ensures.shuffled c.sort_places.ensures.ascends;
}
