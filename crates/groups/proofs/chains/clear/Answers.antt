-- One place more is emptied; in the end all are.
use Rattle.std.proofs.Common.{◌<◌, length, get_or, set, ap, ◌∙◌, arith}
use Rattle.std.proofs.lemmas.List.Edits.{map_over_more}
use Rattle.std.proofs.lemmas.List.{get_or_default}
use Rattle.groups.specs.Chains.{emptied}
use Rattle.groups.proofs.Walks.{clear_cells, clear_chained}
use Rattle.groups.proofs.chains.clear.Goals as goal

pub loop-place-preserved : goal.loop-place-preserved
loop-place-preserved g c =
    let lt : c.loop-place.place-index < length c.loop-place.places = omega arith in
    ap (set c.loop-place.places c.loop-place.place-index) c.with_head.ensures
    ∙ map_over_more emptied c.args.places.now c.loop-place.places c.loop-place.place-index (get_or c.loop-place.places c.loop-place.place-index c.place-item.result) (omega arith) c.loop-place.invariant (get_or_default _ _ _ _ lt)

pub returns : goal.returns
returns g c = record {
  cells = clear_cells c.args.places.now c.loop-place.places c.loop-place.place-index (omega arith) c.loop-place.invariant;
  chained = clear_chained c.args.places.now c.loop-place.places c.loop-place.place-index (omega arith) c.loop-place.invariant;
}
