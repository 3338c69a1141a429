-- The group was found and has grown, or was not and begins.
use Rattle.std.proofs.Common.{length, sym, ◌∙◌, arith}
use Rattle.std.proofs.lemmas.Bool.{eqb-false}
use Rattle.groups.proofs.Puts.{grown_done, begun_done}
use Rattle.groups.proofs.chains.put.Goals as goal

pub returns-in-Some : goal.returns-in-Some
returns-in-Some g c =
    grown_done (g.M.Measure.meaning c.args.measure.now).join c.args.new c.args.places.now c.grow.new.places c.args.used c.requires.chained.within c.requires.apart c.in-Some.i c.in-Some.ensures c.grow.ensures.cells (c.grow.ensures.chained c.args.used c.requires.chained)

pub returns-in-None-2 : goal.returns-in-None-2
returns-in-None-2 g c =
    let left = eqb-false c.args.used (length c.args.places.now) (sym c.is_full.ensures ∙ c.if-is_full.false) in
    begun_done (g.M.Measure.meaning c.args.measure.now).join c.args.new c.args.places.now c.append.new.places c.args.used c.requires.chained.within c.requires.apart c.in-None-2.ensures (omega (arith, c.requires.chained.within, left)) c.append.ensures.cells c.append.ensures.chained
