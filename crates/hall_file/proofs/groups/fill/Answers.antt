-- The places so far have their values; the bytes left give the others.
use Rattle.std.proofs.Common.{◌+◌, length, set, sym, subst, arith, w32, SFits, rules}
use Rattle.std.proofs.lemmas.Int.{to_z-of_z}
use Rattle.hall_file.proofs.Steps.{Filled, filled_more}
use Rattle.hall_file.proofs.groups.fill.Goals as goal

pub loop-place-preserved : goal.loop-place-preserved
loop-place-preserved c =
    let z = c.in_ok-value.value in
    let f : SFits w32 z = search rules in
    let many = c.loop-place.invariant.many in
    subst (λ x. Filled (length c.args.places.now) c.args.bytes.now (c.loop-place.place-index + 1) (set c.loop-place.places c.loop-place.place-index x) c.in_ok-value.more.now) (sym (to_z-of_z w32 z f))
    (filled_more (length c.args.places.now) c.args.bytes.now c.loop-place.place-index c.loop-place.places c.loop-place.rest.now z c.in_ok-value.more.now (omega arith) c.loop-place.invariant c.in_ok-value.ensures)
