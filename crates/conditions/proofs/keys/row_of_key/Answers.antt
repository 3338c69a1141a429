use Rattle.std.proofs.Common.{◌≡◌, ◌+◌, ◌++◌, length, get_or, take, drop, set, pos, refl, ap, ◌∙◌, arith, w32, to_z, of_z}
use Rattle.std.proofs.lemmas.Int.{ints}
use Rattle.std.proofs.lemmas.List.{length-set}
use Rattle.conditions.specs.Keys.{spread}
use Rattle.conditions.proofs.Spreading.{filled, skipped, spread_all, all_same, zeros_past}
use Rattle.conditions.proofs.keys.row_of_key.Goals as goal
use Rattle.conditions.proofs.keys.row_of_key.Goals.{then-held, else-held}

pub loop-i-init : goal.loop-i-init
loop-i-init c = (refl, refl, λ k h. all_same 8 k _)

pub loop-i-preserved : goal.loop-i-preserved
loop-i-preserved c = elim c.if-held.branch [
  | then-held w ↦
      let back : to_z w32 (of_z w32 w.next_of.result.0) ≡ w.next_of.result.0 = omega (arith, ints) in
      let row : c.if-held.row ≡ set c.loop-i.row c.loop-i.i w.next_of.result.0 = w.row-is ∙ ap (set c.loop-i.row c.loop-i.i) back in (
        ap length row ∙ length-set c.loop-i.row c.loop-i.i w.next_of.result.0 ∙ c.loop-i.invariant.0,
        ap (λ l. take (c.loop-i.i + 1) l ++ spread (drop (c.loop-i.i + 1) c.args.fields.now) c.if-held.rest.now) row
            ∙ filled c.loop-i.row c.args.fields.now c.loop-i.rest.now c.loop-i.i _ (omega (arith, c.loop-i.invariant.0, c.loop-i-test.true)) (omega (arith, c.told-fields, c.loop-i-test.true)) c.loop-i.invariant.1 w.next_of.result.0 _ w.if-held.true w.next_of.ensures.value (ap (λ r. r.now) w.rest-is ∙ w.next_of.ensures.rest),
        λ k h. ap (λ l. get_or l k (pos 0)) row ∙ zeros_past c.loop-i.row c.loop-i.i w.next_of.result.0 c.loop-i.invariant.2 k h,
      )
  | else-held w ↦ (
    ap length w.row-is ∙ c.loop-i.invariant.0,
    (λ k. take (c.loop-i.i + 1) (w.row-is k) ++ spread (drop (c.loop-i.i + 1) c.args.fields.now) (w.rest-is k).now)
        ∙ skipped c.loop-i.row c.args.fields.now c.loop-i.rest.now c.loop-i.i _ (omega (arith, c.loop-i.invariant.0, c.loop-i-test.true)) (omega (arith, c.told-fields, c.loop-i-test.true)) c.loop-i.invariant.1 w.if-held.false (c.loop-i.invariant.2 c.loop-i.i (omega arith)),
    λ k h. ap (λ l. get_or l k (pos 0)) w.row-is ∙ c.loop-i.invariant.2 k (omega (arith, h)),
  )
]

pub returns : goal.returns
returns c = spread_all c.loop-i.row c.args.fields.now c.loop-i.rest.now c.loop-i.i _ (omega (arith, c.loop-i.invariant.0, c.loop-i-test.false)) (omega (arith, c.told-fields, c.loop-i-test.false)) c.loop-i.invariant.1
