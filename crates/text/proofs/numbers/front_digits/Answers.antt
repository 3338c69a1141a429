use Rattle.std.proofs.Common.{◌≡◌, suc, ◌-◌, ◌*◌, ◌+◌, drop, sym, ap, ◌∙◌, arith}
use Rattle.std.specs.Char.{is_ascii_digit}
use Rattle.text.specs.Numbers.{digits_front}
use Rattle.text.proofs.Fronts.{among_first, passed_more, passed_all, front_stop, few_small}
use Rattle.text.proofs.numbers.front_digits.Goals as goal

pub with_digit-value-requires-clause-small : goal.with_digit-value-requires-clause-small
with_digit-value-requires-clause-small c =
    let f = among_first c.args.text.now _ _ (omega (arith, c.min.ensures)) (omega (arith, c.min.ensures)) c.loop-count-test.true in
    few_small _ _ f.0 c.loop-count.invariant.small

pub loop-count-preserved : goal.loop-count-preserved
loop-count-preserved c =
    let f = among_first c.args.text.now _ _ (omega (arith, c.min.ensures)) (omega (arith, c.min.ensures)) c.loop-count-test.true in
    let digit = ap is_ascii_digit (sym f.2) ∙ sym c.is_digit.ensures ∙ c.if-not-is_digit.false in
    passed_more c.args.text.now c.loop-count.count c.loop-count.value _ c.loop-count.invariant f.0 f.1 digit (c.with_digit-value.ensures ∙ ap (λ b. c.loop-count.value * 10 + (b - 48)) f.2)

pub returns-then-not-is_digit : goal.returns-then-not-is_digit
returns-then-not-is_digit c =
    let t = c.args.text.now in
    let f = among_first t _ _ (omega (arith, c.min.ensures)) (omega (arith, c.min.ensures)) c.loop-count-test.true in
    let other = ap is_ascii_digit (sym f.2) ∙ sym c.is_digit.ensures ∙ c.if-not-is_digit.true in
    let left : 9 - c.loop-count.count ≡ suc (8 - c.loop-count.count) = omega (arith, f.0) in
    let a = passed_all t _ _ c.loop-count.invariant (ap (λ k. digits_front k (drop c.loop-count.count t)) left ∙ front_stop t c.loop-count.count (8 - c.loop-count.count) f.1 other) in
    record { count = a.0; value = a.1; small = a.2; within = c.loop-count.invariant.within }
