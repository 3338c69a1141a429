-- What was gathered answers; it fits 32 bits, since the rows are not too many.
use Rattle.std.proofs.Common.{length, Ok, sym, ap, ◌∙◌, arith, ltb-false}
use Rattle.std.proofs.lemmas.Bool.{cond-true, cond-false}
use Rattle.scan.specs.Scans.{rows_of}
use Rattle.scan.proofs.scan.Asked.answer.Goals as goal

pub overflow_cast-met : goal.overflow_cast-met
overflow_cast-met g c = let few = ltb-false 1000000 (length (rows_of c.args.rows.now)) (sym c.if-are_too_many.ensures) in let got = c.in-Some.ensures in omega (arith, few, got.2)

pub returns-then-are_too_many : goal.returns-then-are_too_many
returns-then-are_too_many g c = sym (cond-true _ _ _ c.in-Some.ensures.0 ∙ cond-true _ _ _ (sym c.if-are_too_many.ensures))

pub returns : goal.returns
returns g c =
    let m = g.M.Measure.meaning c.args.self.now.column.now.measure in
    let got = c.in-Some.ensures in
    ap (λ a. Ok (record { answer = a; rows = c.in-Some.all.rows })) c.answer.ensures
    ∙ ap (λ q. Ok (record { answer = m.answer q.value q.rows; rows = q.rows })) got.1
    ∙ sym (cond-true _ _ _ got.0 ∙ cond-false _ _ _ (sym c.if-are_too_many.ensures))
