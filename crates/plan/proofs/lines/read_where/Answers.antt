use Rattle.std.proofs.Common.{Some, length, sym, refl, ap, ◌∙◌, arith}
use Rattle.words.specs.Cutting.{to_come}
use Rattle.conditions.specs.Postfix.{asked, trees}
use Rattle.plan.specs.Lines.{following}
use Rattle.plan.specs.Drafts.{with_column, no_fields}
use Rattle.plan.specs.Machine.{after_head, headed, line}
use Rattle.plan.specs.Promises.{rest}
use Rattle.plan.proofs.Motions.{moves_by, advanced, halted, leads_from}
use Rattle.conditions.proofs.Moves.{later_shorter}
use Rattle.plan.proofs.Asking.{where_leads, where_shorter}
use Rattle.std.proofs.lemmas.Result.{IfOk-weaker}
use Rattle.plan.proofs.lines.read_where.Goals as goal

pub returns-in_default-clause-value : goal.returns-in_default-clause-value
returns-in_default-clause-value c = λ d h e b. moves_by following (after_head d h) _ (headed d h) _ _ (λ at. refl) refl (λ y. refl) c.in_default.ensures c.peek.ensures.seen ∙ halted _ _ _ c.at.ensures

pub returns-in-End-clause-value : goal.returns-in-End-clause-value
returns-in-End-clause-value c = λ d h e b.
    moves_by following (after_head d h) _ (headed d h) _ _ (λ at. refl) refl (λ y. refl) (sym (ap Some c.in-End.is) ∙ c.in-Some.ensures) c.peek.ensures.seen
    ∙ advanced _ _ _ c.advance.ensures.words c.advance.ensures.place
    ∙ ap (λ ts. rest c.advance.new.self (line (with_column d h (asked ts) no_fields))) (sym c.always.ensures.none)

pub returns-in-Where-clause-on : goal.returns-in-Where-clause-on
returns-in-Where-clause-on c = IfOk-weaker c.read_condition.result _ _ (λ r h. omega (arith, h, ap length c.advance.ensures.words, later_shorter (to_come c.args.words.now))) (where_shorter c.advance.new.self c.read_condition.new.words c.args.names.now c.read_condition.result c.read_condition.ensures.value)

pub returns-in-Where-clause-value : goal.returns-in-Where-clause-value
returns-in-Where-clause-value c = λ d h e b.
    leads_from _ _ _ (λ r. line (with_column d h (asked (trees r.condition)) r.fields)) c.read_condition.result
    (moves_by following (after_head d h) _ (headed d h) _ _ (λ at. refl) refl (λ y. refl) (sym (ap Some c.in-Where.is) ∙ c.in-Some.ensures) c.peek.ensures.seen
    ∙ advanced _ _ _ c.advance.ensures.words c.advance.ensures.place)
    (where_leads c.advance.new.self c.read_condition.new.words c.args.names.now c.read_condition.result d h e b c.read_condition.ensures.value)
