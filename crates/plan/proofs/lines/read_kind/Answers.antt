use Rattle.std.proofs.Common.{refl, ◌∙◌}
use Rattle.plan.specs.Lines.{kind_of}
use Rattle.plan.specs.Machine.{measure, named}
use Rattle.plan.proofs.Motions.{moves_by, advanced, halted}
use Rattle.plan.proofs.lines.read_kind.Goals as goal

pub returns-in_default-clause-value : goal.returns-in_default-clause-value
returns-in_default-clause-value c = λ d n. moves_by kind_of (measure d n) _ (named d n) _ _ (λ at. refl) refl (λ y. refl) c.in_default.ensures c.peek.ensures.seen ∙ halted _ _ _ c.at.ensures

pub returns-clause-value : goal.returns-clause-value
returns-clause-value c = λ d n. moves_by kind_of (measure d n) _ (named d n) _ _ (λ at. refl) refl (λ y. refl) c.in-Some.ensures c.peek.ensures.seen ∙ advanced _ _ _ c.advance.ensures.words c.advance.ensures.place
