use Rattle.std.proofs.Common.{◌≡◌, false, Err, sym, refl, ap, ◌∙◌}
use Rattle.words.specs.Tables.{place}
use Rattle.plan.specs.Lines.{telling, declared}
use Rattle.plan.specs.declared.words_of_plan.NoName.{NoName}
use Rattle.plan.specs.declared.words_of_plan.NoName.TheVariants.{Held, OtherForm}
use Rattle.plan.specs.Drafts.{Draft}
use Rattle.plan.specs.Machine.{halt, measured_word, measured_at, measured}
use Rattle.plan.specs.Promises.{onto}
use Rattle.conditions.specs.Machine.{form}
use Rattle.any_measure.specs.declared.any.AnyMeasure.{AnyMeasure}
use Rattle.std.proofs.Common.{ℕ, List}
use Rattle.plan.proofs.Motions.{moves_by, advanced, halted}
use Rattle.plan.proofs.lines.read_field.Goals as goal

-- a word that is no name measures no field
no_field : (d : Draft) (n : List ℕ) (k : AnyMeasure) (e : NoName) → measured_word d n k (telling (Err e)) ≡ halt form
no_field d n k Held = refl
no_field d n k OtherForm = refl

pub returns-in_default-clause-value : goal.returns-in_default-clause-value
returns-in_default-clause-value c = λ d n k e.
    moves_by (declared false) (measured_word d n k) _ (measured d n k) _ _ (λ at. refl) refl (λ y. refl) c.in_default.ensures c.peek.ensures.seen
    ∙ ap (onto c.args.words.now) (no_field d n k c.in_default.field-0) ∙ halted _ _ _ c.at.ensures

pub returns-in_default-find-clause-value : goal.returns-in_default-find-clause-value
returns-in_default-find-clause-value c = λ d n k e.
    moves_by (declared false) (measured_word d n k) _ (measured d n k) _ _ (λ at. refl) refl (λ y. refl) c.in-Ok.ensures c.peek.ensures.seen
    ∙ ap (λ o. onto c.args.words.now (measured_at d n k o)) (ap (λ rs. place rs c.in-Ok.name.now 0) e ∙ sym c.in_default-find.ensures.value)
    ∙ halted _ _ _ c.at-in_default-find.ensures

pub returns-clause-value : goal.returns-clause-value
returns-clause-value c = λ d n k e.
    moves_by (declared false) (measured_word d n k) _ (measured d n k) _ _ (λ at. refl) refl (λ y. refl) c.in-Ok.ensures c.peek.ensures.seen
    ∙ ap (λ o. onto c.args.words.now (measured_at d n k o)) (ap (λ rs. place rs c.in-Ok.name.now 0) e ∙ sym c.in-Some.ensures.value)
    ∙ advanced _ _ _ c.advance.ensures.words c.advance.ensures.place
