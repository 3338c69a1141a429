use Rattle.std.proofs.Common.{◌≤◌, Err, sym, refl, ap, ◌∙◌, subst}
use Rattle.std.proofs.lemmas.Result.{err_from_is_err_and, IfOk-from_err}
use Rattle.words.specs.Cutting.{to_come, here}
use Rattle.conditions.specs.Keys.{marked}
use Rattle.conditions.specs.Trees.{reads, comparisons, Within}
use Rattle.conditions.specs.Postfix.{tree, topmost}
use Rattle.conditions.specs.Promises.{looks, seen_by, rest, condition_of, Gave}
use Rattle.conditions.proofs.Names.{looks_known}
use Rattle.conditions.proofs.Limits.{keeps_limits}
use Rattle.conditions.proofs.Noting.{notes_fields}
use Rattle.conditions.proofs.reading.read_condition.Goals as goal

pub returns-in_err-condition : goal.returns-in_err-condition
unfolding rest condition_of
returns-in_err-condition c =
    let y = err_from_is_err_and c.from_residual.result c.from_residual.ensures.1 in
    record {
      value = subst (Gave (condition_of (looks c.args.names.now) (here c.args.words.now) (to_come c.args.words.now)) c.args.words.now c.args.words.now) (sym (y.1 ∙ ap Err y.2)) (sym c.in_err-condition.ensures.value, refl);
      fields = IfOk-from_err c.from_residual.result _ c.from_residual.ensures.0;
      limits = IfOk-from_err c.from_residual.result _ c.from_residual.ensures.0;
    }

pub returns : goal.returns
unfolding rest condition_of
returns c =
    let e = sym c.in_ok-condition.ensures.value in
    let n = notes_fields (looks c.args.names.now) (looks_known c.args.names.now) (here c.args.words.now) (to_come c.args.words.now) _ _ _ _ e in
    let k = keeps_limits (looks c.args.names.now) (here c.args.words.now) (to_come c.args.words.now) _ _ _ _ e in
    record {
      value = (tree c.in_ok-condition.condition, seen_by c.condition.new.self, c.in_ok-condition.ensures.one, refl, e);
      fields = λ t one. (n.0, λ f. n.1 f ∙ ap (λ u. reads f u) (ap topmost one));
      limits = λ t one. subst (λ u. (comparisons u ≤ 16) × Within 8 u × (marked c.condition.new.self.fields ≤ 4)) (ap topmost one) (k.1, k.0, n.2);
    }
