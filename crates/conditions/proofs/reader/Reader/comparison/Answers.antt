use Rattle.std.proofs.Common.{sym, refl, ◌∙◌}
use Rattle.std.proofs.lemmas.Result.{IfOk-from_err}
use Rattle.std.proofs.lemmas.Bool.{ltb-true}
use Rattle.conditions.specs.Trees.{compare}
use Rattle.conditions.specs.Machine.{settled, compared, operand, left, right}
use Rattle.conditions.specs.Promises.{looks}
use Rattle.conditions.proofs.Moves.{counting, moves, refuses, goes_on, fails, two, stays, counted_on, many_refused, wrong_first, sign_none}
use Rattle.conditions.proofs.reader.Reader.comparison.Goals as goal

pub returns-in_err-found : goal.returns-in_err-found
returns-in_err-found c =
    let w = c.in_err-found.ensures.value in
    record {
      on = stays c.args.self.now c.args.self.now refl refl;
      counts = IfOk-from_err c.from_residual.result _ c.from_residual.ensures.0;
      value = λ p. fails _ _ _ (λ k. settled p (compare k)) _ _ c.from_residual.ensures.1 (wrong_first (looks c.args.names.now) c.args.self.now p w.0 _ w.1 w.2);
    }

pub returns-then-not-may_compare : goal.returns-then-not-may_compare
returns-then-not-may_compare c = record {
  on = stays c.args.self.now c.args.self.now refl refl;
  counts = tt;
  value = λ p. many_refused (looks c.args.names.now) c.args.self.now p _ _ c.in_ok-found.ensures.value c.if-not-may_compare.ensures c.at.ensures;
}

pub returns-in_err-left : goal.returns-in_err-left
returns-in_err-left c = record {
  on = (counting c.args.self.now _ _ c.operand.ensures.on refl refl (ltb-true _ 16 (sym c.if-not-may_compare.ensures))).0;
  counts = IfOk-from_err c.from_residual-in_err-left.result _ c.from_residual-in_err-left.ensures.0;
  value = λ p. fails _ _ _ (λ k. settled p (compare k)) _ _ c.from_residual-in_err-left.ensures.1
      (counted_on (looks c.args.names.now) c.args.self.now p _ _ c.in_ok-found.ensures.value c.if-not-may_compare.ensures refl refl
      ∙ c.in_err-left.ensures.value p left);
}

pub returns-in_default : goal.returns-in_default
returns-in_default c = record {
  on = (counting c.args.self.now _ _ c.operand.ensures.on refl refl (ltb-true _ 16 (sym c.if-not-may_compare.ensures))).0;
  counts = tt;
  value = λ p.
      counted_on (looks c.args.names.now) c.args.self.now p _ _ c.in_ok-found.ensures.value c.if-not-may_compare.ensures refl refl
      ∙ c.in_ok-left.ensures.value p left
      ∙ refuses (looks c.args.names.now) c.operand.new.self _ _ _ _ c.peek.ensures.seen (sign_none (looks c.args.names.now) _ p _ _ c.in_default.not-Sign) c.at-in_default.ensures;
}

pub returns-in_err-right : goal.returns-in_err-right
returns-in_err-right c = record {
  on = (counting c.args.self.now _ _ (two _ _ _ c.operand.ensures.on (two _ _ _ c.advance.ensures.on c.operand-2.ensures.on)) refl refl (ltb-true _ 16 (sym c.if-not-may_compare.ensures))).0;
  counts = IfOk-from_err c.from_residual-in_err-right.result _ c.from_residual-in_err-right.ensures.0;
  value = λ p. fails _ _ _ (λ k. settled p (compare k)) _ _ c.from_residual-in_err-right.ensures.1
      (counted_on (looks c.args.names.now) c.args.self.now p _ _ c.in_ok-found.ensures.value c.if-not-may_compare.ensures refl refl
      ∙ c.in_ok-left.ensures.value p left
      ∙ goes_on (looks c.args.names.now) c.operand.new.self c.advance.new.self (compared p c.in_ok-left.left) (operand p c.in_ok-left.left c.in-Sign.sign) _ c.in-Sign.ensures.seen refl c.advance.ensures.goes
      ∙ moves _ c.advance.new.self _
      ∙ c.in_err-right.ensures.value p (right c.in_ok-left.left c.in-Sign.sign));
}

pub returns : goal.returns
returns c =
    let both = counting c.args.self.now _ _ (two _ _ _ c.operand.ensures.on (two _ _ _ c.advance.ensures.on c.operand-2.ensures.on)) refl refl (ltb-true _ 16 (sym c.if-not-may_compare.ensures)) in
    record {
      on = both.0;
      counts = both.1;
      value = λ p.
          counted_on (looks c.args.names.now) c.args.self.now p _ _ c.in_ok-found.ensures.value c.if-not-may_compare.ensures refl refl
          ∙ c.in_ok-left.ensures.value p left
          ∙ goes_on (looks c.args.names.now) c.operand.new.self c.advance.new.self (compared p c.in_ok-left.left) (operand p c.in_ok-left.left c.in-Sign.sign) _ c.in-Sign.ensures.seen refl c.advance.ensures.goes
          ∙ moves _ c.advance.new.self _
          ∙ c.in_ok-right.ensures.value p (right c.in_ok-left.left c.in-Sign.sign);
    }
