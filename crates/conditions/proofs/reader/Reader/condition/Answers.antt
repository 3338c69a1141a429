use Rattle.std.proofs.Common.{[], ◌∷◌, Err, sym, refl, ap, ◌∙◌, arith}
use Rattle.std.proofs.lemmas.Result.{err_from_is_err_and, IfOk-from_err}
use Rattle.conditions.specs.Machine.{accepted}
use Rattle.conditions.specs.Postfix.{tree}
use Rattle.conditions.specs.Promises.{looks, outcome, seen_by}
use Rattle.conditions.proofs.Moves.{ended, not_ended}
use Rattle.conditions.proofs.reader.Reader.condition.Goals as goal

pub returns-in_err-disjunction : goal.returns-in_err-disjunction
returns-in_err-disjunction c =
    let y = err_from_is_err_and c.from_residual.result c.from_residual.ensures.1 in
    record {
      value = ap (λ x. outcome x c.disjunction.new.self) (y.1 ∙ ap Err y.2) ∙ sym (c.in_err-disjunction.ensures.value [] (omega (arith, c.levels.ensures)));
      one = IfOk-from_err c.from_residual.result _ c.from_residual.ensures.0;
    }

pub returns : goal.returns
returns c = record {
  value = (λ i. accepted (tree c.disjunction.new.out) (seen_by c.disjunction.new.self) (c.advance.ensures.place i) (c.advance.ensures.words i))
      ∙ sym (c.in_ok-disjunction.ensures.value [] (omega (arith, c.levels.ensures)) ∙ ended (looks c.args.names.now) c.disjunction.new.self (tree c.disjunction.new.out) (c.if-not-joins.ensures.yes refl));
  one = c.in_ok-disjunction.ensures.grown.one ∙ ap (λ l. tree c.disjunction.new.out ∷ l) c.always-out.ensures.none;
}

pub returns-then-not-joins : goal.returns-then-not-joins
returns-then-not-joins c = record {
  value = sym (c.in_ok-disjunction.ensures.value [] (omega (arith, c.levels.ensures))
      ∙ not_ended (looks c.args.names.now) c.disjunction.new.self (tree c.disjunction.new.out) _ c.in_ok-disjunction.ensures.ends.0 c.in_ok-disjunction.ensures.ends.1 (c.if-not-joins.ensures.no refl) c.at.ensures);
  one = tt;
}
