use Rattle.std.proofs.Common.{◌≡◌, ◌+◌, ◌-◌, ◌<◌, [], ◌∷◌, Some, None, sym, refl, ap, ◌∙◌, arith}
use Rattle.std.proofs.lemmas.Result.{IfOk-from_err}
use Rattle.conditions.specs.Trees.{denial, bracketed, both, either}
use Rattle.conditions.specs.Machine.{along, after, settled, deep, denied, inside}
use Rattle.conditions.specs.Postfix.{tree, below}
use Rattle.conditions.specs.Promises.{rest, looks, opened}
use Rattle.conditions.proofs.Moves.{fails, two, stays, deepens, too_deep, plainly, joins_and, joins_or, closes, shuts, not_closed}
use Rattle.conditions.specs.declared.reader.Opening.TheVariants.{Denial, Bracket}
use Rattle.conditions.specs.declared.condition.Step.TheVariants as step
use Rattle.conditions.proofs.Growth.{leaf_grown, around_grown, joint_grown, same_grown}
use Rattle.conditions.proofs.reader.Reader.+conjunction_disjunction_term.Goals as goal

pub conjunction-returns-in_err-term : goal.conjunction-returns-in_err-term
conjunction-returns-in_err-term t c = record {
  on = c.term.ensures.on;
  grown = IfOk-from_err c.from_residual.result _ c.from_residual.ensures.0;
  ends = IfOk-from_err c.from_residual.result _ c.from_residual.ensures.0;
  value = λ o ls d. fails _ _ _ (λ _. after o (tree c.term.new.out) ls) _ _ c.from_residual.ensures.1 (c.in_err-term.ensures.value (opened o ls) d);
}

pub conjunction-returns-in_err-term-2 : goal.conjunction-returns-in_err-term-2
conjunction-returns-in_err-term-2 t c = record {
  on = two _ _ _ (two _ _ _ (two _ _ _ c.term.ensures.on c.loop-self.invariant.0) c.advance.ensures.on) c.term-in-loop-self.ensures.on;
  grown = IfOk-from_err c.from_residual-in_err-term-2.result _ c.from_residual-in_err-term-2.ensures.0;
  ends = IfOk-from_err c.from_residual-in_err-term-2.result _ c.from_residual-in_err-term-2.ensures.0;
  value = λ o ls d. fails _ _ _ (λ _. after o (tree c.term-in-loop-self.new.out) ls) _ _ c.from_residual-in_err-term-2.ensures.1
      (c.in_ok-term.ensures.value (opened o ls) d ∙ c.loop-self.invariant.1 o ls d ∙ joins_and (looks c.args.names.now) c.loop-self.self o (tree c.loop-self.out) ls c.advance.new.self (c.loop-self-test.ensures.yes refl) c.advance.ensures.goes
      ∙ c.in_err-term-2.ensures.value (record { here = record { before = along (tree c.loop-self.out) ∷ []; ors = o }; outer = ls }) d);
}

pub conjunction-loop-self-preserved : goal.conjunction-loop-self-preserved
conjunction-loop-self-preserved t c =
    let g = joint_grown c.term-in-loop-self.new.out c.push.new.self c.push.ensures.used step.And both (λ t u us. refl) c.loop-self.out _ c.loop-self.self c.term-in-loop-self.new.self c.args.depth c.loop-self.invariant.2 c.in_ok-term-2.ensures.grown c.push.ensures.trees in (
      two _ _ _ c.loop-self.invariant.0 (two _ _ _ c.advance.ensures.on c.term-in-loop-self.ensures.on),
      λ o ls d.
          c.loop-self.invariant.1 o ls d
          ∙ joins_and (looks c.args.names.now) c.loop-self.self o (tree c.loop-self.out) ls c.advance.new.self (c.loop-self-test.ensures.yes refl) c.advance.ensures.goes
          ∙ c.in_ok-term-2.ensures.value (record { here = record { before = along (tree c.loop-self.out) ∷ []; ors = o }; outer = ls }) d
          ∙ ap (λ u. rest (looks c.args.names.now) c.term-in-loop-self.new.self (after o u ls)) (sym g.1),
      g.0,
    )

pub conjunction-returns : goal.conjunction-returns
conjunction-returns t c = record {
  on = two _ _ _ c.term.ensures.on c.loop-self.invariant.0;
  value = λ o ls d. c.in_ok-term.ensures.value (opened o ls) d ∙ c.loop-self.invariant.1 o ls d;
  grown = same_grown _ _ c.loop-self.out c.loop-self.self c.args.depth (ap below c.in_ok-term.ensures.grown.one) c.loop-self.invariant.2;
  ends = c.loop-self-test.ensures.no refl;
}

pub disjunction-returns-in_err-conjunction-2 : goal.disjunction-returns-in_err-conjunction-2
disjunction-returns-in_err-conjunction-2 t c = record {
  on = two _ _ _ (two _ _ _ (two _ _ _ c.conjunction.ensures.on c.loop-self.invariant.0) c.advance.ensures.on) c.conjunction-in-loop-self.ensures.on;
  grown = IfOk-from_err c.from_residual-in_err-conjunction-2.result _ c.from_residual-in_err-conjunction-2.ensures.0;
  ends = IfOk-from_err c.from_residual-in_err-conjunction-2.result _ c.from_residual-in_err-conjunction-2.ensures.0;
  value = λ ls d. fails _ _ _ (λ _. after None (tree c.conjunction-in-loop-self.new.out) ls) _ _ c.from_residual-in_err-conjunction-2.ensures.1
      (c.in_ok-conjunction.ensures.value None ls d ∙ c.loop-self.invariant.1 ls d ∙ joins_or (looks c.args.names.now) c.loop-self.self None (tree c.loop-self.out) ls c.advance.new.self (c.loop-self-test.ensures.yes refl) c.advance.ensures.goes
      ∙ c.in_err-conjunction-2.ensures.value (Some (tree c.loop-self.out)) ls d);
}

pub disjunction-loop-self-preserved : goal.disjunction-loop-self-preserved
disjunction-loop-self-preserved t c =
    let g = joint_grown c.conjunction-in-loop-self.new.out c.push.new.self c.push.ensures.used step.Or either (λ t u us. refl) c.loop-self.out _ c.loop-self.self c.conjunction-in-loop-self.new.self c.args.depth c.loop-self.invariant.3 c.in_ok-conjunction-2.ensures.grown c.push.ensures.trees in (
      two _ _ _ c.loop-self.invariant.0 (two _ _ _ c.advance.ensures.on c.conjunction-in-loop-self.ensures.on),
      λ ls d.
          c.loop-self.invariant.1 ls d
          ∙ joins_or (looks c.args.names.now) c.loop-self.self None (tree c.loop-self.out) ls c.advance.new.self (c.loop-self-test.ensures.yes refl) c.advance.ensures.goes
          ∙ c.in_ok-conjunction-2.ensures.value (Some (tree c.loop-self.out)) ls d
          ∙ shuts (looks c.args.names.now) c.conjunction-in-loop-self.new.self (Some (tree c.loop-self.out)) (tree c.conjunction-in-loop-self.new.out) ls c.in_ok-conjunction-2.ensures.ends
          ∙ ap (λ u. rest (looks c.args.names.now) c.conjunction-in-loop-self.new.self (after None u ls)) (sym g.1),
      c.in_ok-conjunction-2.ensures.ends,
      g.0,
    )

pub disjunction-returns : goal.disjunction-returns
disjunction-returns t c = record {
  on = two _ _ _ c.conjunction.ensures.on c.loop-self.invariant.0;
  value = λ ls d. c.in_ok-conjunction.ensures.value None ls d ∙ c.loop-self.invariant.1 ls d;
  grown = same_grown _ _ c.loop-self.out c.loop-self.self c.args.depth (ap below c.in_ok-conjunction.ensures.grown.one) c.loop-self.invariant.3;
  ends = (c.loop-self.invariant.2, c.loop-self-test.ensures.no refl);
}

pub term-returns-then-depth-eq0 : goal.term-returns-then-depth-eq0
term-returns-then-depth-eq0 t c = record {
  on = stays c.args.self.now c.args.self.now refl refl;
  grown = tt;
  value = λ p d. too_deep (looks c.args.names.now) c.args.self.now p Denial (denied p) refl _ c.in-Denial.ensures (omega (arith, d, c.if-depth-eq0.true)) c.at.ensures;
}

pub term-returns-in_err-term-in-Denial : goal.term-returns-in_err-term-in-Denial
term-returns-in_err-term-in-Denial t c = record {
  on = two _ _ _ c.advance.ensures.on c.term.ensures.on;
  grown = IfOk-from_err c.from_residual.result _ c.from_residual.ensures.0;
  value = λ p d.
      let low : deep p < 8 = omega (arith, d, c.if-depth-eq0.false) in
      let more : deep (denied p) + (c.args.depth - 1) ≡ 8 = omega (arith, d, c.if-depth-eq0.false) in
      fails _ _ _ (λ _. settled p (tree c.term.new.out)) _ _ c.from_residual.ensures.1
      (deepens (looks c.args.names.now) c.args.self.now p Denial (denied p) refl c.advance.new.self c.in-Denial.ensures low c.advance.ensures.goes
      ∙ c.in_err-term-in-Denial.ensures.value (denied p) more);
}

pub term-returns-in_ok-term-in-Denial : goal.term-returns-in_ok-term-in-Denial
term-returns-in_ok-term-in-Denial t c =
    let g = around_grown c.term.new.out c.push.new.self c.push.ensures.used step.Not denial (λ t us. refl) _ c.term.new.self c.term.new.self c.args.depth (omega (arith, c.if-depth-eq0.false)) c.in_ok-term-in-Denial.ensures.grown (stays c.term.new.self c.term.new.self refl refl) c.push.ensures.trees in
    record {
      on = two _ _ _ c.advance.ensures.on c.term.ensures.on;
      grown = g.0;
      value = λ p d.
          let low : deep p < 8 = omega (arith, d, c.if-depth-eq0.false) in
          let more : deep (denied p) + (c.args.depth - 1) ≡ 8 = omega (arith, d, c.if-depth-eq0.false) in
          deepens (looks c.args.names.now) c.args.self.now p Denial (denied p) refl c.advance.new.self c.in-Denial.ensures low c.advance.ensures.goes
          ∙ c.in_ok-term-in-Denial.ensures.value (denied p) more
          ∙ ap (λ u. rest (looks c.args.names.now) c.term.new.self (settled p u)) (sym g.1);
    }

pub term-returns-then-depth-eq0-2 : goal.term-returns-then-depth-eq0-2
term-returns-then-depth-eq0-2 t c = record {
  on = stays c.args.self.now c.args.self.now refl refl;
  grown = tt;
  value = λ p d. too_deep (looks c.args.names.now) c.args.self.now p Bracket (inside p) refl _ c.in-Bracket.ensures (omega (arith, d, c.if-depth-eq0-2.true)) c.at-then-depth-eq0-2.ensures;
}

pub term-returns-in_err-disjunction-in-Bracket : goal.term-returns-in_err-disjunction-in-Bracket
term-returns-in_err-disjunction-in-Bracket t c = record {
  on = two _ _ _ c.advance-in-Bracket.ensures.on c.disjunction.ensures.on;
  grown = IfOk-from_err c.from_residual-in_err-disjunction-in-Bracket.result _ c.from_residual-in_err-disjunction-in-Bracket.ensures.0;
  value = λ p d.
      let low : deep p < 8 = omega (arith, d, c.if-depth-eq0-2.false) in
      let more : deep (inside p) + (c.args.depth - 1) ≡ 8 = omega (arith, d, c.if-depth-eq0-2.false) in
      fails _ _ _ (λ _. settled p (tree c.disjunction.new.out)) _ _ c.from_residual-in_err-disjunction-in-Bracket.ensures.1
      (deepens (looks c.args.names.now) c.args.self.now p Bracket (inside p) refl c.advance-in-Bracket.new.self c.in-Bracket.ensures low c.advance-in-Bracket.ensures.goes
      ∙ c.in_err-disjunction-in-Bracket.ensures.value (p.here ∷ p.outer) more);
}

pub term-returns-else-not-joins : goal.term-returns-else-not-joins
term-returns-else-not-joins t c =
    let g = around_grown c.disjunction.new.out c.push-in-Bracket.new.self c.push-in-Bracket.ensures.used step.Bracket bracketed (λ t us. refl) _ c.disjunction.new.self c.advance-in-Bracket-2.new.self c.args.depth (omega (arith, c.if-depth-eq0-2.false)) c.in_ok-disjunction-in-Bracket.ensures.grown c.advance-in-Bracket-2.ensures.on c.push-in-Bracket.ensures.trees in
    record {
      on = two _ _ _ (two _ _ _ c.advance-in-Bracket.ensures.on c.disjunction.ensures.on) c.advance-in-Bracket-2.ensures.on;
      grown = g.0;
      value = λ p d.
          let low : deep p < 8 = omega (arith, d, c.if-depth-eq0-2.false) in
          let more : deep (inside p) + (c.args.depth - 1) ≡ 8 = omega (arith, d, c.if-depth-eq0-2.false) in
          deepens (looks c.args.names.now) c.args.self.now p Bracket (inside p) refl c.advance-in-Bracket.new.self c.in-Bracket.ensures low c.advance-in-Bracket.ensures.goes
          ∙ c.in_ok-disjunction-in-Bracket.ensures.value (p.here ∷ p.outer) more
          ∙ closes (looks c.args.names.now) c.disjunction.new.self None (tree c.disjunction.new.out) p.outer c.advance-in-Bracket-2.new.self p.here (c.if-not-joins.ensures.yes refl) c.advance-in-Bracket-2.ensures.goes
          ∙ ap (λ u. rest (looks c.args.names.now) c.advance-in-Bracket-2.new.self (settled p u)) (sym g.1);
    }

pub term-returns-then-not-joins : goal.term-returns-then-not-joins
term-returns-then-not-joins t c = record {
  on = two _ _ _ c.advance-in-Bracket.ensures.on c.disjunction.ensures.on;
  grown = tt;
  value = λ p d.
      let low : deep p < 8 = omega (arith, d, c.if-depth-eq0-2.false) in
      let more : deep (inside p) + (c.args.depth - 1) ≡ 8 = omega (arith, d, c.if-depth-eq0-2.false) in
      deepens (looks c.args.names.now) c.args.self.now p Bracket (inside p) refl c.advance-in-Bracket.new.self c.in-Bracket.ensures low c.advance-in-Bracket.ensures.goes
      ∙ c.in_ok-disjunction-in-Bracket.ensures.value (p.here ∷ p.outer) more
      ∙ not_closed (looks c.args.names.now) c.disjunction.new.self None (tree c.disjunction.new.out) p.outer p.here _ c.in_ok-disjunction-in-Bracket.ensures.ends.0 c.in_ok-disjunction-in-Bracket.ensures.ends.1 (c.if-not-joins.ensures.no refl) c.at-then-not-joins.ensures;
}

pub term-returns-in_err-found-in-Plain : goal.term-returns-in_err-found-in-Plain
term-returns-in_err-found-in-Plain t c = record {
  on = c.comparison.ensures.on;
  grown = IfOk-from_err c.from_residual-in_err-found-in-Plain.result _ c.from_residual-in_err-found-in-Plain.ensures.0;
  value = λ p d. fails _ _ _ (λ _. settled p (tree c.args.out.now)) _ _ c.from_residual-in_err-found-in-Plain.ensures.1
      (plainly (looks c.args.names.now) c.args.self.now p c.in-Plain.ensures ∙ c.in_err-found-in-Plain.ensures.value p);
}

pub term-returns-in_ok-found-in-Plain : goal.term-returns-in_ok-found-in-Plain
term-returns-in_ok-found-in-Plain t c =
    let g = leaf_grown c.args.out.now c.push-in-Plain.new.self c.push-in-Plain.ensures.used c.args.self.now c.comparison.new.self c.args.depth c.in_ok-found-in-Plain.found c.requires c.in_ok-found-in-Plain.ensures.counts.0 c.in_ok-found-in-Plain.ensures.counts.1 c.push-in-Plain.ensures.trees in
    record {
      on = c.comparison.ensures.on;
      grown = g.0;
      value = λ p d.
          plainly (looks c.args.names.now) c.args.self.now p c.in-Plain.ensures
          ∙ c.in_ok-found-in-Plain.ensures.value p
          ∙ ap (λ u. rest (looks c.args.names.now) c.comparison.new.self (settled p u)) (sym g.1);
    }
