use Rattle.std.proofs.Common.{◌≡◌, ◌<◌, min, [], length, take, sym, ap, ◌∙◌, arith, rules}
use Rattle.std.proofs.lemmas.List.{get_or-take}
use Rattle.conditions.specs.Postfix.{works, grow, trees}
use Rattle.conditions.specs.Meaning.{judge, stacked, verdict}
use Rattle.conditions.proofs.Stacks.{truths, further, agrees, last_truth, popped}
use Rattle.conditions.proofs.condition.Condition.holds.Goals as goal

pub loop-step-preserved : goal.loop-step-preserved
loop-step-preserved c =
    let h : c.loop-step.step-index < length c.args.self.now.steps = search rules in
    let m : c.loop-step.step-index < c.min.result = search rules in (
      omega arith,
      c.judge.ensures.stacked ∙ ap (λ s. judge c.args.row.now c.args.base.now s (stacked c.loop-step.truths)) (get_or-take c.min.result c.args.self.now.steps c.loop-step.step-index _ m) ∙ ap (judge c.args.row.now c.args.base.now _) c.loop-step.invariant.1
          ∙ sym (agrees c.args.row.now c.args.base.now _ (works grow (take c.loop-step.step-index c.args.self.now.steps) []))
          ∙ ap (truths c.args.row.now c.args.base.now) (sym (further c.args.self.now.steps c.loop-step.step-index _ h)),
    )

pub returns : goal.returns
unfolding trees
returns c =
    let e : c.loop-step.step-index ≡ min c.args.self.now.used 159 = search rules in
    popped c.loop-step.truths.items c.pop.new.self.items c.pop.result _ c.pop.ensures.items c.pop.ensures.variant c.unwrap_or.ensures ∙ ap verdict c.loop-step.invariant.1
    ∙ ap (λ n. verdict (truths c.args.row.now c.args.base.now (works grow (take n c.args.self.now.steps) []))) e
    ∙ last_truth c.args.row.now c.args.base.now (works grow (take (min c.args.self.now.used 159) c.args.self.now.steps) [])
