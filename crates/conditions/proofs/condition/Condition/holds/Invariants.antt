use Rattle.std.proofs.Common.{◌≡◌, ◌≤◌, [], take}
use Rattle.arrayvec.specs.ArrayVec.{array_vec_len}
use Rattle.conditions.specs.Postfix.{works, grow}
use Rattle.conditions.specs.Meaning.{stacked}
use Rattle.conditions.proofs.Stacks.{truths}
use Rattle.conditions.proofs.condition.Condition.holds.Given as goal

abbrev pub invariant-loop-step : goal.invariant-loop-step
invariant-loop-step l = (array_vec_len l.truths ≤ l.step-index) × (stacked l.truths ≡ truths l.row l.base (works grow (take l.step-index l.self.steps) []))
