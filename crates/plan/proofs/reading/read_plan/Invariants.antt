use Rattle.std.proofs.Common.{◌≡◌, length}
use Rattle.words.specs.Cutting.{to_come}
use Rattle.plan.specs.Machine.{plan_of}
use Rattle.plan.specs.Promises.{rest, awaited, Unread}
use Rattle.plan.proofs.reading.read_plan.Given as goal

abbrev pub invariant-loop-awaits : goal.invariant-loop-awaits
invariant-loop-awaits l = (plan_of l.text ≡ rest l.words (awaited l.awaits l.plan)) × Unread l.awaits l.plan

abbrev pub decreases-loop-awaits : goal.decreases-loop-awaits
decreases-loop-awaits l = length (to_come l.words)
