use Rattle.std.proofs.Common.{◌≡◌, ℕ, ◌≤◌, true, List, length}
use Rattle.words.specs.Cutting.{to_come}
use Rattle.words.specs.Tables.{texts}
use Rattle.plan.specs.Machine.{Stage, some}
use Rattle.plan.specs.Promises.{rest, LineOfNames}
use Rattle.plan.proofs.lines.NameRule.read_names.Given as goal

abbrev pub invariant-loop-self : goal.invariant-loop-self
invariant-loop-self l =
    (length (to_come l.words) ≤ length (to_come l.initial.words))
    × (some (texts l.table) ≡ true)
    × ((more done : List (List ℕ) → Stage) → LineOfNames more done l.self.upper l.self.most → rest l.initial.words (more (texts l.initial.table)) ≡ rest l.words (more (texts l.table)))

abbrev pub decreases-loop-self : goal.decreases-loop-self
decreases-loop-self l = length (to_come l.words)
