-- What is left of the room, and the columns that are left.
use Rattle.std.proofs.Common.{◌≡◌, ◌+◌, ◌≤◌, length, drop}
use Rattle.hall_file.specs.Written.{columns_bytes}
use Rattle.hall_write.specs.Laid.{laid}
use Rattle.hall_write.proofs.length.length_within.Given as goal

abbrev pub invariant-loop-number : goal.invariant-loop-number
invariant-loop-number g l =
    (l.left + (11 + length (columns_bytes g.M.Measure.meaning (laid 0 l.shapes l.cells))) ≡ l.room + length (columns_bytes g.M.Measure.meaning (laid l.number (drop l.number l.shapes) l.cells)))
    × (l.left ≤ l.room)
