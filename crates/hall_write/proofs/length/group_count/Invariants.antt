-- What was counted and what is left.
use Rattle.std.proofs.Common.{◌≡◌, ◌+◌, ◌≤◌, length, drop}
use Rattle.cells.specs.Columns.{column}
use Rattle.hall_write.proofs.length.group_count.Given as goal

abbrev pub invariant-loop-cell : goal.invariant-loop-cell
invariant-loop-cell g l = (l.count + length (column l.number (drop l.cell-index l.cells)) ≡ length (column l.number l.cells)) × (l.count ≤ l.cell-index)
