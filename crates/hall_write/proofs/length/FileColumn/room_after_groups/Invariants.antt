-- What is left of the room, and the cells that are left.
use Rattle.std.proofs.Common.{◌≡◌, ◌+◌, length, drop}
use Rattle.cells.specs.Columns.{column}
use Rattle.hall_file.specs.Written.{groups_bytes}
use Rattle.hall_write.proofs.length.FileColumn.room_after_groups.Given as goal

abbrev pub invariant-loop-cell : goal.invariant-loop-cell
invariant-loop-cell g l = l.left + length (groups_bytes g.M.Measure.meaning l.self.shape.now (column l.self.number l.cells)) ≡ l.room + length (groups_bytes g.M.Measure.meaning l.self.shape.now (column l.self.number (drop l.cell-index l.cells)))
