-- The cells from here on are left.
use Rattle.std.proofs.Common.{drop}
use Rattle.cells.specs.Columns.{column}
use Rattle.hall_file.specs.Written.{groups_bytes}
use Rattle.hall_write.proofs.Overs.{Doing}
use Rattle.hall_write.proofs.length.FileColumn.put_groups.Given as goal

abbrev pub invariant-loop-cell : goal.invariant-loop-cell
invariant-loop-cell g l = Doing (groups_bytes g.M.Measure.meaning l.self.shape.now (column l.self.number l.cells)) (groups_bytes g.M.Measure.meaning l.self.shape.now (column l.self.number (drop l.cell-index l.cells))) l.initial.out l.out
