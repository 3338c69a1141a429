-- The columns from here on are left.
use Rattle.std.proofs.Common.{drop}
use Rattle.hall_file.specs.Written.{columns_bytes}
use Rattle.hall_write.specs.Laid.{laid}
use Rattle.hall_write.proofs.Overs.{Doing}
use Rattle.hall_write.proofs.write.put_columns.Given as goal

abbrev pub invariant-loop-number : goal.invariant-loop-number
invariant-loop-number g l = Doing (columns_bytes g.M.Measure.meaning (laid 0 l.shapes l.cells)) (columns_bytes g.M.Measure.meaning (laid l.number (drop l.number l.shapes) l.cells)) l.initial.out l.out
