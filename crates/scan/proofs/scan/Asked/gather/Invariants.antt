-- The rest of the list decides, one row at a time.
use Rattle.std.proofs.Common.{◌≡◌, ◌≤◌, drop, fold}
use Rattle.std.specs.List.{list_all}
use Rattle.scan.specs.Scans.{rows_of, is_row, with_row}
use Rattle.scan.proofs.scan.Asked.gather.Given as goal

abbrev pub invariant-loop-row : goal.invariant-loop-row
invariant-loop-row g l =
    let m = g.M.Measure.meaning l.self.column.now.measure in
    (list_all (is_row l.self.width) (rows_of l.rows) ≡ list_all (is_row l.self.width) (drop l.row-index (rows_of l.rows)))
    × (fold (with_row m l.self.column.now l.self.base.now) l.initial.all (rows_of l.rows) ≡ fold (with_row m l.self.column.now l.self.base.now) l.all (drop l.row-index (rows_of l.rows)))
    × (l.all.rows ≤ l.row-index)
