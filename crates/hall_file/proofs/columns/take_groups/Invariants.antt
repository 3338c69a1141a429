-- The groups left give the same end.
use Rattle.std.proofs.Common.{◌≡◌, ◌-◌, ◌≤◌, None}
use Rattle.readers.specs.Readers.{after}
use Rattle.hall_file.specs.Written.{width}
use Rattle.hall_file.specs.Reading.{groups}
use Rattle.hall_file.proofs.columns.take_groups.Given as goal

abbrev pub invariant-loop : goal.invariant-loop
invariant-loop g l = width l.shape ≤ 4 → after (groups g.M.Measure.meaning l.shape l.count None l.all l.bytes) ≡ after (groups g.M.Measure.meaning l.shape (l.count - l.counter) l.last l.rows_left l.rest)
