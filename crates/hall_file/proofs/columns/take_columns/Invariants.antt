-- The columns left give the same end.
use Rattle.std.proofs.Common.{◌≡◌, ◌-◌}
use Rattle.readers.specs.Readers.{after, times}
use Rattle.hall_file.specs.Reading.{column, columns}
use Rattle.hall_file.proofs.columns.take_columns.Given as goal

abbrev pub invariant-loop : goal.invariant-loop
invariant-loop g l = after (columns g.M.Measure.meaning g.M.Measure.found l.head l.bytes) ≡ after (times (l.head.columns - l.counter) (column g.M.Measure.meaning g.M.Measure.found l.head.fields l.head.rows) l.rest)
