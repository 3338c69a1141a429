-- Up to here every value is a row value.
use Rattle.std.proofs.Common.{◌≡◌, drop}
use Rattle.measures.specs.Values.{all_row_values}
use Rattle.measures.proofs.values.all_row_values.Given as goal

abbrev pub invariant-loop-value : goal.invariant-loop-value
invariant-loop-value l = all_row_values l.values ≡ all_row_values (drop l.value-index l.values)
