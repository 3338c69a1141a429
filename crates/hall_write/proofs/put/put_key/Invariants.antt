-- The values from here on are left.
use Rattle.std.proofs.Common.{drop}
use Rattle.std.specs.List.{flat_map}
use Rattle.hall_file.specs.Written.{int_bytes}
use Rattle.hall_write.proofs.Overs.{Doing}
use Rattle.hall_write.proofs.put.put_key.Given as goal

abbrev pub invariant-loop-value : goal.invariant-loop-value
invariant-loop-value l = Doing (flat_map int_bytes l.value-items) (flat_map int_bytes (drop l.value-index l.value-items)) l.initial.out l.out
