-- The places so far have their values; the bytes left give the others.
use Rattle.std.proofs.Common.{length}
use Rattle.hall_file.proofs.Steps.{Filled}
use Rattle.hall_file.proofs.groups.fill.Given as goal

abbrev pub invariant-loop-place : goal.invariant-loop-place
invariant-loop-place l = Filled (length l.initial.places) l.bytes l.place-index l.places l.rest
