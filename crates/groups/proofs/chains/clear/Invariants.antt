-- The places so far are emptied, the others as they were.
use Rattle.std.proofs.Common.{◌≡◌, ◌++◌, map, take, drop}
use Rattle.groups.specs.Chains.{emptied}
use Rattle.groups.proofs.chains.clear.Given as goal

abbrev pub invariant-loop-place : goal.invariant-loop-place
invariant-loop-place g l = l.places ≡ map emptied (take l.place-index l.initial.places) ++ drop l.place-index l.initial.places
