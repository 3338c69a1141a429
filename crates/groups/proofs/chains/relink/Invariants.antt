-- The cells before i are chained, and no cell has changed.
use Rattle.std.proofs.Common.{◌≡◌}
use Rattle.groups.specs.Chains.{cells_of, Chained}
use Rattle.groups.proofs.chains.relink.Given as goal

abbrev pub invariant-loop-i : goal.invariant-loop-i
invariant-loop-i g l = (cells_of l.places ≡ cells_of l.initial.places) × Chained l.places l.i
