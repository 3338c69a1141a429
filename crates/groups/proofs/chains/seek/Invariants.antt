-- No cell that the walk has passed is of the group; links go to older cells, so it ends.
use Rattle.std.proofs.Common.{length}
use Rattle.groups.specs.Chains.{cells_of}
use Rattle.groups.proofs.Walks.{Walk}
use Rattle.groups.proofs.chains.seek.Given as goal

abbrev pub invariant-loop-i : goal.invariant-loop-i
invariant-loop-i g l = Walk (cells_of l.places) (length l.places) l.used l.id l.at

abbrev pub decreases-loop-i : goal.decreases-loop-i
decreases-loop-i g l = l.at
