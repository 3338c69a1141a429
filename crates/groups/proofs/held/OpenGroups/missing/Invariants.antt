-- Those counted and those left to count are all.
use Rattle.std.proofs.Common.{◌≡◌, ◌+◌, ◌≤◌, length}
use Rattle.cells.specs.Contributions.{beginning}
use Rattle.groups.specs.Held.{open_groups}
use Rattle.groups.proofs.held.OpenGroups.missing.Given as goal

abbrev pub invariant-loop-id : goal.invariant-loop-id
invariant-loop-id g l = record {
  counted : l.n + beginning l.rest (open_groups l.self) ≡ beginning l.ids (open_groups l.self);
  few : l.n + length l.rest ≤ length l.ids;
}

abbrev pub decreases-loop-id : goal.decreases-loop-id
decreases-loop-id g l = length l.rest
