use Rattle.std.proofs.Common.{◌≡◌, ℕ, ◌≤◌, ◌++◌, length, get_or, take, drop, pos}
use Rattle.conditions.specs.Keys.{spread}
use Rattle.conditions.proofs.keys.row_of_key.Given as goal

abbrev pub invariant-loop-i : goal.invariant-loop-i
invariant-loop-i l =
    (length l.row ≡ 8) × (take l.i l.row ++ spread (drop l.i l.fields) l.rest ≡ spread l.fields l.key)
    × ((k : ℕ) → l.i ≤ k → get_or l.row k (pos 0) ≡ pos 0)
