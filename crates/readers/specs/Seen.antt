-- What the readers of the code answer: a value, and a reference to the bytes after it. Assumes nothing.
use Rattle.std.specs.Prelude.{ℕ, List, Some, None, Option}
use Rattle.std.specs.Borrow.{Bor}

-- a value and the bytes after it
abbrev pub seen : {X : Type 0} → Option (X × Bor (List ℕ)) → Option (X × List ℕ)
seen None = None
seen (Some q) = Some (q.0, q.1.now)

-- the bytes after what was passed over
abbrev pub passed : Option (Bor (List ℕ)) → Option (List ℕ)
passed None = None
passed (Some r) = Some r.now

-- what was filled and the bytes after what it was filled from
abbrev pub filled : {X : Type 0} → X → Option (Bor (List ℕ)) → Option (X × List ℕ)
filled x None = None
filled x (Some r) = Some (x, r.now)
