-- Groups of all columns as one list in ascending order, and what a contribution makes of it. Assumes nothing.
use Rattle.std.specs.Prelude.{◌≡◌, ℕ, ◌+◌, ◌-◌, ◌^◌, ◌<◌, min, List, [], ◌∷◌, length, Some, None, Option, ◌≢◌, slice_index_or}
use Rattle.std.specs.declared.cmp.Ordering.TheVariants.{Less}
use Rattle.std.specs.List.{AllByRecursion}
use Rattle.cells.specs.declared.id.GroupId.{GroupId}
use Rattle.cells.specs.declared.cell.Cell.{Cell}
use Rattle.cells.specs.Order.{order}
use Rattle.cells.specs.Listed.{among}

-- the cells ascend: each is of a group before those of all that follow
abbrev pub Sorted : {V : Type 0} → List (Cell V) → Type 0
Sorted [] = Unit {0}
Sorted (c ∷ cs) = AllByRecursion (λ d. order c.id d.id ≡ Less) cs × Sorted cs

-- row counts are added, and stay at the end of 32 bits
abbrev pub together : ℕ → ℕ → ℕ
together n m = min (n + m) (2 ^ 32 - 1)

-- the group c to which x came; the new value is joined in front
abbrev pub grown : {V : Type 0} → (V → V → V) → Cell V → Cell V → Cell V
grown join x c = record { id = c.id; rows = together x.rows c.rows; value = join x.value c.value }

-- x put in: its group has grown by it, or is new; every other is as it was
abbrev pub put : {V : Type 0} → (V → V → V) → Cell V → List (Cell V) → List (Cell V)
put join x [] = x ∷ []
put join x (c ∷ cs) = among (order x.id c.id) (x ∷ c ∷ cs) (grown join x c ∷ cs) (c ∷ put join x cs)

-- the group of p among groups in order, if it is there
abbrev pub lookup : {V : Type 0} → GroupId → List (Cell V) → Option (Cell V)
lookup p [] = None
lookup p (c ∷ cs) = among (order p c.id) None (Some c) (lookup p cs)

-- the group that x makes of its group, if that is there
abbrev pub added : {V : Type 0} → (V → V → V) → Cell V → Option (Cell V) → Cell V
added join x None = x
added join x (Some c) = grown join x c

-- cells that lie in any order, no two of one group, as groups in order; so nothing is joined here
abbrev pub in_order : {V : Type 0} → List (Cell V) → List (Cell V)
in_order [] = []
in_order (c ∷ cs) = put (λ new old. new) c (in_order cs)

-- no two cells are of one group
abbrev pub Apart : {V : Type 0} → List (Cell V) → Type 0
Apart {V} cs = (i j : ℕ) (d : Cell V) → i < j → j < length cs → (slice_index_or cs i d).id ≢ (slice_index_or cs j d).id

-- no cell is of the group p
abbrev pub Absent : {V : Type 0} → GroupId → List (Cell V) → Type 0
Absent {V} p cs = (k : ℕ) (d : Cell V) → k < length cs → (slice_index_or cs k d).id ≢ p
