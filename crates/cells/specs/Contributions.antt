-- What a list of contributions comes to, and the laws of that. Assumes nothing.
use Rattle.std.specs.Prelude.{◌≡◌, ℕ, ◌+◌, ◌≤◌, Bool, false, cond, not, List, [], ◌∷◌, is_some, Some, None, filter, Option, nat_eq}
use Rattle.std.specs.List.{AllByRecursion}
use Rattle.measures.specs.Values.{most_rows}
use Rattle.measures.specs.Meaning.{Meaning, Possible}
use Rattle.cells.specs.declared.id.GroupId.{GroupId}
use Rattle.cells.specs.declared.cell.Cell.{Cell}
use Rattle.cells.specs.Groups.{put, lookup, Sorted}
use Rattle.cells.specs.Listed.{same_group, listed}

-- two lists with the same elements in any two orders
pub data Reordered {X : Type 0} : List X → List X → Type 0 where
  empty : Reordered [] []
  keep : (x : X) {xs ys : List X} → Reordered xs ys → Reordered (x ∷ xs) (x ∷ ys)
  swap : (x y : X) (xs : List X) → Reordered (x ∷ y ∷ xs) (y ∷ x ∷ xs)
  chain : {xs ys zs : List X} → Reordered xs ys → Reordered ys zs → Reordered xs zs

-- whether there is a group p among groups in order
abbrev pub there : {V : Type 0} → GroupId → List (Cell V) → Bool
there p gs = is_some (lookup p gs)

-- whether the group p begins with the last contribution to it: it is not there, and p is not among
-- the ids that follow
abbrev pub begins : {V : Type 0} → GroupId → List GroupId → List (Cell V) → Bool
begins p later gs = cond (there p gs) false (not (listed p later))

-- how many groups contributions with these ids would begin; each counts once
abbrev pub beginning : {V : Type 0} → List GroupId → List (Cell V) → ℕ
beginning [] gs = 0
beginning (p ∷ ps) gs = cond (begins p ps gs) 1 0 + beginning ps gs

-- the ids of contributions
abbrev pub ids : {V : Type 0} → List (Cell V) → List GroupId
ids [] = []
ids (x ∷ xs) = x.id ∷ ids xs

module _ {V : Type 0} where
  -- the contributions to one group
  abbrev pub came_for : GroupId → List (Cell V) → List (Cell V)
  came_for p xs = filter (λ x. same_group p x.id) xs

  -- the contributions to the groups of one column
  abbrev pub came_in : ℕ → List (Cell V) → List (Cell V)
  came_in k xs = filter (λ x. nat_eq x.id.column k) xs

  -- how many rows contributions have together
  abbrev pub rows_of : List (Cell V) → ℕ
  rows_of [] = 0
  rows_of (x ∷ xs) = x.rows + rows_of xs

  -- the groups gs after contributions, of which the first of the list came last; in column k values
  -- are joined by joins k
  abbrev pub heard_on : (ℕ → V → V → V) → List (Cell V) → List (Cell V) → List (Cell V)
  heard_on joins gs [] = gs
  heard_on joins gs (x ∷ xs) = put (joins x.id.column) x (heard_on joins gs xs)

module _ {V A : Type 0} where
  -- the groups after contributions to no groups; column k has the measure ms k
  abbrev pub heard : (ℕ → Meaning V A) → List (Cell V) → List (Cell V)
  heard ms xs = heard_on (λ k. (ms k).join) [] xs

  -- the join of the values of contributions
  abbrev pub join_of : Meaning V A → List (Cell V) → V
  join_of m [] = m.none
  join_of m (x ∷ xs) = m.join x.value (join_of m xs)

  -- the group p by what came for it: all its rows, and the join of all its values
  abbrev pub total : Meaning V A → GroupId → List (Cell V) → Option (Cell V)
  total m p [] = None
  total m p (x ∷ xs) = Some (record { id = p; rows = rows_of (x ∷ xs); value = join_of m (x ∷ xs) })

  -- a contribution of at least one row, with a value that is possible for its rows
  abbrev pub Proper : (ℕ → Meaning V A) → Cell V → Type 0
  Proper ms x = (1 ≤ x.rows) × Possible (ms x.id.column) x.value x.rows

  -- proper contributions, in each column of together at most 1,000,000 rows
  pub record Fair (ms : ℕ → Meaning V A) (xs : List (Cell V)) : Type 0 where
    pub proper : AllByRecursion (Proper ms) xs
    pub few : (k : ℕ) → rows_of (came_in k xs) ≤ most_rows

  -- The laws of contributions: the groups are in order; a group is what came for it; the order in
  -- which contributions came makes no difference; each group is of some rows, and has a value that
  -- is possible for them.
  pub record Law (ms : ℕ → Meaning V A) : Type 0 where
    pub sorted : (xs : List (Cell V)) → Sorted (heard ms xs)
    pub totals : (xs : List (Cell V)) → Fair ms xs → (p : GroupId) → lookup p (heard ms xs) ≡ total (ms p.column) p (came_for p xs)
    pub order_is_free : (xs ys : List (Cell V)) → Fair ms xs → Reordered xs ys → heard ms xs ≡ heard ms ys
    pub possible : (xs : List (Cell V)) → Fair ms xs → AllByRecursion (Proper ms) (heard ms xs)
