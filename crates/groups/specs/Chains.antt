-- Cells in order of arrival, chained by bucket inside their places. Assumes nothing.
-- A link is 0, for none, or one more than the index of a cell; it goes to an older cell.
use Rattle.std.specs.Prelude.{◌≡◌, ℕ, ◌+◌, ◌-◌, ◌%◌, ◌<◌, ◌≤◌, true, List, [], ◌∷◌, ◌++◌, map, length, take, drop, Some, None, Option, Ok, Err, Result, ◌≢◌, slice_index, slice_index_or}
use Rattle.cells.specs.declared.id.GroupId.{GroupId}
use Rattle.cells.specs.declared.cell.Cell.{Cell}
use Rattle.std.specs.Ordering.{is_lt}
use Rattle.cells.specs.Order.{order}
use Rattle.cells.specs.Groups.{put, in_order, Apart, Absent}
use Rattle.cells.specs.declared.place.Place.{Place}
use Rattle.groups.specs.declared.added.Added.{Added}
use Rattle.groups.specs.declared.added.Added.TheVariants.{Grown, Begun}
use Rattle.groups.specs.declared.added.NoRoom.{NoRoom}
use Rattle.cells.specs.Hash.{hashed}

-- k links to the newest of bucket b among the first `top` cells, whose buckets are bs
abbrev pub Link : List ℕ → ℕ → ℕ → ℕ → Type 0
Link bs top b k = (k ≤ top) × ((j : ℕ) → k ≤ j → j < top → slice_index bs j ≢ b) × (0 < k → slice_index bs (k - 1) ≡ b)

-- each bucket's head links to its newest cell
abbrev pub Heads : List ℕ → List ℕ → ℕ → Type 0
Heads bs hs used = (b : ℕ) → b < length hs → Link bs used b (slice_index hs b)

-- each cell links to the next older of its bucket
abbrev pub Nexts : List ℕ → List ℕ → ℕ → Type 0
Nexts bs ns used = (k : ℕ) → k < used → Link bs k (slice_index bs k) (slice_index ns k)

-- the cells that places hold, live or not
abbrev pub cells_of : {V : Type 0} → List (Place V) → List (Cell V)
cells_of xs = map (λ s. s.cell) xs

-- the heads of the buckets
abbrev pub heads : {V : Type 0} → List (Place V) → List ℕ
heads xs = map (λ s. s.head) xs

-- the links from each cell to an older one
abbrev pub nexts : {V : Type 0} → List (Place V) → List ℕ
nexts xs = map (λ s. s.next) xs

-- the bucket of a group, of n buckets
abbrev pub bucket_of : GroupId → ℕ → ℕ
bucket_of p n = hashed p % n

-- the buckets of cells, of n buckets in all
abbrev pub buckets : {V : Type 0} → ℕ → List (Cell V) → List ℕ
buckets n cs = map (λ c. bucket_of c.id n) cs

-- the live cells, in order of arrival or sorted
abbrev pub live : {V : Type 0} → ℕ → List (Place V) → List (Cell V)
live used xs = take used (cells_of xs)

-- what holds of the links: each bucket's chain goes through all its live cells, the newest first
pub record Chained {V : Type 0} (xs : List (Place V)) (used : ℕ) : Type 0 where
  pub within : used ≤ length xs
  pub first : Heads (buckets (length xs) (cells_of xs)) (heads xs) used
  pub later : Nexts (buckets (length xs) (cells_of xs)) (nexts xs) used

-- what open places keep: chains, and no two live cells of one group
pub record Linked {V : Type 0} (xs : List (Place V)) (used : ℕ) : Type 0 where
  pub chained : Chained xs used
  pub apart : Apart (live used xs)

-- each cell is of a group before those of all that follow
abbrev pub Ascending : {V : Type 0} → List (Cell V) → Type 0
Ascending {V} cs = (i j : ℕ) (d : Cell V) → i < j → j < length cs → is_lt (order (slice_index_or cs i d).id (slice_index_or cs j d).id) ≡ true

-- what sorted places keep: the live cells ascend
pub record Ordered {V : Type 0} (xs : List (Place V)) (used : ℕ) : Type 0 where
  pub within : used ≤ length xs
  pub ascending : Ascending (live used xs)

-- where the cell of p is
abbrev pub Found : {V : Type 0} → GroupId → List (Cell V) → Option ℕ → Type 0
Found p cs None = Absent p cs
Found {V} p cs (Some i) = (i < length cs) × ((d : Cell V) → (slice_index_or cs i d).id ≡ p)

-- x was put in: the groups, the chains, and the cells past the live ones
pub record Done {V : Type 0} (join : V → V → V) (x : Cell V) (xs : List (Place V)) (used : ℕ) (ys : List (Place V)) (n : ℕ) : Type 0 where
  pub groups : in_order (live n ys) ≡ put join x (in_order (live used xs))
  pub linked : Linked ys n
  pub rest : drop n (cells_of ys) ≡ drop n (cells_of xs)

-- x was put in, or there was no room
abbrev pub Putting : {V : Type 0} → (V → V → V) → Cell V → List (Place V) → ℕ → List (Place V) → Result Added NoRoom → Type 0
Putting {V} join x xs used ys (Ok Grown) = Done join x xs used ys used × ((i : ℕ) × Found x.id (live used xs) (Some i)) × (map (λ c. c.id) (live used ys) ≡ map (λ c. c.id) (live used xs))
Putting join x xs used ys (Ok Begun) = Done join x xs used ys (used + 1) × Absent x.id (live used xs) × (live (used + 1) ys ≡ live used xs ++ x ∷ []) × (used < length xs)
Putting join x xs used ys (Err full) = (ys ≡ xs) × Absent x.id (live used xs) × (used ≡ length xs)

-- a place whose bucket is empty
abbrev pub emptied : {V : Type 0} → Place V → Place V
emptied s = record { cell = s.cell; head = 0; next = s.next }
