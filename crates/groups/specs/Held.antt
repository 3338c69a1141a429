-- What open and sorted groups stand for, and what becomes of that. Assumes nothing.
use Rattle.std.specs.Prelude.{◌≡◌, ℕ, ◌^◌, ◌≤◌, cond, List, [], ◌∷◌, ◌++◌, map, length, drop, vec_items, vec_len, Result, Ok, Err, OnErr, Vec, MatchResult, ◌==◌, nat_lt}
use Rattle.std.specs.declared.alloc.Global.{Global}
use Rattle.cells.specs.declared.id.GroupId.{GroupId}
use Rattle.cells.specs.declared.cell.Cell.{Cell}
use Rattle.cells.specs.Groups.{put, in_order}
use Rattle.cells.specs.Columns.{Group, group, put_group, column}
use Rattle.cells.specs.Contributions.{there}
use Rattle.cells.specs.declared.place.Place.{Place}
use Rattle.groups.specs.declared.added.Added.{Added}
use Rattle.groups.specs.declared.added.Added.TheVariants.{Grown, Begun}
use Rattle.groups.specs.declared.added.NoRoom.{NoRoom}
use Rattle.groups.specs.declared.held.OpenGroups.{OpenGroups}
use Rattle.groups.specs.declared.held.SortedGroups.{SortedGroups}
use Rattle.groups.specs.Chains.{cells_of, live}

-- the live cells in order of arrival, which the layout leaves free
abbrev pub arrived : {V : Type 0} → OpenGroups V → List (Cell V)
arrived o = live o.used (vec_items o.places)

-- what open groups stand for: the groups of all columns in ascending order
abbrev pub open_groups : {V : Type 0} → OpenGroups V → List (Cell V)
open_groups o = in_order (arrived o)

-- what sorted groups stand for: their live cells as they lie
abbrev pub sorted_groups : {V : Type 0} → SortedGroups V → List (Cell V)
sorted_groups s = live s.used (vec_items s.places)

-- groups were started in places: there are none, and no cell has changed; or there are more places
-- than links can tell apart, and they are given back
abbrev pub Starting : {V : Type 0} → Vec (Place V) Global → Result (OpenGroups V) (Vec (Place V) Global) → Type 0
Starting places r = MatchResult r
    (λ o. (open_groups o ≡ []) × (vec_len o.places ≡ vec_len places) × (cells_of (vec_items o.places) ≡ cells_of (vec_items places)))
    (λ v. (v ≡ places) × (2 ^ 32 ≤ vec_len places))

-- what becomes of a contribution to the group p, where there are so many places
abbrev pub answer : {V : Type 0} → GroupId → List (Cell V) → ℕ → Result Added NoRoom
answer p gs places = cond (there p gs) (Ok Grown) (cond (nat_lt (length gs) places) (Ok Begun) (Err (record {})))

-- the groups after a contribution
abbrev pub after : {V : Type 0} → Result Added NoRoom → (V → V → V) → Cell V → List (Cell V) → List (Cell V)
after (Ok came) join x gs = put join x gs
after (Err full) join x gs = gs

-- the groups of column k after a contribution
abbrev pub column_after : {V : Type 0} → Result Added NoRoom → (V → V → V) → Cell V → ℕ → List (Group V) → List (Group V)
column_after (Ok came) join x k gs = cond (x.id.column == k) (put_group join (group x) gs) gs
column_after (Err full) join x k gs = gs

-- a new group arrives last, and a group that has grown stays where it is
abbrev pub Arrival : {V : Type 0} → Result Added NoRoom → Cell V → List (Cell V) → List (Cell V) → Type 0
Arrival (Ok Grown) x before now = map (λ c. c.id) now ≡ map (λ c. c.id) before
Arrival (Ok Begun) x before now = now ≡ before ++ x ∷ []
Arrival (Err full) x before now = now ≡ before

-- a contribution x to the groups o came to the groups p, and r was answered
pub record Adding {V : Type 0} (join : V → V → V) (x : Cell V) (o p : OpenGroups V) (r : Result Added NoRoom) : Type 0 where
  pub answers : r ≡ answer x.id (open_groups o) (vec_len o.places)
  pub groups : open_groups p ≡ after r join x (open_groups o)
  pub columns : (k : ℕ) → column k (open_groups p) ≡ column_after r join x k (column k (open_groups o))
  pub arrival : Arrival r x (arrived o) (arrived p)
  pub rest : drop (length (open_groups p)) (cells_of (vec_items p.places)) ≡ drop (length (open_groups p)) (cells_of (vec_items o.places))
  pub room : vec_len p.places ≡ vec_len o.places
  pub unchanged : OnErr r ((vec_items p.places ≡ vec_items o.places) × (p.used ≡ o.used))

-- open groups o were sorted as s
pub record Sorting {V : Type 0} (o : OpenGroups V) (s : SortedGroups V) : Type 0 where
  pub groups : sorted_groups s ≡ open_groups o
  pub rest : drop (length (open_groups o)) (cells_of (vec_items s.places)) ≡ drop (length (open_groups o)) (cells_of (vec_items o.places))
  pub room : vec_len s.places ≡ vec_len o.places

-- sorted groups s were linked anew as o; their order is that of arrival now
pub record Linking {V : Type 0} (s : SortedGroups V) (o : OpenGroups V) : Type 0 where
  pub groups : open_groups o ≡ sorted_groups s
  pub arrival : arrived o ≡ sorted_groups s
  pub cells : cells_of (vec_items o.places) ≡ cells_of (vec_items s.places)
  pub room : vec_len o.places ≡ vec_len s.places
