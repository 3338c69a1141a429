-- What putting does to cells in order of arrival. Assumes nothing.
use Rattle.std.proofs.Common.{◌≡◌, ℕ, ◌+◌, ◌<◌, ◌≤◌, List, [], ◌∷◌, ◌++◌, map, length, get_or, take, drop, set, Some, Ok, sym, ap, ◌∙◌, subst, arith, drop-set-lt}
use lib.Seq.{take-set-lt}
use Rattle.std.proofs.lemmas.List.{get_or-take, get_or_default, get_or-map, map-set, set-get_or, take_more_set}
use Rattle.cells.specs.declared.cell.Cell.{Cell}
use Rattle.cells.specs.declared.place.Place.{Place}
use Rattle.groups.specs.declared.added.Added.TheVariants.{Grown, Begun}
use Rattle.cells.specs.Groups.{grown, in_order, Apart, Absent}
use Rattle.groups.specs.Chains.{Chained, Found, Putting, cells_of, live}
use Rattle.groups.proofs.Walks.{length_cells, length_live}
use Rattle.cells.proofs.InOrder.{in_order_push, apart_push, in_order_set, apart_set}

module _ {V : Type 0} (f : V → V → V) (x : Cell V) (xs ys : List (Place V)) (used : ℕ) (within : used ≤ length xs) (a : Apart (live used xs)) where
  pub grown_done : (i : ℕ) → Found x.id (live used xs) (Some i) → cells_of ys ≡ set (cells_of xs) i (grown f x (get_or (cells_of xs) i x)) → Chained ys used → Putting f x xs used ys (Ok Grown)
  grown_done i found e ch =
      let c = get_or (cells_of xs) i x in
      let lc = length_cells xs in
      let ll = length_live xs used within in
      let lt : i < used = omega (arith, found.0) in
      let lx : i < length (cells_of xs) = omega arith in
      let is : (d : Cell V) → get_or (live used xs) i d ≡ c = λ d. get_or-take used (cells_of xs) i d lt ∙ get_or_default (cells_of xs) i d x lx in
      let here : c.id ≡ x.id = ap (λ c. c.id) (sym (is x)) ∙ found.1 x in
      let now : live used ys ≡ set (live used xs) i (grown f x c) = ap (take used) e ∙ take-set-lt used (cells_of xs) i (grown f x c) lt in (
        record {
          groups = ap in_order now ∙ in_order_set f x (live used xs) a i found.0 c is here;
          linked = record { chained = ch; apart = subst Apart (sym now) (apart_set f x (live used xs) a i found.0 c is here) };
          rest = ap (drop used) e ∙ drop-set-lt used (cells_of xs) i (grown f x c) lt;
        },
        (i, found),
        ap (map (λ c. c.id)) now ∙ map-set (λ c. c.id) (live used xs) i (grown f x c) ∙ ap (set (map (λ c. c.id) (live used xs)) i) (ap (λ c. c.id) (sym (is x)) ∙ sym (get_or-map (λ c. c.id) (live used xs) i x c.id found.0)) ∙ set-get_or (map (λ c. c.id) (live used xs)) i c.id,
      )

  pub begun_done : Absent x.id (live used xs) → used < length xs → cells_of ys ≡ set (cells_of xs) used x → Chained ys (used + 1) → Putting f x xs used ys (Ok Begun)
  begun_done out lt e ch =
      let now : live (used + 1) ys ≡ live used xs ++ x ∷ [] = ap (take (used + 1)) e ∙ take_more_set (cells_of xs) used x (omega (arith, length_cells xs)) in (
        record {
          groups = ap in_order now ∙ in_order_push f x (live used xs) a out;
          linked = record { chained = ch; apart = subst Apart (sym now) (apart_push f x (live used xs) a out) };
          rest = ap (drop (used + 1)) e ∙ drop-set-lt (used + 1) (cells_of xs) used x (omega arith);
        },
        out,
        now,
        lt,
      )
