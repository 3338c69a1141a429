-- The live places sorted where they lie. Assumes nothing.
use Rattle.std.proofs.Common.{◌≡◌, ℕ, suc, ◌≤◌, true, true≢false, List, ◌++◌, length, take, drop, Ordering, Less, Equal, Greater, sym, refl, ap, ◌∙◌, subst, arith}
use Rattle.std.specs.List.Sorted.{IsPermutation, IsSorted}
use Rattle.std.specs.Ordering.{is_lt}
use Rattle.std.proofs.lemmas.List.{take-map, drop-map, take_at, drop_at, length-take-le}
use Rattle.std.proofs.lemmas.List.Sorted.{length_permutation}
use Rattle.cells.specs.declared.cell.Cell.{Cell}
use Rattle.cells.specs.Order.{order}
use Rattle.cells.specs.Groups.{Sorted, in_order, Apart}
use Rattle.cells.proofs.Sorting.{sorted_is, sorted_next, sorted_later}
use Rattle.cells.specs.declared.place.Place.{Place}
use Rattle.groups.specs.Chains.{cells_of, live, Ascending}

less : (r : Ordering) → is_lt r ≡ true → r ≡ Less
less Less e = refl
less Equal e = absurd (true≢false (sym e))
less Greater e = absurd (true≢false (sym e))

module _ {V : Type 0} where
  pub ascending_from : (l : List (Cell V)) → Sorted l → Ascending l
  ascending_from l s i j d p q = ap is_lt (sorted_later l s i j d p q)

  pub sorted_from : (l : List (Cell V)) → Ascending l → Sorted l
  sorted_from l a = sorted_next l (λ k d h. less _ (a k (suc k) d (omega arith) h))

  -- the live part sorted, in its place
  module _ (xs ys : List (Place V)) (used : ℕ) (within : used ≤ length xs) (a : Apart (live used xs)) (sh : IsPermutation (take used xs) ys) (up : IsSorted (λ x y. order x.cell.id y.cell.id) ys) where
    long : length ys ≡ used
    long = length_permutation (take used xs) ys sh ∙ length-take-le used xs within

    pub sort_live : live used (ys ++ drop used xs) ≡ in_order (live used xs)
    sort_live =
        let now : live used xs ≡ cells_of (take used xs) = take-map (λ s. s.cell) used xs in
        take-map (λ s. s.cell) used (ys ++ drop used xs) ∙ ap cells_of (take_at ys (drop used xs) used long)
        ∙ sorted_is (λ s. s.cell) (take used xs) ys (subst Apart now a) sh up
        ∙ ap in_order (sym now)

    pub sort_rest : drop used (cells_of (ys ++ drop used xs)) ≡ drop used (cells_of xs)
    sort_rest = drop-map (λ s. s.cell) used (ys ++ drop used xs) ∙ ap cells_of (drop_at ys (drop used xs) used long) ∙ sym (drop-map (λ s. s.cell) used xs)
