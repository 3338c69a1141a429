-- Records cut to a width. Assumes nothing.
use Rattle.std.proofs.Common.{◌≡◌, ℕ, zero, suc, ◌≤◌, List, [], ◌∷◌, ◌++◌, map, length, take, ℤ, refl, ap, arith}
use Rattle.std.specs.List.{AllByRecursion}
use Rattle.feeds.specs.Steps.{cut}

-- a record cut to a width has that width
pub length_cut : (w : ℕ) (xs : List ℤ) → length (cut w xs) ≡ w
length_cut zero xs = refl
length_cut (suc w) [] = ap suc (length_cut w [])
length_cut (suc w) (x ∷ xs) = ap suc (length_cut w xs)

-- so have all
pub all_cut : (w : ℕ) (rs : List (List ℤ)) → AllByRecursion (λ r. length r ≡ w) (map (cut w) rs)
all_cut w [] = tt
all_cut w (r ∷ rs) = (length_cut w r, all_cut w rs)

-- of a record that begins with enough values, these are left
pub cut_front : (w : ℕ) (xs ys : List ℤ) → w ≤ length xs → cut w (xs ++ ys) ≡ take w xs
cut_front zero xs ys h = refl
cut_front (suc w) [] ys h = absurd (omega (arith, h))
cut_front (suc w) (x ∷ xs) ys h = ap (λ l. x ∷ l) (cut_front w xs ys (omega (arith, h)))
