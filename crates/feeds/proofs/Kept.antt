-- The value of a field in a row cut to a width. Assumes nothing.
use Rattle.std.proofs.Common.{◌≡◌, ℕ, zero, suc, ◌<◌, ◌≤◌, false, ltb, List, [], ◌∷◌, length, get_or, ℤ, pos, sym, refl, ap, ◌∙◌, arith}
use Rattle.std.proofs.lemmas.Bool.{lt-ltb, le-ltb, cond-true, cond-false}
use Rattle.feeds.specs.Sections.{hits, same_number}
use Rattle.feeds.specs.Steps.{cut}
use Rattle.feeds.proofs.Cuts.{length_cut}

-- a value within the width stays where it is
pub getD_cut : (w : ℕ) (xs : List ℤ) (j : ℕ) → j < w → get_or (cut w xs) j (pos 0) ≡ get_or xs j (pos 0)
getD_cut zero xs j h = absurd (omega (arith, h))
getD_cut (suc w) [] zero h = refl
getD_cut (suc w) [] (suc j) h = getD_cut w [] j (omega (arith, h)) ∙ refl
getD_cut (suc w) (x ∷ xs) zero h = refl
getD_cut (suc w) (x ∷ xs) (suc j) h = getD_cut w xs j (omega (arith, h))

-- a field below the width
pub hits_within : (j w : ℕ) (v : ℤ) (xs : List ℤ) → j < w → same_number (get_or xs j (pos 0)) v ≡ hits j v (cut w xs)
hits_within j w v xs h =
    ap (λ x. same_number x v) (sym (getD_cut w xs j h)) ∙ sym (cond-true (ltb j (length (cut w xs))) _ _ (lt-ltb j _ (omega (arith, length_cut w xs, h))))

-- a field past the width
pub hits_past : (j w : ℕ) (v : ℤ) (xs : List ℤ) → w ≤ j → false ≡ hits j v (cut w xs)
hits_past j w v xs h = sym (cond-false (ltb j (length (cut w xs))) _ _ (le-ltb j _ (omega (arith, length_cut w xs, h))))
