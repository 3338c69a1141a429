-- Lists of row values. Assumes nothing.
use Rattle.std.proofs.Common.{◌≡◌, ℕ, ◌+◌, ◌<◌, true, ◌&&◌, List, [], ◌∷◌, length, get_or, drop, ℤ, pos, nat_abs, ap, add-one, drop-cons}
use Rattle.std.proofs.lemmas.Bool.{leb-true, and_parts}
use Rattle.std.specs.List.{AllByRecursion}
use Rattle.measures.specs.Values.{RowValue, is_row_value, all_row_values, greatest_value}

-- each value of a list is a row value where the test says so
pub all_row_values_true : (vs : List ℤ) → all_row_values vs ≡ true → AllByRecursion RowValue vs
all_row_values_true [] p = tt
all_row_values_true (v ∷ vs) p = let (a, b) = and_parts _ _ p in (leb-true (nat_abs v) greatest_value a, all_row_values_true vs b)

-- the rest of a list decides, one value at a time
pub all_row_values_drop : (vs : List ℤ) (i : ℕ) → i < length vs → all_row_values (drop i vs) ≡ (is_row_value (get_or vs i (pos 0)) && all_row_values (drop (i + 1) vs))
all_row_values_drop vs i h = rw (add-one i) (ap all_row_values (drop-cons vs i (pos 0) h))
