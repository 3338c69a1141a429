-- Columns with their names. Assumes nothing.
use Rattle.std.proofs.Common.{◌≡◌, ℕ, suc, ◌<◌, List, [], ◌∷◌, ◌++◌, length, set, refl, ap, arith}
use Rattle.plan.specs.Drafts.{Entry, entry_of, paired, column_names}
use Rattle.any_measure.specs.declared.any.AnyMeasure.{AnyMeasure}
use Rattle.plan.specs.declared.plan.Column.{Column}

-- as many columns as names
pub paired_long : (ns : List (List ℕ)) (cs : List (Column AnyMeasure)) → length (paired ns cs) ≡ length ns
paired_long [] cs = refl
paired_long (n ∷ ns) [] = ap suc (paired_long ns [])
paired_long (n ∷ ns) (c ∷ cs) = ap suc (paired_long ns cs)

-- the columns have these names
pub paired_names : (ns : List (List ℕ)) (cs : List (Column AnyMeasure)) → column_names (paired ns cs) ≡ ns
paired_names [] cs = refl
paired_names (n ∷ ns) [] = ap (λ l. n ∷ l) (paired_names ns [])
paired_names (n ∷ ns) (c ∷ cs) = ap (λ l. n ∷ l) (paired_names ns cs)

-- no columns without names
pub paired_none : (ns : List (List ℕ)) (cs : List (Column AnyMeasure)) → ns ≡ [] → paired ns cs ≡ []
paired_none ns cs e = ap (λ l. paired l cs) e

-- one column more
pub paired_more : (ns : List (List ℕ)) (cs : List (Column AnyMeasure)) (w : List ℕ) (c : Column AnyMeasure) → length ns < length cs → paired (ns ++ (w ∷ [])) (set cs (length ns) c) ≡ paired ns cs ++ (entry_of w c ∷ [])
paired_more [] [] w c h = absurd (omega arith)
paired_more [] (d ∷ cs) w c h = refl
paired_more (n ∷ ns) [] w c h = absurd (omega arith)
paired_more (n ∷ ns) (d ∷ cs) w c h = ap (λ l. entry_of n d ∷ l) (paired_more ns cs w c (omega arith))

-- as many names as columns
pub names_long : (es : List Entry) → length (column_names es) ≡ length es
names_long [] = refl
names_long (e ∷ es) = ap suc (names_long es)
