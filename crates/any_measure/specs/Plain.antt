-- The plain aggregates of a list of whole numbers, said without any join. Assumes nothing.
use Rattle.std.specs.Prelude.{Bool, cond, ◌&&◌, List, [], ◌∷◌, length, ℤ, pos, ◌+ℤ◌, ◌≤ℤ◌, Some, None, fold, Option, nat_le}
use Rattle.std.specs.Int.{int_min, int_max}
use Rattle.std.specs.List.{ContainsAt as Has, AllByRecursion}
use Rattle.measures.specs.Values.{all_row_values, most_rows}
use Rattle.measures.specs.declared.answer.Answer.{Answer}
use Rattle.measures.specs.declared.answer.Answer.TheVariants.{Number, Mean, NoRows}
use Rattle.any_measure.specs.declared.any.AnyMeasure.{AnyMeasure}
use Rattle.any_measure.specs.declared.any.AnyMeasure.TheVariants.{Count as Counts, Sum as Sums, Least as Leasts, Greatest as Greatests, Mean as Means}

-- the sum
abbrev pub sum_of : List ℤ → ℤ
sum_of [] = pos 0
sum_of (v ∷ vs) = v +ℤ sum_of vs

-- the least of v and vs: the smaller of two numbers, all along
abbrev pub least_of : ℤ → List ℤ → ℤ
least_of v vs = fold int_min v vs

-- the greatest of v and vs
abbrev pub greatest_of : ℤ → List ℤ → ℤ
greatest_of v vs = fold int_max v vs

-- the answer of each kind over a list of measured values
abbrev pub plain : AnyMeasure → List ℤ → Answer
plain Counts vs = Number (pos (length vs))
plain Sums vs = Number (sum_of vs)
plain Leasts [] = NoRows
plain Leasts (v ∷ vs) = Number (least_of v vs)
plain Greatests [] = NoRows
plain Greatests (v ∷ vs) = Number (greatest_of v vs)
plain Means [] = NoRows
plain Means (v ∷ vs) = Mean (sum_of (v ∷ vs)) (length (v ∷ vs))

-- they are at most 1,000,000 row values
abbrev pub are_measured_rows : List ℤ → Bool
are_measured_rows vs = nat_le (length vs) most_rows && all_row_values vs

-- the plain aggregate of at most 1,000,000 row values; nothing for any other list
abbrev pub plain_of_rows : AnyMeasure → List ℤ → Option Answer
plain_of_rows k vs = cond (are_measured_rows vs) (Some (plain k vs)) None

-- m is the least of a list: it is in it, and nothing in it is smaller
pub record IsLeast (vs : List ℤ) (m : ℤ) : Type 0 where
  pub in_it : Has vs m
  pub none_smaller : AllByRecursion (λ v. m ≤ℤ v) vs

-- m is the greatest of a list: it is in it, and nothing in it is larger
pub record IsGreatest (vs : List ℤ) (m : ℤ) : Type 0 where
  pub in_it : Has vs m
  pub none_larger : AllByRecursion (λ v. v ≤ℤ m) vs
