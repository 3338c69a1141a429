-- Rows joined in any grouping answer the plain aggregate: the statement. Assumes nothing.
use Rattle.std.specs.Prelude.{◌≡◌, ℕ, ◌+◌, ◌^◌, ◌<◌, ◌≤◌, List, [], ◌∷◌, ◌++◌, length, ℤ, ◌+ℤ◌, FitsSigned}
use Rattle.std.specs.Int.{w64}
use Rattle.std.specs.List.{AllByRecursion}
use Rattle.measures.specs.Values.{RowValue, most_rows}
use Rattle.measures.specs.Meaning.{Meaning, Possible}
use Rattle.measures.specs.Kinds.{count, sum, least, greatest, mean, counted, total}
use Rattle.any_measure.specs.Chosen.{chosen}
use Rattle.any_measure.specs.Plain.{plain, least_of, greatest_of, IsLeast, IsGreatest}
use Rattle.measures.specs.declared.answer.Answer.{Answer}
use Rattle.any_measure.specs.declared.any.AnyMeasure.{AnyMeasure}
use Rattle.any_measure.specs.declared.any.AnyMeasure.TheVariants.{Count as Counts, Sum as Sums, Least as Leasts, Greatest as Greatests, Mean as Means}

-- a way of joining rows, each by its measured value: none, one row, or two such ways joined
pub data Grouping : Type 0 where
  nothing : Grouping
  row : ℤ → Grouping
  both : Grouping → Grouping → Grouping

-- the measured values of its rows
abbrev pub values : Grouping → List ℤ
values nothing = []
values (row v) = v ∷ []
values (both g h) = values g ++ values h

-- the value that a measure has after so joining (a count does not look at v)
abbrev pub joined : {V A : Type 0} → Meaning V A → Grouping → V
joined m nothing = m.none
joined m (row v) = m.one (v ∷ [])
joined m (both g h) = m.join (joined m g) (joined m h)

-- joined in any grouping, at most 1,000,000 row values answer their plain aggregate
abbrev pub AnswersPlainly : {V : Type 0} → Meaning V Answer → (List ℤ → Answer) → Type 0
AnswersPlainly m aggregate = (g : Grouping) → AllByRecursion RowValue (values g) → length (values g) ≤ most_rows → m.answer (joined m g) (length (values g)) ≡ aggregate (values g)

-- The five kinds are what their names say: each answers its plain aggregate, by itself and where it
-- is picked at run time; least and greatest are what they should be; and a join that cannot hold its
-- sum never passes for one of at most 1,000,000 rows.
pub record FiveKinds : Type 0 where
  pub count_is_plain : AnswersPlainly count (plain Counts)
  pub sum_is_plain : AnswersPlainly sum (plain Sums)
  pub least_is_plain : AnswersPlainly least (plain Leasts)
  pub greatest_is_plain : AnswersPlainly greatest (plain Greatests)
  pub mean_is_plain : AnswersPlainly mean (plain Means)
  pub chosen_is_plain : (k : AnyMeasure) → AnswersPlainly (chosen k) (plain k)
  pub least_is_least : (v : ℤ) (vs : List ℤ) → IsLeast (v ∷ vs) (least_of v vs)
  pub greatest_is_greatest : (v : ℤ) (vs : List ℤ) → IsGreatest (v ∷ vs) (greatest_of v vs)
  pub count_never_wraps : (a b n : ℕ) → a < 2 ^ 32 → b < 2 ^ 32 → n ≤ most_rows → Possible count (counted a b) n → counted a b ≡ a + b
  pub sum_never_wraps : (a b : ℤ) (n : ℕ) → FitsSigned w64 a → FitsSigned w64 b → n ≤ most_rows → Possible sum (total a b) n → total a b ≡ a +ℤ b
