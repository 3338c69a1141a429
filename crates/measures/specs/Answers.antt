-- What an answer says. Assumes nothing.
use Rattle.std.specs.Prelude.{ℕ, List, [], ◌∷◌, ◌++◌, decimal}
use Rattle.std.specs.Fmt.{signed_decimal}
use Rattle.measures.specs.declared.answer.Answer.{Answer}
use Rattle.measures.specs.declared.answer.Answer.TheVariants.{Number, Mean, NoRows}

-- an answer as text, case by case: a number in decimal; a mean as sum, `/` and row count; `-` for no rows
abbrev pub shown : Answer → List ℕ
shown (Number v) = signed_decimal v
shown (Mean sum rows) = signed_decimal sum ++ 47 ∷ decimal rows
shown NoRows = 45 ∷ []
