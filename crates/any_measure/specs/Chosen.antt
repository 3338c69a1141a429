-- The five kinds over one type of values, chosen at run time. Assumes nothing.
use Rattle.std.specs.Prelude.{ℕ, cond, ℤ, Some, None, Option, ◌==◌}
use Rattle.measures.specs.Meaning.{Meaning}
use Rattle.measures.specs.Kinds.{count, sum, least, greatest, mean}
use Rattle.any_measure.specs.Lifted.{lifted}
use Rattle.measures.specs.declared.answer.Answer.{Answer}
use Rattle.measures.specs.declared.answer.Answer.TheVariants.{NoRows}
use Rattle.any_measure.specs.declared.any.AnyMeasure.{AnyMeasure}
use Rattle.any_measure.specs.declared.any.AnyMeasure.TheVariants.{Count, Sum, Least, Greatest, Mean}
use Rattle.any_measure.specs.declared.any.AnyValue.{AnyValue}
use Rattle.any_measure.specs.declared.any.AnyValue.TheVariants.{Rows, Total, Extreme}

-- the value of a count
abbrev pub rows_in : AnyValue → Option ℕ
rows_in (Rows n) = Some n
rows_in (Total a) = None
rows_in (Extreme a) = None

-- the value of a sum or a mean
abbrev pub total_in : AnyValue → Option ℤ
total_in (Rows n) = None
total_in (Total a) = Some a
total_in (Extreme a) = None

-- the value of a least or a greatest
abbrev pub extreme_in : AnyValue → Option (Option ℤ)
extreme_in (Rows n) = None
extreme_in (Total a) = None
extreme_in (Extreme a) = Some a

-- each choice is the kind of its name
abbrev pub chosen : AnyMeasure → Meaning AnyValue Answer
chosen Count = lifted Rows rows_in NoRows count
chosen Sum = lifted Total total_in NoRows sum
chosen Least = lifted Extreme extreme_in NoRows least
chosen Greatest = lifted Extreme extreme_in NoRows greatest
chosen Mean = lifted Total total_in NoRows mean

-- the choice by its kind byte
abbrev pub by_kind : ℕ → Option AnyMeasure
by_kind k = cond (k == 1) (Some Count) (cond (k == 2) (Some Sum) (cond (k == 3) (Some Least) (cond (k == 4) (Some Greatest) (cond (k == 5) (Some Mean) None))))
