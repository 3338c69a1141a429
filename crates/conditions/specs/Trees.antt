-- What a condition is. Assumes nothing.
use Rattle.std.specs.Prelude.{◌≡◌, ℕ, ◌+◌, Bool, false, ◌||◌, ◌==◌}
use Rattle.conditions.specs.declared.condition.Operand.{Operand}
use Rattle.conditions.specs.declared.condition.Operand.TheVariants.{Number, Row, Base}
use Rattle.conditions.specs.declared.condition.Comparison.{Comparison}

-- a condition as it is written: a comparison, `not`, a bracket, and two joined by `and` or `or`
pub data Tree : Type 0 where
  compare : Comparison → Tree
  denial : Tree → Tree
  bracketed : Tree → Tree
  both : Tree → Tree → Tree
  either : Tree → Tree → Tree

-- an operand reads the row field f
abbrev pub operand_reads : ℕ → Operand → Bool
operand_reads f (Number z) = false
operand_reads f (Row g by) = g == f
operand_reads f (Base g by) = false

-- a condition reads the row field f
abbrev pub reads : ℕ → Tree → Bool
reads f (compare k) = operand_reads f k.left || operand_reads f k.right
reads f (denial t) = reads f t
reads f (bracketed t) = reads f t
reads f (both t u) = reads f t || reads f u
reads f (either t u) = reads f t || reads f u

-- how many comparisons a condition has
abbrev pub comparisons : Tree → ℕ
comparisons (compare k) = 1
comparisons (denial t) = comparisons t
comparisons (bracketed t) = comparisons t
comparisons (both t u) = comparisons t + comparisons u
comparisons (either t u) = comparisons t + comparisons u

-- `not` and brackets nest at most d deep, each counting one level
abbrev pub Within : ℕ → Tree → Type 0
Within d (compare k) = Unit {0}
Within d (denial t) = (e : ℕ) × (d ≡ e + 1) × Within e t
Within d (bracketed t) = (e : ℕ) × (d ≡ e + 1) × Within e t
Within d (both t u) = Within d t × Within d u
Within d (either t u) = Within d t × Within d u
