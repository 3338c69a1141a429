-- What a condition says of a row and a base row. Assumes nothing.
use Rattle.std.specs.Prelude.{Bool, true, not, ◌&&◌, ◌||◌, List, [], ◌∷◌, reverse, ℤ, pos, ◌+ℤ◌, ◌-ℤ◌, Some, None, Option, int_le, int_lt, slice_index_or}
use Rattle.words.specs.declared.signs.Sign.{Sign}
use Rattle.words.specs.declared.signs.Sign.TheVariants.{Equal, Unequal, Less, AtMost, Greater, AtLeast}
use Rattle.conditions.specs.declared.condition.Shift.{Shift}
use Rattle.conditions.specs.declared.condition.Shift.TheVariants.{Bare, Plus, Minus}
use Rattle.conditions.specs.declared.condition.Operand.{Operand}
use Rattle.conditions.specs.declared.condition.Operand.TheVariants.{Number, Row, Base}
use Rattle.conditions.specs.declared.condition.Comparison.{Comparison}
use Rattle.conditions.specs.declared.condition.Step.{Step}
use Rattle.arrayvec.specs.ArrayVec.{ArrayVec}
use Rattle.conditions.specs.Trees.{Tree, compare, denial, bracketed, both, either}
use Rattle.conditions.specs.Postfix.{work}

-- a value with what is added to it
abbrev pub moved : ℤ → Shift → ℤ
moved z Bare = z
moved z (Plus n) = z +ℤ pos n
moved z (Minus n) = z -ℤ pos n

-- an operand's value; a field that a row lacks reads as 0
abbrev pub amount : List ℤ → List ℤ → Operand → ℤ
amount row base (Number z) = z
amount row base (Row f by) = moved (slice_index_or row f (pos 0)) by
amount row base (Base f by) = moved (slice_index_or base f (pos 0)) by

-- two values stand as a sign says
abbrev pub compares : Sign → ℤ → ℤ → Bool
compares Equal a b = int_le a b && int_le b a
compares Unequal a b = not (int_le a b && int_le b a)
compares Less a b = int_lt a b
compares AtMost a b = int_le a b
compares Greater a b = int_lt b a
compares AtLeast a b = int_le b a

-- a comparison is true of a row and a base row
abbrev pub compared : List ℤ → List ℤ → Comparison → Bool
compared row base k = compares k.sign (amount row base k.left) (amount row base k.right)

-- a condition is true of a row and a base row
abbrev pub meets : Tree → List ℤ → List ℤ → Bool
meets (compare k) row base = compared row base k
meets (denial t) row base = not (meets t row base)
meets (bracketed t) row base = meets t row base
meets (both t u) row base = meets t row base && meets u row base
meets (either t u) row base = meets t row base || meets u row base

-- where no condition is given, every row meets it
abbrev pub says : Option Tree → List ℤ → List ℤ → Bool
says None row base = true
says (Some t) row base = meets t row base

-- a bracket leaves a truth as it is
abbrev pub as_is : Bool → Bool
as_is b = b

-- what a step does to a stack of truths
abbrev pub judge : List ℤ → List ℤ → Step → List Bool → List Bool
judge row base = work (record { leaf = compared row base; deny = not; wrap = as_is; meet = ◌&&◌; join = ◌||◌ })

-- the truths on the stack, the last first
abbrev pub stacked : ArrayVec Bool → List Bool
stacked t = reverse t.items

-- the last of them; with none, true
abbrev pub verdict : List Bool → Bool
verdict [] = true
verdict (b ∷ bs) = b
