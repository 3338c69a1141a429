-- What each refusal publishes. Assumes nothing.
use Rattle.std.specs.Prelude.{ℕ, List, [], ◌∷◌, ◌++◌, codes, decimal}
use Rattle.text.specs.declared.refusal.Refusal.{Refusal}
use Rattle.text.specs.declared.refusal.Refusal.TheVariants.{PlanForm, NameTaken, UnknownField, PlanLimit, SheetLine, NotARow, FileForm, FileShape, TooManyRows, NoSuchColumn, NotABaseRow, BufferTooShort, FeedRange}

-- what is told of a refusal: its number and its place (line and word, line alone, or nothing)
pub record Published : Type 0 where
  pub number : ℕ
  pub place : List ℕ

-- the number and the place of every refusal
abbrev pub published : Refusal → Published
published (PlanForm line word) = record { number = 1; place = line ∷ word ∷ [] }
published (NameTaken line word) = record { number = 2; place = line ∷ word ∷ [] }
published (UnknownField line word) = record { number = 3; place = line ∷ word ∷ [] }
published (PlanLimit line word) = record { number = 4; place = line ∷ word ∷ [] }
published (SheetLine line) = record { number = 5; place = line ∷ [] }
published NotARow = record { number = 6; place = [] }
published FileForm = record { number = 7; place = [] }
published FileShape = record { number = 8; place = [] }
published TooManyRows = record { number = 9; place = [] }
published NoSuchColumn = record { number = 11; place = [] }
published NotABaseRow = record { number = 12; place = [] }
published BufferTooShort = record { number = 14; place = [] }
published FeedRange = record { number = 16; place = [] }

-- a place as text: line and word, the line alone, or nothing
abbrev pub place_text : List ℕ → List ℕ
place_text [] = []
place_text (line ∷ []) = codes ", line " ++ decimal line
place_text (line ∷ word ∷ _) = codes ", line " ++ (decimal line ++ (codes ", word " ++ decimal word))

-- a refusal as text, as in `number 3, line 4, word 6`
abbrev pub refusal_text : Refusal → List ℕ
refusal_text r = codes "number " ++ (decimal (published r).number ++ place_text (published r).place)
