-- The content that cells make, and what writing it answers. Assumes nothing.
use Rattle.std.specs.Prelude.{◌≡◌, ℕ, suc, ◌+◌, ◌<◌, ◌≤◌, cond, List, [], ◌∷◌, ◌++◌, length, drop, Some, None, Ok, Err, Option, Result, ◌==◌}
use Rattle.text.specs.declared.refusal.Refusal.{Refusal}
use Rattle.text.specs.declared.refusal.Refusal.TheVariants.{BufferTooShort}
use Rattle.measures.specs.Meaning.{Meaning}
use Rattle.cells.specs.declared.cell.Cell.{Cell}
use Rattle.cells.specs.Columns.{group, column}
use Rattle.hall_file.specs.declared.shape.ColumnShape.{ColumnShape}
use Rattle.hall_file.specs.Written.{Column, Content, group_bytes}

-- the columns from number k on, each with its shape and the groups of its cells
abbrev pub laid : {M V : Type 0} → ℕ → List (ColumnShape M) → List (Cell V) → List (Column M V)
laid k [] cells = []
laid k (s ∷ ss) cells = record { shape = s; groups = column k cells } ∷ laid (suc k) ss cells

-- what a file of these cells holds
abbrev pub content_of : {M V : Type 0} → ℕ → ℕ → List (ColumnShape M) → List (Cell V) → Content M V
content_of fields rows shapes cells = record { fields = fields; rows = rows; columns = laid 0 shapes cells }

-- what a cell adds to the bytes of column k
abbrev pub cell_bytes : {M V A : Type 0} → (M → Meaning V A) → ℕ → ColumnShape M → Cell V → List ℕ
cell_bytes meaning k s c = cond (c.id.column == k) (group_bytes meaning s (group c)) []

-- a length, if there is room for it
abbrev pub Within : ℕ → ℕ → Option ℕ → Type 0
Within room n None = room < n
Within room n (Some m) = (m ≡ n) × (n ≤ room)

-- what is left of some room after so many bytes, if they fit
abbrev pub LeftOf : ℕ → ℕ → Option ℕ → Type 0
LeftOf room n None = room < n
LeftOf room n (Some left) = left + n ≡ room

-- bytes written to the front of a buffer: the answer is their length, and the buffer past it stays; a buffer that is too short is refused and stays whole
abbrev pub WrittenInto : List ℕ → List ℕ → List ℕ → Result ℕ Refusal → Type 0
WrittenInto bs old new (Ok n) = (n ≡ length bs) × (n ≤ length old) × (new ≡ bs ++ drop n old)
WrittenInto bs old new (Err e) = (e ≡ BufferTooShort) × (length old < length bs) × (new ≡ old)
