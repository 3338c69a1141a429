-- Readers of the parts of a hall file, as the code takes them. Assumes nothing.
use Rattle.std.specs.Prelude.{ℕ, zero, suc, ◌-◌, Bool, cond, ◌&&◌, leb, List, ◌∷◌, ◌++◌, length, replicate, ℤ, pos, Some, None, Option, ◌==◌, nat_eq, nat_le, nat_lt}
use Rattle.std.proofs.Common.{to_z}
use Rattle.std.specs.Int.{w32}
use Rattle.measures.specs.Values.{is_row_value, most_rows}
use Rattle.measures.specs.Bytes.{bytes_of}
use Rattle.measures.specs.Meaning.{Meaning}
use Rattle.cells.specs.Columns.{Group}
use Rattle.readers.specs.Readers.{Reader, seq, via, only_if, times, constant, number, byte, chosen}
use Rattle.hall_file.specs.declared.shape.ColumnShape.{ColumnShape}
use Rattle.hall_file.specs.declared.head.Head.{Head}
use Rattle.hall_file.specs.Written.{Column, Content, width, mark, version}
use Rattle.hall_file.specs.Rules.{is_after, mask_fits, most_fields, most_columns, most_width}

-- a row value
unfoldable pub int : Reader ℤ
int = only_if is_row_value (via (to_z w32) (number 4))

-- values in four places
abbrev pub padded : List ℤ → List ℤ
padded ks = ks ++ replicate (most_width - length ks) (pos 0)

-- a key of w fields
unfoldable pub key : ℕ → Reader (List ℤ)
key w = via padded (times w int)

-- whether so many rows are some, and no more than are left
abbrev pub fits : ℕ → ℕ → Bool
fits left n = nat_le 1 n && nat_le n left

-- a group's row count, of the rows that are left
unfoldable pub rows : ℕ → Reader ℕ
rows left = only_if (fits left) (number 4)

-- a number from 1 to the most
abbrev pub one_to : ℕ → ℕ → Bool
one_to most n = nat_le 1 n && nat_le n most

-- the head
unfoldable pub head : Reader Head
head = via (λ q. record { fields = q.1.0; columns = q.1.1.0; rows = q.1.1.1 }) (seq (constant (mark ++ bytes_of 2 version)) (λ _. seq (only_if (one_to most_fields) byte) (λ _. seq (only_if (one_to most_columns) (number 1)) (λ _. only_if (λ n. leb n most_rows) (number 4)))))

-- what the measured byte says, for a measure that takes so many fields
abbrev pub measured_of : ℕ → ℕ → ℕ → Option (Option ℕ)
measured_of takes fields b = cond (takes == 0) (cond (b == 255) (Some None) None) (cond (nat_lt b fields) (Some (Some b)) None)

-- a value, where it is possible for so many rows
abbrev pub if_possible : {V A : Type 0} → Meaning V A → ℕ → Option V → Option V
if_possible m n None = None
if_possible m n (Some v) = cond (m.possible v n) (Some v) None

-- the value of so many rows
unfoldable pub value : {V A : Type 0} → Meaning V A → ℕ → Reader V
value m n = chosen (λ bs. if_possible m n (m.reads bs)) (times 8 byte)

module _ {M V A : Type 0} (meaning : M → Meaning V A) where
  -- a group of no more rows than are left
  unfoldable pub group : ColumnShape M → ℕ → Reader (Group V)
  group s left = via (λ q. record { key = q.0; rows = q.1.0; value = q.1.1 }) (seq (key (width s)) (λ _. seq (rows left) (value (meaning s.measure))))

  -- c groups whose keys ascend from the last key on, with just the rows that are left
  unfoldable pub groups : ColumnShape M → ℕ → Option (List ℤ) → ℕ → Reader (List (Group V))
  groups s zero last left bs = only_if (λ _. nat_eq left 0) (times 0 (group s left)) bs
  groups s (suc c) last left bs = via (λ q. q.0 ∷ q.1) (seq (only_if (λ g. is_after last g.key) (group s left)) (λ g. groups s c (Some g.key) (left - g.rows))) bs

  module _ (found : ℕ → Option M) where
    -- a column's shape in a file with so many row fields
    unfoldable pub shape : ℕ → Reader (ColumnShape M)
    shape fields = via (λ q. record { measure = q.0; measured = q.1.0; mask = q.1.1 }) (seq (chosen found byte) (λ m. seq (chosen (measured_of (meaning m).fields fields) byte) (λ _. only_if (mask_fits fields) byte)))

    -- a column in a file with so many row fields and rows
    unfoldable pub column : ℕ → ℕ → Reader (Column M V)
    column fields all = via (λ q. record { shape = q.0; groups = q.1.1 }) (seq (shape fields) (λ s. seq (number 2) (λ c. groups s c None all)))

    -- the columns after a head
    unfoldable pub columns : Head → Reader (List (Column M V))
    columns h = times h.columns (column h.fields h.rows)

    -- the whole file
    unfoldable pub file : Reader (Content M V)
    file = via (λ q. record { fields = q.0.fields; rows = q.0.rows; columns = q.1 }) (seq head columns)
