-- When what a file holds is within the rules, and when bytes are well made. Assumes nothing.
use Rattle.std.specs.Prelude.{◌≡◌, ℕ, ◌+◌, ◌-◌, ◌^◌, ◌<◌, ◌≤◌, Bool, true, ◌&&◌, List, [], ◌∷◌, length, take, drop, replicate, ℤ, pos, Some, None, Option, ◌==◌, count_ones, nat_le, nat_lt}
use Rattle.std.specs.Ordering.{is_lt}
use Rattle.std.specs.List.{AllByRecursion}
use Rattle.measures.specs.Values.{RowValue, most_rows}
use Rattle.measures.specs.Meaning.{Meaning, Possible}
use Rattle.cells.specs.Order.{key_order}
use Rattle.cells.specs.Columns.{Group}
use Rattle.hall_file.specs.declared.shape.ColumnShape.{ColumnShape}
use Rattle.hall_file.specs.Written.{Column, Content, width, file_bytes}

-- the most row fields, and the most columns
abbrev pub most_fields : ℕ
most_fields = 8

abbrev pub most_columns : ℕ
most_columns = 8

-- the most row fields that a key has
abbrev pub most_width : ℕ
most_width = 4

-- a key of w row values, with 0 in the places past them
abbrev pub Key : ℕ → List ℤ → Type 0
Key w ks = (length ks ≡ most_width) × AllByRecursion RowValue (take w ks) × (drop w ks ≡ replicate (most_width - w) (pos 0))

-- whether a key comes after the one before it, if there is one
abbrev pub is_after : Option (List ℤ) → List ℤ → Bool
is_after None key = true
is_after (Some last) key = is_lt (key_order last key)

-- each key comes after the one before it
abbrev pub Ascends : {V : Type 0} → Option (List ℤ) → List (Group V) → Type 0
Ascends last [] = Unit {0}
Ascends last (g ∷ gs) = (is_after last g.key ≡ true) × Ascends (Some g.key) gs

-- the rows of all groups
abbrev pub rows_of : {V : Type 0} → List (Group V) → ℕ
rows_of [] = 0
rows_of (g ∷ gs) = g.rows + rows_of gs

-- a measure that takes no field has no measured field; any other has one below the number of row fields
abbrev pub measured_fits : ℕ → ℕ → Option ℕ → Bool
measured_fits takes fields None = takes == 0
measured_fits takes fields (Some f) = nat_le 1 takes && nat_lt f fields

-- a mask has no bit at the number of row fields or above, and at most four bits
abbrev pub mask_fits : ℕ → ℕ → Bool
mask_fits fields m = nat_lt m (2 ^ fields) && nat_le (count_ones m) most_width

module _ {M V A : Type 0} (meaning : M → Meaning V A) where
  -- a group of a column of this shape
  pub record GoodGroup (s : ColumnShape M) (g : Group V) : Type 0 where
    pub keyed : Key (width s) g.key
    pub some : 1 ≤ g.rows
    pub possible : Possible (meaning s.measure) g.value g.rows

  -- a column's shape in a file with so many row fields
  pub record GoodShape (fields : ℕ) (s : ColumnShape M) : Type 0 where
    pub measured : measured_fits (meaning s.measure).fields fields s.measured ≡ true
    pub mask : mask_fits fields s.mask ≡ true

  -- a column in a file with so many row fields and rows
  pub record GoodColumn (fields rows : ℕ) (c : Column M V) : Type 0 where
    pub shaped : GoodShape fields c.shape
    pub each : AllByRecursion (GoodGroup c.shape) c.groups
    pub ascends : Ascends None c.groups
    pub adds : rows_of c.groups ≡ rows
    pub few : length c.groups < 65536

  -- what a file holds is within the rules
  pub record Good (f : Content M V) : Type 0 where
    pub fields_some : 1 ≤ f.fields
    pub fields_few : f.fields ≤ most_fields
    pub columns_some : 1 ≤ length f.columns
    pub columns_few : length f.columns ≤ most_columns
    pub rows_few : f.rows ≤ most_rows
    pub each : AllByRecursion (GoodColumn f.fields f.rows) f.columns

  -- bytes are well made: some content within the rules is written so
  abbrev pub WellMade : List ℕ → Type 0
  WellMade bs = (f : Content M V) × Good f × (bs ≡ file_bytes meaning f)
