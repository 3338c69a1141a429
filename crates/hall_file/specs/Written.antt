-- What a hall file holds, and the bytes that are written for it. Assumes nothing.
use Rattle.std.specs.Prelude.{ℕ, ◌+◌, ◌*◌, min, List, [], ◌∷◌, ◌++◌, map, length, take, ℤ, Some, None, Option, count_ones}
use Rattle.std.proofs.Common.{of_z}
use Rattle.std.specs.Int.{w32}
use Rattle.std.specs.List.{flat_map}
use Rattle.measures.specs.Bytes.{bytes_of}
use Rattle.measures.specs.Meaning.{Meaning}
use Rattle.cells.specs.Columns.{Group}
use Rattle.hall_file.specs.declared.shape.ColumnShape.{ColumnShape}

-- a column: its shape, and its groups in order; a key has four places, with 0 past the mask's fields
pub record Column (M V : Type 0) : Type 0 where
  pub shape : ColumnShape M
  pub groups : List (Group V)

-- what a file holds: the number of row fields, the row count, and the columns
pub record Content (M V : Type 0) : Type 0 where
  pub fields : ℕ
  pub rows : ℕ
  pub columns : List (Column M V)

-- the shape of a file: the number of row fields, and the shape of each column
pub record Shape (M : Type 0) : Type 0 where
  pub fields : ℕ
  pub columns : List (ColumnShape M)

-- the shape of what a file holds
abbrev pub shape_of : {M V : Type 0} → Content M V → Shape M
shape_of f = record { fields = f.fields; columns = map (λ c. c.shape) f.columns }

-- how many row fields a column's keys have
abbrev pub width : {M : Type 0} → ColumnShape M → ℕ
width s = count_ones s.mask

-- how many bytes a group has in a column with this mask: four for each key value, four for the row count, eight for the value
abbrev pub group_length : ℕ → ℕ
group_length mask = 4 * min (count_ones mask) 4 + 12

-- the mark TLY
abbrev pub mark : List ℕ
mark = 84 ∷ 76 ∷ 89 ∷ []

-- the version of the format
abbrev pub version : ℕ
version = 1

-- a key value: four bytes in two's complement
abbrev pub int_bytes : ℤ → List ℕ
int_bytes z = bytes_of 4 (of_z w32 z)

-- the key values of the mask's fields
abbrev pub key_bytes : ℕ → List ℤ → List ℕ
key_bytes w ks = flat_map int_bytes (take w ks)

-- the measured byte: the measured field, or 255 for none
abbrev pub measured_byte : Option ℕ → ℕ
measured_byte None = 255
measured_byte (Some f) = f

-- the head: mark, version, number of row fields, number of columns, row count
abbrev pub head_bytes : ℕ → ℕ → ℕ → List ℕ
head_bytes fields many rows = mark ++ (bytes_of 2 version ++ (fields ∷ (bytes_of 1 many ++ bytes_of 4 rows)))

module _ {M V A : Type 0} (meaning : M → Meaning V A) where
  -- a group: key, row count, value
  abbrev pub group_bytes : ColumnShape M → Group V → List ℕ
  group_bytes s g = key_bytes (width s) g.key ++ (bytes_of 4 g.rows ++ (meaning s.measure).written g.value)

  -- groups one after another
  abbrev pub groups_bytes : ColumnShape M → List (Group V) → List ℕ
  groups_bytes s gs = flat_map (group_bytes s) gs

  -- a column's shape: kind, measured byte, mask
  abbrev pub shape_bytes : ColumnShape M → List ℕ
  shape_bytes s = (meaning s.measure).kind ∷ measured_byte s.measured ∷ s.mask ∷ []

  -- a column: shape, number of groups, groups
  abbrev pub column_bytes : Column M V → List ℕ
  column_bytes c = shape_bytes c.shape ++ (bytes_of 2 (length c.groups) ++ groups_bytes c.shape c.groups)

  -- columns one after another
  abbrev pub columns_bytes : List (Column M V) → List ℕ
  columns_bytes cs = flat_map column_bytes cs

  -- the whole file
  unfoldable pub file_bytes : Content M V → List ℕ
  file_bytes f = head_bytes f.fields (length f.columns) f.rows ++ columns_bytes f.columns
