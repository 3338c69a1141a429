-- What the check of a file answers, and what views of checked bytes show. Assumes nothing.
use Rattle.std.specs.Prelude.{◌≡◌, ℕ, ◌+◌, ◌≤◌, ◌⊎◌, List, [], ◌∷◌, ◌++◌, length, Some, None, Ok, Err, Option, Result, ◌≢◌}
use Rattle.std.specs.Borrow.{Bor}
use Rattle.std.specs.List.{AllByRecursion}
use Rattle.text.specs.declared.refusal.Refusal.{Refusal}
use Rattle.text.specs.declared.refusal.Refusal.TheVariants.{FileForm, FileShape}
use Rattle.measures.specs.Values.{most_rows}
use Rattle.measures.specs.Meaning.{Meaning}
use Rattle.cells.specs.declared.cell.Cell.{Cell}
use Rattle.cells.specs.Columns.{Group, cell_of}
use Rattle.hall_file.specs.declared.shape.ColumnShape.{ColumnShape}
use Rattle.hall_file.specs.declared.view.View.{View}
use Rattle.hall_file.specs.declared.view.Columns.{Columns}
use Rattle.hall_file.specs.declared.view.Groups.{Groups}
use Rattle.hall_file.specs.Written.{Column, Content, Shape, shape_of, width, file_bytes, columns_bytes, groups_bytes}
use Rattle.hall_file.specs.Rules.{GoodGroup, GoodColumn, Good, WellMade}

module _ {M V A : Type 0} (meaning : M → Meaning V A) where
  -- a view shows what a file holds
  pub record Shows (f : Content M V) (v : View) : Type 0 where
    pub fields : v.head.fields ≡ f.fields
    pub columns : v.head.columns ≡ length f.columns
    pub rows : v.head.rows ≡ f.rows
    pub body : v.body.now ≡ columns_bytes meaning f.columns

  -- the file at the front of bytes, as a view, and the bytes after it; nothing where no well-made file begins
  abbrev pub FirstFile : List ℕ → Option (View × Bor (List ℕ)) → Type 0
  FirstFile bs None = (f : Content M V) (rest : List ℕ) → Good meaning f → bs ≢ file_bytes meaning f ++ rest
  FirstFile bs (Some q) = (f : Content M V) × Good meaning f × (bs ≡ file_bytes meaning f ++ q.1.now) × Shows f q.0

  -- well-made bytes give a view of what they hold; all others are refused
  abbrev pub Checked : List ℕ → Result View Refusal → Type 0
  Checked bs (Ok v) = (f : Content M V) × Good meaning f × (bs ≡ file_bytes meaning f) × Shows f v
  Checked bs (Err e) = (e ≡ FileForm) × (WellMade meaning bs → ⊥)

  -- well-made bytes of this shape give a view; bytes that are not well made are refused first, then those of another shape
  abbrev pub CheckedShape : Shape M → List ℕ → Result View Refusal → Type 0
  CheckedShape s bs (Ok v) = (f : Content M V) × Good meaning f × (bs ≡ file_bytes meaning f) × Shows f v × (shape_of f ≡ s)
  CheckedShape s bs (Err e) = ((e ≡ FileForm) × (WellMade meaning bs → ⊥)) ⊎ ((e ≡ FileShape) × ((f : Content M V) × Good meaning f × (bs ≡ file_bytes meaning f) × (shape_of f ≢ s)))

  -- a view of columns, from one column on, shows these
  pub record ShowsColumns (cs : List (Column M V)) (v : Columns) : Type 0 where
    pub fields_few : v.head.fields ≤ 8
    pub rows_few : v.head.rows ≤ most_rows
    pub many : v.number + length cs ≡ v.head.columns
    pub each : AllByRecursion (GoodColumn meaning v.head.fields v.head.rows) cs
    pub bytes : v.bytes.now ≡ columns_bytes meaning cs

  -- a view of groups of one column, from one group on, shows these
  pub record ShowsGroups (s : ColumnShape M) (gs : List (Group V)) (v : Groups M) : Type 0 where
    pub shape : v.shape ≡ s
    pub wide : width s ≤ 4
    pub many : v.left ≡ length gs
    pub few : AllByRecursion (λ g. g.rows ≤ most_rows) gs
    pub each : AllByRecursion (GoodGroup meaning s) gs
    pub bytes : v.bytes.now ≡ groups_bytes meaning s gs

  -- the first of some columns and the others; nothing where there is none
  abbrev pub FirstColumn : List (Column M V) → ℕ → Option (Groups M × Columns) → Type 0
  FirstColumn cs number None = cs ≡ []
  FirstColumn cs number (Some q) = (c : Column M V) × (more : List (Column M V)) × (cs ≡ c ∷ more) × ShowsGroups c.shape c.groups q.0 × (q.0.number ≡ number) × ShowsColumns more q.1 × (q.1.number ≡ number + 1)

  -- the first of some groups as a cell, and the others; nothing where there is none
  abbrev pub FirstGroup : ColumnShape M → List (Group V) → ℕ → Option (Cell V × Groups M) → Type 0
  FirstGroup s gs number None = gs ≡ []
  FirstGroup s gs number (Some q) = (g : Group V) × (more : List (Group V)) × (gs ≡ g ∷ more) × (q.0 ≡ cell_of number g) × ShowsGroups s more q.1 × (q.1.number ≡ number)
