-- How rows are written as the text of a sheet. Assumes nothing.
use Rattle.std.specs.Prelude.{◌≡◌, ℕ, List, [], ◌∷◌, ◌++◌, length, ℤ}
use Rattle.std.specs.List.{AllByRecursion}
use Rattle.measures.specs.Values.{RowValue}
use Rattle.text.specs.Numbers.{written}
use Rattle.feeds.specs.Sheets.{line_feed, space, sheet_rows, sheet_end}
use Rattle.feeds.specs.Steps.{clean}

-- a row as a line: its numbers, a space between two, and a line feed after the last
abbrev pub written_row : List ℤ → List ℕ
written_row [] = line_feed ∷ []
written_row (z ∷ []) = written z ++ line_feed ∷ []
written_row (z ∷ y ∷ zs) = written z ++ space ∷ written_row (y ∷ zs)

-- rows as a text, a line each
abbrev pub written_rows : List (List ℤ) → List ℕ
written_rows [] = []
written_rows (r ∷ rs) = written_row r ++ written_rows rs

-- rows of width w whose values are row values
abbrev pub Rows : ℕ → List (List ℤ) → Type 0
Rows w rs = AllByRecursion (λ r. (length r ≡ w) × AllByRecursion RowValue r) rs

-- a sheet that ends clean is how its rows are written, and rows that are written so come back, with a clean end
pub record ExactlyWritten (w : ℕ) (text : List ℕ) : Type 0 where
  pub again : sheet_end w text ≡ clean → written_rows (sheet_rows w text) ≡ text
  pub back : (rs : List (List ℤ)) → Rows w rs → written_rows rs ≡ text → (sheet_rows w text ≡ rs) × (sheet_end w text ≡ clean)
