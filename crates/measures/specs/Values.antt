-- The values of a row. Assumes nothing.
use Rattle.std.specs.Prelude.{ℕ, ◌≤◌, Bool, true, ◌&&◌, List, [], ◌∷◌, ℤ, nat_le, unsigned_abs}

-- the greatest row value; the least is as far below zero
abbrev pub greatest_value : ℕ
greatest_value = 999999999

-- the most rows that are ever taken together
abbrev pub most_rows : ℕ
most_rows = 1000000

-- z can stand in a field of a row: a whole number from −999,999,999 to 999,999,999
abbrev pub RowValue : ℤ → Type 0
RowValue z = unsigned_abs z ≤ greatest_value

-- the same as a test
abbrev pub is_row_value : ℤ → Bool
is_row_value z = nat_le (unsigned_abs z) greatest_value

-- each is a row value
abbrev pub all_row_values : List ℤ → Bool
all_row_values [] = true
all_row_values (v ∷ vs) = is_row_value v && all_row_values vs
