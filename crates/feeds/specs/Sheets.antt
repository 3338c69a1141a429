-- What the text of a sheet means: its lines, their words, and the rows that they write. Assumes nothing.
use Rattle.std.specs.Prelude.{ℕ, ◌+◌, cond, ◌&&◌, List, [], ◌∷◌, map, length, ℤ, Err, Some, None, Option, ◌==◌, nat_le}
use Rattle.text.specs.Numbers.{number}
use Rattle.feeds.specs.Steps.{End, clean, most_fields}
use Rattle.feeds.specs.declared.fault.Fault.TheVariants.{BadLine}

-- the byte that ends a line
abbrev pub line_feed : ℕ
line_feed = 10

-- the byte between two words
abbrev pub space : ℕ
space = 32

-- a byte put in front of the first of several parts
abbrev pub onto : ℕ → List (List ℕ) → List (List ℕ)
onto c [] = (c ∷ []) ∷ []
onto c (p ∷ ps) = (c ∷ p) ∷ ps

-- the parts of a text between the bytes that are b: one more than there are such bytes
abbrev pub split : ℕ → List ℕ → List (List ℕ)
split b [] = [] ∷ []
split b (c ∷ cs) = cond (c == b) ([] ∷ split b cs) (onto c (split b cs))

-- a line of a text: complete with its line feed, or broken off where the text ends
pub data Line : Type 0 where
  complete : List ℕ → Line
  broken : List ℕ → Line

-- the lines of a part and the parts after its line feed: after the last line feed there is a line only if bytes are left
abbrev pub lines_from : List (List ℕ) → List ℕ → List Line
lines_from [] [] = []
lines_from [] (c ∷ cs) = broken (c ∷ cs) ∷ []
lines_from (next ∷ parts) part = complete part ∷ lines_from parts next

-- the lines of the parts between line feeds
abbrev pub lines_of : List (List ℕ) → List Line
lines_of [] = []
lines_of (part ∷ parts) = lines_from parts part

-- the lines of a text
abbrev pub lines : List ℕ → List Line
lines text = lines_of (split line_feed text)

-- a number in front of others, if all are numbers
abbrev pub before : Option ℤ → Option (List ℤ) → Option (List ℤ)
before None zs = None
before (Some z) None = None
before (Some z) (Some zs) = Some (z ∷ zs)

-- the numbers that words write, if all of them are numbers
abbrev pub numbers : List (List ℕ) → Option (List ℤ)
numbers [] = Some []
numbers (word ∷ words) = before (number word) (numbers words)

-- as many values as a row of width w has, which is eight at most
abbrev pub of_width : ℕ → Option (List ℤ) → Option (List ℤ)
of_width w None = None
of_width w (Some zs) = cond (length zs == w && nat_le w most_fields) (Some zs) None

-- the row of width w that a line writes, if the line is good
abbrev pub row_of : ℕ → Line → Option (List ℤ)
row_of w (complete line) = of_width w (numbers (split space line))
row_of w (broken line) = None

-- what the lines of a sheet of width w write, line by line
abbrev pub sheet : ℕ → List ℕ → List (Option (List ℤ))
sheet w text = map (row_of w) (lines text)

-- the rows before the first bad line
abbrev pub good_rows : List (Option (List ℤ)) → List (List ℤ)
good_rows [] = []
good_rows (None ∷ rs) = []
good_rows (Some r ∷ rs) = r ∷ good_rows rs

-- the end of lines of which the first is line n: at the first bad one, or clean
abbrev pub end_from : ℕ → List (Option (List ℤ)) → End
end_from n [] = clean
end_from n (None ∷ rs) = Err (BadLine n)
end_from n (Some r ∷ rs) = end_from (n + 1) rs

-- the rows of a sheet of width w
abbrev pub sheet_rows : ℕ → List ℕ → List (List ℤ)
sheet_rows w text = good_rows (sheet w text)

-- the end of a sheet of width w; lines count from 1
abbrev pub sheet_end : ℕ → List ℕ → End
sheet_end w text = end_from 1 (sheet w text)
