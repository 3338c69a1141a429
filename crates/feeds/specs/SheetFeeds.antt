-- What a sheet feed means. Assumes nothing.
use Rattle.std.specs.Prelude.{◌≡◌, ℕ, ◌-◌, ◌^◌, ◌<◌, min, List, ◌∷◌, length, ℤ, Ok, Err, Some, None, Option}
use Rattle.std.specs.Borrow.{Bor}
use Rattle.feeds.specs.Sheets.{sheet, sheet_rows, end_from}
use Rattle.feeds.specs.Steps.{End, cut}
use Rattle.feeds.specs.declared.fault.Fault.TheVariants.{BadLine, RefusedRow}
use Rattle.feeds.specs.declared.sheet.SheetFeed.{SheetFeed}

-- the greatest line number that the code holds; no text has so many lines
abbrev pub last_line : ℕ
last_line = 2 ^ 64 - 1

-- an end whose line number the code holds
abbrev pub held : End → End
held (Ok u) = Ok u
held (Err (BadLine line)) = Err (BadLine (min line last_line))
held (Err (RefusedRow refusal row)) = Err (RefusedRow refusal row)

-- the rows that a sheet feed has yet to give
abbrev pub sheet_coming : SheetFeed → List (List ℤ)
sheet_coming f = sheet_rows f.width.fields f.rest.now

-- how a sheet feed ends after them
abbrev pub sheet_ending : SheetFeed → End
sheet_ending f = held (end_from f.line (sheet f.width.fields f.rest.now))

-- what the reading of the first line of a text says: the line is bad, or it writes a row, and the rest of the text follows it
abbrev pub LineRead : ℕ → List ℕ → Option (List ℤ × Bor (List ℕ)) → Type 0
LineRead w text None = 0 < length text → (more : List (Option (List ℤ))) × (sheet w text ≡ None ∷ more)
LineRead w text (Some l) = sheet w text ≡ Some (cut w l.0) ∷ sheet w l.1.now
