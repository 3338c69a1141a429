-- What an answer of a feed says, and what rows that come one after another give. Assumes nothing.
use Rattle.std.specs.Prelude.{ℕ, zero, suc, List, [], ◌∷◌, ℤ, pos, Ok, Err, Result, Some, None, Option}
use Rattle.feeds.specs.declared.fault.Fault.{Fault}

-- the most values that a row has
abbrev pub most_fields : ℕ
most_fields = 8

-- the first w values of a record, with 0 for each that it lacks
abbrev pub cut : ℕ → List ℤ → List ℤ
cut zero xs = []
cut (suc w) [] = pos 0 ∷ cut w []
cut (suc w) (x ∷ xs) = x ∷ cut w xs

-- how a feed ends: clean, or at a fault
abbrev pub End : Type 0
End = Result (Unit {0}) Fault

-- the clean end
abbrev pub clean : End
clean = Ok tt

-- what an answer says: a row of the feed's width, or the end
abbrev pub Told : Type 0
Told = Result (Option (List ℤ)) Fault

-- a row
abbrev pub row : List ℤ → Told
row r = Ok (Some r)

-- the end
abbrev pub ended : End → Told
ended (Ok u) = Ok None
ended (Err fault) = Err fault

-- what the answer of a feed of width w says
abbrev pub told : ℕ → Result (Option (List ℤ)) Fault → Told
told w (Ok (Some xs)) = row (cut w xs)
told w (Ok None) = ended clean
told w (Err fault) = ended (Err fault)

-- the first of the rows, or the end after none
abbrev pub first : List (List ℤ) → End → Told
first [] e = ended e
first (r ∷ rs) e = row r

-- the rows after the first
abbrev pub rest : List (List ℤ) → List (List ℤ)
rest [] = []
rest (r ∷ rs) = rs
