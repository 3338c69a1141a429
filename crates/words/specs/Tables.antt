-- The names of a table. Assumes nothing.
use Rattle.std.specs.Prelude.{ℕ, min, cond, List, [], ◌∷◌, ◌++◌, map, length, take, Option, nat_lt}
use Rattle.std.specs.Borrow.{Bor}
use Rattle.std.specs.List.{position_from}
use Rattle.words.specs.Lexemes.{same}
use Rattle.words.specs.declared.names.Table.{Table}

-- the names that a table holds, in order, eight at most
unfoldable pub texts : Table → List (List ℕ)
texts n = map (λ (w : Bor (List ℕ)). w.now) (take (min n.used 8) n.words)

-- where a word first stands among names, counted from k
abbrev pub place : List (List ℕ) → List ℕ → ℕ → Option ℕ
place xs w k = position_from (λ x. same x w) k xs

-- names and one more behind them, of eight at most
abbrev pub added : List (List ℕ) → List ℕ → List (List ℕ)
added xs w = cond (nat_lt (length xs) 8) (xs ++ (w ∷ [])) xs
