-- Keys: a row's values in some fields, by ascending field. Assumes nothing.
use Rattle.std.specs.Prelude.{ℕ, ◌+◌, Bool, true, false, List, [], ◌∷◌, drop, ℤ, pos, slice_index_or}

-- a row's values in the fields that are marked; a field that the row lacks reads as 0
abbrev pub key : List Bool → List ℤ → List ℤ
key [] row = []
key (true ∷ fs) row = slice_index_or row 0 (pos 0) ∷ key fs (drop 1 row)
key (false ∷ fs) row = key fs (drop 1 row)

-- the row that has a key's values in the fields that are marked, and 0 in the others
abbrev pub spread : List Bool → List ℤ → List ℤ
spread [] vs = []
spread (true ∷ fs) vs = slice_index_or vs 0 (pos 0) ∷ spread fs (drop 1 vs)
spread (false ∷ fs) vs = pos 0 ∷ spread fs vs

-- how many fields are marked
abbrev pub marked : List Bool → ℕ
marked [] = 0
marked (true ∷ fs) = marked fs + 1
marked (false ∷ fs) = marked fs
