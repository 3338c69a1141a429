-- The groups of each column, and how they lie in one list. Assumes nothing.
use Rattle.std.specs.Prelude.{ℕ, zero, suc, cond, List, [], ◌∷◌, ◌++◌, map, ℤ, ◌==◌}
use Rattle.cells.specs.declared.cell.Cell.{Cell}
use Rattle.cells.specs.Order.{key_order}
use Rattle.cells.specs.Listed.{among}
use Rattle.cells.specs.Groups.{together}

-- some rows of one key: their number and the join of their values
pub record Group (V : Type 0) : Type 0 where
  pub key : List ℤ
  pub rows : ℕ
  pub value : V

-- the group that a cell holds
abbrev pub group : {V : Type 0} → Cell V → Group V
group c = record { key = c.id.key; rows = c.rows; value = c.value }

-- a group of column k as a cell
abbrev pub cell_of : {V : Type 0} → ℕ → Group V → Cell V
cell_of k g = record { id = record { column = k; key = g.key }; rows = g.rows; value = g.value }

-- the group g to which x came; the new value is joined in front
abbrev pub joined : {V : Type 0} → (V → V → V) → Group V → Group V → Group V
joined join x g = record { key = g.key; rows = together x.rows g.rows; value = join x.value g.value }

-- x put into a column's groups: that of its key has grown by it, or is new; every other is as it was
abbrev pub put_group : {V : Type 0} → (V → V → V) → Group V → List (Group V) → List (Group V)
put_group join x [] = x ∷ []
put_group join x (g ∷ gs) = among (key_order x.key g.key) (x ∷ g ∷ gs) (joined join x g ∷ gs) (g ∷ put_group join x gs)

-- the groups of column k among those of all columns
abbrev pub column : {V : Type 0} → ℕ → List (Cell V) → List (Group V)
column k [] = []
column k (c ∷ cs) = cond (c.id.column == k) (group c ∷ column k cs) (column k cs)

-- the groups of n columns, from column k on
abbrev pub columns : {V : Type 0} → ℕ → ℕ → List (Cell V) → List (List (Group V))
columns k zero cs = []
columns k (suc n) cs = column k cs ∷ columns (suc k) n cs

-- the groups of the columns from k on as one list
abbrev pub flat : {V : Type 0} → ℕ → List (List (Group V)) → List (Cell V)
flat k [] = []
flat k (gs ∷ gss) = map (cell_of k) gs ++ flat (suc k) gss
