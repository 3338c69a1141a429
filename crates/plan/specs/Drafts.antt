-- What a plan is. Assumes nothing.
use Rattle.std.specs.Prelude.{ℕ, Bool, false, List, [], ◌∷◌, ◌++◌, map, replicate, None, Option}
use Rattle.words.specs.Tables.{texts, place}
use Rattle.conditions.specs.Trees.{Tree}
use Rattle.conditions.specs.Postfix.{trees, asked}
use Rattle.conditions.specs.Machine.{Names}
use Rattle.conditions.specs.Promises.{named}
use Rattle.any_measure.specs.declared.any.AnyMeasure.{AnyMeasure}
use Rattle.any_measure.specs.declared.any.AnyMeasure.TheVariants.{Count}
use Rattle.plan.specs.declared.plan.Column.{Column}
use Rattle.plan.specs.declared.plan.Plan.{Plan}

-- a column before its condition: its name, its measure, and the place of the measured row field if there is one
pub record Head : Type 0 where
  pub name : List ℕ
  pub measure : AnyMeasure
  pub field : Option ℕ

-- a column: its head, its condition if one is given, and the row fields that it reads
pub record Entry : Type 0 where
  pub head : Head
  pub condition : Option Tree
  pub fields : List Bool

-- a plan: the names of the row fields and of the base fields, and the columns
pub record Draft : Type 0 where
  pub rows : List (List ℕ)
  pub base : List (List ℕ)
  pub columns : List Entry

-- the fields that the names of a plan give
abbrev pub names_of : Draft → Names
names_of d w = named (place d.rows w 0) (place d.base w 0)

-- the names of the columns
abbrev pub column_names : List Entry → List (List ℕ)
column_names = map (λ (e : Entry). e.head.name)

-- a plan with one column more
abbrev pub with_column : Draft → Head → Option Tree → List Bool → Draft
with_column d h t fs = record { rows = d.rows; base = d.base; columns = d.columns ++ (record { head = h; condition = t; fields = fs } ∷ []) }

-- no row field
abbrev pub no_fields : List Bool
no_fields = replicate 8 false

-- what a column of the code stands for, with its name
abbrev pub entry_of : List ℕ → Column AnyMeasure → Entry
entry_of n c = record { head = record { name = n; measure = c.measure; field = c.field }; condition = asked (trees c.condition); fields = c.fields }

-- columns with their names; a name past the last column stands for a count of all rows
abbrev pub paired : List (List ℕ) → List (Column AnyMeasure) → List Entry
paired [] cs = []
paired (n ∷ ns) [] = record { head = record { name = n; measure = Count; field = None }; condition = None; fields = no_fields } ∷ paired ns []
paired (n ∷ ns) (c ∷ cs) = entry_of n c ∷ paired ns cs

-- the columns of a plan of the code
unfoldable pub columns_of : Plan AnyMeasure → List Entry
columns_of p = paired (texts p.titles) p.columns.places

-- what a plan of the code stands for
abbrev pub draft_of : Plan AnyMeasure → Draft
draft_of p = record { rows = texts p.names.rows; base = texts p.names.base; columns = columns_of p }
