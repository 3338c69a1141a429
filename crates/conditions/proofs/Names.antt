-- The fields that names give. Assumes nothing.
use Rattle.std.proofs.Common.{◌≡◌, ℕ, ◌<◌, List, Some, None, Ok, Option, arith}
use Rattle.words.specs.Tables.{texts, place}
use Rattle.words.proofs.Tabling.{few_texts, place_below}
use Rattle.conditions.specs.Promises.{looks, named}
use Rattle.conditions.specs.declared.condition.FieldNames.{FieldNames}
use Rattle.conditions.specs.declared.condition.Found.TheVariants.{RowField}

-- a row field is found among the rows
pub row_place : (a b : Option ℕ) (i : ℕ) → named a b ≡ Ok (RowField i) → a ≡ Some i
row_place (Some j) b i h = cc
row_place None (Some j) i h = cc
row_place None None i h = cc

-- a row field that a name gives is one of eight
pub looks_known : (n : FieldNames) (w : List ℕ) (i : ℕ) → looks n w ≡ Ok (RowField i) → i < 8
unfolding looks
looks_known n w i h = omega (arith, few_texts n.rows, place_below (texts n.rows) w 0 i (row_place (place (texts n.rows) w 0) (place (texts n.base) w 0) i h))
