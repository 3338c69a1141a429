-- The order of groups: by column, then by key, value by value as signed numbers. Assumes nothing.
use Rattle.std.specs.Prelude.{List, ◌∷◌, ℤ, pos}
use Rattle.std.specs.declared.cmp.Ordering.{Ordering}
use Rattle.std.specs.Cmp.{IsTotalOrder, int_cmp_total, on_total}
use Rattle.cells.specs.declared.id.GroupId.{GroupId}
use Rattle.std.specs.Ordering.{int_cmp}
use Rattle.std.specs.Cmp.Lexicographic.{slice_cmp, lists_total}

-- keys go by their first values that differ
abbrev pub key_order : List ℤ → List ℤ → Ordering
key_order = slice_cmp int_cmp

-- the column's number in front of the key
abbrev pub numbers : GroupId → List ℤ
numbers p = pos p.column ∷ p.key

-- one order for the groups of all columns
unfoldable pub order : GroupId → GroupId → Ordering
order p q = key_order (numbers p) (numbers q)

-- that order is total
pub order_total : IsTotalOrder order
unfolding order
order_total = on_total numbers (lists_total int_cmp_total)
