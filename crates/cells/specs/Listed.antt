-- Ids among ids. Assumes nothing.
use Rattle.std.specs.Prelude.{Bool, true, false, cond, List, [], ◌∷◌}
use Rattle.std.specs.declared.cmp.Ordering.TheVariants.{Less, Equal, Greater}
use Rattle.std.specs.declared.cmp.Ordering.{Ordering}
use Rattle.cells.specs.declared.id.GroupId.{GroupId}
use Rattle.cells.specs.Order.{order}

-- one of three, by an answer of the order
abbrev pub among : {X : Type 0} → Ordering → X → X → X → X
among Less x y z = x
among Equal x y z = y
among Greater x y z = z

-- whether p is the group q
abbrev pub same_group : GroupId → GroupId → Bool
same_group p q = among (order p q) false true false

-- whether p is one of the ids
abbrev pub listed : GroupId → List GroupId → Bool
listed p [] = false
listed p (q ∷ qs) = cond (same_group p q) true (listed p qs)
