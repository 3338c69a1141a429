-- A place with one part of it another. Assumes nothing.
use Rattle.std.specs.Prelude.{ℕ}
use Rattle.cells.specs.declared.cell.Cell.{Cell}
use Rattle.cells.specs.declared.place.Place.{Place}

-- a place whose cell links to an older one
abbrev pub with_next : {V : Type 0} → Place V → ℕ → Place V
with_next s older = record { cell = s.cell; head = s.head; next = older }

-- a place whose bucket begins at a link
abbrev pub with_head : {V : Type 0} → Place V → ℕ → Place V
with_head s newest = record { cell = s.cell; head = newest; next = s.next }

-- a place that holds another cell
abbrev pub with_cell : {V : Type 0} → Place V → Cell V → Place V
with_cell s c = record { cell = c; head = s.head; next = s.next }
