-- What became of a contribution, as text. Assumes nothing.
use Rattle.std.specs.Prelude.{ℕ, List, codes}
use Rattle.groups.specs.declared.added.Added.{Added}
use Rattle.groups.specs.declared.added.Added.TheVariants.{Grown, Begun}

-- `grown` or `begun`
abbrev pub told : Added → List ℕ
told Grown = codes "grown"
told Begun = codes "begun"

-- `no room`
abbrev pub turned_away : List ℕ
turned_away = codes "no room"
