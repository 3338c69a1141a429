-- A value that is one kind's own is that value in the kind's case. Assumes nothing.
use Rattle.std.specs.Prelude.{◌≡◌, ℕ, ℤ, Some, None, Option}
use Rattle.std.proofs.Common.{arith}
use Rattle.any_measure.specs.Chosen.{rows_in, total_in, extreme_in}
use Rattle.any_measure.specs.declared.any.AnyValue.{AnyValue}
use Rattle.any_measure.specs.declared.any.AnyValue.TheVariants.{Rows, Total, Extreme}

pub never : {X : Type 0} {B : Type 0} {x : B} → None ≡ Some x → X
never p = let z : ◌≡◌ {A = ℕ} 0 1 = cc in absurd (omega arith)

pub is_rows : (a : AnyValue) (x : ℕ) → rows_in a ≡ Some x → a ≡ Rows x
is_rows (Rows y) x p = cc
is_rows (Total y) x p = never p
is_rows (Extreme y) x p = never p

pub is_total : (a : AnyValue) (x : ℤ) → total_in a ≡ Some x → a ≡ Total x
is_total (Rows y) x p = never p
is_total (Total y) x p = cc
is_total (Extreme y) x p = never p

pub is_extreme : (a : AnyValue) (x : Option ℤ) → extreme_in a ≡ Some x → a ≡ Extreme x
is_extreme (Rows y) x p = never p
is_extreme (Total y) x p = never p
is_extreme (Extreme y) x p = cc
