-- What places keep is a proposition, so a truncated ghost field gives it back. Assumes nothing.
use Rattle.std.proofs.Common.{ℕ, List}
use mathlib.Core.Logic.{∥∥₁_elim}
use native.Mathlib.Bridge.{le_prop}
use native.Mathlib.Nat.{ℕ_set}
use std.HLevel.{⊥_prop}
use mathlib.Core.Bool.{Bool-set}
use Rattle.cells.specs.declared.place.Place.{Place}
use Rattle.groups.specs.Chains.{Link, Chained, Linked, Ordered}

link_prop : (bs : List ℕ) (top b k : ℕ) → IsProp (Link bs top b k)
link_prop bs top b k x y = λ i. (le_prop x.0 y.0 i, (λ j p q e. ⊥_prop (x.1 j p q e) (y.1 j p q e) i), (λ h. ℕ_set _ _ (x.2 h) (y.2 h) i))

module _ {V : Type 0} where
  chained_prop : (xs : List (Place V)) (used : ℕ) → IsProp (Chained xs used)
  chained_prop xs used x y = λ i. record {
    within = le_prop x.within y.within i;
    first = λ b h. link_prop _ _ _ _ (x.first b h) (y.first b h) i;
    later = λ k h. link_prop _ _ _ _ (x.later k h) (y.later k h) i;
  }

  linked_prop : (xs : List (Place V)) (used : ℕ) → IsProp (Linked xs used)
  linked_prop xs used x y = λ i. record {
    chained = chained_prop xs used x.chained y.chained i;
    apart = λ j k d h l e. ⊥_prop (x.apart j k d h l e) (y.apart j k d h l e) i;
  }

  ordered_prop : (xs : List (Place V)) (used : ℕ) → IsProp (Ordered xs used)
  ordered_prop xs used x y = λ i. record {
    within = le_prop x.within y.within i;
    ascending = λ j k d h l. Bool-set _ _ (x.ascending j k d h l) (y.ascending j k d h l) i;
  }

  pub linked : {xs : List (Place V)} {used : ℕ} → ∥ Linked xs used ∥₁ → Linked xs used
  linked {xs} {used} h = ∥∥₁_elim h (linked_prop xs used) (λ x. x)

  pub ordered : {xs : List (Place V)} {used : ℕ} → ∥ Ordered xs used ∥₁ → Ordered xs used
  ordered {xs} {used} h = ∥∥₁_elim h (ordered_prop xs used) (λ x. x)
