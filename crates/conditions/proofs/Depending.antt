-- A condition depends on its key alone. Assumes nothing.
use Rattle.std.proofs.Common.{◌≡◌, ℕ, Bool, true, false, not, ◌&&◌, ◌||◌, List, get_or, ℤ, pos, sym, refl, ap, ◌∙◌}
use Rattle.std.proofs.lemmas.Bool.{eq-eqb}
use Rattle.conditions.specs.Trees.{Tree, compare, denial, bracketed, both, either, reads, operand_reads}
use Rattle.conditions.specs.Meaning.{moved, amount, compares, meets}
use Rattle.conditions.specs.Keys.{key, spread}
use Rattle.conditions.specs.Theorems.{DependsOnItsKey, KeyDecides}
use Rattle.conditions.specs.declared.condition.Operand.{Operand}
use Rattle.conditions.specs.declared.condition.Operand.TheVariants.{Number, Row, Base}
use Rattle.conditions.proofs.Spreading.{spread_key}

or_left : (a b : Bool) → a ≡ true → (a || b) ≡ true
or_left a b h = ap (λ x. x || b) h

or_right : (a b : Bool) → b ≡ true → (a || b) ≡ true
or_right true b h = refl
or_right false b h = h

-- two rows that agree in the fields read
module _ (row other base : List ℤ) where
  abbrev Agree : (ℕ → Bool) → Type 0
  Agree r = (f : ℕ) → r f ≡ true → get_or row f (pos 0) ≡ get_or other f (pos 0)

  amounts : (o : Operand) → Agree (λ f. operand_reads f o) → amount row base o ≡ amount other base o
  amounts (Number z) h = refl
  amounts (Row g s) h = ap (λ y. moved y s) (h g (eq-eqb g g refl))
  amounts (Base g s) h = refl

  alike : (t : Tree) → Agree (λ f. reads f t) → meets t row base ≡ meets t other base
  alike (compare k) h = λ i. compares k.sign (amounts k.left (λ f q. h f (or_left (operand_reads f k.left) (operand_reads f k.right) q)) i) (amounts k.right (λ f q. h f (or_right (operand_reads f k.left) (operand_reads f k.right) q)) i)
  alike (denial t) h = ap not (alike t h)
  alike (bracketed t) h = alike t h
  alike (both t u) h = λ i. alike t (λ f q. h f (or_left (reads f t) (reads f u) q)) i && alike u (λ f q. h f (or_right (reads f t) (reads f u) q)) i
  alike (either t u) h = λ i. alike t (λ f q. h f (or_left (reads f t) (reads f u) q)) i || alike u (λ f q. h f (or_right (reads f t) (reads f u) q)) i

pub decides : KeyDecides
decides t fs row base c = alike (spread fs (key fs row)) row base t (λ f q. spread_key fs row f (c f q))

pub depends : DependsOnItsKey
depends t fs row other base c e = sym (decides t fs row base c) ∙ ap (λ k. meets t (spread fs k) base) e ∙ decides t fs other base c
