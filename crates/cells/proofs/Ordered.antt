-- The order of groups is total, and tells any two groups apart. Assumes nothing.
use Rattle.std.proofs.Common.{◌≡◌, ℕ, ◌<◌, ◌≤◌, Bool, true≢false, ◌&&◌, ◌==◌, ◌⊎◌, List, [], ◌∷◌, ℤ, pos, ◌<ℤ◌, int_eq, Decides, Ordering, Less, Equal, Greater, sym, refl, ap, ◌∙◌, inl, inr, arith}
use Rattle.std.proofs.lemmas.Bool.{cases_lt, and_parts, and_from, eqb-true, eq-eqb}
use Rattle.std.proofs.lemmas.Slice.Eq.{slice_eq-Decides}
use lib.Pointwise.{pointwise}
use borrow.Author.Differences.{ints}
use Rattle.std.specs.Bool.{one_answer}
use Rattle.std.specs.Cmp.{Equal-is, int_cmp_is, int_ranks, signed_Decides}
use Rattle.std.specs.Ordering.{MatchOrdering, is_eq, is_lt, is_gt, ordering_reverse, ordering_then, int_cmp}
use Rattle.cells.specs.declared.id.GroupId.{GroupId}
use Rattle.cells.specs.Order.{order, order_total, key_order, numbers}

-- a column's answer as the answer at signed numbers
pub column_rank : (a b : ℕ) (r : Ordering) → MatchOrdering r (a < b) (a ≡ b) (b < a) → r ≡ int_cmp (pos a) (pos b)
column_rank a b r h = int_cmp_is (pos a) (pos b) r (at r h) where
  at : (r : Ordering) → MatchOrdering r (a < b) (a ≡ b) (b < a) → MatchOrdering r (pos a <ℤ pos b) (pos a ≡ pos b) (pos b <ℤ pos a)
  at Less h = omega (arith, ints)
  at Equal h = ap pos h
  at Greater h = omega (arith, ints)

pub flip : (p q : GroupId) → order p q ≡ ordering_reverse (order q p)
flip = order_total.antisymm

pub trans : (p q r : GroupId) → order p q ≡ Less → order q r ≡ Less → order p r ≡ Less
trans = order_total.trans

pub no_less : {X : Type 0} → Less ≡ Equal → X
no_less e = absurd (true≢false (ap is_lt e))

pub no_greater : {X : Type 0} → Greater ≡ Equal → X
no_greater e = absurd (true≢false (ap is_gt e))

lex_same : (xs ys : List ℤ) → key_order xs ys ≡ Equal → xs ≡ ys
lex_same [] [] e = refl
lex_same [] (y ∷ ys) e = no_less e
lex_same (x ∷ xs) [] e = no_greater e
lex_same (x ∷ xs) (y ∷ ys) e = at (int_cmp x y) (int_ranks x y) (lex_same xs ys) e where
  at : (r : Ordering) → MatchOrdering r (x <ℤ y) (x ≡ y) (y <ℤ x) → (key_order xs ys ≡ Equal → xs ≡ ys) → ordering_then r (key_order xs ys) ≡ Equal → x ∷ xs ≡ y ∷ ys
  at Less h t q = no_less q
  at Equal h t q = let e = t q in cc
  at Greater h t q = no_greater q

pub same : (p q : GroupId) → order p q ≡ Equal → p ≡ q
unfolding order
same p q e = let t = lex_same (numbers p) (numbers q) e in let a : p.column ≡ q.column = cc in let b : p.key ≡ q.key = cc in λ i. record { column = a i; key = b i }

pub itself : (p : GroupId) → order p p ≡ Equal
itself p = at (order p p) (flip p p) where
  at : (r : Ordering) → r ≡ ordering_reverse r → r ≡ Equal
  at Less e = absurd (true≢false (ap is_lt e))
  at Equal e = refl
  at Greater e = absurd (true≢false (ap is_gt e))

pub less_greater : (p q : GroupId) → order p q ≡ Less → order q p ≡ Greater
less_greater p q e = flip q p ∙ ap ordering_reverse e

pub greater_less : (p q : GroupId) → order p q ≡ Greater → order q p ≡ Less
greater_less p q e = flip q p ∙ ap ordering_reverse e

-- before one that is before p
pub trans_greater : (p q r : GroupId) → order p q ≡ Greater → order r q ≡ Less → order p r ≡ Greater
trans_greater p q r e f = less_greater r p (trans r q p f (greater_less p q e))

-- groups of one column go by their keys
pub same_column : (p q : GroupId) (r : Ordering) → p.column ≡ q.column → order p q ≡ r → key_order p.key q.key ≡ r
unfolding order
same_column p q r e h = ap (λ o. ordering_then o (key_order p.key q.key)) (column_rank p.column q.column Equal e) ∙ h

-- a later group is of no earlier column
pub column_rises : (p q : GroupId) → order p q ≡ Less → p.column ≤ q.column
unfolding order
column_rises p q e = at (cases_lt q.column p.column) where
  at : (q.column < p.column) ⊎ (p.column ≤ q.column) → p.column ≤ q.column
  at (inl lt) =
      let z : ◌≡◌ {A = Ordering} Greater Less = ap (λ o. ordering_then o (key_order p.key q.key)) (column_rank p.column q.column Greater lt) ∙ e in
      absurd (true≢false (ap is_gt z))
  at (inr le) = le

-- two groups are the same, or not
pub alike : (p q : GroupId) → (p ≡ q) ⊎ (p ≡ q → ⊥)
alike p q = at (order p q) refl where
  at : (r : Ordering) → order p q ≡ r → (p ≡ q) ⊎ (p ≡ q → ⊥)
  at Less e = inr (λ h. no_less (sym e ∙ ap (order p) (sym h) ∙ itself p))
  at Equal e = inl (same p q e)
  at Greater e = inr (λ h. no_greater (sym e ∙ ap (order p) (sym h) ∙ itself p))

-- ---- equality as it is derived

abbrev pub equal : GroupId → GroupId → Bool
equal p q = (p.column == q.column) && pointwise int_eq p.key q.key

-- it tells whether two ids are one group
pub equal_Decides : (p q : GroupId) → Decides (equal p q) (p ≡ q)
equal_Decides p q =
    let keys = slice_eq-Decides signed_Decides p.key q.key _ refl in (
      λ t. (let b = and_parts _ _ t in λ i. record { column = eqb-true p.column q.column b.0 i; key = keys.0 b.1 i }),
      λ h. and_from _ _ (eq-eqb _ _ (ap (λ (p : GroupId). p.column) h)) (keys.1 (ap (λ (p : GroupId). p.key) h)),
    )

-- just where the order tells them apart by nothing
pub equal_order : (p q : GroupId) → equal p q ≡ is_eq (order p q)
equal_order p q = one_answer _ _ (equal_Decides p q) (λ t. same p q ((Equal-is (order p q)).0 t), λ e. (Equal-is (order p q)).1 (ap (order p) (sym e) ∙ itself p))
