-- Cells in ascending order: what they are known by, and that sorting gives them. Assumes nothing.
use Rattle.std.proofs.Common.{◌≡◌, ℕ, zero, suc, ◌<◌, ◌≤◌, false, true≢false, ◌⊎◌, List, [], ◌∷◌, map, length, get_or, Some, None, Ordering, Less, Equal, Greater, sym, refl, ap, ◌∙◌, subst, inl, inr, add-one, arith}
use Rattle.std.specs.List.{AllByRecursion, swap}
use Rattle.std.specs.List.Sorted.{IsPermutation, IsSorted}
use Rattle.std.specs.Ordering.{is_lt, ordering_reverse}
use Rattle.std.proofs.lemmas.List.{get_or-map, length-map}
use Rattle.std.proofs.lemmas.List.Edits.{length-swap, swapped_from_swap}
use Rattle.std.proofs.ByRecursion.{All-weaker, All-get_or, has_get_or, has_shuffled}
use Rattle.std.proofs.lemmas.List.Sorted.{IsPermutation-keeps, IsPermutation-sym}
use Rattle.std.proofs.lemmas.Bool.{cases_lt, cases_eq}
use Rattle.cells.specs.declared.id.GroupId.{GroupId}
use Rattle.cells.specs.declared.cell.Cell.{Cell}
use Rattle.cells.specs.Order.{order}
use Rattle.cells.specs.Groups.{Sorted, lookup, in_order, Apart, Absent}
use Rattle.cells.proofs.Ordered.{same, itself, flip, trans, less_greater, no_less}
use Rattle.cells.proofs.Lookups.{look_head}
use Rattle.cells.proofs.InOrder.{in_order_is}

-- ---- lists in order

module _ {V : Type 0} where
  pub sorted_at : (l : List (Cell V)) → Sorted l → (k : ℕ) (d : Cell V) → k < length l → lookup (get_or l k d).id l ≡ Some (get_or l k d)
  sorted_at [] s k d h = absurd (omega arith)
  sorted_at (c ∷ cs) s zero d h = look_head c.id c cs Equal (itself c.id)
  sorted_at (c ∷ cs) s (suc k) d h = look_head (get_or cs k d).id c cs Greater (less_greater c.id (get_or cs k d).id (all_at cs k (omega arith) s.0)) ∙ sorted_at cs s.1 k d (omega arith) where
    all_at : (ds : List (Cell V)) (k : ℕ) → k < length ds → AllByRecursion (λ e. order c.id e.id ≡ Less) ds → order c.id (get_or ds k d).id ≡ Less
    all_at [] k h a = absurd (omega arith)
    all_at (e ∷ ds) zero h a = a.0
    all_at (e ∷ ds) (suc k) h a = all_at ds k (omega arith) a.1

  pub lookup_none : (p : GroupId) (l : List (Cell V)) → Absent p l → lookup p l ≡ None
  lookup_none p [] out = refl
  lookup_none p (c ∷ cs) out = at (order p c.id) refl (lookup_none p cs (λ k d h e. out (suc k) d (omega arith) e)) where
    at : (r : Ordering) → order p c.id ≡ r → lookup p cs ≡ None → lookup p (c ∷ cs) ≡ None
    at Less e t = look_head p c cs Less e
    at Equal e t = absurd (out 0 c (omega arith) (sym (same p c.id e)))
    at Greater e t = look_head p c cs Greater e ∙ t

  -- from neighbours
  pub sorted_next : (l : List (Cell V)) → ((k : ℕ) (d : Cell V) → suc k < length l → order (get_or l k d).id (get_or l (suc k) d).id ≡ Less) → Sorted l
  sorted_next [] next = tt
  sorted_next (c ∷ []) next = (tt, tt)
  sorted_next (c ∷ (e ∷ cs)) next =
      let s = sorted_next (e ∷ cs) (λ k d h. next (suc k) d (omega arith)) in
      let first : order c.id e.id ≡ Less = next 0 c (omega arith) in
      ((first, All-weaker _ _ (λ d h. trans c.id e.id d.id first h) cs s.0), s)

unlike : (r : Ordering) → r ≡ Less → is_lt r ≡ false → ⊥
unlike r e f = true≢false (sym (ap is_lt e) ∙ f)

-- not after, and another
before : (p q : GroupId) → is_lt (order q p) ≡ false → (p ≡ q → ⊥) → order p q ≡ Less
before p q f ne = at (order p q) refl where
  at : (r : Ordering) → order p q ≡ r → r ≡ Less
  at Less e = refl
  at Equal e = absurd (ne (same p q e))
  at Greater e = absurd (unlike (order q p) (flip q p ∙ ap ordering_reverse e) f)

-- ---- a shuffle keeps cells apart

-- what stands at k after i and j changed places stood at m before
data From (i j k m : ℕ) : Type 0 where
  first : k ≡ i → m ≡ j → From i j k m
  second : (k ≡ i → ⊥) → k ≡ j → m ≡ i → From i j k m
  other : (k ≡ i → ⊥) → (k ≡ j → ⊥) → m ≡ k → From i j k m

one_source : (i j a b m n : ℕ) → From i j a m → From i j b n → m ≡ n → a ≡ b
one_source i j a b m n (first p q) (first r s) e = omega arith
one_source i j a b m n (first p q) (second r s t) e = omega arith
one_source i j a b m n (first p q) (other r s t) e = absurd (s (omega arith))
one_source i j a b m n (second p q u) (first r s) e = omega arith
one_source i j a b m n (second p q u) (second r s t) e = omega arith
one_source i j a b m n (second p q u) (other r s t) e = absurd (r (omega arith))
one_source i j a b m n (other p q u) (first r s) e = absurd (q (omega arith))
one_source i j a b m n (other p q u) (second r s t) e = absurd (p (omega arith))
one_source i j a b m n (other p q u) (other r s t) e = omega arith

-- things that each hold a cell
module _ {X V : Type 0} (cell : X → Cell V) where
  abbrev Distinct : List X → Type 0
  Distinct l = (a b : ℕ) (d : X) → a < length l → b < length l → (a ≡ b → ⊥) → (cell (get_or l a d)).id ≡ (cell (get_or l b d)).id → ⊥

  source : (l r : List X) (i j : ℕ) → i < length l → j < length l → ((d : X) → (get_or r i d ≡ get_or l j d) × (get_or r j d ≡ get_or l i d) × ((m : ℕ) → (m ≡ i → ⊥) → (m ≡ j → ⊥) → get_or r m d ≡ get_or l m d)) → (k : ℕ) → k < length l → (m : ℕ) × (m < length l) × ((d : X) → get_or r k d ≡ get_or l m d) × From i j k m
  source l r i j hi hj sw k h = at (cases_eq k i) (cases_eq k j) where
    at : (k ≡ i) ⊎ (k ≡ i → ⊥) → (k ≡ j) ⊎ (k ≡ j → ⊥) → (m : ℕ) × (m < length l) × ((d : X) → get_or r k d ≡ get_or l m d) × From i j k m
    at (inl e) x = (j, hj, (λ d. ap (λ n. get_or r n d) e ∙ (sw d).0), first e refl)
    at (inr ne) (inl e) = (i, hi, (λ d. ap (λ n. get_or r n d) e ∙ (sw d).1), second ne e refl)
    at (inr ne) (inr nf) = (k, h, (λ d. (sw d).2 k ne nf), other ne nf refl)

  -- one exchange keeps them apart
  step : (l : List X) (i j : ℕ) → i < length l → j < length l → Distinct l → Distinct (swap l i j)
  step [] i j hi hj di a b d ha hb ne e = omega arith
  step (x ∷ l) i j hi hj di a b d ha hb ne e =
      let r = swap (x ∷ l) i j in
      let n : length r ≡ length (x ∷ l) = length-swap (x ∷ l) i j in
      let sw = λ (d : X). swapped_from_swap (x ∷ l) r i j d hi hj refl in
      let f = source (x ∷ l) r i j hi hj sw a (omega arith) in
      let t = source (x ∷ l) r i j hi hj sw b (omega arith) in
      di f.0 t.0 d f.1 t.1 (λ q. ne (one_source i j a b f.0 t.0 f.3 t.3 q))
      (ap (λ s. (cell s).id) (sym (f.2 d)) ∙ e ∙ ap (λ s. (cell s).id) (t.2 d))

  id_at : (l : List X) (k : ℕ) (d : Cell V) (s : X) → k < length l → (get_or (map cell l) k d).id ≡ (cell (get_or l k s)).id
  id_at l k d s h = ap (λ c. c.id) (get_or-map cell l k s d h)

  distinct : (l : List X) → Apart (map cell l) → Distinct l
  distinct l a i j d hi hj ne e = at (cases_lt i j) where
    n : length (map cell l) ≡ length l
    n = length-map l cell

    both : (get_or (map cell l) i (cell d)).id ≡ (get_or (map cell l) j (cell d)).id
    both = id_at l i (cell d) d hi ∙ e ∙ sym (id_at l j (cell d) d hj)

    at : (i < j) ⊎ (j ≤ i) → ⊥
    at (inl lt) = a i j (cell d) lt (omega (arith, n)) both
    at (inr ge) = a j i (cell d) (omega (arith, ne)) (omega (arith, n)) (sym both)

  -- sorted, their cells are the groups in order
  module _ (xs ys : List X) (a : Apart (map cell xs)) (sh : IsPermutation xs ys) (up : IsSorted (λ x y. order (cell x).id (cell y).id) ys) where
    n : length (map cell ys) ≡ length ys
    n = length-map ys cell

    di : Distinct ys
    di = IsPermutation-keeps xs Distinct (distinct xs a) step ys sh

    next : (l : List X) (k : ℕ) (d : Cell V) → suc k < length (map cell l) → Distinct l → IsSorted (λ x y. order (cell x).id (cell y).id) l → order (get_or (map cell l) k d).id (get_or (map cell l) (suc k) d).id ≡ Less
    next [] k d h di up = absurd (omega arith)
    next (s ∷ l) k d h di up =
        let m : length (map cell (s ∷ l)) ≡ length (s ∷ l) = length-map (s ∷ l) cell in
        let x = id_at (s ∷ l) k d s (omega arith) in
        let y = id_at (s ∷ l) (suc k) d s (omega arith) in
        let not_after : is_lt (order (cell (get_or (s ∷ l) (suc k) s)).id (cell (get_or (s ∷ l) k s)).id) ≡ false = subst (λ j. is_lt (order (cell (get_or (s ∷ l) j s)).id (cell (get_or (s ∷ l) k s)).id) ≡ false) (add-one k) (up k s (omega arith) (omega arith)) in
        subst (λ p. order p (get_or (map cell (s ∷ l)) (suc k) d).id ≡ Less) (sym x) (subst (λ q. order (cell (get_or (s ∷ l) k s)).id q ≡ Less) (sym y)
        (before (cell (get_or (s ∷ l) k s)).id (cell (get_or (s ∷ l) (suc k) s)).id not_after (λ e. di k (suc k) s (omega arith) (omega arith) (λ z. omega (arith, z)) e)))

    sorted : Sorted (map cell ys)
    sorted = sorted_next (map cell ys) (λ k d h. next ys k d h di up)

    pub sorted_is : map cell ys ≡ in_order (map cell xs)
    sorted_is = sym (in_order_is (map cell xs) (map cell ys) a sorted have none) where
      have : (i : ℕ) (d : Cell V) → i < length (map cell xs) → lookup (get_or (map cell xs) i d).id (map cell ys) ≡ Some (get_or (map cell xs) i d)
      have i d h = at xs refl where
        at : (l : List X) → l ≡ xs → lookup (get_or (map cell xs) i d).id (map cell ys) ≡ Some (get_or (map cell xs) i d)
        at [] e = absurd (omega (arith, ap (λ l. length (map cell l)) e))
        at (s ∷ l) e =
            let hx : i < length xs = omega (arith, length-map xs cell) in
            let w = has_shuffled xs ys (get_or xs i s) sh (has_get_or xs i s hx) in
            let k = w.0 in
            let is : get_or (map cell ys) k d ≡ get_or (map cell xs) i d = get_or-map cell ys k s d w.1 ∙ ap cell (w.2 s) ∙ sym (get_or-map cell xs i s d hx) in
            subst (λ (c : Cell V). lookup c.id (map cell ys) ≡ Some c) is (sorted_at (map cell ys) sorted k d (omega (arith, n, w.1)))

      none : (p : GroupId) → Absent p (map cell xs) → lookup p (map cell ys) ≡ None
      none p out = lookup_none p (map cell ys) (λ k d h e. at ys refl k d h e) where
        at : (l : List X) → l ≡ ys → (k : ℕ) (d : Cell V) → k < length (map cell ys) → (get_or (map cell ys) k d).id ≡ p → ⊥
        at [] q k d h e = omega (arith, ap (λ l. length (map cell l)) q)
        at (s ∷ l) q k d h e =
            let hy : k < length ys = omega (arith, n) in
            let w = has_shuffled ys xs (get_or ys k s) (IsPermutation-sym xs ys sh) (has_get_or ys k s hy) in
            out w.0 d (omega (arith, w.1, length-map xs cell)) (ap (λ c. c.id) (get_or-map cell xs w.0 s d w.1 ∙ ap cell (w.2 s)) ∙ sym (id_at ys k d s hy) ∙ e)

-- ---- what sorted cells are

module _ {V : Type 0} where
  -- by places: a cell is of a group before those of all later ones
  pub sorted_later : (l : List (Cell V)) → Sorted l → (i j : ℕ) (d : Cell V) → i < j → j < length l → order (get_or l i d).id (get_or l j d).id ≡ Less
  sorted_later [] s i j d p q = absurd (omega arith)
  sorted_later (c ∷ cs) s i zero d p q = absurd (omega arith)
  sorted_later (c ∷ cs) s zero (suc j) d p q = All-get_or (λ e. order c.id e.id ≡ Less) cs j d (omega arith) s.0
  sorted_later (c ∷ cs) s (suc i) (suc j) d p q = sorted_later cs s.1 i j d (omega arith) (omega arith)

  pub sorted_apart : (l : List (Cell V)) → Sorted l → Apart l
  sorted_apart l s i j d p q e =
      let x = sorted_later l s i j d p q in
      let y : order (get_or l i d).id (get_or l j d).id ≡ Equal = ap (order (get_or l i d).id) (sym e) ∙ itself (get_or l i d).id in
      no_less (sym x ∙ y)

  -- sorted cells are in order already
  pub in_order_sorted : (l : List (Cell V)) → Sorted l → in_order l ≡ l
  in_order_sorted l s = in_order_is l l (sorted_apart l s) s (λ i d h. sorted_at l s i d h) (λ p out. lookup_none p l out)
