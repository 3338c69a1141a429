-- What contributions come to, whatever their order. Assumes nothing.
use Rattle.std.proofs.Common.{◌≡◌, ℕ, ◌+◌, ◌<◌, ◌≤◌, Bool, true, false, cond, not, eqb, ◌||◌, ◌⊎◌, List, [], ◌∷◌, length, get_or, is_some, Some, Decides, Ordering, Less, Equal, Greater, sym, refl, ap, ◌∙◌, subst, inl, inr, true≢false, arith}
use Rattle.std.specs.List.{AllByRecursion, list_any}
use Rattle.std.proofs.ByRecursion.{all_from_every}
use Rattle.std.proofs.lemmas.Bool.{eq-eqb}
use Rattle.measures.specs.Values.{most_rows}
use Rattle.measures.specs.Meaning.{Meaning, Possible, Properties}
use Rattle.cells.specs.declared.id.GroupId.{GroupId}
use Rattle.cells.specs.declared.cell.Cell.{Cell}
use Rattle.cells.specs.Order.{order}
use Rattle.cells.specs.Listed.{among, same_group, listed}
use Rattle.cells.specs.Groups.{together, put, lookup, added, in_order, Apart, Sorted}
use Rattle.cells.specs.Contributions.{Reordered, empty, keep, swap, chain, there, beginning, ids, came_for, came_in, rows_of, heard_on, heard, join_of, total, Proper, Fair, Law}
use Rattle.cells.proofs.Ordered.{same, itself, alike, equal, equal_Decides}
use Rattle.cells.proofs.Lookups.{never, look_head, put_head, lookup_put_same, lookup_put_other, sorted_put, sorted_ext}
use Rattle.cells.proofs.InOrder.{in_order_none, apart_tail, apart_head}
use Rattle.cells.proofs.Sorting.{sorted_at}

-- ---- the test for one group

same_yes : (p q : GroupId) → p ≡ q → same_group p q ≡ true
same_yes p q e = ap (λ o. among o false true false) (ap (order p) (sym e) ∙ itself p)

same_no : (p q : GroupId) → (p ≡ q → ⊥) → same_group p q ≡ false
same_no p q ne = at (order p q) refl where
  at : (r : Ordering) → order p q ≡ r → same_group p q ≡ false
  at Less e = ap (λ o. among o false true false) e
  at Equal e = absurd (ne (same p q e))
  at Greater e = ap (λ o. among o false true false) e

-- an id is listed where it equals one of the ids
pub listed_any : (p : GroupId) (ps : List GroupId) → list_any (λ q. equal q p) ps ≡ listed p ps
listed_any p [] = refl
listed_any p (q ∷ qs) = at (equal q p) (equal_Decides q p) (listed_any p qs) where
  at : (b : Bool) → Decides b (q ≡ p) → list_any (λ q. equal q p) qs ≡ listed p qs → (b || list_any (λ q. equal q p) qs) ≡ listed p (q ∷ qs)
  at true d t = ap (λ s. cond s true (listed p qs)) (sym (same_yes p q (sym (d.0 refl))))
  at false d t = t ∙ ap (λ s. cond s true (listed p qs)) (sym (same_no p q (λ e. true≢false (sym (d.1 (sym e))))))

module _ {V : Type 0} (p : GroupId) (x : Cell V) (xs : List (Cell V)) where
  came_yes : p ≡ x.id → came_for p (x ∷ xs) ≡ x ∷ came_for p xs
  came_yes e = ap (λ b. cond b (x ∷ came_for p xs) (came_for p xs)) (same_yes p x.id e)

  came_no : (p ≡ x.id → ⊥) → came_for p (x ∷ xs) ≡ came_for p xs
  came_no ne = ap (λ b. cond b (x ∷ came_for p xs) (came_for p xs)) (same_no p x.id ne)

-- a group has no more rows than its column
rows_bound : {V : Type 0} (p : GroupId) (xs : List (Cell V)) → rows_of (came_for p xs) ≤ rows_of (came_in p.column xs)
rows_bound p [] = omega arith
rows_bound {V} p (x ∷ xs) = at (alike p x.id) (rows_bound p xs) where
  in_column : (b : Bool) → rows_of (came_in p.column xs) ≤ rows_of (cond b (x ∷ came_in p.column xs) (came_in p.column xs))
  in_column true = omega arith
  in_column false = omega arith

  at : (p ≡ x.id) ⊎ (p ≡ x.id → ⊥) → rows_of (came_for p xs) ≤ rows_of (came_in p.column xs) → rows_of (came_for p (x ∷ xs)) ≤ rows_of (came_in p.column (x ∷ xs))
  at (inl e) t =
      let here = ap rows_of (came_yes p x xs e) in
      let there : rows_of (came_in p.column (x ∷ xs)) ≡ x.rows + rows_of (came_in p.column xs) = ap (λ b. rows_of (cond b (x ∷ came_in p.column xs) (came_in p.column xs))) (eq-eqb _ _ (ap (λ q. q.column) (sym e))) in
      omega arith
  at (inr ne) t = let here = ap rows_of (came_no p x xs ne) in let more = in_column (eqb x.id.column p.column) in omega arith

module _ {V A : Type 0} (ms : ℕ → Meaning V A) where
  fair_tail : (x : Cell V) (xs : List (Cell V)) → Fair ms (x ∷ xs) → Fair ms xs
  fair_tail x xs f = record { proper = f.proper.1; few = λ k. fewer k (eqb x.id.column k) refl } where
    fewer : (k : ℕ) (b : Bool) → eqb x.id.column k ≡ b → rows_of (came_in k xs) ≤ most_rows
    fewer k true e = let h = ap (λ b. rows_of (cond b (x ∷ came_in k xs) (came_in k xs))) e in omega (arith, f.few k)
    fewer k false e = let h = ap (λ b. rows_of (cond b (x ∷ came_in k xs) (came_in k xs))) e in omega (arith, f.few k)

  -- what came for a group is proper by the measure of its column
  proper_for : (p : GroupId) (xs : List (Cell V)) → AllByRecursion (Proper ms) xs → AllByRecursion (λ y. (1 ≤ y.rows) × Possible (ms p.column) y.value y.rows) (came_for p xs)
  proper_for p [] h = tt
  proper_for p (x ∷ xs) h = at (alike p x.id) (proper_for p xs h.1) where
    at : (p ≡ x.id) ⊎ (p ≡ x.id → ⊥) → AllByRecursion (λ y. (1 ≤ y.rows) × Possible (ms p.column) y.value y.rows) (came_for p xs) → AllByRecursion (λ y. (1 ≤ y.rows) × Possible (ms p.column) y.value y.rows) (came_for p (x ∷ xs))
    at (inl e) t = subst (AllByRecursion (λ y. (1 ≤ y.rows) × Possible (ms p.column) y.value y.rows)) (sym (came_yes p x xs e)) ((h.0.0, ap (λ q. (ms q.column).possible x.value x.rows) e ∙ h.0.1), t)
    at (inr ne) t = subst (AllByRecursion (λ y. (1 ≤ y.rows) × Possible (ms p.column) y.value y.rows)) (sym (came_no p x xs ne)) t

  sorted_heard : (xs : List (Cell V)) → Sorted (heard ms xs)
  sorted_heard [] = tt
  sorted_heard (x ∷ xs) = sorted_put (ms x.id.column).join x (heard ms xs) (sorted_heard xs)

-- ---- one measure

module _ {V A : Type 0} (m : Meaning V A) (laws : Properties m) where
  join_possible : (ys : List (Cell V)) → AllByRecursion (λ y. (1 ≤ y.rows) × Possible m y.value y.rows) ys → rows_of ys ≤ most_rows → Possible m (join_of m ys) (rows_of ys)
  join_possible [] h le = laws.none_for_no_rows
  join_possible (y ∷ ys) h le = laws.join_is_possible y.value (join_of m ys) y.rows (rows_of ys) h.0.1 (join_possible ys h.1 (omega arith)) le

  -- one contribution more
  added_total : (p : GroupId) (x : Cell V) (ys : List (Cell V)) → x.id ≡ p → Possible m x.value x.rows → x.rows + rows_of ys ≤ most_rows → Some (added m.join x (total m p ys)) ≡ total m p (x ∷ ys)
  added_total p x [] e q le =
      let none : x.value ≡ m.join x.value m.none = sym (laws.none_joins_to_the_same x.value) ∙ laws.join_commutes m.none x.value 0 x.rows laws.none_for_no_rows q (omega arith) in
      let rows : x.rows ≡ x.rows + 0 = omega arith in
      ap Some (λ i. record { id = e i; rows = rows i; value = none i })
  added_total p x (y ∷ ys) e q le =
      let rows : together x.rows (rows_of (y ∷ ys)) ≡ x.rows + rows_of (y ∷ ys) = omega arith in
      ap (λ n. Some (record { id = p; rows = n; value = m.join x.value (join_of m (y ∷ ys)) })) rows

  -- two contributions in either order
  total_swap : (p : GroupId) (x y : Cell V) (ys : List (Cell V)) → AllByRecursion (λ y. (1 ≤ y.rows) × Possible m y.value y.rows) (x ∷ y ∷ ys) → rows_of (x ∷ y ∷ ys) ≤ most_rows → total m p (x ∷ y ∷ ys) ≡ total m p (y ∷ x ∷ ys)
  total_swap p x y ys h le =
      let z = join_of m ys in
      let pz = join_possible ys h.1.1 (omega arith) in
      let value : m.join x.value (m.join y.value z) ≡ m.join y.value (m.join x.value z) =
      sym (laws.join_associates x.value y.value z x.rows y.rows (rows_of ys) h.0.1 h.1.0.1 pz (omega arith))
      ∙ ap (λ w. m.join w z) (laws.join_commutes x.value y.value x.rows y.rows h.0.1 h.1.0.1 (omega arith))
      ∙ laws.join_associates y.value x.value z y.rows x.rows (rows_of ys) h.1.0.1 h.0.1 pz (omega arith) in
      let rows : rows_of (x ∷ y ∷ ys) ≡ rows_of (y ∷ x ∷ ys) = omega arith in
      ap Some (λ i. record { id = p; rows = rows i; value = value i })

  -- a group of some contributions is proper
  proper_total : (p : GroupId) (c : Cell V) (ys : List (Cell V)) → AllByRecursion (λ y. (1 ≤ y.rows) × Possible m y.value y.rows) ys → rows_of ys ≤ most_rows → total m p ys ≡ Some c → (1 ≤ c.rows) × Possible m c.value c.rows
  proper_total p c [] h le e = never e
  proper_total p c (y ∷ ys) h le e =
      let is : record { id = p; rows = rows_of (y ∷ ys); value = join_of m (y ∷ ys) } ≡ c = cc in
      subst (λ (d : Cell V). (1 ≤ d.rows) × Possible m d.value d.rows) is (omega (arith, h.0.0), join_possible (y ∷ ys) h le)

-- ---- a measure for each column

module _ {V A : Type 0} (ms : ℕ → Meaning V A) (laws : (k : ℕ) → Properties (ms k)) where
  bound : (p : GroupId) (xs : List (Cell V)) → Fair ms xs → rows_of (came_for p xs) ≤ most_rows
  bound p xs f = omega (arith, rows_bound p xs, f.few p.column)

  totals : (xs : List (Cell V)) → Fair ms xs → (p : GroupId) → lookup p (heard ms xs) ≡ total (ms p.column) p (came_for p xs)
  totals [] f p = refl
  totals (x ∷ xs) f p = at (alike p x.id) (totals xs (fair_tail ms x xs f) p) where
    at : (p ≡ x.id) ⊎ (p ≡ x.id → ⊥) → lookup p (heard ms xs) ≡ total (ms p.column) p (came_for p xs) → lookup p (heard ms (x ∷ xs)) ≡ total (ms p.column) p (came_for p (x ∷ xs))
    at (inl e) t =
        let join = (ms x.id.column).join in
        let rest = total (ms p.column) p (came_for p xs) in
        let few : x.rows + rows_of (came_for p xs) ≤ most_rows = omega (arith, ap rows_of (came_yes p x xs e), bound p (x ∷ xs) f) in
        ap (λ q. lookup q (put join x (heard ms xs))) e
        ∙ lookup_put_same join x (heard ms xs)
        ∙ ap (λ q. Some (added join x (lookup q (heard ms xs)))) (sym e)
        ∙ ap (λ o. Some (added join x o)) t
        ∙ ap (λ q. Some (added (ms q.column).join x rest)) (sym e)
        ∙ added_total (ms p.column) (laws p.column) p x (came_for p xs) (sym e) (ap (λ q. (ms q.column).possible x.value x.rows) e ∙ f.proper.0.1) few
        ∙ ap (total (ms p.column) p) (sym (came_yes p x xs e))
    at (inr ne) t = lookup_put_other (ms x.id.column).join x p ne (heard ms xs) ∙ t ∙ ap (total (ms p.column) p) (sym (came_no p x xs ne))

  -- ---- any order

  rows_reordered : {xs ys : List (Cell V)} → Reordered xs ys → (k : ℕ) → rows_of (came_in k ys) ≡ rows_of (came_in k xs)
  rows_reordered empty k = refl
  rows_reordered (keep x {xs} {ys} r) k = at (eqb x.id.column k) (rows_reordered r k) where
    at : (b : Bool) → rows_of (came_in k ys) ≡ rows_of (came_in k xs) → rows_of (cond b (x ∷ came_in k ys) (came_in k ys)) ≡ rows_of (cond b (x ∷ came_in k xs) (came_in k xs))
    at true t = omega arith
    at false t = t
  rows_reordered (swap x y xs) k = at (eqb x.id.column k) (eqb y.id.column k) where
    at : (a b : Bool) → rows_of (cond b (y ∷ cond a (x ∷ came_in k xs) (came_in k xs)) (cond a (x ∷ came_in k xs) (came_in k xs))) ≡ rows_of (cond a (x ∷ cond b (y ∷ came_in k xs) (came_in k xs)) (cond b (y ∷ came_in k xs) (came_in k xs)))
    at true true = omega arith
    at true false = refl
    at false true = refl
    at false false = refl
  rows_reordered (chain r s) k = rows_reordered s k ∙ rows_reordered r k

  all_reordered : (P : Cell V → Type 0) {xs ys : List (Cell V)} → Reordered xs ys → AllByRecursion P xs → AllByRecursion P ys
  all_reordered P empty h = h
  all_reordered P (keep x r) h = (h.0, all_reordered P r h.1)
  all_reordered P (swap x y xs) h = (h.1.0, (h.0, h.1.1))
  all_reordered P (chain r s) h = all_reordered P s (all_reordered P r h)

  fair_reordered : (xs ys : List (Cell V)) → Reordered xs ys → Fair ms xs → Fair ms ys
  fair_reordered xs ys r f = record { proper = all_reordered (Proper ms) r f.proper; few = λ k. omega (arith, rows_reordered r k, f.few k) }

  -- what came for a group, in either order of two
  total_came : (p : GroupId) (x y : Cell V) (xs : List (Cell V)) → Fair ms (x ∷ y ∷ xs) → total (ms p.column) p (came_for p (x ∷ y ∷ xs)) ≡ total (ms p.column) p (came_for p (y ∷ x ∷ xs))
  total_came p x y xs f = at (alike p x.id) (alike p y.id) where
    at : (p ≡ x.id) ⊎ (p ≡ x.id → ⊥) → (p ≡ y.id) ⊎ (p ≡ y.id → ⊥) → total (ms p.column) p (came_for p (x ∷ y ∷ xs)) ≡ total (ms p.column) p (came_for p (y ∷ x ∷ xs))
    at (inl e) (inl d) =
        let one : came_for p (x ∷ y ∷ xs) ≡ x ∷ y ∷ came_for p xs = came_yes p x (y ∷ xs) e ∙ ap (λ l. x ∷ l) (came_yes p y xs d) in
        let two : came_for p (y ∷ x ∷ xs) ≡ y ∷ x ∷ came_for p xs = came_yes p y (x ∷ xs) d ∙ ap (λ l. y ∷ l) (came_yes p x xs e) in
        ap (total (ms p.column) p) one
        ∙ total_swap (ms p.column) (laws p.column) p x y (came_for p xs) (subst (AllByRecursion (λ y. (1 ≤ y.rows) × Possible (ms p.column) y.value y.rows)) one (proper_for ms p (x ∷ y ∷ xs) f.proper)) (subst (λ l. rows_of l ≤ most_rows) one (bound p (x ∷ y ∷ xs) f))
        ∙ ap (total (ms p.column) p) (sym two)
    at (inl e) (inr d) = ap (total (ms p.column) p) (came_yes p x (y ∷ xs) e ∙ ap (λ l. x ∷ l) (came_no p y xs d) ∙ sym (came_no p y (x ∷ xs) d ∙ came_yes p x xs e))
    at (inr e) (inl d) = ap (total (ms p.column) p) (came_no p x (y ∷ xs) e ∙ came_yes p y xs d ∙ sym (came_yes p y (x ∷ xs) d ∙ ap (λ l. y ∷ l) (came_no p x xs e)))
    at (inr e) (inr d) = ap (total (ms p.column) p) (came_no p x (y ∷ xs) e ∙ came_no p y xs d ∙ sym (came_no p y (x ∷ xs) d ∙ came_no p x xs e))

  any_order : {xs ys : List (Cell V)} → Reordered xs ys → Fair ms xs → heard ms xs ≡ heard ms ys
  any_order empty f = refl
  any_order (keep x {xs} {ys} r) f = ap (put (ms x.id.column).join x) (any_order r (fair_tail ms x xs f))
  any_order (swap x y xs) f =
      sorted_ext (heard ms (x ∷ y ∷ xs)) (heard ms (y ∷ x ∷ xs)) (sorted_heard ms (x ∷ y ∷ xs)) (sorted_heard ms (y ∷ x ∷ xs))
      (λ p. totals (x ∷ y ∷ xs) f p ∙ total_came p x y xs f ∙ sym (totals (y ∷ x ∷ xs) (fair_reordered (x ∷ y ∷ xs) (y ∷ x ∷ xs) (swap x y xs) f) p))
  any_order (chain {xs} {ys} {zs} r s) f = any_order r f ∙ any_order s (fair_reordered xs ys r f)

  -- every group is proper
  proper_heard : (xs : List (Cell V)) → Fair ms xs → AllByRecursion (Proper ms) (heard ms xs)
  proper_heard xs f = all_from_every (Proper ms) (heard ms xs) (λ k d _ h. at k d h) where
    at : (k : ℕ) (d : Cell V) → k < length (heard ms xs) → Proper ms (get_or (heard ms xs) k d)
    at k d h =
        let c = get_or (heard ms xs) k d in
        proper_total (ms c.id.column) (laws c.id.column) c.id c (came_for c.id xs) (proper_for ms c.id xs f.proper) (bound c.id xs f)
        (sym (totals xs f c.id) ∙ sorted_at (heard ms xs) (sorted_heard ms xs) k d h)

  pub law : Law ms
  law = record {
    sorted = sorted_heard ms;
    totals = totals;
    order_is_free = λ xs ys f r. any_order r f;
    possible = proper_heard;
  }

-- ---- how many groups begin

-- one where nothing is there
abbrev new : Bool → ℕ
new b = cond b 0 1

module _ {V : Type 0} (f : V → V → V) (x : Cell V) where
  pub length_put : (cs : List (Cell V)) → length (put f x cs) ≡ cond (there x.id cs) 0 1 + length cs
  length_put [] = refl
  length_put (c ∷ cs) = at (order x.id c.id) refl (length_put cs) where
    at : (r : Ordering) → order x.id c.id ≡ r → length (put f x cs) ≡ cond (there x.id cs) 0 1 + length cs → length (put f x (c ∷ cs)) ≡ cond (there x.id (c ∷ cs)) 0 1 + length (c ∷ cs)
    at Less e t =
        let a = ap length (put_head f x c cs Less e) in
        let b = ap (λ o. new (is_some o)) (look_head x.id c cs Less e) in
        omega arith
    at Equal e t =
        let a = ap length (put_head f x c cs Equal e) in
        let b = ap (λ o. new (is_some o)) (look_head x.id c cs Equal e) in
        omega arith
    at Greater e t =
        let a = ap length (put_head f x c cs Greater e) in
        let b = ap (λ o. new (is_some o)) (look_head x.id c cs Greater e) in
        omega arith

  pub there_put : (p : GroupId) (cs : List (Cell V)) → there p (put f x cs) ≡ cond (same_group p x.id) true (there p cs)
  there_put p cs = at (alike p x.id) where
    at : (p ≡ x.id) ⊎ (p ≡ x.id → ⊥) → there p (put f x cs) ≡ cond (same_group p x.id) true (there p cs)
    at (inl e) = ap (λ q. there q (put f x cs)) e ∙ ap is_some (lookup_put_same f x cs) ∙ ap (λ b. cond b true (there p cs)) (sym (same_yes p x.id e))
    at (inr ne) = ap is_some (lookup_put_other f x p ne cs) ∙ ap (λ b. cond b true (there p cs)) (sym (same_no p x.id ne))

module _ {V : Type 0} (joins : ℕ → V → V → V) (gs : List (Cell V)) where
  there_heard : (p : GroupId) (xs : List (Cell V)) → there p (heard_on joins gs xs) ≡ cond (there p gs) true (listed p (ids xs))
  there_heard p [] = at (there p gs) where
    at : (b : Bool) → b ≡ cond b true false
    at true = refl
    at false = refl
  there_heard p (x ∷ xs) = there_put (joins x.id.column) x p (heard_on joins gs xs) ∙ ap (cond (same_group p x.id) true) (there_heard p xs) ∙ at (same_group p x.id) (there p gs) where
    at : (a b : Bool) → cond a true (cond b true (listed p (ids xs))) ≡ cond b true (cond a true (listed p (ids xs)))
    at true true = refl
    at true false = refl
    at false true = refl
    at false false = refl

  -- contributions begin just so many groups
  pub length_heard : (xs : List (Cell V)) → length (heard_on joins gs xs) ≡ length gs + beginning (ids xs) gs
  length_heard [] = omega arith
  length_heard (x ∷ xs) =
      let one = length_put (joins x.id.column) x (heard_on joins gs xs) in
      let here = ap new (there_heard x.id xs) ∙ at (there x.id gs) (listed x.id (ids xs)) in
      let rest = length_heard xs in
      omega arith where
        at : (a b : Bool) → new (cond a true b) ≡ cond (cond a false (not b)) 1 0
        at true b = refl
        at false true = refl
        at false false = refl

-- one where something begins
abbrev pub counted : Bool → ℕ
counted b = cond b 1 0

-- as many groups as cells, where no two are of one group
pub length_in_order : {V : Type 0} (cs : List (Cell V)) → Apart cs → length (in_order cs) ≡ length cs
length_in_order [] a = refl
length_in_order (c ∷ cs) a =
    let one = length_put (λ new old. new) c (in_order cs) in
    let here = ap (λ o. new (is_some o)) (in_order_none c.id cs (apart_head c cs a)) in
    let rest = length_in_order cs (apart_tail c cs a) in
    omega arith
