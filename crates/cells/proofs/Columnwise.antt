-- The one list of groups, column by column. Assumes nothing.
use Rattle.std.proofs.Common.{◌≡◌, ℕ, zero, suc, ◌+◌, ◌<◌, ◌≤◌, Bool, true, false, cond, eqb, List, [], ◌∷◌, ◌++◌, map, Ordering, Less, Equal, Greater, sym, refl, ap, ◌∙◌, arith}
use Rattle.std.specs.List.{AllByRecursion}
use Rattle.std.proofs.ByRecursion.{All-weaker}
use Rattle.std.proofs.lemmas.Bool.{eq-eqb, eqb-true, eqb-false}
use Rattle.cells.specs.declared.cell.Cell.{Cell}
use Rattle.cells.specs.Order.{order, key_order}
use Rattle.cells.specs.Listed.{among}
use Rattle.cells.specs.Groups.{Sorted, grown, put}
use Rattle.cells.specs.Columns.{Group, group, cell_of, joined, put_group, column, columns, flat}
use Rattle.cells.proofs.Ordered.{same, trans, same_column, column_rises}
use Rattle.cells.proofs.Lookups.{put_head}

differs : (a b : ℕ) → (a ≡ b → ⊥) → eqb a b ≡ false
differs a b ne = at (eqb a b) refl where
  at : (x : Bool) → eqb a b ≡ x → eqb a b ≡ false
  at true e = absurd (ne (eqb-true a b e))
  at false e = e

module _ {V : Type 0} (k : ℕ) where
  column_yes : (c : Cell V) (cs : List (Cell V)) → c.id.column ≡ k → column k (c ∷ cs) ≡ group c ∷ column k cs
  column_yes c cs e = ap (λ b. cond b (group c ∷ column k cs) (column k cs)) (eq-eqb _ _ e)

  column_no : (c : Cell V) (cs : List (Cell V)) → eqb c.id.column k ≡ false → column k (c ∷ cs) ≡ column k cs
  column_no c cs e = ap (λ b. cond b (group c ∷ column k cs) (column k cs)) e

  -- all of later columns
  column_none : (cs : List (Cell V)) → AllByRecursion (λ c. k < c.id.column) cs → column k cs ≡ []
  column_none [] h = refl
  column_none (c ∷ cs) h = column_no c cs (differs _ _ (λ e. omega (arith, e, h.0))) ∙ column_none cs h.1

  module _ (f : V → V → V) (x : Cell V) where
    -- a contribution to another column
    column_put_other : eqb x.id.column k ≡ false → (cs : List (Cell V)) → column k (put f x cs) ≡ column k cs
    column_put_other ne [] = column_no x [] ne
    column_put_other ne (c ∷ cs) = ap (column k) (put_head f x c cs (order x.id c.id) refl) ∙ at (order x.id c.id) refl (column_put_other ne cs) where
      at : (r : Ordering) → order x.id c.id ≡ r → column k (put f x cs) ≡ column k cs → column k (among r (x ∷ c ∷ cs) (grown f x c ∷ cs) (c ∷ put f x cs)) ≡ column k (c ∷ cs)
      at Less e t = column_no x (c ∷ cs) ne
      at Equal e t =
          let no : eqb c.id.column k ≡ false = ap (λ p. eqb p.column k) (sym (same x.id c.id e)) ∙ ne in
          column_no (grown f x c) cs no ∙ sym (column_no c cs no)
      at Greater e t = ap (λ l. cond (eqb c.id.column k) (group c ∷ l) l) t

    put_group_head : (g : Group V) (gs : List (Group V)) (r : Ordering) → key_order x.id.key g.key ≡ r → put_group f (group x) (g ∷ gs) ≡ among r (group x ∷ g ∷ gs) (joined f (group x) g ∷ gs) (g ∷ put_group f (group x) gs)
    put_group_head g gs r e = ap (λ o. among o (group x ∷ g ∷ gs) (joined f (group x) g ∷ gs) (g ∷ put_group f (group x) gs)) e

    -- before all of its column
    put_group_first : x.id.column ≡ k → (cs : List (Cell V)) → AllByRecursion (λ d. order x.id d.id ≡ Less) cs → put_group f (group x) (column k cs) ≡ group x ∷ column k cs
    put_group_first e [] h = refl
    put_group_first e (c ∷ cs) h = at (eqb c.id.column k) refl (put_group_first e cs h.1) where
      at : (b : Bool) → eqb c.id.column k ≡ b → put_group f (group x) (column k cs) ≡ group x ∷ column k cs → put_group f (group x) (cond b (group c ∷ column k cs) (column k cs)) ≡ group x ∷ cond b (group c ∷ column k cs) (column k cs)
      at true q t = put_group_head (group c) (column k cs) Less (same_column x.id c.id Less (e ∙ sym (eqb-true _ _ q)) h.0)
      at false q t = t

    -- a contribution to this column
    column_put_same : x.id.column ≡ k → (cs : List (Cell V)) → Sorted cs → column k (put f x cs) ≡ put_group f (group x) (column k cs)
    column_put_same e [] s = column_yes x [] e
    column_put_same e (c ∷ cs) s = ap (column k) (put_head f x c cs (order x.id c.id) refl) ∙ at (order x.id c.id) refl (column_put_same e cs s.1) where
      past : (b : Bool) → eqb c.id.column k ≡ b → order x.id c.id ≡ Greater → column k (put f x cs) ≡ put_group f (group x) (column k cs) → cond b (group c ∷ column k (put f x cs)) (column k (put f x cs)) ≡ put_group f (group x) (cond b (group c ∷ column k cs) (column k cs))
      past true q o t = ap (λ l. group c ∷ l) t ∙ sym (put_group_head (group c) (column k cs) Greater (same_column x.id c.id Greater (e ∙ sym (eqb-true _ _ q)) o))
      past false q o t = t

      at : (r : Ordering) → order x.id c.id ≡ r → column k (put f x cs) ≡ put_group f (group x) (column k cs) → column k (among r (x ∷ c ∷ cs) (grown f x c ∷ cs) (c ∷ put f x cs)) ≡ put_group f (group x) (column k (c ∷ cs))
      at Less o t = column_yes x (c ∷ cs) e ∙ sym (put_group_first e (c ∷ cs) (o, All-weaker _ _ (λ d h. trans x.id c.id d.id o h) cs s.0))
      at Equal o t =
          let here : c.id.column ≡ k = ap (λ p. p.column) (sym (same x.id c.id o)) ∙ e in
          column_yes (grown f x c) cs here ∙ sym (ap (put_group f (group x)) (column_yes c cs here) ∙ put_group_head (group c) (column k cs) Equal (same_column x.id c.id Equal (e ∙ sym here) o))
      at Greater o t = past (eqb c.id.column k) refl o t

    -- what a contribution makes of column k
    pub column_put : (cs : List (Cell V)) → Sorted cs → column k (put f x cs) ≡ cond (eqb x.id.column k) (put_group f (group x) (column k cs)) (column k cs)
    column_put cs s = at (eqb x.id.column k) refl where
      at : (b : Bool) → eqb x.id.column k ≡ b → column k (put f x cs) ≡ cond b (put_group f (group x) (column k cs)) (column k cs)
      at true e = column_put_same (eqb-true _ _ e) cs s
      at false e = column_put_other e cs

-- ---- and back

module _ {V : Type 0} where
  -- a cell of an earlier column does not matter
  columns_later : (k n : ℕ) (c : Cell V) (cs : List (Cell V)) → c.id.column < k → columns k n (c ∷ cs) ≡ columns k n cs
  columns_later k zero c cs lt = refl
  columns_later k (suc n) c cs lt =
      let here = column_no k c cs (differs _ _ (λ e. omega (arith, e))) in
      let rest = columns_later (suc k) n c cs (omega arith) in
      cc

  flat_cons : (n k : ℕ) (c : Cell V) (cs : List (Cell V)) → k ≤ c.id.column → c.id.column < k + n → AllByRecursion (λ d. c.id.column ≤ d.id.column) cs → flat k (columns k n (c ∷ cs)) ≡ c ∷ flat k (columns k n cs)
  flat_cons zero k c cs low high h = absurd (omega arith)
  flat_cons (suc n) k c cs low high h = at (eqb c.id.column k) refl (λ lt. flat_cons n (suc k) c cs lt (omega arith) h) where
    at : (b : Bool) → eqb c.id.column k ≡ b → (suc k ≤ c.id.column → flat (suc k) (columns (suc k) n (c ∷ cs)) ≡ c ∷ flat (suc k) (columns (suc k) n cs)) → flat k (columns k (suc n) (c ∷ cs)) ≡ c ∷ flat k (columns k (suc n) cs)
    at true e t =
        let is = eqb-true c.id.column k e in
        let back = sym is in
        let self : cell_of k (group c) ≡ c = λ i. record { id = record { column = back i; key = c.id.key }; rows = c.rows; value = c.value } in
        ap (λ l. map (cell_of k) l ++ flat (suc k) (columns (suc k) n (c ∷ cs))) (column_yes k c cs is)
        ∙ ap (λ l. cell_of k (group c) ∷ map (cell_of k) (column k cs) ++ flat (suc k) l) (columns_later (suc k) n c cs (omega arith))
        ∙ ap (λ d. d ∷ map (cell_of k) (column k cs) ++ flat (suc k) (columns (suc k) n cs)) self
    at false e t =
        let ne = eqb-false c.id.column k e in
        let lt : suc k ≤ c.id.column = apart ne in
        let none = column_none k cs (All-weaker _ _ (λ d le. later lt le) cs h) in
        ap (λ l. map (cell_of k) l ++ flat (suc k) (columns (suc k) n (c ∷ cs))) (column_no k c cs e ∙ none)
        ∙ t lt
        ∙ ap (λ l. c ∷ map (cell_of k) l ++ flat (suc k) (columns (suc k) n cs)) (sym none) where
          apart : (c.id.column ≡ k → ⊥) → suc k ≤ c.id.column
          apart ne = omega arith

          later : {m : ℕ} → suc k ≤ c.id.column → c.id.column ≤ m → k < m
          later lt le = omega arith

  -- groups of n columns in order are those of each column, one column after the other
  pub flat_columns : (n : ℕ) (cs : List (Cell V)) → Sorted cs → AllByRecursion (λ c. c.id.column < n) cs → flat 0 (columns 0 n cs) ≡ cs
  flat_columns n [] s h = none n 0 where
    none : (n k : ℕ) → flat {V = V} k (columns k n []) ≡ []
    none zero k = refl
    none (suc n) k = none n (suc k)
  flat_columns n (c ∷ cs) s h =
      flat_cons n 0 c cs (omega arith) (omega (arith, h.0)) (All-weaker _ _ (λ d lt. column_rises c.id d.id lt) cs s.0)
      ∙ ap (λ l. c ∷ l) (flat_columns n cs s.1 h.1)
