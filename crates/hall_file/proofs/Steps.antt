-- The readers of keys, values, groups and columns, step by step as the code goes.
use Rattle.std.proofs.Common.{◌≡◌, ℕ, zero, suc, ◌+◌, ◌-◌, ◌<◌, ◌≤◌, true, false, eqb, List, [], ◌∷◌, ◌++◌, length, get_or, take, drop, set, replicate, ℤ, pos, Some, None, Option, sym, refl, ap, ◌∙◌, arith, w32, SFits, to_z, of_z}
use Rattle.std.proofs.lemmas.Int.{to_z-of_z}
use Rattle.std.proofs.lemmas.List.{append_assoc, take_more_set, length-set, drop-replicate}
use Rattle.std.proofs.lemmas.Bool.{cond-true, cond-false, eq-eqb, ne_eqb}
use Rattle.measures.specs.Meaning.{Meaning}
use Rattle.cells.specs.declared.cell.Cell.{Cell}
use Rattle.cells.specs.Columns.{Group, cell_of, group as group_in}
use Rattle.readers.specs.Readers.{changed, go_on, kept, picked, with_rest, after, seq, times, number}
use Rattle.readers.proofs.Inverses.{none_some}
use Rattle.readers.proofs.Steps.{kept_yes, kept_no, changed_like, after_changed, listed, times_step, bytes_short, bytes_in}
use Rattle.hall_file.specs.declared.shape.ColumnShape.{ColumnShape}
use Rattle.hall_file.specs.Written.{Column, width}
use Rattle.hall_file.specs.Rules.{is_after}
use Rattle.hall_file.specs.Reading.{int, padded, key, if_possible, value, rows, group, groups, shape, column}

-- places of which i have their values
pub record Filled (n : ℕ) (start : List ℕ) (i : ℕ) (ps : List ℤ) (rest : List ℕ) : Type 0 where
  pub many : length ps ≡ n
  pub same : times n int start ≡ changed (λ xs. take i ps ++ xs) (times (n - i) int rest)

pub filled_more : (n : ℕ) (start : List ℕ) (i : ℕ) (ps : List ℤ) (rest : List ℕ) (z : ℤ) (more : List ℕ) → i < n → Filled n start i ps rest → Some (z, more) ≡ int rest → Filled n start (i + 1) (set ps i z) more
filled_more n start i ps rest z more h f e =
    let many = f.many in
    let here : i < length ps = omega arith in
    let one : n - i ≡ suc (n - (i + 1)) = omega arith in
    record {
      many = length-set ps i z ∙ many;
      same = f.same
          ∙ ap (λ k. changed (λ xs. take i ps ++ xs) (times k int rest)) one
          ∙ times_step (λ xs. take i ps ++ xs) int (n - (i + 1)) z rest more e
          ∙ changed_like (λ xs. take i ps ++ (z ∷ xs)) (λ xs. take (i + 1) (set ps i z) ++ xs) (times (n - (i + 1)) int more)
          (λ xs. sym (append_assoc (take i ps) (z ∷ []) xs) ∙ ap (λ x. x ++ xs) (sym (take_more_set ps i z here)));
    }

-- places past those of a key stay 0
pub key_places : (w : ℕ) (bs : List ℕ) (ks : List ℤ) (rest : List ℕ) → w ≤ 4 → length ks ≡ w → Some (ks, rest) ≡ times w int bs → Some (ks ++ drop w (replicate 4 (pos 0)), rest) ≡ key w bs
unfolding key
key_places w bs ks rest h l e =
    let zeros : drop w (replicate 4 (pos 0)) ≡ replicate (4 - length ks) (pos 0) = drop-replicate w 4 (pos 0) ∙ ap (λ n. replicate (4 - n) (pos 0)) (sym l) in
    ap (λ zs. Some (ks ++ zs, rest)) zeros ∙ ap (changed padded) e

pub no_key : (w : ℕ) (bs : List ℕ) → None ≡ times w int bs → None ≡ key w bs
unfolding key
no_key w bs e = ap (changed padded) e

-- a word of 32 bits shows the number that it stands for
pub as_shown : (z : ℤ) → SFits w32 z → to_z w32 (of_z w32 z) ≡ z
as_shown z h = to_z-of_z w32 z h

-- a value of n rows
module _ {V A : Type 0} (m : Meaning V A) (n : ℕ) (bs : List ℕ) where
  pub value_short : length bs < 8 → None ≡ value m n bs
  unfolding value
  value_short h = ap (picked (λ bs. if_possible m n (m.reads bs))) (sym (bytes_short 8 bs h))

  pub value_at : (w rest : List ℕ) → w ≡ take 8 bs → rest ≡ drop 8 bs → length rest + 8 ≡ length bs → ((i : ℕ) → get_or bs i 0 < 256) → with_rest rest (if_possible m n (m.reads w)) ≡ value m n bs
  unfolding value
  value_at w rest e f h t =
      ap (λ w. with_rest rest (if_possible m n (m.reads w))) e ∙ ap (λ r. with_rest r (if_possible m n (m.reads (take 8 bs)))) f
      ∙ ap (picked (λ bs. if_possible m n (m.reads bs))) (sym (bytes_in 8 bs (omega arith) t))

  pub value_none : (w rest : List ℕ) → None ≡ m.reads w → None ≡ with_rest rest (if_possible m n (m.reads w))
  value_none w rest e = ap (λ o. with_rest rest (if_possible m n o)) e

  pub value_some : (w rest : List ℕ) (v : V) → Some v ≡ m.reads w → true ≡ m.possible v n → Some (v, rest) ≡ with_rest rest (if_possible m n (m.reads w))
  value_some w rest v e t = ap (with_rest rest) (sym (cond-true (m.possible v n) (Some v) None (sym t))) ∙ ap (λ o. with_rest rest (if_possible m n o)) e

  pub value_not : (w rest : List ℕ) (v : V) → Some v ≡ m.reads w → false ≡ m.possible v n → None ≡ with_rest rest (if_possible m n (m.reads w))
  value_not w rest v e t = ap (with_rest rest) (sym (cond-false (m.possible v n) (Some v) None (sym t))) ∙ ap (λ o. with_rest rest (if_possible m n o)) e

abbrev grouped : {V : Type 0} → List ℤ × (ℕ × V) → Group V
grouped q = record { key = q.0; rows = q.1.0; value = q.1.1 }

-- what was read as a cell was read as its group
pub cell_was : {V : Type 0} (k : ℕ) (c : Cell V) (rest : List ℕ) (o : Option (Group V × List ℕ)) → Some (c, rest) ≡ changed (cell_of k) o → Some (group_in c, rest) ≡ o
cell_was k c rest None e = none_some (c, rest) (sym e)
cell_was {V} k c rest (Some q) e =
    let z : ◌≡◌ {A = Cell V × List ℕ} (c, rest) (cell_of k q.0, q.1) = cc in
    ap (λ (u : Cell V × List ℕ). Some (group_in u.0, u.1)) z

pub no_cell : {V : Type 0} (k : ℕ) (o : Option (Group V × List ℕ)) → None ≡ changed (cell_of k) o → None ≡ o
no_cell k None e = refl
no_cell k (Some q) e = none_some (cell_of k q.0, q.1) e

module _ {M V A : Type 0} (meaning : M → Meaning V A) (s : ColumnShape M) where
  -- a group: key, rows, value
  module _ (left : ℕ) (bs : List ℕ) where
    pub group_no_key : None ≡ key (width s) bs → None ≡ group meaning s left bs
    unfolding group
    group_no_key e = ap (λ o. changed grouped (go_on o (λ _. seq (rows left) (value (meaning s.measure))))) e

    module _ (ks : List ℤ) (r1 : List ℕ) (e : Some (ks, r1) ≡ key (width s) bs) where
      keyed : changed grouped (changed (λ y. (ks, y)) (go_on (rows left r1) (value (meaning s.measure)))) ≡ group meaning s left bs
      unfolding group
      keyed = ap (λ o. changed grouped (go_on o (λ _. seq (rows left) (value (meaning s.measure))))) e

      pub group_no_rows : None ≡ rows left r1 → None ≡ group meaning s left bs
      group_no_rows f = ap (λ o. changed grouped (changed (λ y. (ks, y)) (go_on o (value (meaning s.measure))))) f ∙ keyed

      module _ (n : ℕ) (r2 : List ℕ) (f : Some (n, r2) ≡ rows left r1) where
        counted : changed grouped (changed (λ y. (ks, y)) (changed (λ y. (n, y)) (value (meaning s.measure) n r2))) ≡ group meaning s left bs
        counted = ap (λ o. changed grouped (changed (λ y. (ks, y)) (go_on o (value (meaning s.measure))))) f ∙ keyed

        pub group_no_value : None ≡ value (meaning s.measure) n r2 → None ≡ group meaning s left bs
        group_no_value g = ap (λ o. changed grouped (changed (λ y. (ks, y)) (changed (λ y. (n, y)) o))) g ∙ counted

        pub group_is : (v : V) (r3 : List ℕ) → Some (v, r3) ≡ value (meaning s.measure) n r2 → Some (record { key = ks; rows = n; value = v }, r3) ≡ group meaning s left bs
        group_is v r3 g = ap (λ o. changed grouped (changed (λ y. (ks, y)) (changed (λ y. (n, y)) o))) g ∙ counted

  -- c groups, of which one is taken
  module _ (last : Option (List ℤ)) (left : ℕ) (bs : List ℕ) where
    pub groups_more : (c d : ℕ) (g : Group V) (rest : List ℕ) → c ≡ suc d → Some (g, rest) ≡ group meaning s left bs → is_after last g.key ≡ true → after (groups meaning s c last left bs) ≡ after (groups meaning s d (Some g.key) (left - g.rows) rest)
    unfolding groups
    groups_more zero d g rest h e t = absurd (omega arith)
    groups_more (suc c) d g rest h e t =
        let o = groups meaning s c (Some g.key) (left - g.rows) rest in
        ap (λ o. after (changed listed (go_on o (λ g. groups meaning s c (Some g.key) (left - g.rows))))) (sym (kept_yes (λ g. is_after last g.key) g rest (group meaning s left bs) e t))
        ∙ after_changed listed (changed (λ y. (g, y)) o) ∙ after_changed (λ y. (g, y)) o
        ∙ ap (λ n. after (groups meaning s n (Some g.key) (left - g.rows) rest)) (omega arith)

    pub groups_no_group : (c : ℕ) → 0 < c → None ≡ group meaning s left bs → None ≡ after (groups meaning s c last left bs)
    unfolding groups
    groups_no_group zero h e = absurd (omega arith)
    groups_no_group (suc c) h e =
        ap (λ o. after (changed listed (go_on (kept (λ g. is_after last g.key) o) (λ g. groups meaning s c (Some g.key) (left - g.rows))))) e

    pub groups_no_order : (c : ℕ) (g : Group V) (rest : List ℕ) → 0 < c → Some (g, rest) ≡ group meaning s left bs → is_after last g.key ≡ false → None ≡ after (groups meaning s c last left bs)
    unfolding groups
    groups_no_order zero g rest h e t = absurd (omega arith)
    groups_no_order (suc c) g rest h e t =
        ap (λ o. after (changed listed (go_on o (λ g. groups meaning s c (Some g.key) (left - g.rows))))) (kept_no (λ g. is_after last g.key) g rest (group meaning s left bs) e t)

    pub groups_end : (c : ℕ) → c ≡ 0 → left ≡ 0 → Some bs ≡ after (groups meaning s c last left bs)
    unfolding groups
    groups_end c e f = ap after (kept_yes (λ _. eqb left 0) [] bs (Some ([], bs)) refl (eq-eqb left 0 f)) ∙ ap (λ c. after (groups meaning s c last left bs)) (sym e)

    pub groups_not_all : (c : ℕ) → c ≡ 0 → (left ≡ 0 → ⊥) → None ≡ after (groups meaning s c last left bs)
    unfolding groups
    groups_not_all c e f = ap after (kept_no (λ _. eqb left 0) [] bs (Some ([], bs)) refl (ne_eqb left 0 f)) ∙ ap (λ c. after (groups meaning s c last left bs)) (sym e)

-- a column: shape, number of groups, groups
module _ {M V A : Type 0} (meaning : M → Meaning V A) (found : ℕ → Option M) (fields all : ℕ) (bs : List ℕ) where
  abbrev columned : ColumnShape M × (ℕ × List (Group V)) → Column M V
  columned q = record { shape = q.0; groups = q.1.1 }

  pub column_no_shape : None ≡ shape meaning found fields bs → None ≡ after (column meaning found fields all bs)
  unfolding column
  column_no_shape e = ap (λ o. after (changed columned (go_on o (λ s. seq (number 2) (λ c. groups meaning s c None all))))) e

  module _ (s : ColumnShape M) (r1 : List ℕ) (e : Some (s, r1) ≡ shape meaning found fields bs) where
    pub column_no_count : None ≡ number 2 r1 → None ≡ after (column meaning found fields all bs)
    unfolding column
    column_no_count f =
        ap (λ o. after (changed columned (changed (λ y. (s, y)) (go_on o (λ c. groups meaning s c None all))))) f
        ∙ ap (λ o. after (changed columned (go_on o (λ s. seq (number 2) (λ c. groups meaning s c None all))))) e

    pub column_is : (c : ℕ) (r2 : List ℕ) → Some (c, r2) ≡ number 2 r1 → after (groups meaning s c None all r2) ≡ after (column meaning found fields all bs)
    unfolding column
    column_is c r2 f =
        let o = groups meaning s c None all r2 in
        sym (after_changed columned (changed (λ y. (s, y)) (changed (λ y. (c, y)) o)) ∙ after_changed (λ y. (s, y)) (changed (λ y. (c, y)) o) ∙ after_changed (λ y. (c, y)) o)
        ∙ ap (λ o. after (changed columned (changed (λ y. (s, y)) (go_on o (λ c. groups meaning s c None all))))) f
        ∙ ap (λ o. after (changed columned (go_on o (λ s. seq (number 2) (λ c. groups meaning s c None all))))) e
