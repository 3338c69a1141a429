-- The readers of the parts read just what is written.
use Rattle.std.proofs.Common.{◌≡◌, ℕ, zero, suc, ◌+◌, ◌-◌, ◌^◌, ◌<◌, ◌≤◌, Bool, true, false, cond, eqb, ltb, leb, List, [], ◌∷◌, ◌++◌, length, take, replicate, ℤ, pos, nat_abs, Some, None, Option, sym, refl, ap, ◌∙◌, subst, arith, take-append-drop, pow_mono, w32, SFits, to_z, of_z}
use lib.Count.{ones}
use mir.Facts.{sfits_to_z}
use Rattle.std.specs.List.{flat_map, AllByRecursion}
use Rattle.std.proofs.lemmas.List.{take_at, drop_at, length-take-le, length-append, length-replicate}
use Rattle.std.proofs.lemmas.Int.{to_z-of_z, of_z-to_z, ints}
use Rattle.std.proofs.lemmas.Bool.{leb-true, le-leb, ltb-true, and_parts, and_from, eq-eqb, eqb-true, cond-true}
use Rattle.measures.specs.Values.{RowValue, is_row_value, most_rows}
use Rattle.measures.specs.Bytes.{bytes_of}
use Rattle.measures.specs.Meaning.{Meaning, Properties, Formed, Possible}
use Rattle.cells.specs.Columns.{Group}
use Rattle.readers.proofs.Inverses.{Inverse, none_some, inv_via, inv_seq, inv_if, inv_times, inv_constant, inv_byte, inv_number, inv_like, inv_chosen, Many}
use Rattle.hall_file.specs.declared.shape.ColumnShape.{ColumnShape}
use Rattle.hall_file.specs.declared.head.Head.{Head}
use Rattle.hall_file.specs.Written.{Content, width, mark, version, int_bytes, key_bytes, measured_byte, head_bytes, group_bytes, groups_bytes, shape_bytes, column_bytes, columns_bytes, file_bytes}
use Rattle.hall_file.specs.Rules.{Key, is_after, Ascends, rows_of, measured_fits, mask_fits, GoodGroup, GoodShape, GoodColumn, Good}
use Rattle.hall_file.specs.Reading.{int, padded, key, fits, rows, one_to, head, measured_of, if_possible, value, group, groups, shape, column, columns, file}

-- a key value
fits_int : (z : ℤ) → RowValue z → SFits w32 z
fits_int z h = omega (arith, ints)

pub inv_int : Inverse RowValue int_bytes int
unfolding int
inv_int =
    inv_like RowValue
    (inv_if is_row_value
    (inv_via (to_z w32) (SFits w32) int_bytes (inv_number 4)
    (λ z ok. (of_z w32 z, omega (arith, ints), to_z-of_z w32 z ok, refl))
    (λ n ok. (sfits_to_z (record { fits = ok }), ap (bytes_of 4) (sym (of_z-to_z w32 n ok))))))
    (λ z ok. (fits_int z ok, le-leb (nat_abs z) 999999999 ok)) (λ z ok. leb-true (nat_abs z) 999999999 ok.1)

-- a key
pub inv_key : (w : ℕ) → w ≤ 4 → Inverse (Key w) (key_bytes w) (key w)
unfolding key
inv_key w h =
    inv_via padded (Key w) (key_bytes w) (inv_times inv_int w)
    (λ ks ok.
    let l = ok.0 in
    let e : length (take w ks) ≡ w = length-take-le w ks (omega arith) in
    (take w ks, (e, ok.1), ap (λ n. take w ks ++ replicate (4 - n) (pos 0)) e ∙ ap (λ x. take w ks ++ x) (sym ok.2) ∙ take-append-drop w ks, refl))
    (λ ks ok.
    let e = ok.0 in
    let zs = replicate (4 - length ks) (pos 0) in
    let t = take_at ks zs w e in
    ((length-append ks zs ∙ ap (λ n. length ks + n) (length-replicate (4 - length ks) (pos 0)) ∙ omega arith, subst (AllByRecursion RowValue) (sym t) ok.1, drop_at ks zs w e ∙ ap (λ n. replicate (4 - n) (pos 0)) e), ap (flat_map int_bytes) (sym t)))

-- a group's row count
inv_rows : (left : ℕ) → left ≤ most_rows → Inverse (λ n. (1 ≤ n) × (n ≤ left)) (bytes_of 4) (rows left)
unfolding rows
inv_rows left h =
    inv_like (λ n. (1 ≤ n) × (n ≤ left)) (inv_if (fits left) (inv_number 4))
    (λ n ok. let a = ok.0 in let b = ok.1 in (omega arith, and_from (leb 1 n) (leb n left) (le-leb 1 n a) (le-leb n left b)))
    (λ n ok. let q = and_parts (leb 1 n) (leb n left) ok.1 in (leb-true 1 n q.0, leb-true n left q.1))

-- the head
pub record GoodHead (h : Head) : Type 0 where
  pub fields_some : 1 ≤ h.fields
  pub fields_few : h.fields ≤ 8
  pub columns_some : 1 ≤ h.columns
  pub columns_few : h.columns ≤ 8
  pub rows_few : h.rows ≤ most_rows

one_to_eight : (n : ℕ) → one_to 8 n ≡ true → (1 ≤ n) × (n ≤ 8)
one_to_eight n e = let q = and_parts (leb 1 n) (leb n 8) e in (leb-true 1 n q.0, leb-true n 8 q.1)

eight_or_less : (n : ℕ) → 1 ≤ n → n ≤ 8 → one_to 8 n ≡ true
eight_or_less n a b = and_from (leb 1 n) (leb n 8) (le-leb 1 n a) (le-leb n 8 b)

pub inv_head : Inverse GoodHead (λ h. head_bytes h.fields h.columns h.rows) head
unfolding head
inv_head =
    inv_via (λ q. record { fields = q.1.0; columns = q.1.1.0; rows = q.1.1.1 }) GoodHead (λ h. head_bytes h.fields h.columns h.rows)
    (inv_seq (inv_constant (mark ++ bytes_of 2 version)) (λ _ _. inv_seq (inv_if (one_to 8) inv_byte) (λ _ _. inv_seq (inv_if (one_to 8) (inv_number 1)) (λ _ _. inv_if (λ n. leb n most_rows) (inv_number 4)))))
    (λ h ok.
    let s = ok.rows_few in let f = ok.fields_few in let c = ok.columns_few in
    ((tt, (h.fields, (h.columns, h.rows))), (tt, ((omega arith, eight_or_less h.fields ok.fields_some f), ((omega arith, eight_or_less h.columns ok.columns_some c), (omega arith, le-leb h.rows most_rows s)))), refl, refl))
    (λ x ok.
    let f = one_to_eight x.1.0 ok.1.0.1 in
    let c = one_to_eight x.1.1.0 ok.1.1.0.1 in
    (record { fields_some = f.0; fields_few = f.1; columns_some = c.0; columns_few = c.1; rows_few = leb-true x.1.1.1 most_rows ok.1.1.1.1 }, refl))

-- the measured byte

pub measured_reads_back : (takes fields : ℕ) (m : Option ℕ) → measured_fits takes fields m ≡ true → measured_of takes fields (measured_byte m) ≡ Some m
measured_reads_back takes fields None e = cond-true (eqb takes 0) _ _ e
measured_reads_back takes fields (Some f) e = let q = and_parts (leb 1 takes) (ltb f fields) e in go (eqb takes 0) refl (leb-true 1 takes q.0) q.1
  where
    go : (b : Bool) → eqb takes 0 ≡ b → 1 ≤ takes → ltb f fields ≡ true → cond b (cond (eqb f 255) (Some None) None) (cond (ltb f fields) (Some (Some f)) None) ≡ Some (Some f)
    go true z a t = let y = eqb-true takes 0 z in absurd (omega arith)
    go false z a t = cond-true (ltb f fields) _ _ t

measured_is_a_byte : (takes fields : ℕ) → fields < 256 → (m : Option ℕ) → measured_fits takes fields m ≡ true → measured_byte m < 256
measured_is_a_byte takes fields h None e = omega arith
measured_is_a_byte takes fields h (Some f) e = let a = ltb-true f fields (and_parts (leb 1 takes) (ltb f fields) e).1 in omega arith

one_or_more : (n : ℕ) → eqb n 0 ≡ false → leb 1 n ≡ true
one_or_more zero e = let z : true ≡ false = e in absurd (let y : ◌≡◌ {A = ℕ} 0 1 = cc in omega arith)
one_or_more (suc n) e = le-leb 1 (suc n) (omega arith)

pub measured_only : (takes fields b : ℕ) (m : Option ℕ) → measured_of takes fields b ≡ Some m → (measured_fits takes fields m ≡ true) × (b ∷ [] ≡ measured_byte m ∷ [])
measured_only takes fields b m e = go (eqb takes 0) refl e
  where
    none : (t : Bool) → eqb b 255 ≡ t → eqb takes 0 ≡ true → cond t (Some None) None ≡ Some m → (measured_fits takes fields m ≡ true) × (b ∷ [] ≡ measured_byte m ∷ [])
    none true z y e = let q : None ≡ m = cc in subst (λ x. (measured_fits takes fields x ≡ true) × (b ∷ [] ≡ measured_byte x ∷ [])) q (y, ap (λ n. n ∷ []) (eqb-true b 255 z))
    none false z y e = none_some m e

    some : (t : Bool) → ltb b fields ≡ t → eqb takes 0 ≡ false → cond t (Some (Some b)) None ≡ Some m → (measured_fits takes fields m ≡ true) × (b ∷ [] ≡ measured_byte m ∷ [])
    some true z y e = let q : Some b ≡ m = cc in subst (λ x. (measured_fits takes fields x ≡ true) × (b ∷ [] ≡ measured_byte x ∷ [])) q (and_from _ _ (one_or_more takes y) z, refl)
    some false z y e = none_some m e

    go : (t : Bool) → eqb takes 0 ≡ t → cond t (cond (eqb b 255) (Some None) None) (cond (ltb b fields) (Some (Some b)) None) ≡ Some m → (measured_fits takes fields m ≡ true) × (b ∷ [] ≡ measured_byte m ∷ [])
    go true z e = none (eqb b 255) refl z e
    go false z e = some (ltb b fields) refl z e

-- a value

singles : (bs : List ℕ) → flat_map (λ b. b ∷ []) bs ≡ bs
singles [] = refl
singles (b ∷ bs) = ap (λ l. b ∷ l) (singles bs)

was_possible : {V A : Type 0} (m : Meaning V A) (n : ℕ) (o : Option V) (v : V) → if_possible m n o ≡ Some v → (o ≡ Some v) × Possible m v n
was_possible m n None v h = none_some v h
was_possible {V} m n (Some w) v h = at (m.possible w n) refl h
  where
    at : (t : Bool) → m.possible w n ≡ t → cond t (Some w) None ≡ Some v → (Some w ≡ Some v) × (m.possible v n ≡ true)
    at true e g = let z : w ≡ v = cc in (g, subst (λ x. m.possible x n ≡ true) z e)
    at false e g = none_some v g

inv_value : {V A : Type 0} (m : Meaning V A) → Properties m → Formed m → (n : ℕ) → 1 ≤ n → n ≤ most_rows → Inverse (λ v. Possible m v n) m.written (value m n)
unfolding value
inv_value m keeps formed n some few =
    inv_chosen (λ bs. if_possible m n (m.reads bs)) (λ v. Possible m v n) m.written (inv_times inv_byte 8)
    (λ v ok. (m.written v, formed.written_in_eight_bytes v, ap (if_possible m n) (keeps.written_reads_back v (n, some, few, ok)) ∙ cond-true (m.possible v n) (Some v) None ok, singles (m.written v)))
    (λ bs v ok e.
    let c = was_possible m n (m.reads bs) v e in
    (c.1, singles bs ∙ keeps.nothing_else_reads_so v bs (n, some, few, c.1) ok c.0))

-- a mask below 2 to the fields is a byte
byte_mask : (fields : ℕ) → fields ≤ 8 → (m : ℕ) → mask_fits fields m ≡ true → m < 256
byte_mask fields h m e =
    let q = and_parts (ltb m (2 ^ fields)) (leb (ones m) 4) e in
    let a = ltb-true m (2 ^ fields) q.0 in
    let b : 2 ^ fields ≤ 2 ^ 8 = pow_mono h in
    omega arith

-- and has at most four bits
pub narrow_mask : (fields m : ℕ) → mask_fits fields m ≡ true → ones m ≤ 4
narrow_mask fields m e = leb-true (ones m) 4 (and_parts (ltb m (2 ^ fields)) (leb (ones m) 4) e).1

-- what the proofs use of a type of measures
pub record Lawful {M V A : Type 0} (meaning : M → Meaning V A) (found : ℕ → Option M) : Type 0 where
  pub keeps : (m : M) → Properties (meaning m)
  pub formed : (m : M) → Formed (meaning m)
  pub finds : (m : M) → found (meaning m).kind ≡ Some m
  pub found_by : (b : ℕ) (m : M) → found b ≡ Some m → b ≡ (meaning m).kind

module _ {M V A : Type 0} {meaning : M → Meaning V A} {found : ℕ → Option M} (laws : Lawful meaning found) where
  -- a group
  pub inv_group : (s : ColumnShape M) → width s ≤ 4 → (left : ℕ) → left ≤ most_rows → Inverse (λ g. GoodGroup meaning s g × (g.rows ≤ left)) (group_bytes meaning s) (group meaning s left)
  unfolding group
  inv_group s h left few =
      let m = s.measure in
      inv_via (λ q. record { key = q.0; rows = q.1.0; value = q.1.1 }) (λ g. GoodGroup meaning s g × (g.rows ≤ left)) (group_bytes meaning s)
      (inv_seq (inv_key (width s) h) (λ _ _. inv_seq (inv_rows left few) (λ n ok. let a = ok.1 in inv_value (meaning m) (laws.keeps m) (laws.formed m) n ok.0 (omega arith))))
      (λ g ok. ((g.key, (g.rows, g.value)), (ok.0.keyed, ((ok.0.some, ok.1), ok.0.possible)), refl, refl))
      (λ x ok. ((record { keyed = ok.0; some = ok.1.0.0; possible = ok.1.1 }, ok.1.0.1), refl))

  -- what groups are from the last key on
  pub record Run (s : ColumnShape M) (c : ℕ) (last : Option (List ℤ)) (left : ℕ) (gs : List (Group V)) : Type 0 where
    pub many : length gs ≡ c
    pub each : AllByRecursion (GoodGroup meaning s) gs
    pub ascends : Ascends last gs
    pub adds : rows_of gs ≡ left

  -- the groups of a column
  pub inv_groups : (s : ColumnShape M) → width s ≤ 4 → (c : ℕ) (last : Option (List ℤ)) (left : ℕ) → left ≤ most_rows → Inverse (Run s c last left) (groups_bytes meaning s) (groups meaning s c last left)
  unfolding groups
  inv_groups s h zero last left few =
      inv_like (Run s 0 last left) (inv_if (λ _. eqb left 0) (inv_times (inv_group s h left few) 0)) from to
    where
      from : (gs : List (Group V)) → Run s 0 last left gs → Many (λ g. GoodGroup meaning s g × (g.rows ≤ left)) 0 gs × (eqb left 0 ≡ true)
      from [] r = let e = r.adds in ((refl, tt), eq-eqb left 0 (omega arith))
      from (g ∷ gs) r = let e = r.many in absurd (omega arith)

      to : (gs : List (Group V)) → Many (λ g. GoodGroup meaning s g × (g.rows ≤ left)) 0 gs × (eqb left 0 ≡ true) → Run s 0 last left gs
      to [] r = let e = eqb-true left 0 r.1 in record { many = refl; each = tt; ascends = tt; adds = omega arith }
      to (g ∷ gs) r = let e = r.0.0 in absurd (omega arith)
  inv_groups s h (suc c) last left few =
      inv_via (λ q. q.0 ∷ q.1) (Run s (suc c) last left) (groups_bytes meaning s)
      (inv_seq (inv_if (λ g. is_after last g.key) (inv_group s h left few)) (λ g _. inv_groups s h c (Some g.key) (left - g.rows) (omega arith))) from to
    where
      from : (y : List (Group V)) → Run s (suc c) last left y → (x : Group V × List (Group V)) × (((GoodGroup meaning s x.0 × (x.0.rows ≤ left)) × (is_after last x.0.key ≡ true)) × Run s c (Some x.0.key) (left - x.0.rows) x.1) × (x.0 ∷ x.1 ≡ y) × (group_bytes meaning s x.0 ++ groups_bytes meaning s x.1 ≡ groups_bytes meaning s y)
      from [] r = let e = r.many in absurd (omega arith)
      from (g ∷ gs) r = let e = r.many in let a = r.adds in ((g, gs), (((r.each.0, omega arith), r.ascends.0), record { many = omega arith; each = r.each.1; ascends = r.ascends.1; adds = omega arith }), refl, refl)

      to : (x : Group V × List (Group V)) → ((GoodGroup meaning s x.0 × (x.0.rows ≤ left)) × (is_after last x.0.key ≡ true)) × Run s c (Some x.0.key) (left - x.0.rows) x.1 → Run s (suc c) last left (x.0 ∷ x.1) × (group_bytes meaning s x.0 ++ groups_bytes meaning s x.1 ≡ groups_bytes meaning s (x.0 ∷ x.1))
      to x r = let e = r.1.many in let a = r.1.adds in let l = r.0.0.1 in (record { many = omega arith; each = (r.0.0.0, r.1.each); ascends = (r.0.1, r.1.ascends); adds = omega arith }, refl)

  -- a column's shape, whose mask is a byte
  pub inv_byte_shape : (fields : ℕ) → fields < 256 → Inverse (λ s. GoodShape meaning fields s × (s.mask < 256)) (shape_bytes meaning) (shape meaning found fields)
  unfolding shape
  inv_byte_shape fields h =
      inv_via (λ q. record { measure = q.0; measured = q.1.0; mask = q.1.1 }) (λ s. GoodShape meaning fields s × (s.mask < 256)) (shape_bytes meaning)
      (inv_seq (inv_chosen found (λ _. Unit {0}) (λ m. (meaning m).kind ∷ []) inv_byte
      (λ m ok. ((meaning m).kind, (laws.formed m).kind_is_a_byte, laws.finds m, refl))
      (λ b m ok e. (tt, ap (λ x. x ∷ []) (laws.found_by b m e))))
      (λ m _. inv_seq (inv_chosen (measured_of (meaning m).fields fields) (λ x. measured_fits (meaning m).fields fields x ≡ true) (λ x. measured_byte x ∷ []) inv_byte
      (λ x ok. (measured_byte x, measured_is_a_byte (meaning m).fields fields h x ok, measured_reads_back (meaning m).fields fields x ok, refl))
      (λ b x ok e. measured_only (meaning m).fields fields b x e))
      (λ _ _. inv_if (mask_fits fields) inv_byte)))
      (λ s ok. ((s.measure, (s.measured, s.mask)), (tt, (ok.0.measured, (ok.1, ok.0.mask))), refl, refl))
      (λ x ok. ((record { measured = ok.1.0; mask = ok.1.1.1 }, ok.1.1.0), refl))

  -- a column's shape, of no more than eight fields
  pub inv_shape : (fields : ℕ) → fields ≤ 8 → Inverse (GoodShape meaning fields) (shape_bytes meaning) (shape meaning found fields)
  inv_shape fields h = inv_like (GoodShape meaning fields) (inv_byte_shape fields (omega arith)) (λ s ok. (ok, byte_mask fields h s.mask ok.mask)) (λ s ok. ok.0)

  -- a column
  pub inv_column : (fields all : ℕ) → fields ≤ 8 → all ≤ most_rows → Inverse (GoodColumn meaning fields all) (column_bytes meaning) (column meaning found fields all)
  unfolding column
  inv_column fields all h few =
      inv_via (λ q. record { shape = q.0; groups = q.1.1 }) (GoodColumn meaning fields all) (column_bytes meaning)
      (inv_seq (inv_shape fields h) (λ s ok. inv_seq (inv_number 2) (λ c _. inv_groups s (narrow_mask fields s.mask ok.mask) c None all few)))
      (λ c ok. let f = ok.few in let a = ok.adds in ((c.shape, (length c.groups, c.groups)), (ok.shaped, (omega arith, record { many = refl; each = ok.each; ascends = ok.ascends; adds = omega arith })), refl, refl))
      (λ x ok. let a = ok.1.1.adds in let e = ok.1.1.many in let f = ok.1.0 in (
        record { shaped = ok.0; each = ok.1.1.each; ascends = ok.1.1.ascends; adds = omega arith; few = omega arith },
        ap (λ n. shape_bytes meaning x.0 ++ (bytes_of 2 n ++ groups_bytes meaning x.0 x.1.1)) (sym e),
      ))

  -- the columns after a head
  pub inv_columns : (h : Head) → GoodHead h → Inverse (Many (GoodColumn meaning h.fields h.rows) h.columns) (columns_bytes meaning) (columns meaning found h)
  unfolding columns
  inv_columns h ok = inv_times (inv_column h.fields h.rows ok.fields_few ok.rows_few) h.columns

  -- the whole file
  pub inv_file : Inverse (Good meaning) (file_bytes meaning) (file meaning found)
  unfolding file file_bytes
  inv_file =
      inv_via (λ q. record { fields = q.0.fields; rows = q.0.rows; columns = q.1 }) (Good meaning) (file_bytes meaning)
      (inv_seq inv_head inv_columns)
      (λ f ok. ((record { fields = f.fields; columns = length f.columns; rows = f.rows }, f.columns), (record { fields_some = ok.fields_some; fields_few = ok.fields_few; columns_some = ok.columns_some; columns_few = ok.columns_few; rows_few = ok.rows_few }, (refl, ok.each)), refl, refl))
      (λ x ok. let e = ok.1.0 in let a = ok.0.columns_some in let b = ok.0.columns_few in (
        record { fields_some = ok.0.fields_some; fields_few = ok.0.fields_few; columns_some = omega arith; columns_few = omega arith; rows_few = ok.0.rows_few; each = ok.1.1 },
        ap (λ n. head_bytes x.0.fields n x.0.rows ++ columns_bytes meaning x.1) (sym e),
      ))

  -- two files that begin alike are the same, and so is what follows them
  pub one_file : (f g : Content M V) (r s : List ℕ) → Good meaning f → Good meaning g → file_bytes meaning f ++ r ≡ file_bytes meaning g ++ s → (f ≡ g) × (r ≡ s)
  one_file f g r s a b e =
      let z : Some (f, r) ≡ Some (g, s) = sym (inv_file.back f r a) ∙ ap (file meaning found) e ∙ inv_file.back g s b in
      let y : (f, r) ≡ (g, s) = cc in
      (ap (λ (u : Content M V × List ℕ). u.0) y, ap (λ (u : Content M V × List ℕ). u.1) y)
