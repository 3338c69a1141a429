-- The head of a file and a column's shape, as the code takes them apart.
use Rattle.std.proofs.Common.{◌≡◌, ℕ, ◌+◌, ◌-◌, ◌*◌, ◌%◌, ◌<◌, ◌≤◌, true, false, List, [], ◌∷◌, ◌++◌, length, get_or, take, drop, Some, None, Option, sym, refl, ap, ◌∙◌, subst, arith}
use Rattle.std.proofs.lemmas.List.{take_rest, drop-drop, get_or-drop, length-drop}
use Rattle.std.proofs.lemmas.Bool.{both_ways}
use Rattle.measures.specs.Values.{most_rows}
use Rattle.measures.specs.Bytes.{bytes_of}
use Rattle.measures.specs.Meaning.{Meaning}
use Rattle.readers.proofs.Inverses.{none_some, some_when, none_unless, inv_number}
use Rattle.readers.proofs.Steps.{number_four}
use Rattle.hall_file.specs.declared.shape.ColumnShape.{ColumnShape}
use Rattle.hall_file.specs.declared.head.Head.{Head}
use Rattle.hall_file.specs.Written.{measured_byte, head_bytes, shape_bytes}
use Rattle.hall_file.specs.Rules.{mask_fits}
use Rattle.hall_file.specs.Reading.{head, shape, measured_of}
use Rattle.hall_file.proofs.Forms.{GoodHead, inv_head, Lawful, inv_byte_shape, measured_only, measured_reads_back}

-- seven bytes at the front
seven : (bs : List ℕ) → 7 ≤ length bs → bs ≡ get_or bs 0 0 ∷ get_or bs 1 0 ∷ get_or bs 2 0 ∷ get_or bs 3 0 ∷ get_or bs 4 0 ∷ get_or bs 5 0 ∷ get_or bs 6 0 ∷ drop 7 bs
seven (a ∷ b ∷ c ∷ d ∷ e ∷ f ∷ g ∷ bs) h = refl
seven [] h = absurd (omega arith)
seven (a ∷ []) h = absurd (omega arith)
seven (a ∷ b ∷ []) h = absurd (omega arith)
seven (a ∷ b ∷ c ∷ []) h = absurd (omega arith)
seven (a ∷ b ∷ c ∷ d ∷ []) h = absurd (omega arith)
seven (a ∷ b ∷ c ∷ d ∷ e ∷ []) h = absurd (omega arith)
seven (a ∷ b ∷ c ∷ d ∷ e ∷ f ∷ []) h = absurd (omega arith)

-- three bytes at the front
three : (bs : List ℕ) → 3 ≤ length bs → bs ≡ get_or bs 0 0 ∷ get_or bs 1 0 ∷ get_or bs 2 0 ∷ take (length bs - 3) (drop 3 bs)
three [] h = absurd (omega arith)
three (a ∷ []) h = absurd (omega arith)
three (a ∷ b ∷ []) h = absurd (omega arith)
three (a ∷ b ∷ c ∷ bs) h = ap (λ l. a ∷ b ∷ c ∷ l) (sym (take_rest (a ∷ b ∷ c ∷ bs) 3))

-- the row count where it lies
abbrev pub rows_at : List ℕ → ℕ
rows_at bs = get_or bs 7 0 + get_or bs 8 0 * 256 + get_or bs 9 0 * 65536 + get_or bs 10 0 * 16777216

-- what the code tests
pub record HeadAt (bs : List ℕ) : Type 0 where
  pub long : 11 ≤ length bs
  pub t : get_or bs 0 0 ≡ 84
  pub l : get_or bs 1 0 ≡ 76
  pub y : get_or bs 2 0 ≡ 89
  pub version : get_or bs 3 0 + get_or bs 4 0 * 256 ≡ 1
  pub fields_some : 1 ≤ get_or bs 5 0
  pub fields_few : get_or bs 5 0 ≤ 8
  pub columns_some : 1 ≤ get_or bs 6 0
  pub columns_few : get_or bs 6 0 ≤ 8
  pub rows_few : rows_at bs ≤ most_rows

head_at : (bs : List ℕ) (h : Head) (rest : List ℕ) → GoodHead h → bs ≡ head_bytes h.fields h.columns h.rows ++ rest → HeadAt bs
head_at bs h rest ok e =
    let a = ok.rows_few in
    let b = ok.columns_some in
    let d = ok.columns_few in
    subst HeadAt (sym e) (record { long = omega arith; t = refl; l = refl; y = refl; version = refl; fields_some = ok.fields_some; fields_few = ok.fields_few; columns_some = omega arith; columns_few = omega arith; rows_few = omega arith })

-- there is no head where a test fails
pub head_no : (bs : List ℕ) → (HeadAt bs → ⊥) → None ≡ head bs
head_no bs bad = none_unless inv_head bs (λ h rest ok e. bad (head_at bs h rest ok e))

-- there is one where all succeed
pub head_yes : (bs : List ℕ) → ((i : ℕ) → get_or bs i 0 < 256) → HeadAt bs → (n : ℕ) → n ≡ rows_at bs → Some (record { fields = get_or bs 5 0; columns = get_or bs 6 0; rows = n }, take (length bs - 11) (drop 11 bs)) ≡ head bs
head_yes bs f h n r =
    some_when inv_head bs (record { fields = get_or bs 5 0; columns = get_or bs 6 0; rows = n }) (take (length bs - 11) (drop 11 bs))
    (let a = h.rows_few in record { fields_some = h.fields_some; fields_few = h.fields_few; columns_some = h.columns_some; columns_few = h.columns_few; rows_few = omega arith })
    (seven bs (let a = h.long in omega arith) ∙ marks ∙ ap (λ l. 84 ∷ 76 ∷ 89 ∷ 1 ∷ 0 ∷ get_or bs 5 0 ∷ get_or bs 6 0 % 256 ∷ l) rows_there)
  where
    marks : get_or bs 0 0 ∷ get_or bs 1 0 ∷ get_or bs 2 0 ∷ get_or bs 3 0 ∷ get_or bs 4 0 ∷ get_or bs 5 0 ∷ get_or bs 6 0 ∷ drop 7 bs ≡ 84 ∷ 76 ∷ 89 ∷ 1 ∷ 0 ∷ get_or bs 5 0 ∷ get_or bs 6 0 % 256 ∷ drop 7 bs
    marks =
        let v = h.version in
        let low : get_or bs 3 0 ≡ 1 = omega arith in
        let high : get_or bs 4 0 ≡ 0 = omega arith in
        let c = h.columns_few in
        let many : get_or bs 6 0 ≡ get_or bs 6 0 % 256 = omega arith in
        cc

    at : (i : ℕ) → get_or (drop 7 bs) i 0 ≡ get_or bs (7 + i) 0
    at i = get_or-drop 7 bs i 0

    fit : (i : ℕ) → get_or (drop 7 bs) i 0 < 256
    fit i = subst (λ x. x < 256) (sym (at i)) (f (7 + i))

    rows_there : drop 7 bs ≡ bytes_of 4 n ++ take (length bs - 11) (drop 11 bs)
    rows_there =
        let long = h.long in
        let len : length (drop 7 bs) ≡ length bs - 7 = length-drop 7 bs in
        let e = number_four (drop 7 bs) (omega arith) (fit 0) (fit 1) (fit 2) (fit 3) in
        let o = ((inv_number 4).only (drop 7 bs) _ e).1 in
        let a0 = at 0 in let a1 = at 1 in let a2 = at 2 in let a3 = at 3 in
        let s : get_or (drop 7 bs) 0 0 + get_or (drop 7 bs) 1 0 * 256 + get_or (drop 7 bs) 2 0 * 65536 + get_or (drop 7 bs) 3 0 * 16777216 ≡ n = omega arith in
        let d : drop 4 (drop 7 bs) ≡ drop 11 bs = drop-drop 4 7 bs in
        o ∙ ap (λ m. bytes_of 4 m ++ take (length (drop 7 bs) - 4) (drop 4 (drop 7 bs))) s
        ∙ ap (λ l. bytes_of 4 n ++ l) (take_rest (drop 7 bs) 4 ∙ d ∙ sym (take_rest bs 11))

module _ {M V A : Type 0} {meaning : M → Meaning V A} {found : ℕ → Option M} (laws : Lawful meaning found) (fields : ℕ) (few : fields < 256) (bs : List ℕ) where
  -- too few bytes for a shape
  pub shape_short : length bs < 3 → None ≡ shape meaning found fields bs
  shape_short h = none_unless (inv_byte_shape laws fields few) bs (λ s rest ok e. let l = ap length e in omega arith)

  -- a kind that no measure has
  pub shape_no_kind : None ≡ found (get_or bs 0 0) → None ≡ shape meaning found fields bs
  shape_no_kind h = none_unless (inv_byte_shape laws fields few) bs (λ s rest ok e. none_some s.measure (h ∙ ap (λ l. found (get_or l 0 0)) e ∙ laws.finds s.measure))

  same_kind : (m : M) (s : ColumnShape M) (rest : List ℕ) → Some m ≡ found (get_or bs 0 0) → bs ≡ shape_bytes meaning s ++ rest → m ≡ s.measure
  same_kind m s rest h e = let z : Some m ≡ Some s.measure = h ∙ ap (λ l. found (get_or l 0 0)) e ∙ laws.finds s.measure in cc

  -- a wrong measured byte
  pub shape_no_field : (m : M) → Some m ≡ found (get_or bs 0 0) → None ≡ measured_of (meaning m).fields fields (get_or bs 1 0) → None ≡ shape meaning found fields bs
  shape_no_field m h bad =
      none_unless (inv_byte_shape laws fields few) bs (λ s rest ok e.
      none_some s.measured
      (bad ∙ ap (λ x. measured_of (meaning x).fields fields (get_or bs 1 0)) (same_kind m s rest h e) ∙ ap (λ l. measured_of (meaning s.measure).fields fields (get_or l 1 0)) e ∙ measured_reads_back (meaning s.measure).fields fields s.measured ok.0.measured))

  -- a wrong mask
  pub shape_no_mask : false ≡ mask_fits fields (get_or bs 2 0) → None ≡ shape meaning found fields bs
  shape_no_mask bad =
      none_unless (inv_byte_shape laws fields few) bs (λ s rest ok e.
      both_ways (mask_fits fields (get_or bs 2 0)) (sym bad) (ap (λ l. mask_fits fields (get_or l 2 0)) e ∙ ok.0.mask))

  -- kind, measured byte and mask are right
  pub shape_yes : (m : M) (x : Option ℕ) → 3 ≤ length bs → get_or bs 2 0 < 256 → Some m ≡ found (get_or bs 0 0) → Some x ≡ measured_of (meaning m).fields fields (get_or bs 1 0) → true ≡ mask_fits fields (get_or bs 2 0) → Some (record { measure = m; measured = x; mask = get_or bs 2 0 }, take (length bs - 3) (drop 3 bs)) ≡ shape meaning found fields bs
  shape_yes m x l byte h f o =
      let q = measured_only (meaning m).fields fields (get_or bs 1 0) x (sym f) in
      let kind = laws.found_by (get_or bs 0 0) m (sym h) in
      let field : get_or bs 1 0 ≡ measured_byte x = ap (λ l. get_or l 0 0) q.1 in
      some_when (inv_byte_shape laws fields few) bs (record { measure = m; measured = x; mask = get_or bs 2 0 }) (take (length bs - 3) (drop 3 bs))
      (record { measured = q.0; mask = sym o }, byte)
      (three bs l ∙ ap (λ b. b ∷ get_or bs 1 0 ∷ get_or bs 2 0 ∷ take (length bs - 3) (drop 3 bs)) kind ∙ ap (λ b. (meaning m).kind ∷ b ∷ get_or bs 2 0 ∷ take (length bs - 3) (drop 3 bs)) field)
