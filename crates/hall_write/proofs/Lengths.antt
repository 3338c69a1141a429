-- Cells and columns, one at a time.
use Rattle.std.proofs.Common.{◌≡◌, ℕ, suc, ◌+◌, ◌<◌, ◌≤◌, min, Bool, true, false, cond, eqb, List, [], ◌∷◌, ◌++◌, length, get_or, take, drop, ℤ, pos, sym, refl, ap, ◌∙◌, arith}
use Rattle.std.specs.List.{flat_map}
use Rattle.std.specs.List.{count_by}
use Rattle.std.proofs.lemmas.List.{drop_more, drop_all, take_min, length-append}
use Rattle.std.proofs.lemmas.List.Recursion.{is_count_by}
use Rattle.measures.specs.Meaning.{Meaning}
use Rattle.cells.specs.declared.cell.Cell.{Cell}
use Rattle.cells.specs.Columns.{group, column}
use Rattle.hall_file.specs.declared.shape.ColumnShape.{ColumnShape}
use Rattle.hall_file.specs.Written.{Column, int_bytes, key_bytes, head_bytes, group_bytes, groups_bytes, column_bytes, columns_bytes, file_bytes}
use Rattle.hall_write.specs.Laid.{laid, content_of, cell_bytes}

-- the groups of a column are counted by its cells
pub count_column : {V : Type 0} (k : ℕ) (cs : List (Cell V)) → length (column k cs) ≡ count_by (λ c. eqb c.id.column k) cs
count_column {V} k cs = is_count_by (λ cs. length (column k cs)) (λ c. eqb c.id.column k) refl (λ c cs. go (eqb c.id.column k) c cs) cs
  where
    go : (b : Bool) (c : Cell V) (cs : List (Cell V)) → length (cond b (group c ∷ column k cs) (column k cs)) ≡ cond b (1 + length (column k cs)) (length (column k cs))
    go true c cs = omega arith
    go false c cs = refl

module _ {M V A : Type 0} (meaning : M → Meaning V A) where
  cell_first : (k : ℕ) (s : ColumnShape M) (c : Cell V) (cs : List (Cell V)) → groups_bytes meaning s (column k (c ∷ cs)) ≡ cell_bytes meaning k s c ++ groups_bytes meaning s (column k cs)
  cell_first k s c cs = go (eqb c.id.column k)
    where
      go : (b : Bool) → groups_bytes meaning s (cond b (group c ∷ column k cs) (column k cs)) ≡ cond b (group_bytes meaning s (group c)) [] ++ groups_bytes meaning s (column k cs)
      go true = refl
      go false = refl

  -- the bytes of the cells from i on
  pub cells_at : (k : ℕ) (s : ColumnShape M) (cs : List (Cell V)) (i : ℕ) (c : Cell V) → i < length cs → cell_bytes meaning k s c ≡ cell_bytes meaning k s (get_or cs i c) → groups_bytes meaning s (column k (drop i cs)) ≡ cell_bytes meaning k s c ++ groups_bytes meaning s (column k (drop (i + 1) cs))
  cells_at k s cs i c h e =
      ap (λ l. groups_bytes meaning s (column k l)) (drop_more cs i c h) ∙ cell_first k s (get_or cs i c) (drop (i + 1) cs)
      ∙ ap (λ l. l ++ groups_bytes meaning s (column k (drop (i + 1) cs))) (sym e)

  -- the column of number k
  abbrev pub the_column : ℕ → ColumnShape M → List (Cell V) → Column M V
  the_column k s cs = record { shape = s; groups = column k cs }

  -- the bytes of the columns from i on
  pub columns_at : (ss : List (ColumnShape M)) (cs : List (Cell V)) (i : ℕ) (s : ColumnShape M) → i < length ss → s ≡ get_or ss i s → columns_bytes meaning (laid i (drop i ss) cs) ≡ column_bytes meaning (the_column i s cs) ++ columns_bytes meaning (laid (i + 1) (drop (i + 1) ss) cs)
  columns_at ss cs i s h e =
      let one : suc i ≡ i + 1 = omega arith in
      ap (λ l. columns_bytes meaning (laid i l cs)) (drop_more ss i s h)
      ∙ ap (λ n. column_bytes meaning (the_column i (get_or ss i s) cs) ++ columns_bytes meaning (laid n (drop (i + 1) ss) cs)) one
      ∙ ap (λ x. column_bytes meaning (the_column i x cs) ++ columns_bytes meaning (laid (i + 1) (drop (i + 1) ss) cs)) (sym e)

  -- how many these are
  pub columns_long : (ss : List (ColumnShape M)) (cs : List (Cell V)) (i : ℕ) (s : ColumnShape M) → i < length ss → s ≡ get_or ss i s → length (columns_bytes meaning (laid i (drop i ss) cs)) ≡ 5 + length (groups_bytes meaning s (column i cs)) + length (columns_bytes meaning (laid (i + 1) (drop (i + 1) ss) cs))
  columns_long ss cs i s h e =
      let l = ap length (columns_at ss cs i s h e) ∙ length-append (column_bytes meaning (the_column i s cs)) (columns_bytes meaning (laid (i + 1) (drop (i + 1) ss) cs)) in
      omega arith

  pub columns_none : (ss : List (ColumnShape M)) (cs : List (Cell V)) (i : ℕ) → length ss ≤ i → columns_bytes meaning (laid i (drop i ss) cs) ≡ []
  columns_none ss cs i h = ap (λ l. columns_bytes meaning (laid i l cs)) (drop_all i ss h)

  -- the length of a file
  pub file_size : (fields rows : ℕ) (ss : List (ColumnShape M)) (cs : List (Cell V)) → length (file_bytes meaning (content_of fields rows ss cs)) ≡ 11 + length (columns_bytes meaning (laid 0 ss cs))
  unfolding file_bytes
  file_size fields rows ss cs = omega arith

  -- head and columns make the file
  pub file_is : (fields rows : ℕ) (ss : List (ColumnShape M)) (cs : List (Cell V)) → file_bytes meaning (content_of fields rows ss cs) ≡ head_bytes fields (length ss) rows ++ columns_bytes meaning (laid 0 ss cs)
  unfolding file_bytes
  file_is fields rows ss cs = ap (λ n. head_bytes fields n rows ++ columns_bytes meaning (laid 0 ss cs)) (count 0 ss)
    where
      count : (k : ℕ) (ss : List (ColumnShape M)) → length (laid {V = V} k ss cs) ≡ length ss
      count k [] = refl
      count k (s ∷ ss) = ap suc (count (suc k) ss)

-- the values of a key of which so many are written, from i on
pub values_at : (ks : List ℤ) (i : ℕ) → i < length ks → flat_map int_bytes (drop i ks) ≡ int_bytes (get_or ks i (pos 0)) ++ flat_map int_bytes (drop (i + 1) ks)
values_at ks i h = ap (flat_map int_bytes) (drop_more ks i (pos 0) h)

-- the values of a key in their places are those that are written
pub key_values : (k w : ℕ) (ks : List ℤ) → length ks ≡ 4 → k ≡ min w 4 → flat_map int_bytes (take k ks) ≡ key_bytes w ks
key_values k w ks four e = ap (λ n. flat_map int_bytes (take n ks)) (e ∙ ap (min w) (sym four)) ∙ ap (flat_map int_bytes) (take_min w ks)

-- a part less is left of the room
pub room_less : (left whole room rest part rest' left' : ℕ) → left + whole ≡ room + rest → rest ≡ part + rest' → left' + part ≡ left → left' + whole ≡ room + rest'
room_less left whole room rest part rest' left' a b c = omega arith
