-- A sheet that ends clean is exactly how its rows are written. Assumes nothing.
use Rattle.std.proofs.Common.{◌≡◌, ℕ, suc, ◌+◌, ◌<◌, ◌≤◌, Bool, true, false, cond, ◌&&◌, eqb, leb, ◌⊎◌, List, [], ◌∷◌, ◌++◌, map, length, ℤ, Some, None, Option, sym, refl, ap, ◌∙◌, inl, inr, arith}
use Rattle.std.specs.List.{AllByRecursion}
use Rattle.std.proofs.lemmas.List.{append_assoc, append-nil, length-append, get_or_at}
use Rattle.std.proofs.lemmas.Bool.{eqb-true, cases_lt}
use Rattle.measures.specs.Values.{RowValue}
use Rattle.text.specs.Numbers.{front, number, written}
use Rattle.text.proofs.Words.{back, again, longer_number, whole_front}
use Rattle.feeds.specs.Sheets.{onto, split, Line, complete, broken, lines_from, lines_of, lines, before, numbers, of_width, row_of, sheet, good_rows, end_from}
use Rattle.feeds.specs.WrittenSheets.{written_row, written_rows, Rows, ExactlyWritten}
use Rattle.feeds.specs.Steps.{clean}
use Rattle.feeds.proofs.Fields.{got, in_front, fields, follows, good_field, numbers_some, drop_past, space_front, feed_front, sheet_got}
use Rattle.feeds.proofs.Parts.{split_some}

-- parts put together again, with b between two and a tail after the last
abbrev joined : ℕ → List ℕ → List (List ℕ) → List ℕ
joined b tail [] = tail
joined b tail (part ∷ []) = part ++ tail
joined b tail (part ∷ next ∷ parts) = part ++ b ∷ joined b tail (next ∷ parts)

-- the lines of a text put together again
abbrev joined_lines : List Line → List ℕ
joined_lines [] = []
joined_lines (complete line ∷ ls) = line ++ 10 ∷ joined_lines ls
joined_lines (broken line ∷ ls) = line ++ joined_lines ls

-- a byte in front of the first part is in front of all
joined_onto : (b : ℕ) (tail : List ℕ) (c : ℕ) (ps : List (List ℕ)) → 0 < length ps → joined b tail (onto c ps) ≡ c ∷ joined b tail ps
joined_onto b tail c [] h = absurd (omega (arith, h))
joined_onto b tail c (p ∷ []) h = refl
joined_onto b tail c (p ∷ q ∷ ps) h = refl

-- an empty first part leaves the byte after it
joined_none : (b : ℕ) (tail : List ℕ) (ps : List (List ℕ)) → 0 < length ps → joined b tail ([] ∷ ps) ≡ b ∷ joined b tail ps
joined_none b tail [] h = absurd (omega (arith, h))
joined_none b tail (p ∷ ps) h = refl

-- a text is its parts put together
split_joined : (b : ℕ) (tail t : List ℕ) → joined b tail (split b t) ≡ t ++ tail
split_joined b tail [] = refl
split_joined b tail (c ∷ cs) = go (eqb c b) refl (split_joined b tail cs)
  where
    go : (d : Bool) → eqb c b ≡ d → joined b tail (split b cs) ≡ cs ++ tail → joined b tail (cond d ([] ∷ split b cs) (onto c (split b cs))) ≡ c ∷ (cs ++ tail)
    go true e h = let f = sym (eqb-true c b e) in joined_none b tail (split b cs) (split_some b cs) ∙ (λ i. f i ∷ h i)
    go false e h = joined_onto b tail c (split b cs) (split_some b cs) ∙ ap (λ l. c ∷ l) h

-- its lines are its parts
lines_parts : (parts : List (List ℕ)) (part : List ℕ) → joined_lines (lines_from parts part) ≡ joined 10 [] (part ∷ parts)
lines_parts [] [] = refl
lines_parts [] (c ∷ cs) = refl
lines_parts (next ∷ parts) part = ap (λ l. part ++ 10 ∷ l) (lines_parts parts next)

-- a text is its lines put together
lines_text : (t : List ℕ) → joined_lines (lines t) ≡ t
lines_text t = go (split 10 t) (split_some 10 t) ∙ split_joined 10 [] t ∙ append-nil t
  where
    go : (ps : List (List ℕ)) → 0 < length ps → joined_lines (lines_of ps) ≡ joined 10 [] ps
    go [] h = absurd (omega (arith, h))
    go (p ∷ ps) h = lines_parts ps p

-- a row of several values is written as the first and the others
row_more : (z : ℤ) (zs : List ℤ) → 0 < length zs → written_row (z ∷ zs) ≡ written z ++ 32 ∷ written_row zs
row_more z [] h = absurd (omega (arith, h))
row_more z (y ∷ zs) h = refl

-- words that are numbers are how these are written
words_written : (ws : List (List ℕ)) (zs : List ℤ) → numbers ws ≡ Some zs → written_row zs ≡ joined 32 (10 ∷ []) ws
words_written [] zs e = let y : [] ≡ zs = cc in ap written_row (sym y)
words_written (w ∷ []) zs e = go (number w) refl e
  where
    go : (o : Option ℤ) → number w ≡ o → before o (Some []) ≡ Some zs → written_row zs ≡ w ++ 10 ∷ []
    go None f e = let y : ◌≡◌ {A = ℕ} 0 1 = cc in absurd (omega arith)
    go (Some z) f e = let y : z ∷ [] ≡ zs = cc in ap written_row (sym y) ∙ ap (λ l. l ++ 10 ∷ []) (again w z f).1
words_written (w ∷ v ∷ ws) zs e = go (number w) (numbers (v ∷ ws)) refl (words_written (v ∷ ws)) refl e
  where
    go : (o : Option ℤ) (p : Option (List ℤ)) → number w ≡ o → ((us : List ℤ) → numbers (v ∷ ws) ≡ Some us → written_row us ≡ joined 32 (10 ∷ []) (v ∷ ws)) → numbers (v ∷ ws) ≡ p → before o p ≡ Some zs → written_row zs ≡ w ++ 32 ∷ joined 32 (10 ∷ []) (v ∷ ws)
    go None p f rec g e = let y : ◌≡◌ {A = ℕ} 0 1 = cc in absurd (omega arith)
    go (Some z) None f rec g e = let y : ◌≡◌ {A = ℕ} 0 1 = cc in absurd (omega arith)
    go (Some z) (Some us) f rec g e = let y : z ∷ us ≡ zs = cc in ap written_row (sym y) ∙ row_more z us (numbers_some (v ∷ ws) us (omega arith) g) ∙ (λ i. (again w z f).1 i ++ 32 ∷ rec us g i)

-- the row of a good line is its numbers
of_width_same : (w : ℕ) (o : Option (List ℤ)) (r : List ℤ) → of_width w o ≡ Some r → o ≡ Some r
of_width_same w None r e = let y : ◌≡◌ {A = ℕ} 0 1 = cc in absurd (omega arith)
of_width_same w (Some zs) r e = go (eqb (length zs) w && leb w 8) e
  where
    go : (b : Bool) → cond b (Some zs) None ≡ Some r → Some zs ≡ Some r
    go true e = e
    go false e = let y : ◌≡◌ {A = ℕ} 0 1 = cc in absurd (omega arith)

-- lines without a bad one are how their rows are written
good_lines : (w n : ℕ) (ls : List Line) → end_from n (map (row_of w) ls) ≡ clean → written_rows (good_rows (map (row_of w) ls)) ≡ joined_lines ls
good_lines w n [] e = refl
good_lines w n (broken line ∷ ls) e = let y : ◌≡◌ {A = ℕ} 0 1 = cc in absurd (omega arith)
good_lines w n (complete line ∷ ls) e = go (row_of w (complete line)) refl (good_lines w (n + 1) ls) e
  where
    go : (o : Option (List ℤ)) → row_of w (complete line) ≡ o → (end_from (n + 1) (map (row_of w) ls) ≡ clean → written_rows (good_rows (map (row_of w) ls)) ≡ joined_lines ls) → end_from n (o ∷ map (row_of w) ls) ≡ clean → written_rows (good_rows (o ∷ map (row_of w) ls)) ≡ line ++ 10 ∷ joined_lines ls
    go None f rec e = let y : ◌≡◌ {A = ℕ} 0 1 = cc in absurd (omega arith)
    go (Some r) f rec e =
        let row = words_written (split 32 line) r (of_width_same w (numbers (split 32 line)) r f) ∙ split_joined 32 (10 ∷ []) line in
        (λ i. row i ++ rec e i) ∙ append_assoc line (10 ∷ []) (joined_lines ls)

-- the front of a text that begins with a written number is that number
written_front : (z : ℤ) → RowValue z → front (written z) ≡ written z
written_front z v = go (cases_lt (length (front (written z))) (length (written z)))
  where
    go : (length (front (written z)) < length (written z)) ⊎ (length (written z) ≤ length (front (written z))) → front (written z) ≡ written z
    go (inl h) = let f = sym (back z v) ∙ longer_number (written z) h in let y : ◌≡◌ {A = ℕ} 0 1 = cc in absurd (omega arith)
    go (inr h) = whole_front (written z) h

-- a written number and the byte that must follow it are read as a field
written_field : (z : ℤ) (s : ℕ) (t : List ℕ) (j : ℕ) → RowValue z → front (written z ++ s ∷ t) ≡ front (written z) → s ≡ follows j → fields (suc j) (written z ++ s ∷ t) ≡ in_front (z ∷ []) (fields j t)
written_field z s t j v e f =
    let g = e ∙ written_front z v in
    let n = ap length g in
    good_field (written z ++ s ∷ t) j z (ap number g ∙ back z v) (omega (arith, n, length-append (written z) (s ∷ t))) (get_or_at (written z) s t 0 _ (sym n) ∙ f)
    ∙ ap (λ x. in_front (z ∷ []) (fields j x)) (drop_past (written z) t s _ n)

-- a written row is read
written_fields : (zs : List ℤ) (t : List ℕ) → 0 < length zs → AllByRecursion RowValue zs → fields (length zs) (written_row zs ++ t) ≡ got zs t
written_fields [] t h v = absurd (omega (arith, h))
written_fields (z ∷ []) t h v = ap (fields 1) (append_assoc (written z) (10 ∷ []) t) ∙ written_field z 10 t 0 v.0 (feed_front (written z) t) refl
written_fields (z ∷ y ∷ zs) t h v =
    ap (fields (suc (length (y ∷ zs)))) (append_assoc (written z) (32 ∷ written_row (y ∷ zs)) t)
    ∙ written_field z 32 (written_row (y ∷ zs) ++ t) (length (y ∷ zs)) v.0 (space_front (written z) (written_row (y ∷ zs) ++ t)) refl
    ∙ ap (in_front (z ∷ [])) (written_fields (y ∷ zs) t (omega arith) v.1)

-- rows that are written come back
written_sheet : (w : ℕ) (rs : List (List ℤ)) → 1 ≤ w → w ≤ 8 → Rows w rs → sheet w (written_rows rs) ≡ map Some rs
written_sheet w [] some few h = refl
written_sheet w (r ∷ rs) some few h =
    let l = h.0.0 in
    sheet_got w (written_row r ++ written_rows rs) (written_rows rs) r some few
    (ap (λ n. fields n (written_row r ++ written_rows rs)) (sym l) ∙ written_fields r (written_rows rs) (omega (arith, l, some)) h.0.1)
    ∙ ap (λ l. Some r ∷ l) (written_sheet w rs some few h.1)

-- all of them are good
all_good : (rs : List (List ℤ)) → good_rows (map Some rs) ≡ rs
all_good [] = refl
all_good (r ∷ rs) = ap (λ l. r ∷ l) (all_good rs)

-- and the end is clean
all_clean : (n : ℕ) (rs : List (List ℤ)) → end_from n (map Some rs) ≡ clean
all_clean n [] = refl
all_clean n (r ∷ rs) = all_clean (n + 1) rs

-- a sheet is exactly how its rows are written
pub exactly_written : (w : ℕ) (text : List ℕ) → 1 ≤ w → w ≤ 8 → ExactlyWritten w text
exactly_written w text some few =
    record {
      again = λ e. good_lines w 1 (lines text) e ∙ lines_text text;
      back = λ rs h e. let s = ap (sheet w) (sym e) ∙ written_sheet w rs some few h in (ap good_rows s ∙ all_good rs, ap (end_from 1) s ∙ all_clean 1 rs);
    }
