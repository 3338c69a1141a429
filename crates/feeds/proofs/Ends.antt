-- The rows of a sheet, their widths and its last line's number. Assumes nothing.
use Rattle.std.proofs.Common.{◌≡◌, ℕ, suc, ◌+◌, ◌-◌, ◌^◌, ◌≤◌, min, Bool, true, false, cond, ◌&&◌, eqb, leb, List, [], ◌∷◌, map, length, ℤ, Err, Some, None, Option, sym, refl, ap, ◌∙◌, arith}
use Rattle.std.specs.List.{AllByRecursion}
use Rattle.std.proofs.lemmas.List.{length-map}
use Rattle.std.proofs.lemmas.Bool.{cond-false, and_left, eqb-true}
use Rattle.feeds.specs.SheetFeeds.{held}
use Rattle.feeds.specs.Sheets.{onto, split, Line, complete, broken, lines_from, lines_of, lines, numbers, of_width, row_of, sheet, good_rows, end_from}
use Rattle.feeds.specs.declared.fault.Fault.TheVariants.{BadLine}

-- line numbers that are held alike lead to ends that are held alike
pub held_same : (m n : ℕ) (rs : List (Option (List ℤ))) → min m (2 ^ 64 - 1) ≡ min n (2 ^ 64 - 1) → held (end_from m rs) ≡ held (end_from n rs)
held_same m n [] e = refl
held_same m n (None ∷ rs) e = ap (λ k. Err (BadLine k)) e
held_same m n (Some r ∷ rs) e = held_same (m + 1) (n + 1) rs (omega (arith, e))

-- a good line is followed by the lines after it, and the number is held one greater
pub held_next : (m n : ℕ) (r : List ℤ) (rs ls : List (Option (List ℤ))) → m ≡ min (n + 1) (2 ^ 64 - 1) → ls ≡ Some r ∷ rs → held (end_from m rs) ≡ held (end_from n ls)
held_next m n r rs ls e f = held_same m (n + 1) rs (omega (arith, e)) ∙ sym (ap (λ l. held (end_from n l)) f)

-- where there are no more lines than can be counted, the number is held as it is
pub held_all : (n : ℕ) (rs : List (Option (List ℤ))) → n + length rs ≤ 2 ^ 64 → held (end_from n rs) ≡ end_from n rs
held_all n [] h = refl
held_all n (None ∷ rs) h = let k : min n (2 ^ 64 - 1) ≡ n = omega (arith, h) in ap (λ m. Err (BadLine m)) k
held_all n (Some r ∷ rs) h = held_all (n + 1) rs (omega (arith, h))

-- there are no more parts than bytes, and one
split_few : (b : ℕ) (t : List ℕ) → length (split b t) ≤ length t + 1
split_few b [] = omega arith
split_few b (c ∷ cs) = go (eqb c b) (split b cs) (split_few b cs)
  where
    go : (d : Bool) (ps : List (List ℕ)) → length ps ≤ length cs + 1 → length (cond d ([] ∷ ps) (onto c ps)) ≤ suc (length cs) + 1
    go true ps h = omega arith
    go false [] h = omega arith
    go false (p ∷ ps) h = omega arith

-- nor more lines than parts
lines_few : (parts : List (List ℕ)) (part : List ℕ) → length (lines_from parts part) ≤ suc (length parts)
lines_few [] [] = omega arith
lines_few [] (c ∷ cs) = omega arith
lines_few (next ∷ parts) part = omega (arith, lines_few parts next)

-- of any parts
of_few : (parts : List (List ℕ)) → length (lines_of parts) ≤ length parts
of_few [] = omega arith
of_few (part ∷ parts) = lines_few parts part

-- so the lines of a text can be counted
pub sheet_few : (w : ℕ) (t : List ℕ) → length (sheet w t) ≤ length t + 1
sheet_few w t = omega (arith, length-map (lines t) (row_of w), of_few (split 10 t), split_few 10 t)

-- a row that a line writes has the sheet's width
row_width : (w : ℕ) (o : Option (List ℤ)) (r : List ℤ) → of_width w o ≡ Some r → length r ≡ w
row_width w None r e = let y : ◌≡◌ {A = ℕ} 0 1 = cc in absurd (omega arith)
row_width w (Some zs) r e = go (eqb (length zs) w) refl
  where
    go : (b : Bool) → eqb (length zs) w ≡ b → length r ≡ w
    go true t = pick (leb w 8) (sym (ap (λ b. cond (b && leb w 8) (Some zs) None) t) ∙ e)
      where
        pick : (d : Bool) → cond d (Some zs) None ≡ Some r → length r ≡ w
        pick true u = let f : zs ≡ r = cc in sym (ap length f) ∙ eqb-true _ _ t
        pick false u = let y : ◌≡◌ {A = ℕ} 0 1 = cc in absurd (omega arith)
    go false t = let f : None ≡ Some r = sym (cond-false (eqb (length zs) w && leb w 8) (Some zs) None (and_left _ _ t)) ∙ e in let y : ◌≡◌ {A = ℕ} 0 1 = cc in absurd (omega arith)

-- and so have all that come
pub rows_width : (w : ℕ) (ls : List Line) → AllByRecursion (λ r. length r ≡ w) (good_rows (map (row_of w) ls))
rows_width w [] = tt
rows_width w (l ∷ ls) = go (row_of w l) (of_line l) (rows_width w ls)
  where
    of_line : (l : Line) (r : List ℤ) → row_of w l ≡ Some r → length r ≡ w
    of_line (complete line) r e = row_width w (numbers (split 32 line)) r e
    of_line (broken line) r e = let y : ◌≡◌ {A = ℕ} 0 1 = cc in absurd (omega arith)

    go : (o : Option (List ℤ)) → ((r : List ℤ) → o ≡ Some r → length r ≡ w) → AllByRecursion (λ r. length r ≡ w) (good_rows (map (row_of w) ls)) → AllByRecursion (λ r. length r ≡ w) (good_rows (o ∷ map (row_of w) ls))
    go None f h = tt
    go (Some r) f h = (f r refl, h)
