-- One pass gathers what the rows that meet the condition come to. Assumes nothing.
use Rattle.std.proofs.Common.{◌≡◌, ℕ, zero, suc, ◌+◌, ◌<◌, ◌≤◌, Bool, true, false, cond, List, [], ◌∷◌, length, get_or, take, drop, ℤ, Some, None, Ok, Err, fold, sym, refl, ap, ◌∙◌, add-zero, zero-add, arith, Bor}
use Rattle.std.proofs.lemmas.List.{length-map, get_or-map, drop_more}
use Rattle.measures.specs.Meaning.{Meaning}
use Rattle.plan.specs.declared.plan.Column.{Column}
use Rattle.scan.specs.declared.found.Gathered.{Gathered}
use Rattle.scan.specs.Scans.{rows_of, measured, meets, meeting, joined, gathered, with_row, column_at}

pub length_rows_of : (rows : List (Bor (List ℤ))) → length (rows_of rows) ≡ length rows
length_rows_of rows = length-map rows (λ (row : Bor (List ℤ)). row.now)

-- the rest of a list from a row on: that row, and the rest after it
pub rest_from : (rows : List (Bor (List ℤ))) (i : ℕ) (d : Bor (List ℤ)) → i < length rows → drop i (rows_of rows) ≡ (get_or rows i d).now ∷ drop (i + 1) (rows_of rows)
rest_from rows i d h =
    drop_more (rows_of rows) i d.now (omega (arith, length_rows_of rows))
    ∙ ap (λ row. row ∷ drop (i + 1) (rows_of rows)) (get_or-map (λ (row : Bor (List ℤ)). row.now) rows i d d.now h)

module _ {M V A : Type 0} (m : Meaning V A) (c : Column M) (base : List ℤ) where
  -- a row adds one at most
  pub with_row_rows : (g : Gathered V) (row : List ℤ) → (with_row m c base g row).rows ≤ g.rows + 1
  with_row_rows g row = at (meets c base row) where
    at : (b : Bool) → (cond b (record { value = m.join g.value (m.one (measured c.field row)); rows = g.rows + 1 }) g).rows ≤ g.rows + 1
    at true = omega arith
    at false = omega arith

  -- row by row, from what was gathered before
  gathers_on : (g : Gathered V) (rows : List (List ℤ)) → fold (with_row m c base) g rows ≡ record { value = fold (λ a row. m.join a (m.one (measured c.field row))) g.value (meeting c base rows); rows = g.rows + length (meeting c base rows) }
  gathers_on g [] = ap (λ n. record { value = g.value; rows = n }) (sym (add-zero g.rows))
  gathers_on g (r ∷ rs) = at (meets c base r) (λ h. gathers_on h rs) where
    at : (b : Bool) → ((h : Gathered V) → fold (with_row m c base) h rs ≡ record { value = fold (λ a row. m.join a (m.one (measured c.field row))) h.value (meeting c base rs); rows = h.rows + length (meeting c base rs) }) →
        fold (with_row m c base) (cond b (record { value = m.join g.value (m.one (measured c.field r)); rows = g.rows + 1 }) g) rs ≡ record { value = fold (λ a row. m.join a (m.one (measured c.field row))) g.value (cond b (r ∷ meeting c base rs) (meeting c base rs)); rows = g.rows + length (cond b (r ∷ meeting c base rs) (meeting c base rs)) }
    at true ih = ih (record { value = m.join g.value (m.one (measured c.field r)); rows = g.rows + 1 }) ∙ ap (λ n. record { value = fold (λ a row. m.join a (m.one (measured c.field row))) (m.join g.value (m.one (measured c.field r))) (meeting c base rs); rows = n }) (omega arith)
    at false ih = ih g

  pub gathers : (rows : List (List ℤ)) → fold (with_row m c base) (record { value = m.none; rows = 0 }) rows ≡ gathered m c.field (meeting c base rows)
  gathers rows = gathers_on (record { value = m.none; rows = 0 }) rows ∙ ap (λ n. record { value = joined m c.field (meeting c base rows); rows = n }) (zero-add (length (meeting c base rows)))

-- a column that is there, and one that is not
pub column_there : {X : Type 0} (xs : List X) (n c : ℕ) (d : X) → c < n → n ≤ length xs → column_at (take n xs) c ≡ Some (get_or xs c d)
column_there xs zero c d h l = absurd (omega arith)
column_there [] (suc n) c d h l = absurd (omega arith)
column_there (x ∷ xs) (suc n) zero d h l = refl
column_there (x ∷ xs) (suc n) (suc c) d h l = column_there xs n c d (omega arith) (omega arith)

pub column_past : {X : Type 0} (xs : List X) (n c : ℕ) → n ≤ c → column_at (take n xs) c ≡ None
column_past [] zero c h = refl
column_past (x ∷ xs) zero c h = refl
column_past [] (suc n) c h = refl
column_past (x ∷ xs) (suc n) zero h = absurd (omega arith)
column_past (x ∷ xs) (suc n) (suc c) h = column_past xs n c (omega arith)

-- what a scan by a column says where it is not refused
pub scanned_by_ok : {X E : Type 0} (t u : Bool) (x y : X) (e f : E) → Ok x ≡ cond t (cond u (Err e) (Ok y)) (Err f) → (t ≡ true) × (u ≡ false) × (x ≡ y)
scanned_by_ok true true x y e f p = cc
scanned_by_ok true false x y e f p = (refl, refl, cc)
scanned_by_ok false u x y e f p = cc
