-- Each of the five kinds keeps the six properties. Assumes nothing.
use Rattle.std.specs.Prelude.{◌≡◌, ℕ, ◌+◌, ◌*◌, ◌^◌, ◌<◌, ◌≤◌, Bool, true, false, cond, List, length, ℤ, pos, ◌+ℤ◌, Some, None, Option, FitsSigned, unsigned_abs, refl}
use Rattle.std.proofs.Common.{sym, ap, subst, ◌∙◌, arith, to_z, of_z}
use Rattle.std.proofs.lemmas.Bool.{eq-eqb, eqb-true, leb-true, le-leb, and_parts, and_from}
use Rattle.std.proofs.lemmas.Bool.Decides.{nat_tests}
use Rattle.std.proofs.lemmas.Int.{to_z-of_z, of_z-to_z, clamps, ints}
use Rattle.std.proofs.ByRecursion.{All-get_or}
use Rattle.std.specs.Int.{int_min, int_max, w64}
use Rattle.std.specs.List.{AllByRecursion}
use Rattle.measures.specs.declared.answer.Answer.{Answer}
use Rattle.measures.specs.Values.{greatest_value, RowValue}
use Rattle.measures.specs.Meaning.{Writable, Properties, Formed}
use Rattle.measures.specs.Bytes.{bytes_of, word_of, EightBytes}
use Rattle.measures.specs.Kinds.{count, counted, total, adding, is_sum_of, measured, signed_bytes, signed_word, extreme, least, greatest, better, is_extreme_of, extreme_bytes, extreme_read}
use Rattle.measures.specs.Words.{bytes_of_eight, word_of_bytes_of, bytes_of_word_of, word_of_below}

-- a value that is read under a test
read_if : {X : Type 0} (t : Bool) (x y : X) → t ≡ true → x ≡ y → cond t (Some x) None ≡ Some y
read_if t x y p q = cc

was_read_if : {X : Type 0} (t : Bool) (x y : X) → cond t (Some x) None ≡ Some y → (t ≡ true) × (x ≡ y)
was_read_if true x y p = (refl, cc)
was_read_if false x y p = let z : ◌≡◌ {A = ℕ} 0 1 = cc in absurd (omega arith)

-- the one measured value of a row is a row value
measured_row_value : (vs : List ℤ) → length vs ≡ 1 → AllByRecursion RowValue vs → RowValue (measured vs)
measured_row_value vs e h = All-get_or RowValue vs 0 (pos 0) (omega arith) h

-- eight bytes hold one number
eight_bytes_of : (bs : List ℕ) → EightBytes bs → bytes_of 8 (word_of bs) ≡ bs
eight_bytes_of bs e = ap (λ k. bytes_of k (word_of bs)) (sym e.0) ∙ bytes_of_word_of bs e.1

word_fits : (bs : List ℕ) → EightBytes bs → word_of bs < 2 ^ 64
word_fits bs e = subst (λ k. word_of bs < 256 ^ k) e.0 (word_of_below bs e.1)

signed_word_back : (a : ℤ) → FitsSigned w64 a → signed_word (signed_bytes a) ≡ a
signed_word_back a f = ap (to_z w64) (word_of_bytes_of 8 (of_z w64 a) (omega (arith, ints))) ∙ to_z-of_z w64 a f

signed_word_only : (a : ℤ) (bs : List ℕ) → EightBytes bs → signed_word bs ≡ a → bs ≡ signed_bytes a
signed_word_only a bs e p = sym (eight_bytes_of bs e) ∙ ap (bytes_of 8) (sym (of_z-to_z w64 (word_of bs) (word_fits bs e)) ∙ ap (of_z w64) p)

-- a count that is in bounds is the plain sum
pub counted_adds : (a b : ℕ) → a + b < 2 ^ 32 → counted a b ≡ a + b
counted_adds a b h = grind (arith, nat_tests)

pub count_keeps : Properties count
count_keeps = record {
  join_associates = λ a b c i j k p q r s.
      let ea = eqb-true a i p in let eb = eqb-true b j q in let ec = eqb-true c k r in
      let ab = counted_adds a b (omega arith) in
      let bc = counted_adds b c (omega arith) in
      ap (λ x. counted x c) ab ∙ counted_adds (a + b) c (omega arith) ∙ omega arith ∙ sym (ap (counted a) bc ∙ counted_adds a (b + c) (omega arith));
  join_commutes = λ a b i j p q r.
      let ea = eqb-true a i p in let eb = eqb-true b j q in
      counted_adds a b (omega arith) ∙ omega arith ∙ sym (counted_adds b a (omega arith));
  none_joins_to_the_same = λ a. refl;
  none_for_no_rows = refl;
  only_none_for_no_rows = λ a p. eqb-true a 0 p;
  one_row_is_possible = λ vs e p. refl;
  join_is_possible = λ a b i j p q r.
      let ea = eqb-true a i p in let eb = eqb-true b j q in
      eq-eqb _ _ (counted_adds a b (omega arith) ∙ omega arith);
  written_reads_back = λ a w.
      let e = eqb-true a w.0 w.3 in
      let back = word_of_bytes_of 8 a (omega arith) in
      read_if _ _ _ (grind (arith, nat_tests)) back;
  nothing_else_reads_so = λ a bs w e p. sym (eight_bytes_of bs e) ∙ ap (bytes_of 8) (was_read_if _ _ _ p).1;
}

pub count_formed : Formed count
count_formed = record { kind_is_a_byte = omega arith; written_in_eight_bytes = bytes_of_eight }

-- a sum that is in bounds is the plain sum
pub total_adds : (a b : ℤ) → unsigned_abs (a +ℤ b) ≤ 999999999000000 → total a b ≡ a +ℤ b
total_adds a b h = grind (arith, ints, nat_tests)

module _ (kind : ℕ) (answer : ℤ → ℕ → Answer) where
  pub adding_keeps : Properties (adding kind answer)
  adding_keeps = record {
    join_associates = λ a b c i j k p q r s.
        let ha = leb-true (unsigned_abs a) (greatest_value * i) p in
        let hb = leb-true (unsigned_abs b) (greatest_value * j) q in
        let hc = leb-true (unsigned_abs c) (greatest_value * k) r in
        let ab = total_adds a b (omega (arith, ints)) in
        let bc = total_adds b c (omega (arith, ints)) in
        ap (λ x. total x c) ab ∙ total_adds (a +ℤ b) c (omega (arith, ints)) ∙ omega (arith, ints) ∙ sym (ap (total a) bc ∙ total_adds a (b +ℤ c) (omega (arith, ints)));
    join_commutes = λ a b i j p q r.
        let ha = leb-true (unsigned_abs a) (greatest_value * i) p in
        let hb = leb-true (unsigned_abs b) (greatest_value * j) q in
        total_adds a b (omega (arith, ints)) ∙ omega (arith, ints) ∙ sym (total_adds b a (omega (arith, ints)));
    none_joins_to_the_same = λ a. refl;
    none_for_no_rows = refl;
    only_none_for_no_rows = λ a p. omega (arith, ints, leb-true (unsigned_abs a) (greatest_value * 0) p);
    one_row_is_possible = λ vs e p. le-leb _ _ (measured_row_value vs e p);
    join_is_possible = λ a b i j p q r.
        let ha = leb-true (unsigned_abs a) (greatest_value * i) p in
        let hb = leb-true (unsigned_abs b) (greatest_value * j) q in
        ap (λ x. is_sum_of x (i + j)) (total_adds a b (omega (arith, ints))) ∙ le-leb _ _ (omega (arith, ints));
    written_reads_back = λ a w. ap Some (signed_word_back a (omega (arith, ints, leb-true (unsigned_abs a) (greatest_value * w.0) w.3)));
    nothing_else_reads_so = λ a bs w e p. signed_word_only a bs e (cc);
  }

  pub adding_formed : kind < 256 → Formed (adding kind answer)
  adding_formed h = record { kind_is_a_byte = h; written_in_eight_bytes = λ a. bytes_of_eight (of_z w64 a) }

row_value_fits : (a : ℤ) → RowValue a → FitsSigned w64 a
row_value_fits a h = omega (arith, ints)

-- a value of some rows is a row value
extreme_of_rows : (a : ℤ) (n : ℕ) → is_extreme_of (Some a) n ≡ true → (1 ≤ n) × RowValue a
extreme_of_rows a n p = let both = and_parts _ _ p in (leb-true 1 n both.0, leb-true (unsigned_abs a) greatest_value both.1)

rows_have_extreme : (a : ℤ) (n : ℕ) → 1 ≤ n → RowValue a → is_extreme_of (Some a) n ≡ true
rows_have_extreme a n p q = and_from _ _ (le-leb 1 n p) (le-leb (unsigned_abs a) greatest_value q)

module _ (kind : ℕ) (pick : ℤ → ℤ → ℤ) (associates : (a b c : ℤ) → pick (pick a b) c ≡ pick a (pick b c)) (commutes : (a b : ℤ) → pick a b ≡ pick b a)
    (keeps : (a b : ℤ) → RowValue a → RowValue b → RowValue (pick a b)) where
  better_associates : (a b c : Option ℤ) → better pick (better pick a b) c ≡ better pick a (better pick b c)
  better_associates None b c = refl
  better_associates (Some a) None c = refl
  better_associates (Some a) (Some b) None = refl
  better_associates (Some a) (Some b) (Some c) = ap Some (associates a b c)

  better_commutes : (a b : Option ℤ) → better pick a b ≡ better pick b a
  better_commutes None None = refl
  better_commutes None (Some b) = refl
  better_commutes (Some a) None = refl
  better_commutes (Some a) (Some b) = ap Some (commutes a b)

  only_none : (a : Option ℤ) → is_extreme_of a 0 ≡ true → a ≡ None
  only_none None p = refl
  only_none (Some a) p = let z : ⊥ = omega (arith, (extreme_of_rows a 0 p).0) in absurd z

  better_possible : (a b : Option ℤ) (i j : ℕ) → is_extreme_of a i ≡ true → is_extreme_of b j ≡ true → is_extreme_of (better pick a b) (i + j) ≡ true
  better_possible None None i j p q = eq-eqb (i + j) 0 (omega (arith, eqb-true i 0 p, eqb-true j 0 q))
  better_possible None (Some b) i j p q = let h = extreme_of_rows b j q in rows_have_extreme b (i + j) (omega (arith, h.0)) h.1
  better_possible (Some a) None i j p q = let h = extreme_of_rows a i p in rows_have_extreme a (i + j) (omega (arith, h.0)) h.1
  better_possible (Some a) (Some b) i j p q =
      let h = extreme_of_rows a i p in
      rows_have_extreme (pick a b) (i + j) (omega (arith, h.0)) (keeps a b h.1 (extreme_of_rows b j q).1)

  reads_back : (a : Option ℤ) → Writable (extreme kind pick) a → extreme_read (extreme_bytes a) ≡ Some a
  reads_back None w = let z : ⊥ = omega (arith, eqb-true w.0 0 w.3) in absurd z
  reads_back (Some a) w =
      let row = (extreme_of_rows a w.0 w.3).1 in
      let e = signed_word_back a (row_value_fits a row) in
      read_if _ _ _ (le-leb _ _ (subst RowValue (sym e) row)) (ap Some e)

  reads_only : (a : Option ℤ) (bs : List ℕ) → Writable (extreme kind pick) a → EightBytes bs → extreme_read bs ≡ Some a → bs ≡ extreme_bytes a
  reads_only None bs w e p = let z : ⊥ = omega (arith, eqb-true w.0 0 w.3) in absurd z
  reads_only (Some a) bs w e p = let q = (was_read_if _ _ _ p).1 in signed_word_only a bs e (cc)

  pub extreme_keeps : Properties (extreme kind pick)
  extreme_keeps = record {
    join_associates = λ a b c i j k p q r s. better_associates a b c;
    join_commutes = λ a b i j p q r. better_commutes a b;
    none_joins_to_the_same = λ a. refl;
    none_for_no_rows = refl;
    only_none_for_no_rows = only_none;
    one_row_is_possible = λ vs e p. le-leb _ _ (measured_row_value vs e p);
    join_is_possible = λ a b i j p q r. better_possible a b i j p q;
    written_reads_back = reads_back;
    nothing_else_reads_so = reads_only;
  }

-- what is written of an extreme is eight bytes
extreme_eight : (a : Option ℤ) → EightBytes (extreme_bytes a)
extreme_eight None = bytes_of_eight 0
extreme_eight (Some a) = bytes_of_eight (of_z w64 a)

-- an extreme of any choice is written in eight bytes
pub extreme_formed : (kind : ℕ) (pick : ℤ → ℤ → ℤ) → kind < 256 → Formed (extreme kind pick)
extreme_formed kind pick h = record { kind_is_a_byte = h; written_in_eight_bytes = extreme_eight }

pub least_keeps : Properties least
least_keeps = extreme_keeps 3 int_min (λ a b c. omega (arith, ints, clamps)) (λ a b. omega (arith, ints, clamps)) (λ a b p q. omega (arith, ints, clamps))

pub least_formed : Formed least
least_formed = extreme_formed 3 int_min (omega arith)

pub greatest_keeps : Properties greatest
greatest_keeps = extreme_keeps 4 int_max (λ a b c. omega (arith, ints, clamps)) (λ a b. omega (arith, ints, clamps)) (λ a b p q. omega (arith, ints, clamps))

pub greatest_formed : Formed greatest
greatest_formed = extreme_formed 4 int_max (omega arith)
