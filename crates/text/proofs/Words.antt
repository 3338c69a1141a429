-- Words that are numbers: what the front of a word tells of it, and that a number is written in one way. Assumes nothing.
use Rattle.std.proofs.Common.{◌≡◌, ℕ, zero, suc, ◌^◌, ◌<◌, ◌≤◌, Bool, true, false, cond, not, ◌&&◌, eqb, ltb, leb, ◌⊎◌, List, [], ◌∷◌, length, get_or, take, drop, ℤ, pos, negsuc, Some, None, decimal, Option, sym, refl, ap, ◌∙◌, subst, inl, inr, arith, rules}
use Rattle.std.specs.Char.{is_ascii_digit}
use Rattle.std.specs.Fmt.{signed_decimal}
use Rattle.std.specs.Str.{all_ascii_digits}
use Rattle.std.proofs.lemmas.Fmt.{decimal_digit, length-decimal-le, decimal_nonempty, first_decimal, digits_decimal, digits_value-decimal, decimal-digits_value}
use Rattle.std.proofs.lemmas.List.{take_all}
use Rattle.std.proofs.lemmas.Bool.{and_from, and_parts, and_left, and_right, not_from_false, not-true, lt-ltb, le-leb, le-ltb, ltb-true, ltb-false, leb-true, ne_eqb, eq-eqb, eqb-true, cond-true, cond-false, cases_Bool, cases_eq, cases_lt}
use Rattle.std.proofs.lemmas.Str.Parse.{IsNumeralModel, numerals_by_fold, digits_value_short}
use Rattle.measures.specs.Values.{RowValue}
use Rattle.text.specs.Numbers.{digits_front, front, read_on, plain, unsigned, positive, negative, number, written, Exactly}
use Rattle.text.proofs.Fronts.{front_take, minus_front, plain_front}

-- what a word that is a number without sign keeps
pub record Plain (w : List ℕ) : Type 0 where
  pub some : 0 < length w
  pub few : length w ≤ 9
  pub lead : (eqb (get_or w 0 0) 48 && ltb 1 (length w)) ≡ false
  pub digits : all_ascii_digits w ≡ true

-- a word that passes the test keeps all of it
pub plain_parts : (w : List ℕ) → plain w ≡ true → Plain w
plain_parts w p =
    let q = and_parts (ltb 0 (length w)) (leb (length w) 9 && (not (eqb (get_or w 0 0) 48 && ltb 1 (length w)) && all_ascii_digits w)) p in
    let r = and_parts (leb (length w) 9) (not (eqb (get_or w 0 0) 48 && ltb 1 (length w)) && all_ascii_digits w) q.1 in
    let s = and_parts (not (eqb (get_or w 0 0) 48 && ltb 1 (length w))) (all_ascii_digits w) r.1 in
    record { some = ltb-true 0 _ q.0; few = leb-true _ 9 r.0; lead = not-true _ s.0; digits = s.1 }

-- the front of digits is all of them
pub digits_whole : (k : ℕ) (ds : List ℕ) → all_ascii_digits ds ≡ true → length ds ≤ k → digits_front k ds ≡ ds
digits_whole zero [] d h = refl
digits_whole zero (c ∷ cs) d h = absurd (omega (arith, h))
digits_whole (suc k) [] d h = refl
digits_whole (suc k) (c ∷ cs) d h =
    let p = and_parts (is_ascii_digit c) (all_ascii_digits cs) d in
    cond-true (is_ascii_digit c) (c ∷ digits_front k cs) [] p.0 ∙ ap (λ l. c ∷ l) (digits_whole k cs p.1 (omega (arith, h)))

-- a word with more than its digits in front is no number without sign
pub longer_unsigned : (w : List ℕ) → length (digits_front 9 w) < length w → unsigned w ≡ None
longer_unsigned w h = go (plain w) refl
  where
    go : (b : Bool) → plain w ≡ b → cond b (Some (read_on 0 w)) None ≡ None
    go true p = let q = plain_parts w p in absurd (omega (arith, h, ap length (digits_whole 9 w q.digits q.few)))
    go false p = refl

-- a word that is all digits in front
pub whole_digits : (w : List ℕ) → length w ≤ length (digits_front 9 w) → digits_front 9 w ≡ w
whole_digits w h = sym (front_take 9 w) ∙ take_all (length (digits_front 9 w)) w h

-- the first byte and the rest
pub sign_rest : (w : List ℕ) → get_or w 0 0 ≡ 45 → w ≡ 45 ∷ drop 1 w
sign_rest [] e = absurd (omega (arith, e))
sign_rest (b ∷ bs) e = ap (λ x. x ∷ bs) e

-- a word with more than its front is no number
pub longer_number : (w : List ℕ) → length (front w) < length w → number w ≡ None
longer_number w h = go (cases_eq (get_or w 0 0) 45)
  where
    go : (get_or w 0 0 ≡ 45) ⊎ (get_or w 0 0 ≡ 45 → ⊥) → number w ≡ None
    go (inl e) =
        cond-true (eqb (get_or w 0 0) 45) _ _ (eq-eqb _ 45 e)
        ∙ ap negative (longer_unsigned (drop 1 w) (omega (arith, h, ap length (minus_front w e), ap length (sign_rest w e))))
    go (inr e) =
        cond-false (eqb (get_or w 0 0) 45) _ _ (ne_eqb _ 45 e)
        ∙ ap positive (longer_unsigned w (omega (arith, h, ap length (plain_front w e))))

-- the front of a text is its beginning
pub front_begins : (w : List ℕ) → take (length (front w)) w ≡ front w
front_begins w = go (cases_eq (get_or w 0 0) 45)
  where
    go : (get_or w 0 0 ≡ 45) ⊎ (get_or w 0 0 ≡ 45 → ⊥) → take (length (front w)) w ≡ front w
    go (inl e) =
        ap (λ l. take (length l) w) (minus_front w e) ∙ ap (take (suc (length (digits_front 9 (drop 1 w))))) (sign_rest w e)
        ∙ ap (λ l. 45 ∷ l) (front_take 9 (drop 1 w)) ∙ sym (minus_front w e)
    go (inr e) = ap (λ l. take (length l) w) (plain_front w e) ∙ front_take 9 w ∙ sym (plain_front w e)

-- a word that is no longer than its front is its front
pub whole_front : (w : List ℕ) → length w ≤ length (front w) → front w ≡ w
whole_front w h = sym (front_begins w) ∙ take_all (length (front w)) w h

-- the number of a word by its front
pub number_by_front : (w : List ℕ) (n : ℕ) (o : Option ℤ) → n ≡ length (front w) → o ≡ number (front w) → cond (ltb n (length w)) None o ≡ number w
number_by_front w n o l e = go (ltb n (length w)) refl
  where
    go : (b : Bool) → ltb n (length w) ≡ b → cond b None o ≡ number w
    go true t = sym (longer_number w (omega (arith, l, ltb-true _ _ t)))
    go false t = e ∙ ap number (whole_front w (omega (arith, l, ltb-false _ _ t)))

-- digits and their value, in the library's words
own : IsNumeralModel (λ ds. all_ascii_digits ds ≡ true) (read_on 0)
own = numerals_by_fold _ (search rules) read_on (search rules)

-- a written number begins with 0 only where it is 0
lead : (n : ℕ) → n < 10 ^ 9 → (get_or (decimal n) 0 0 ≡ 48 → length (decimal n) ≤ 1) × (48 ≤ get_or (decimal n) 0 0)
lead n h = go (cases_lt 0 n)
  where
    go : (0 < n) ⊎ (n ≤ 0) → (get_or (decimal n) 0 0 ≡ 48 → length (decimal n) ≤ 1) × (48 ≤ get_or (decimal n) 0 0)
    go (inl p) = let f = first_decimal n p (omega arith) in (λ e. absurd (omega (arith, e, f)), omega (arith, f))
    go (inr p) = let d = decimal_digit n (omega arith) in (λ _. omega (arith, ap length d), omega (arith, ap (λ l. get_or l 0 0) d))

-- a number without sign, written, reads back
unsigned_back : (n : ℕ) → n < 10 ^ 9 → unsigned (decimal n) ≡ Some n
unsigned_back n h =
    let s : n < 2 ^ 64 = omega arith in
    let l = length-decimal-le 9 n (omega arith) h s in
    cond-true (plain (decimal n)) (Some (read_on 0 (decimal n))) None (and_from _ _ (lt-ltb 0 _ (decimal_nonempty n s)) (and_from _ _ (le-leb _ 9 l) (and_from _ _ (begins (cases_eq (get_or (decimal n) 0 0) 48)) (digits_decimal own n s)))) ∙ ap Some (digits_value-decimal own n s)
  where
    begins : (get_or (decimal n) 0 0 ≡ 48) ⊎ (get_or (decimal n) 0 0 ≡ 48 → ⊥) → not (eqb (get_or (decimal n) 0 0) 48 && ltb 1 (length (decimal n))) ≡ true
    begins (inl e) = not_from_false _ (and_right (eqb (get_or (decimal n) 0 0) 48) _ (le-ltb 1 _ ((lead n h).0 e)))
    begins (inr e) = not_from_false _ (and_left _ (ltb 1 (length (decimal n))) (ne_eqb _ 48 e))

-- a word that is a number without sign is how it is written, and small
unsigned_again : (w : List ℕ) (n : ℕ) → unsigned w ≡ Some n → (decimal n ≡ w) × (n < 10 ^ 9)
unsigned_again w n e = go (plain w) refl
  where
    go : (b : Bool) → plain w ≡ b → (decimal n ≡ w) × (n < 10 ^ 9)
    go false p = let z : ◌≡◌ {A = ℕ} 0 1 = cc (cond-false (plain w) (Some (read_on 0 w)) None p) in absurd (omega arith)
    go true p =
        let q = plain_parts w p in
        let v : read_on 0 w ≡ n = cc (cond-true (plain w) (Some (read_on 0 w)) None p) in
        let room = digits_value_short own w 9 q.digits q.few in
        (ap decimal (sym v) ∙ decimal-digits_value own w q.digits q.some (alone q.lead q.some) (omega (arith, room)), omega (arith, v, room))
      where
        alone : (eqb (get_or w 0 0) 48 && ltb 1 (length w)) ≡ false → 0 < length w → get_or w 0 0 ≡ 48 → length w ≡ 1
        alone f some z = omega (arith, some, ltb-false 1 (length w) (sym (ap (λ t. t && ltb 1 (length w)) (eq-eqb _ 48 z)) ∙ f))

-- a number that is taken as it is
positive_is : (o : Option ℕ) (z : ℤ) → positive o ≡ Some z → (n : ℕ) × (o ≡ Some n) × (z ≡ pos n)
positive_is None z h = let y : ◌≡◌ {A = ℕ} 0 1 = cc in absurd (omega arith)
positive_is (Some n) z h = (n, refl, cc)

-- a number that is taken below zero
negative_is : (o : Option ℕ) (z : ℤ) → negative o ≡ Some z → (n : ℕ) × (o ≡ Some (suc n)) × (z ≡ negsuc n)
negative_is None z h = let y : ◌≡◌ {A = ℕ} 0 1 = cc in absurd (omega arith)
negative_is (Some zero) z h = let y : ◌≡◌ {A = ℕ} 0 1 = cc in absurd (omega arith)
negative_is (Some (suc n)) z h =
    let g = cond-false {A = Option ℤ} (eqb (suc n) 0) None (Some (negsuc n)) (ne_eqb (suc n) 0 (λ e. omega (arith, e))) in
    let y : Some (negsuc n) ≡ Some z = sym g ∙ h in
    (n, refl, cc)

-- a row value, written, reads back
pub back : (z : ℤ) → RowValue z → number (written z) ≡ Some z
back (pos n) h =
    let s : n < 10 ^ 9 = omega (arith, h) in
    cond-false (eqb (get_or (decimal n) 0 0) 45) _ _ (ne_eqb _ 45 (λ e. omega (arith, e, (lead n s).1))) ∙ ap positive (unsigned_back n s)
back (negsuc n) h = ap negative (unsigned_back (suc n) (omega (arith, h))) ∙ cond-false (eqb (suc n) 0) None (Some (negsuc n)) (ne_eqb (suc n) 0 (λ e. omega (arith, e)))

-- numbers of nine digits are row values
small_above : (n : ℕ) → n < 10 ^ 9 → RowValue (pos n)
small_above n h = omega (arith, h)

-- and so below zero
small_below : (n : ℕ) → suc n < 10 ^ 9 → RowValue (negsuc n)
small_below n h = omega (arith, h)

-- a word that is a number is how it is written, and the number is a row value
pub again : (w : List ℕ) (z : ℤ) → number w ≡ Some z → RowValue z × (written z ≡ w)
again w z h = go (cases_Bool (eqb (get_or w 0 0) 45))
  where
    go : (eqb (get_or w 0 0) 45 ≡ true) ⊎ (eqb (get_or w 0 0) 45 ≡ false) → RowValue z × (written z ≡ w)
    go (inl e) =
        let m = negative_is (unsigned (drop 1 w)) z (sym (cond-true (eqb (get_or w 0 0) 45) (negative (unsigned (drop 1 w))) (positive (unsigned w)) e) ∙ h) in
        let u = unsigned_again (drop 1 w) (suc m.0) m.1 in
        (subst RowValue (sym m.2) (small_below m.0 u.1), ap signed_decimal m.2 ∙ ap (λ x. 45 ∷ x) u.0 ∙ sym (sign_rest w (eqb-true _ 45 e)))
    go (inr e) =
        let m = positive_is (unsigned w) z (sym (cond-false (eqb (get_or w 0 0) 45) (negative (unsigned (drop 1 w))) (positive (unsigned w)) e) ∙ h) in
        let u = unsigned_again w m.0 m.1 in
        (subst RowValue (sym m.2) (small_above m.0 u.1), ap signed_decimal m.2 ∙ u.0)

-- both, of what a reading answers
pub exactly : (w : List ℕ) (r : Option ℤ) → r ≡ number w → Exactly w r
exactly w r e = record { again = λ z h. again w z (sym e ∙ h); back = λ z v h. e ∙ ap number (sym h) ∙ back z v }
