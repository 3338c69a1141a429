-- The digits at the front of a text, one after another. Assumes nothing.
use Rattle.std.proofs.Common.{◌≡◌, ℕ, zero, suc, ◌+◌, ◌-◌, ◌*◌, ◌^◌, ◌<◌, ◌≤◌, Bool, true, false, cond, not, ◌&&◌, eqb, ltb, leb, List, [], ◌∷◌, length, get_or, take, drop, Some, None, sym, refl, ap, ◌∙◌, pow-suc, add-one, arith}
use native.Mathlib.Nat.{pow-le-pow_right}
use Rattle.std.specs.Char.{is_ascii_digit}
use Rattle.std.proofs.lemmas.List.{drop_more, get_or-take, length-take-le}
use Rattle.std.proofs.lemmas.Bool.{cond-true, cond-false, and_parts, and_from, and_left, leb-true, le-leb, lt-ltb, le-ltb, eq-eqb, ne_eqb}
use Rattle.std.specs.Str.{all_ascii_digits}
use Rattle.text.specs.Numbers.{digits_front, front, read_on, plain, unsigned}

module _ (text : List ℕ) (i k : ℕ) (within : i < length text) where
  -- a digit goes on
  pub front_more : is_ascii_digit (get_or text i 0) ≡ true → digits_front (suc k) (drop i text) ≡ get_or text i 0 ∷ digits_front k (drop (i + 1) text)
  front_more d = ap (digits_front (suc k)) (drop_more text i 0 within) ∙ cond-true (is_ascii_digit (get_or text i 0)) _ _ d

  -- another byte ends them
  pub front_stop : is_ascii_digit (get_or text i 0) ≡ false → digits_front (suc k) (drop i text) ≡ []
  front_stop d = ap (digits_front (suc k)) (drop_more text i 0 within) ∙ cond-false (is_ascii_digit (get_or text i 0)) _ _ d

-- fewer than nine digits write a number below a hundred million
pub few_small : (i n : ℕ) → i < 9 → n < 10 ^ i → n < 10 ^ 8
few_small i n h l = let ten : 0 < 10 = omega arith in let few : i ≤ 8 = omega arith in let p : 10 ^ i ≤ 10 ^ 8 = pow-le-pow_right ten few in omega arith

-- at most nine digits write a number below a thousand million
pub most_small : (i n : ℕ) → i ≤ 9 → n < 10 ^ i → n < 10 ^ 9
most_small i n h l = let ten : 0 < 10 = omega arith in let p : 10 ^ i ≤ 10 ^ 9 = pow-le-pow_right ten h in omega arith

-- one digit more
pub one_more : (i n d : ℕ) → n < 10 ^ i → d < 10 → n * 10 + d < 10 ^ (i + 1)
one_more i n d l s = rw add-one (omega (arith, pow-suc 10 i))

-- the bytes of the ten digits
pub digit_range : (c : ℕ) → is_ascii_digit c ≡ true → (48 ≤ c) × (c ≤ 57)
digit_range c d = let p = and_parts (leb 48 c) (leb c 57) d in (leb-true 48 c p.0, leb-true c 57 p.1)

-- what the loop over the digits keeps: those that it passed and those in front of the rest are the digits in front
pub record Passed (text : List ℕ) (count value : ℕ) : Type 0 where
  pub long : length (digits_front 9 text) ≡ count + length (digits_front (9 - count) (drop count text))
  pub worth : read_on 0 (digits_front 9 text) ≡ read_on value (digits_front (9 - count) (drop count text))
  pub small : value < 10 ^ count
  pub few : count ≤ 9
  pub within : count ≤ length text

-- one digit is passed
pub passed_more : (text : List ℕ) (count value next : ℕ) → Passed text count value → count < 9 → count < length text → is_ascii_digit (get_or text count 0) ≡ true → next ≡ value * 10 + (get_or text count 0 - 48) → Passed text (count + 1) next
passed_more text count value next p few within d e =
    let r = digit_range (get_or text count 0) d in
    let left : 9 - count ≡ suc (9 - (count + 1)) = omega arith in
    let f = ap (λ k. digits_front k (drop count text)) left ∙ front_more text count (9 - (count + 1)) within d in
    record {
      long = p.long ∙ ap (λ l. count + length l) f ∙ omega arith;
      worth = p.worth ∙ ap (read_on value) f ∙ ap (λ v. read_on v (digits_front (9 - (count + 1)) (drop (count + 1) text))) (sym e);
      small = let g = one_more count value (get_or text count 0 - 48) p.small (omega (arith, r.0, r.1)) in omega arith;
      few = omega arith;
      within = omega arith;
    }

-- the digits that the loop gives where nothing stands in front of the rest
pub passed_all : (text : List ℕ) (count value : ℕ) → Passed text count value → digits_front (9 - count) (drop count text) ≡ [] → (count ≡ length (digits_front 9 text)) × (value ≡ read_on 0 (digits_front 9 text)) × (value < 10 ^ 9)
passed_all text count value p e =
    (omega (arith, p.long, ap (λ l. count + length l) e), sym (p.worth ∙ ap (read_on value) e), most_small count value p.few p.small)

-- a byte among the first ones of a text is the text's own
pub among_first : (text : List ℕ) (most i : ℕ) → most ≤ 9 → most ≤ length text → i < length (take most text) → (i < 9) × (i < length text) × (get_or (take most text) i 0 ≡ get_or text i 0)
among_first text most i few within h =
    let l = length-take-le most text within in
    (omega arith, omega arith, get_or-take most text i 0 (omega arith))

-- the digits in front are digits
pub front_digits : (k : ℕ) (text : List ℕ) → all_ascii_digits (digits_front k text) ≡ true
front_digits zero text = refl
front_digits (suc k) [] = refl
front_digits (suc k) (c ∷ cs) = go (is_ascii_digit c) refl (front_digits k cs)
  where
    go : (b : Bool) → is_ascii_digit c ≡ b → all_ascii_digits (digits_front k cs) ≡ true → all_ascii_digits (cond b (c ∷ digits_front k cs) []) ≡ true
    go true e h = and_from _ _ e h
    go false e h = refl

-- there are no more than asked for
pub front_few : (k : ℕ) (text : List ℕ) → length (digits_front k text) ≤ k
front_few zero text = omega arith
front_few (suc k) [] = omega arith
front_few (suc k) (c ∷ cs) = go (is_ascii_digit c) (front_few k cs)
  where
    go : (b : Bool) → length (digits_front k cs) ≤ k → length (cond b (c ∷ digits_front k cs) []) ≤ suc k
    go true h = omega arith
    go false h = omega arith

-- they are the text's own beginning
pub front_take : (k : ℕ) (text : List ℕ) → take (length (digits_front k text)) text ≡ digits_front k text
front_take zero text = refl
front_take (suc k) [] = refl
front_take (suc k) (c ∷ cs) = go (is_ascii_digit c) (front_take k cs)
  where
    go : (b : Bool) → take (length (digits_front k cs)) cs ≡ digits_front k cs → take (length (cond b (c ∷ digits_front k cs) [])) (c ∷ cs) ≡ cond b (c ∷ digits_front k cs) []
    go true h = ap (λ l. c ∷ l) h
    go false h = refl

-- the first of them is the text's first byte
pub front_first : (k : ℕ) (text : List ℕ) → 0 < length (digits_front k text) → get_or (digits_front k text) 0 0 ≡ get_or text 0 0
front_first k text h = ap (λ l. get_or l 0 0) (sym (front_take k text)) ∙ get_or-take (length (digits_front k text)) text 0 0 h

-- digits in front are a number unless there are none or they begin with 0
pub front_plain : (text : List ℕ) → 0 < length (digits_front 9 text) → plain (digits_front 9 text) ≡ not (eqb (get_or text 0 0) 48 && ltb 1 (length (digits_front 9 text)))
front_plain text h =
    let b = not (eqb (get_or text 0 0) 48 && ltb 1 (length (digits_front 9 text))) in
    ap (λ x. x && (leb (length (digits_front 9 text)) 9 && (not (eqb (get_or (digits_front 9 text) 0 0) 48 && ltb 1 (length (digits_front 9 text))) && all_ascii_digits (digits_front 9 text)))) (lt-ltb 0 _ h)
    ∙ ap (λ x. x && (not (eqb (get_or (digits_front 9 text) 0 0) 48 && ltb 1 (length (digits_front 9 text))) && all_ascii_digits (digits_front 9 text))) (le-leb _ 9 (front_few 9 text))
    ∙ ap (λ x. not (eqb x 48 && ltb 1 (length (digits_front 9 text))) && all_ascii_digits (digits_front 9 text)) (front_first 9 text h)
    ∙ ap (λ x. b && x) (front_digits 9 text) ∙ and_true b
  where
    and_true : (b : Bool) → (b && true) ≡ b
    and_true true = refl
    and_true false = refl

-- the number that they then write
pub front_unsigned : (text : List ℕ) (count value : ℕ) (b : Bool) → count ≡ length (digits_front 9 text) → value ≡ read_on 0 (digits_front 9 text) → 0 < count → b ≡ not (eqb (get_or text 0 0) 48 && ltb 1 count) → cond b (Some value) None ≡ unsigned (digits_front 9 text)
front_unsigned text count value b l v h e =
    ap (λ n. cond b (Some n) None) v
    ∙ ap (λ t. cond t (Some (read_on 0 (digits_front 9 text))) None) (e ∙ ap (λ n. not (eqb (get_or text 0 0) 48 && ltb 1 n)) l ∙ sym (front_plain text (omega arith)))

-- no digits are no number
pub empty_unsigned : (w : List ℕ) → length w ≤ 0 → None ≡ unsigned w
empty_unsigned w h = sym (cond-false (plain w) _ _ (and_left _ _ (le-ltb 0 _ h)))

-- a text that begins with a minus sign
module _ (text : List ℕ) (sign : get_or text 0 0 ≡ 45) where
  -- its front is the sign and the digits behind it
  pub minus_front : front text ≡ 45 ∷ digits_front 9 (drop 1 text)
  minus_front = cond-true (eqb (get_or text 0 0) 45) _ _ (eq-eqb _ 45 sign)

-- a text that does not
module _ (text : List ℕ) (plainly : get_or text 0 0 ≡ 45 → ⊥) where
  -- its front is its digits
  pub plain_front : front text ≡ digits_front 9 text
  plain_front = cond-false (eqb (get_or text 0 0) 45) _ _ (ne_eqb _ 45 plainly)
