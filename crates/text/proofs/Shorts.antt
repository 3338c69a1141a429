-- The digits of a number that has three at most. Assumes nothing.
use Rattle.std.proofs.Common.{◌≡◌, ℕ, ◌+◌, ◌/◌, ◌%◌, ◌<◌, ◌≤◌, List, [], ◌∷◌, ◌++◌, length, decimal, Some, None, Option, sym, ap, ◌∙◌, arith}
use Rattle.std.specs.Prelude.{if◌then◌else◌}
use Rattle.std.proofs.lemmas.Fmt.{decimal_digit, decimal_step}
use Rattle.text.specs.Numbers.{over, has_room}

pub one : (n a : ℕ) → n < 10 → a ≡ 48 + n → a ∷ [] ≡ decimal n
one n a h e = ap (λ x. x ∷ []) e ∙ sym (decimal_digit n h)

pub two : (n a b : ℕ) → 10 ≤ n → n < 100 → a ≡ 48 + n / 10 → b ≡ 48 + n % 10 → a ∷ b ∷ [] ≡ decimal n
two n a b l h e f =
    ap (λ x. x ++ (b ∷ [])) (one (n / 10) a (omega (arith, h)) e)
    ∙ ap (λ x. decimal (n / 10) ++ (x ∷ [])) f ∙ sym (decimal_step n l (omega (arith, h)))

pub three : (n a b c : ℕ) → 100 ≤ n → n < 1000 → a ≡ 48 + n / 100 → b ≡ 48 + n / 10 % 10 → c ≡ 48 + n % 10 → a ∷ b ∷ c ∷ [] ≡ decimal n
three n a b c l h e f g =
    ap (λ x. x ++ (c ∷ [])) (two (n / 10) a b (omega (arith, l)) (omega (arith, h)) (omega (arith, e)) f)
    ∙ ap (λ x. decimal (n / 10) ++ (x ∷ [])) g ∙ sym (decimal_step n (omega (arith, l)) (omega (arith, h)))

-- what is answered and left of bytes, of others that are the same
pub told_of : (at : ℕ) (old a b : List ℕ) (r : Option ℕ) → r ≡ (if has_room at a old then Some (at + length a) else None) → a ≡ b → r ≡ (if has_room at b old then Some (at + length b) else None)
told_of at old a b r h e = h ∙ ap (λ l. if has_room at l old then Some (at + length l) else None) e

pub left_of : (at : ℕ) (old a b after : List ℕ) → after ≡ (if has_room at a old then over at a old else old) → a ≡ b → after ≡ (if has_room at b old then over at b old else old)
left_of at old a b after h e = h ∙ ap (λ l. if has_room at l old then over at l old else old) e
