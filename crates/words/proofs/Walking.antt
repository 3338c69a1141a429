-- One word on: what is still to come, and where. Assumes nothing.
use Rattle.std.proofs.Common.{◌≡◌, ℕ, ◌+◌, ◌<◌, ◌≤◌, Bool, true, false, cond, eqb, List, [], ◌∷◌, length, get_or, drop, ℤ, Some, None, Option, sym, refl, ap, ◌∙◌, arith}
use Rattle.std.proofs.lemmas.Bool.{ne_eqb}
use Rattle.text.specs.Numbers as numbers
use Rattle.words.specs.Lexemes.{Lexeme, name, reserved, number, sign, shift, bracket, other, feed, lexeme, numbered, marked, mark_in, keyed, keyword_of, named, lower_name, upper_name}
use Rattle.words.specs.Spots.{Spot, spot, past}
use Rattle.words.specs.Cutting.{line, spell, after_word, lexemes, ahead, next, later, none_left}
use Rattle.words.specs.declared.signs.Mark.{Mark}
use Rattle.words.specs.declared.signs.Mark.TheVariants as marks
use Rattle.words.specs.declared.signs.Sign.{Sign}
use Rattle.words.specs.declared.tokens.Keyword.{Keyword}
use Rattle.words.proofs.Spelling.{ahead_first, ahead_feed, ahead_word, ahead_after}

-- what holds of each kind of word holds of every word
module _ (P : Lexeme → Type 0) (a_name : (u : Bool) (t : List ℕ) → P (name u t)) (a_keyword : (k : Keyword) → P (reserved k)) (a_number : (z : ℤ) → P (number z)) (a_sign : (s : Sign) → P (sign s)) (a_shift : (b : Bool) → P (shift b)) (a_bracket : (b : Bool) → P (bracket b)) (another : P other) (w : List ℕ) where
  of_named : (a b : Bool) → P (cond a (name false w) (cond b (name true w) other))
  of_named true b = a_name false w
  of_named false true = a_name true w
  of_named false false = another

  of_keyed : (k : Option Keyword) → P (keyed k (named w))
  of_keyed (Some k) = a_keyword k
  of_keyed None = of_named (lower_name w) (upper_name w)

  of_marked : (m : Option Mark) → P (marked m w)
  of_marked (Some (marks.Sign s)) = a_sign s
  of_marked (Some (marks.Shift b)) = a_shift b
  of_marked (Some (marks.Bracket b)) = a_bracket b
  of_marked None = of_keyed (keyword_of w)

  of_numbered : (o : Option ℤ) → P (numbered o (marked (mark_in w) w))
  of_numbered (Some z) = a_number z
  of_numbered None = of_marked (mark_in w)

  pub each_word : P (lexeme w)
  each_word = of_numbered (numbers.number w)

-- whatever a word is, the next one has the next number
lexeme_past : (w : List ℕ) (at : Spot) → past (lexeme w) at ≡ spot at.line (at.word + 1)
lexeme_past w at = each_word (λ x. past x at ≡ spot at.line (at.word + 1)) (λ u t. refl) (λ k. refl) (λ z. refl) (λ s. refl) (λ b. refl) (λ b. refl) refl w

-- the word k stands next in these bytes
module _ (bytes : List ℕ) (k : ℕ) where
  pub at_first : true ≡ eqb k 1 → 0 < length bytes → ahead (eqb k 1) bytes ≡ lexeme (spell bytes).0 ∷ (spell bytes).1
  at_first f h = ap (λ b. ahead b bytes) (sym f) ∙ ahead_first bytes h

  pub at_feed : false ≡ eqb k 1 → 0 < length bytes → get_or bytes 0 0 ≡ 10 → ahead (eqb k 1) bytes ≡ feed ∷ ahead true (drop 1 bytes)
  at_feed f h e = ap (λ b. ahead b bytes) (sym f) ∙ ahead_feed bytes h e

  pub at_word : false ≡ eqb k 1 → 0 < length bytes → (get_or bytes 0 0 ≡ 10 → ⊥) → ahead (eqb k 1) bytes ≡ lexeme (spell (drop 1 bytes)).0 ∷ (spell (drop 1 bytes)).1
  at_word f h e = ap (λ b. ahead b bytes) (sym f) ∙ ahead_word bytes h e

  -- past a word, after which the bytes `rest` come
  pub walked : (rest : List ℕ) (x : Lexeme) (xs : List Lexeme) → 1 ≤ k → ahead (eqb k 1) bytes ≡ x ∷ xs → after_word rest ≡ xs → ahead (eqb (k + 1) 1) rest ≡ later (ahead (eqb k 1) bytes)
  walked rest x xs p a s =
      ap (λ b. ahead b rest) (ne_eqb (k + 1) 1 (λ q. omega (arith, q, p))) ∙ ahead_after rest ∙ s ∙ sym (ap later a)

  -- where the next word is then
  pub numbered_on : (line : ℕ) (w : List ℕ) (xs : List Lexeme) → ahead (eqb k 1) bytes ≡ lexeme w ∷ xs → spot line (k + 1) ≡ past (next (ahead (eqb k 1) bytes)) (spot line k)
  numbered_on line w xs a = sym (ap (λ l. past (next l) (spot line k)) a ∙ lexeme_past w (spot line k))

-- as long as bytes are left, so are words
pub none_is : (first : Bool) (bytes : List ℕ) → eqb (length bytes) 0 ≡ none_left (ahead first bytes)
unfolding ahead lexemes
none_is true [] = refl
none_is false [] = refl
none_is true (b ∷ bs) = ne_eqb (length (b ∷ bs)) 0 (λ e. omega (arith, e))
none_is false (b ∷ bs) =
    ne_eqb (length (b ∷ bs)) 0 (λ e. omega (arith, e))
    ∙ elim (eqb b 10) as (λ t. false ≡ none_left (cond t (feed ∷ line bs (spell bs)) (lexeme (spell bs).0 ∷ (spell bs).1))) [ true ↦ refl | false ↦ refl ]
