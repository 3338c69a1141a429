-- How a word is cut out of the text. Assumes nothing.
use Rattle.std.proofs.Common.{◌≡◌, ℕ, ◌+◌, ◌<◌, ◌≤◌, Bool, true, false, cond, not, ◌||◌, eqb, ltb, List, [], ◌∷◌, length, get_or, take, drop, Some, None, Option, sym, refl, ap, subst, ◌∙◌, inl, inr, one-add, arith}
use Rattle.std.specs.Option.{unwrap_or}
use Rattle.std.specs.List.{position_from, position_or_len}
use Rattle.std.proofs.lemmas.List.Sums.{prefix_len-le-length}
use Rattle.std.proofs.lemmas.Iterator.Adapters.{position_from-zero}
use Rattle.std.proofs.lemmas.Bool.{cond-true, cond-false, true≢false, cases_eq, eq-eqb, ne_eqb, ltb-false}
use Rattle.words.specs.Lexemes.{Lexeme, feed, lexeme}
use Rattle.words.specs.Cutting.{is_gap, line, spell, after_word, lexemes, ahead}

-- how long the word is that a text begins with
pub word_len : List ℕ → ℕ
word_len w = position_or_len is_gap w

-- the first gap, or the text's end
pub first_gap_len : (w : List ℕ) (o : Option ℕ) → o ≡ position_from is_gap 0 w → unwrap_or o (length w) ≡ word_len w
unfolding word_len
first_gap_len w o e =
    ap (λ o. unwrap_or o (length w)) (e ∙ sym (position_from-zero is_gap w)) ∙ at_most (word_len w) (length w) (prefix_len-le-length (λ b. not (is_gap b)) w)
  where
    at_most : (p n : ℕ) → p ≤ n → unwrap_or (cond (ltb p n) (Some p) None) n ≡ p
    at_most p n h = go (ltb p n) refl
      where
        go : (b : Bool) → ltb p n ≡ b → unwrap_or (cond b (Some p) None) n ≡ p
        go true e = refl
        go false e = omega (arith, ltb-false p n e)

pub word_len-le : (w : List ℕ) → word_len w ≤ length w
unfolding word_len
word_len-le w = prefix_len-le-length (λ b. not (is_gap b)) w

-- the first n bytes of a text are its first word, and the words after it come from the rest
abbrev Spells : List ℕ × List Lexeme → List ℕ → ℕ → Type 0
Spells s w n = (take n w ≡ s.0) × (after_word (drop n w) ≡ s.1)

pub spelled : (w : List ℕ) → Spells (spell w) w (word_len w)
unfolding word_len
spelled [] = (refl, refl)
spelled (b ∷ bs) = elim (cases_eq b 32) [
  | inl e ↦ subst (λ x. Spells (spell (x ∷ bs)) (x ∷ bs) (position_or_len is_gap (x ∷ bs))) (sym e) (refl, refl)
  | inr n ↦ elim (cases_eq b 10) [
    | inl e ↦ subst (λ x. Spells (spell (x ∷ bs)) (x ∷ bs) (position_or_len is_gap (x ∷ bs))) (sym e) (refl, refl)
    | inr m ↦ one_more (spelled bs) (eqb b 32) (eqb b 10) (ne_eqb b 32 n) (ne_eqb b 10 m)
  ]
]
  where
    one_more : Spells (spell bs) bs (position_or_len is_gap bs) → (s f : Bool) → s ≡ false → f ≡ false → Spells (cond s ([], lexeme (spell bs).0 ∷ (spell bs).1) (cond f ([], feed ∷ line bs (spell bs)) (b ∷ (spell bs).0, (spell bs).1))) (b ∷ bs) (cond (not (s || f)) (1 + position_or_len is_gap bs) 0)
    one_more ih true f p q = absurd (true≢false p)
    one_more ih false true p q = absurd (true≢false q)
    one_more ih false false p q = rw one-add (ap (λ l. b ∷ l) ih.0, ih.1)

-- the words still to come, by the byte that stands there: nothing is left
pub ahead_none : (first : Bool) (bytes : List ℕ) → length bytes < 1 → ahead first bytes ≡ []
unfolding ahead lexemes
ahead_none true [] h = refl
ahead_none false [] h = refl
ahead_none first (b ∷ bs) h = absurd (omega arith)

-- a line's first word
pub ahead_first : (bytes : List ℕ) → 0 < length bytes → ahead true bytes ≡ lexeme (spell bytes).0 ∷ (spell bytes).1
unfolding ahead lexemes
ahead_first [] h = absurd (omega arith)
ahead_first (b ∷ bs) h = refl

-- a line's end
pub ahead_feed : (bytes : List ℕ) → 0 < length bytes → get_or bytes 0 0 ≡ 10 → ahead false bytes ≡ feed ∷ ahead true (drop 1 bytes)
unfolding ahead lexemes
ahead_feed [] h e = absurd (omega arith)
ahead_feed (b ∷ bs) h e = cond-true (eqb b 10) _ _ (eq-eqb b 10 e)

-- a later word
pub ahead_word : (bytes : List ℕ) → 0 < length bytes → (get_or bytes 0 0 ≡ 10 → ⊥) → ahead false bytes ≡ lexeme (spell (drop 1 bytes)).0 ∷ (spell (drop 1 bytes)).1
unfolding ahead
ahead_word [] h e = absurd (omega arith)
ahead_word (b ∷ bs) h e = cond-false (eqb b 10) _ _ (ne_eqb b 10 e)

-- after a word
pub ahead_after : (bytes : List ℕ) → ahead false bytes ≡ after_word bytes
unfolding ahead
ahead_after bytes = refl
