-- How a text falls into its first line and the rest, and a line into its first word and the rest. Assumes nothing.
use Rattle.std.proofs.Common.{◌≡◌, ℕ, zero, suc, ◌<◌, Bool, true, false, cond, eqb, ◌⊎◌, List, [], ◌∷◌, ◌++◌, length, get_or, sym, refl, ap, ◌∙◌, inl, inr, arith}
use Rattle.std.specs.Char.{is_ascii_digit}
use Rattle.std.specs.List.{AllByRecursion}
use Rattle.std.proofs.lemmas.Bool.{cond-false, ne_eqb, cases_eq}
use Rattle.text.specs.Numbers.{digits_front, front}
use Rattle.text.proofs.Fronts.{minus_front, plain_front}
use Rattle.feeds.specs.Sheets.{onto, split, complete, lines_of}

-- a text cut at its first line feed, if it has one: the first line and what follows
pub data Cutting : Type 0 where
  uncut : Cutting
  cut_at : List ℕ → List ℕ → Cutting

-- the first line made longer at its front
abbrev pub longer : List ℕ → Cutting → Cutting
longer w uncut = uncut
longer w (cut_at line rest) = cut_at (w ++ line) rest

-- where a text is cut
abbrev pub first_line : List ℕ → Cutting
first_line [] = uncut
first_line (c ∷ cs) = cond (eqb c 10) (cut_at [] cs) (longer (c ∷ []) (first_line cs))

-- what the parts of a text are, by its cutting
abbrev pub Split : List ℕ → List (List ℕ) → Cutting → Type 0
Split t parts uncut = parts ≡ t ∷ []
Split t parts (cut_at line rest) = parts ≡ line ∷ split 10 rest

-- a text splits at its first line feed
pub split_first : (t : List ℕ) → Split t (split 10 t) (first_line t)
split_first [] = refl
split_first (c ∷ cs) = go (eqb c 10) (first_line cs) (split_first cs)
  where
    go : (b : Bool) (o : Cutting) → Split cs (split 10 cs) o → Split (c ∷ cs) (cond b ([] ∷ split 10 cs) (onto c (split 10 cs))) (cond b (cut_at [] cs) (longer (c ∷ []) o))
    go true o h = refl
    go false uncut h = ap (onto c) h
    go false (cut_at line rest) h = ap (onto c) h

-- there is always a part
pub split_some : (b : ℕ) (t : List ℕ) → 0 < length (split b t)
split_some b [] = omega arith
split_some b (c ∷ cs) = go (eqb c b) (split b cs)
  where
    go : (d : Bool) (ps : List (List ℕ)) → 0 < length (cond d ([] ∷ ps) (onto c ps))
    go true ps = omega arith
    go false [] = omega arith
    go false (p ∷ ps) = omega arith

-- the line before a line feed, and the lines after it
pub lines_more : (line : List ℕ) (parts : List (List ℕ)) → 0 < length parts → lines_of (line ∷ parts) ≡ complete line ∷ lines_of parts
lines_more line [] h = absurd (omega (arith, h))
lines_more line (p ∷ ps) h = refl

-- no byte of a word is a space or a line feed
abbrev pub Clear : List ℕ → Type 0
Clear w = AllByRecursion (λ c. (c ≡ 32 → ⊥) × (c ≡ 10 → ⊥)) w

-- a text that begins with a word and a space
pub record Spaced (t : List ℕ) : Type 0 where
  pub word : List ℕ
  pub rest : List ℕ
  pub clear : Clear word
  pub is : t ≡ word ++ 32 ∷ rest

-- a text that begins with a word and a line feed
pub record Lined (t : List ℕ) : Type 0 where
  pub word : List ℕ
  pub rest : List ℕ
  pub clear : Clear word
  pub is : t ≡ word ++ 10 ∷ rest

-- a text begins with a word: a space follows, or a line feed, or nothing
pub piece : (t : List ℕ) → Spaced t ⊎ (Lined t ⊎ Clear t)
piece [] = inr (inr tt)
piece (c ∷ cs) = go (cases_eq c 32) (cases_eq c 10) (piece cs)
  where
    go : (c ≡ 32) ⊎ (c ≡ 32 → ⊥) → (c ≡ 10) ⊎ (c ≡ 10 → ⊥) → Spaced cs ⊎ (Lined cs ⊎ Clear cs) → Spaced (c ∷ cs) ⊎ (Lined (c ∷ cs) ⊎ Clear (c ∷ cs))
    go (inl e) f p = inl (record { word = []; rest = cs; clear = tt; is = ap (λ x. x ∷ cs) e })
    go (inr e) (inl f) p = inr (inl (record { word = []; rest = cs; clear = tt; is = ap (λ x. x ∷ cs) f }))
    go (inr e) (inr f) (inl p) = inl (record { word = c ∷ p.word; rest = p.rest; clear = ((e, f), p.clear); is = ap (λ x. c ∷ x) p.is })
    go (inr e) (inr f) (inr (inl p)) = inr (inl (record { word = c ∷ p.word; rest = p.rest; clear = ((e, f), p.clear); is = ap (λ x. c ∷ x) p.is }))
    go (inr e) (inr f) (inr (inr p)) = inr (inr ((e, f), p))

-- a word before a line feed is the first line
pub first_lined : (w r : List ℕ) → Clear w → first_line (w ++ 10 ∷ r) ≡ cut_at w r
first_lined [] r k = refl
first_lined (c ∷ w) r k = cond-false (eqb c 10) _ _ (ne_eqb c 10 k.0.1) ∙ ap (longer (c ∷ [])) (first_lined w r k.1)

-- a word alone has no line feed
pub first_clear : (w : List ℕ) → Clear w → first_line w ≡ uncut
first_clear [] k = refl
first_clear (c ∷ w) k = cond-false (eqb c 10) _ _ (ne_eqb c 10 k.0.1) ∙ ap (longer (c ∷ [])) (first_clear w k.1)

-- a word and a space make the first line of the rest longer
pub first_spaced : (w r : List ℕ) → Clear w → first_line (w ++ 32 ∷ r) ≡ longer (w ++ 32 ∷ []) (first_line r)
first_spaced [] r k = refl
first_spaced (c ∷ w) r k = cond-false (eqb c 10) _ _ (ne_eqb c 10 k.0.1) ∙ ap (longer (c ∷ [])) (first_spaced w r k.1) ∙ twice (first_line r)
  where
    twice : (o : Cutting) → longer (c ∷ []) (longer (w ++ 32 ∷ []) o) ≡ longer (c ∷ (w ++ 32 ∷ [])) o
    twice uncut = refl
    twice (cut_at line rest) = refl

-- a word and a space begin a line's words
pub words_more : (w l : List ℕ) → Clear w → split 32 (w ++ 32 ∷ l) ≡ w ∷ split 32 l
words_more [] l k = refl
words_more (c ∷ w) l k = cond-false (eqb c 32) _ _ (ne_eqb c 32 k.0.0) ∙ ap (onto c) (words_more w l k.1)

-- a word alone is one word
pub words_one : (w : List ℕ) → Clear w → split 32 w ≡ w ∷ []
words_one [] k = refl
words_one (c ∷ w) k = cond-false (eqb c 32) _ _ (ne_eqb c 32 k.0.0) ∙ ap (onto c) (words_one w k.1)

-- the byte at each place of a word
pub clear_at : (w : List ℕ) (i : ℕ) → Clear w → i < length w → (get_or w i 0 ≡ 32 → ⊥) × (get_or w i 0 ≡ 10 → ⊥)
clear_at [] i k h = absurd (omega (arith, h))
clear_at (c ∷ w) zero k h = k.0
clear_at (c ∷ w) (suc i) k h = clear_at w i k.1 (omega (arith, h))

-- digits end at a byte that is none
pub digits_before : (k : ℕ) (w r : List ℕ) (s : ℕ) → is_ascii_digit s ≡ false → digits_front k (w ++ s ∷ r) ≡ digits_front k w
digits_before zero w r s d = refl
digits_before (suc k) [] r s d = cond-false (is_ascii_digit s) _ _ d
digits_before (suc k) (c ∷ w) r s d = ap (λ l. cond (is_ascii_digit c) (c ∷ l) []) (digits_before k w r s d)

-- the front of a text is that of its first word
pub front_before : (w r : List ℕ) (s : ℕ) → is_ascii_digit s ≡ false → (s ≡ 45 → ⊥) → front (w ++ s ∷ r) ≡ front w
front_before [] r s d m = plain_front (s ∷ r) m ∙ digits_before 9 [] r s d
front_before (c ∷ w) r s d m = go (cases_eq c 45)
  where
    go : (c ≡ 45) ⊎ (c ≡ 45 → ⊥) → front (c ∷ (w ++ s ∷ r)) ≡ front (c ∷ w)
    go (inl e) = minus_front (c ∷ (w ++ s ∷ r)) e ∙ ap (λ l. 45 ∷ l) (digits_before 9 w r s d) ∙ sym (minus_front (c ∷ w) e)
    go (inr e) = plain_front (c ∷ (w ++ s ∷ r)) e ∙ digits_before 9 (c ∷ w) r s d ∙ sym (plain_front (c ∷ w) e)
