-- The refusal is settled by the words up to the refused one. Assumes nothing.
use Rattle.std.proofs.Common.{◌≡◌, ℕ, ◌+◌, ◌<◌, ◌≤◌, Bool, true, false, cond, eqb, ltb, ◌⊎◌, List, [], ◌∷◌, ◌++◌, length, Err, Result, sym, refl, ap, ◌∙◌, subst, inl, inr, arith}
use Rattle.std.proofs.lemmas.Bool.{cond-false, le-ltb}
use Rattle.text.specs.declared.refusal.Refusal.{Refusal}
use Rattle.words.specs.Lexemes.{Lexeme, name, reserved, number, sign, shift, bracket, other, feed, cut, lexeme}
use Rattle.words.specs.Spots.{Spot, spot, past}
use Rattle.words.specs.Cutting.{line, spell, lexemes}
use Rattle.words.proofs.Walking.{each_word}
use Rattle.text.specs.Refusals.{published}
use Rattle.conditions.proofs.ByKind.{by_kind}
use Rattle.plan_laws.proofs.Stepping.{finishes}
use Rattle.conditions.specs.Machine.{Fault, form, refusal}
use Rattle.conditions.specs.declared.wrong.Wrong.TheVariants.{Form, Taken, Unknown, Limit}
use Rattle.plan.specs.Drafts.{Draft, Entry}
use Rattle.plan.specs.Machine.{Stage, Motion, on, halt, step, start, whole, finish, run, plan_of}
use Rattle.plan_laws.specs.Theorems.{after_words, FirstBadWord}

-- a word or the end of a line
abbrev Told : Lexeme → Type 0
Told (name u w) = Unit {0}
Told (reserved k) = Unit {0}
Told (number z) = Unit {0}
Told (sign s) = Unit {0}
Told (shift b) = Unit {0}
Told (bracket b) = Unit {0}
Told other = Unit {0}
Told feed = Unit {0}
Told cut = ⊥

abbrev AllTold : List Lexeme → Type 0
AllTold [] = Unit {0}
AllTold (x ∷ xs) = Told x × AllTold xs

-- what a text is cut into
lexeme_told : (w : List ℕ) → Told (lexeme w)
lexeme_told w = each_word Told (λ u t. tt) (λ k. tt) (λ z. tt) (λ s. tt) (λ b. tt) (λ b. tt) tt w

line_told : (bs : List ℕ) (s : List ℕ × List Lexeme) → AllTold s.1 → AllTold (line bs s)
line_told [] s h = tt
line_told (b ∷ bs) s h = (lexeme_told s.0, h)

spell_told : (bs : List ℕ) → AllTold (spell bs).1
spell_told [] = tt
spell_told (b ∷ bs) = by_byte (spell_told bs) (eqb b 32) (eqb b 10)
  where
    by_byte : AllTold (spell bs).1 → (s f : Bool) → AllTold (cond {A = List ℕ × List Lexeme} s ([], lexeme (spell bs).0 ∷ (spell bs).1) (cond f ([], feed ∷ line bs (spell bs)) (b ∷ (spell bs).0, (spell bs).1))).1
    by_byte h true f = (lexeme_told (spell bs).0, h)
    by_byte h false true = (tt, line_told bs (spell bs) h)
    by_byte h false false = h

all_told : (text : List ℕ) → AllTold (lexemes text)
unfolding lexemes
all_told text = line_told text (spell text) (spell_told text)

-- a place that is not before another
abbrev Reached : Spot → Spot → Type 0
Reached a b = (a.line < b.line) ⊎ ((a.line ≡ b.line) × (a.word ≤ b.word))

-- refusals tell their places
told_at : (f : Fault) (a : Spot) → (published (refusal f a)).place ≡ a.line ∷ a.word ∷ []
told_at Form a = refl
told_at Taken a = refl
told_at Unknown a = refl
told_at Limit a = refl

same_spot : (f g : Fault) (a b : Spot) → refusal f a ≡ refusal g b → (a.line ≡ b.line) × (a.word ≡ b.word)
same_spot f g a b h = let e : ◌≡◌ {A = List ℕ} (a.line ∷ a.word ∷ []) (b.line ∷ b.word ∷ []) = sym (told_at f a) ∙ ap (λ r. (published r).place) h ∙ told_at g b in (cc, cc)

unerr : (y z : Refusal) → ◌≡◌ {A = Result Draft Refusal} (Err y) (Err z) → y ≡ z
unerr y z h = cc

here : (f g : Fault) (a b : Spot) → ◌≡◌ {A = Result Draft Refusal} (Err (refusal f a)) (Err (refusal g b)) → Reached a b
here f g a b h = let s = same_spot f g a b (unerr _ _ h) in inr (s.0, omega (arith, s.1))

-- the place after a word, or after the end of a line
past_shape : (x : Lexeme) (a : Spot) → Told x → (past x a ≡ spot a.line (a.word + 1)) ⊎ (past x a ≡ spot (a.line + 1) 1)
past_shape x a = by_kind (λ y. Told y → (past y a ≡ spot a.line (a.word + 1)) ⊎ (past y a ≡ spot (a.line + 1) 1)) (λ u w t. inl refl) (λ k t. inl refl) (λ z t. inl refl) (λ s t. inl refl) (λ b t. inl refl) (λ b t. inl refl) (λ t. inl refl) (λ t. inr refl) (λ t. absurd t) x

-- what lies after the next place lies after this one
back : (x : Lexeme) (a b : Spot) → Told x → Reached (past x a) b → Reached a b
back x a b t h = by_shape (past_shape x a t)
  where
    word_back : Reached (spot a.line (a.word + 1)) b → Reached a b
    word_back (inl l) = inl l
    word_back (inr l) = inr (l.0, omega (arith, l.1))

    line_back : Reached (spot (a.line + 1) 1) b → Reached a b
    line_back (inl l) = inl (omega (arith, l))
    line_back (inr l) = inl (omega (arith, l.0))

    by_shape : (past x a ≡ spot a.line (a.word + 1)) ⊎ (past x a ≡ spot (a.line + 1) 1) → Reached a b
    by_shape (inl e) = word_back (subst (λ s. Reached s b) e h)
    by_shape (inr e) = line_back (subst (λ s. Reached s b) e h)

-- the next place lies after this one
strictly : (x : Lexeme) (a : Spot) → Told x → Reached (past x a) a → ⊥
strictly x a t h = by_shape (past_shape x a t)
  where
    no_word : Reached (spot a.line (a.word + 1)) a → ⊥
    no_word (inl l) = omega (arith, l)
    no_word (inr l) = omega (arith, l.1)

    no_line : Reached (spot (a.line + 1) 1) a → ⊥
    no_line (inl l) = omega (arith, l)
    no_line (inr l) = omega (arith, l.0)

    by_shape : (past x a ≡ spot a.line (a.word + 1)) ⊎ (past x a ≡ spot (a.line + 1) 1) → ⊥
    by_shape (inl e) = no_word (subst (λ s. Reached s a) e h)
    by_shape (inr e) = no_line (subst (λ s. Reached s a) e h)

-- at the end of the text a missing word is refused where it should stand
end_here : (st : Stage) (at b : Spot) (f : Fault) → finish st at ≡ Err (refusal f b) → Reached at b
end_here st at b f = finishes (λ r. r ≡ Err (refusal f b) → Reached at b) at st (λ d e. by_columns d d.columns) (here form f at b)
  where
    by_columns : (d : Draft) (cs : List Entry) → whole d cs at ≡ Err (refusal f b) → Reached at b
    by_columns d [] g = here form f at b g
    by_columns d (c ∷ cs) g = cc

-- a refusal is not before the words that are read
late : (st : Stage) (at b : Spot) (xs : List Lexeme) (f : Fault) → AllTold xs → run st at xs ≡ Err (refusal f b) → Reached at b
late st at b [] f t h = end_here st at b f h
late st at b (x ∷ xs) f t h = by_step (λ st' g. late st' (past x at) b xs f t.1 g) (step st x) h
  where
    by_step : ((st' : Stage) → run st' (past x at) xs ≡ Err (refusal f b) → Reached (past x at) b) → (m : Motion) → ◌≡◌ {A = Result Draft Refusal} (elim m [ on st' ↦ run st' (past x at) xs | halt g ↦ Err (refusal g at) ]) (Err (refusal f b)) → Reached at b
    by_step ih (on st') g = back x at b t.0 (ih st' g)
    by_step ih (halt e) g = here e f at b g

-- what stands after the refused word is not looked at
settled : (st : Stage) (at : Spot) (front : List Lexeme) (x : Lexeme) (rest more : List Lexeme) (f : Fault) → AllTold (front ++ x ∷ rest) → run st at (front ++ x ∷ rest) ≡ Err (refusal f (after_words at front)) → run st at (front ++ x ∷ more) ≡ Err (refusal f (after_words at front))
settled st at [] x rest more f t h = by_step (step st x) h
  where
    by_step : (m : Motion) → ◌≡◌ {A = Result Draft Refusal} (elim m [ on st' ↦ run st' (past x at) rest | halt g ↦ Err (refusal g at) ]) (Err (refusal f at)) → ◌≡◌ {A = Result Draft Refusal} (elim m [ on st' ↦ run st' (past x at) more | halt g ↦ Err (refusal g at) ]) (Err (refusal f at))
    by_step (on st') g = absurd (strictly x at t.0 (late st' (past x at) at rest f t.1 g))
    by_step (halt e) g = g
settled st at (y ∷ ys) x rest more f t h = by_step (λ st' g. settled st' (past y at) ys x rest more f t.1 g) (step st y) h
  where
    by_step : ((st' : Stage) → run st' (past y at) (ys ++ x ∷ rest) ≡ Err (refusal f (after_words (past y at) ys)) → run st' (past y at) (ys ++ x ∷ more) ≡ Err (refusal f (after_words (past y at) ys))) → (m : Motion) → ◌≡◌ {A = Result Draft Refusal} (elim m [ on st' ↦ run st' (past y at) (ys ++ x ∷ rest) | halt g ↦ Err (refusal g at) ]) (Err (refusal f (after_words (past y at) ys))) → ◌≡◌ {A = Result Draft Refusal} (elim m [ on st' ↦ run st' (past y at) (ys ++ x ∷ more) | halt g ↦ Err (refusal g at) ]) (Err (refusal f (after_words (past y at) ys)))
    by_step ih (on st') g = ih st' g
    by_step ih (halt e) g = g

-- a text that is not too long is read word by word
pub short_run : (text : List ℕ) → length text ≤ 4096 → plan_of text ≡ run start (spot 1 1) (lexemes text)
unfolding plan_of
short_run text h = cond-false (ltb 4096 (length text)) _ _ (le-ltb 4096 _ h)

pub first_bad_word : FirstBadWord
first_bad_word text more front x f behind l k r e = record {
  behind = behind;
  words = e;
  refused = short_run more l ∙ ap (run start (spot 1 1)) e
      ∙ settled start (spot 1 1) front x r.behind behind f (subst AllTold r.words (all_told text)) (sym (ap (run start (spot 1 1)) r.words) ∙ sym (short_run text k) ∙ r.refused);
}
