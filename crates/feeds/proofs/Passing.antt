-- What the loop over the fields of a line keeps. Assumes nothing.
use Rattle.std.proofs.Common.{◌≡◌, ℕ, zero, suc, ◌+◌, ◌-◌, ◌<◌, ◌≤◌, true, false, cond, eqb, ltb, leb, ◌⊎◌, List, [], ◌∷◌, ◌++◌, length, get_or, take, drop, set, ℤ, Some, None, sym, ap, ◌∙◌, inl, inr, refl, add-zero, arith}
use Rattle.std.proofs.lemmas.List.{append-nil, length-drop, get_or-drop, drop-drop, take_more_set}
use Rattle.std.proofs.lemmas.Bool.{lt-ltb, le-ltb, leb-true, eqb-true, eqb-false, cond-true, cond-false, true≢false, cases_lt, cases_Bool}
use Rattle.text.specs.Numbers.{front, number}
use Rattle.feeds.specs.Makings.{is_width}
use Rattle.feeds.specs.Steps.{cut}
use Rattle.feeds.proofs.Cuts.{cut_front}
use Rattle.feeds.proofs.Fields.{bad, got, in_front, in_front_none, in_front_more, fields, follows, good_field, no_number, no_follower}

-- a width in range
pub width_range : (w : ℕ) → is_width w ≡ true → (1 ≤ w) × (w ≤ 8)
width_range w e = go (cases_lt w 1)
  where
    go : (w < 1) ⊎ (1 ≤ w) → (1 ≤ w) × (w ≤ 8)
    go (inl h) = absurd (true≢false (sym e ∙ cond-true (ltb w 1) false (leb w 8) (lt-ltb w 1 h)))
    go (inr h) = (h, leb-true w 8 (sym (cond-false (ltb w 1) false (leb w 8) (le-ltb w 1 h)) ∙ e))

-- k fields of the first line of a text are read into the places of a row, and a rest is left
abbrev pub Passed : List ℕ → ℕ → List ℤ → ℕ → List ℕ → Type 0
Passed text w row k rest = fields w text ≡ in_front (take k row) (fields (w - k) rest)

-- before the first field
pub passed_none : (text : List ℕ) (w : ℕ) (row : List ℤ) → Passed text w row 0 text
passed_none text w row = let all : w ≡ w - 0 = omega arith in in_front_none (fields w text) ∙ ap (λ n. in_front [] (fields n text)) all

-- a text that begins with a byte
first_byte : (t : List ℕ) (s : ℕ) → 0 < length t → get_or t 0 0 ≡ s → take 1 t ≡ s ∷ []
first_byte [] s h e = absurd (omega (arith, h))
first_byte (c ∷ cs) s h e = ap (λ b. b ∷ []) e

-- and the other way round
byte_first : (t : List ℕ) (s : ℕ) → take 1 t ≡ s ∷ [] → (0 < length t) × (get_or t 0 0 ≡ s)
byte_first [] s e = cc
byte_first (c ∷ cs) s e = (omega arith, cc)

-- the byte that must follow the field k
followed : (w k : ℕ) → k < w → cond (eqb (k + 1) w) 10 32 ≡ follows (w - (k + 1))
followed w k h = go (cases_Bool (eqb (k + 1) w))
  where
    more : (n : ℕ) → 0 < n → 32 ≡ follows n
    more zero l = absurd (omega (arith, l))
    more (suc n) l = refl

    go : (eqb (k + 1) w ≡ true) ⊎ (eqb (k + 1) w ≡ false) → cond (eqb (k + 1) w) 10 32 ≡ follows (w - (k + 1))
    go (inl e) = let z : 0 ≡ w - (k + 1) = omega (arith, eqb-true _ _ e) in cond-true (eqb (k + 1) w) 10 32 e ∙ ap follows z
    go (inr e) = cond-false (eqb (k + 1) w) 10 32 e ∙ more (w - (k + 1)) (differ (eqb-false _ _ e))
      where
        differ : (k + 1 ≡ w → ⊥) → 0 < w - (k + 1)
        differ n = omega (arith, h, n)

module _ (text : List ℕ) (w : ℕ) (row : List ℤ) (k : ℕ) (t : List ℕ) (p : Passed text w row k t) (h : k < w) where
  -- one field more is left before the others
  next : Passed text w row k t → fields w text ≡ in_front (take k row) (fields (suc (w - (k + 1))) t)
  next q = let one : w - k ≡ suc (w - (k + 1)) = omega (arith, h) in q ∙ ap (λ m. in_front (take k row) (fields m t)) one

  -- the byte behind the front
  behind : get_or (drop (length (front t)) t) 0 0 ≡ get_or t (length (front t)) 0
  behind = get_or-drop (length (front t)) t 0 0 ∙ ap (λ m. get_or t m 0) (add-zero (length (front t)))

  -- no number stands there
  pub passed_no_number : number (front t) ≡ None → fields w text ≡ bad
  passed_no_number e = next p ∙ ap (in_front (take k row)) (no_number t (w - (k + 1)) e)

  -- another byte stands behind it
  pub passed_no_follower : (take 1 (drop (length (front t)) t) ≡ cond (eqb (k + 1) w) 10 32 ∷ [] → ⊥) → fields w text ≡ bad
  passed_no_follower n =
      next p
      ∙ ap (in_front (take k row)) (no_follower t (w - (k + 1)) (λ l b. n (first_byte _ _ (omega (arith, l, length-drop (length (front t)) t)) (behind ∙ b ∙ sym (followed w k h)))))

  -- a number and the right byte behind it
  pub passed_more : (z : ℤ) → k < length row → number (front t) ≡ Some z → take 1 (drop (length (front t)) t) ≡ cond (eqb (k + 1) w) 10 32 ∷ [] → Passed text w (set row k z) (k + 1) (drop 1 (drop (length (front t)) t))
  passed_more z l v e =
      let q = byte_first (drop (length (front t)) t) _ e in
      let on = drop-drop 1 (length (front t)) t in
      let g = good_field t (w - (k + 1)) z v (omega (arith, q.0, length-drop (length (front t)) t)) (sym behind ∙ q.1 ∙ followed w k h) in
      next p ∙ ap (in_front (take k row)) (g ∙ ap (λ x. in_front (z ∷ []) (fields (w - (k + 1)) x)) (sym on))
      ∙ in_front_more (take k row) z (fields (w - (k + 1)) (drop 1 (drop (length (front t)) t)))
      ∙ ap (λ r. in_front r (fields (w - (k + 1)) (drop 1 (drop (length (front t)) t)))) (sym (take_more_set row k z l))

-- after the last field, with the places behind it
pub passed_all : (text : List ℕ) (w : ℕ) (row others : List ℤ) (k : ℕ) (rest : List ℕ) → Passed text w row k rest → k ≡ w → length row ≡ w → fields w text ≡ got (cut w (row ++ others)) rest
passed_all text w row others k rest p all long =
    let z : w - k ≡ 0 = omega (arith, all) in
    p ∙ ap (λ m. in_front (take k row) (fields m rest)) z
    ∙ ap (λ l. got l rest) (append-nil (take k row) ∙ ap (λ m. take m row) all ∙ sym (cut_front w row others (omega (arith, long))))
