-- The fields of a line, one after another. Assumes nothing.
use Rattle.std.proofs.Common.{◌≡◌, ℕ, zero, suc, ◌+◌, ◌<◌, ◌≤◌, Bool, true, false, cond, ◌&&◌, eqb, ltb, leb, ◌⊎◌, List, [], ◌∷◌, ◌++◌, map, length, get_or, drop, ℤ, Some, None, Option, sym, refl, ap, ◌∙◌, subst, inl, inr, arith}
use Rattle.std.proofs.lemmas.List.{append_assoc, length_push, length-append, length-take, get_or_append_left, get_or_at, drop_at}
use Rattle.std.proofs.lemmas.Bool.{cond-true, cond-false, ne_eqb, and_left, and_right, and_from, le-ltb, le-leb, cases_lt, cases_Bool}
use Rattle.text.specs.Numbers.{front, number}
use Rattle.text.proofs.Words.{longer_number, whole_front, front_begins}
use Rattle.feeds.specs.Sheets.{split, lines_of, before, numbers, of_width, row_of, sheet}
use Rattle.feeds.specs.Makings.{is_width}
use Rattle.feeds.proofs.Parts.{Cutting, uncut, cut_at, longer, first_line, Split, split_first, split_some, lines_more, Clear, Spaced, Lined, piece, first_lined, first_clear, first_spaced, words_more, words_one, clear_at, front_before}

-- what the fields of a line give: nothing, or their numbers and the text after the line
pub data Reading : Type 0 where
  bad : Reading
  got : List ℤ → List ℕ → Reading

-- numbers in front of those read
abbrev pub in_front : List ℤ → Reading → Reading
in_front zs bad = bad
in_front zs (got us rest) = got (zs ++ us) rest

-- exactly so many numbers
abbrev pub counted : ℕ → List ℕ → Option (List ℤ) → Reading
counted w rest None = bad
counted w rest (Some zs) = cond (eqb (length zs) w) (got zs rest) bad

-- the fields of the first line
abbrev pub of_line : ℕ → Cutting → Reading
of_line w uncut = bad
of_line w (cut_at line rest) = counted w rest (numbers (split 32 line))

-- w fields and the line feed after them, read from the front of a text; after the last there is nothing left to read
abbrev pub fields : ℕ → List ℕ → Reading
fields zero t = got [] t
fields (suc j) t = of_line (suc j) (first_line t)

-- the byte that follows a field when j fields come after it
abbrev pub follows : ℕ → ℕ
follows zero = 10
follows (suc j) = 32

-- numbers in front of numbers
pub in_front_more : (zs : List ℤ) (z : ℤ) (r : Reading) → in_front zs (in_front (z ∷ []) r) ≡ in_front (zs ++ z ∷ []) r
in_front_more zs z bad = refl
in_front_more zs z (got us rest) = ap (λ l. got l rest) (sym (append_assoc zs (z ∷ []) us))

-- no numbers in front change nothing
pub in_front_none : (r : Reading) → r ≡ in_front [] r
in_front_none bad = refl
in_front_none (got us rest) = refl

-- the words of a line write at least one number
pub numbers_some : (ws : List (List ℕ)) (zs : List ℤ) → 0 < length ws → numbers ws ≡ Some zs → 0 < length zs
numbers_some [] zs h e = absurd (omega (arith, h))
numbers_some (word ∷ ws) zs h e = go (number word) (numbers ws) e
  where
    go : (o : Option ℤ) (p : Option (List ℤ)) → before o p ≡ Some zs → 0 < length zs
    go None p e = let y : ◌≡◌ {A = ℕ} 0 1 = cc in absurd (omega arith)
    go (Some z) None e = let y : ◌≡◌ {A = ℕ} 0 1 = cc in absurd (omega arith)
    go (Some z) (Some us) e = let y : z ∷ us ≡ zs = cc in omega (arith, ap length y)

-- equality of successors
eqb_suc : (a b : ℕ) → eqb (suc a) (suc b) ≡ eqb a b
eqb_suc a b = go (cases_Bool (eqb a b))
  where
    go : (eqb a b ≡ true) ⊎ (eqb a b ≡ false) → eqb (suc a) (suc b) ≡ eqb a b
    go (inl e) = grind arith
    go (inr e) = grind arith

-- counting one number more for one field more
counted_more : (w : ℕ) (rest : List ℕ) (z : ℤ) (o : Option (List ℤ)) → counted (suc w) rest (before (Some z) o) ≡ in_front (z ∷ []) (counted w rest o)
counted_more w rest z None = refl
counted_more w rest z (Some zs) = ap (λ b. cond b (got (z ∷ zs) rest) bad) (eqb_suc (length zs) w) ∙ go (eqb (length zs) w)
  where
    go : (b : Bool) → cond b (got (z ∷ zs) rest) bad ≡ in_front (z ∷ []) (cond b (got zs rest) bad)
    go true = refl
    go false = refl

-- what the front tells of the first word of a text
pub record Word (t w : List ℕ) : Type 0 where
  pub long : length (front t) ≤ length w
  pub short : length (front t) < length w → number w ≡ None
  pub whole : length w ≤ length (front t) → number w ≡ number (front t)

-- it is the front of that word
word_front : (t w : List ℕ) → front t ≡ front w → Word t w
word_front t w e =
    record {
      long = omega (arith, ap length e, ap length (front_begins w), length-take (length (front w)) w);
      short = λ h. longer_number w (omega (arith, h, ap length e));
      whole = λ h. ap number (sym (whole_front w (omega (arith, h, ap length e))) ∙ sym e);
    }

-- the numbers of a line that begins with a word and a space
words_line : (w l : List ℕ) → Clear w → numbers (split 32 ((w ++ 32 ∷ []) ++ l)) ≡ before (number w) (numbers (split 32 l))
words_line w l k = ap (λ x. numbers (split 32 x)) (append_assoc w (32 ∷ []) l) ∙ ap numbers (words_more w l k)

-- a word that is a number, with a space after it, and the fields behind
line_more : (w : List ℕ) (z : ℤ) (j : ℕ) (x : Cutting) → Clear w → number w ≡ Some z → of_line (suc j) (longer (w ++ 32 ∷ []) x) ≡ in_front (z ∷ []) (of_line j x)
line_more w z j uncut k e = refl
line_more w z j (cut_at l q) k e =
    ap (counted (suc j) q) (words_line w l k ∙ ap (λ o. before o (numbers (split 32 l))) e) ∙ counted_more j q z (numbers (split 32 l))

-- a word that is no number
line_none : (w : List ℕ) (j : ℕ) (x : Cutting) → Clear w → number w ≡ None → of_line (suc j) (longer (w ++ 32 ∷ []) x) ≡ bad
line_none w j uncut k e = refl
line_none w j (cut_at l q) k e = ap (counted (suc j) q) (words_line w l k ∙ ap (λ o. before o (numbers (split 32 l))) e)

-- a word with a space after it is not the only one
line_only : (w : List ℕ) (x : Cutting) → Clear w → of_line 1 (longer (w ++ 32 ∷ []) x) ≡ bad
line_only w uncut k = refl
line_only w (cut_at l q) k = ap (counted 1 q) (words_line w l k) ∙ go (number w) (numbers (split 32 l)) refl
  where
    go : (o : Option ℤ) (p : Option (List ℤ)) → numbers (split 32 l) ≡ p → counted 1 q (before o p) ≡ bad
    go None p e = refl
    go (Some z) None e = refl
    go (Some z) (Some zs) e =
        let some = numbers_some (split 32 l) zs (split_some 32 l) e in
        cond-false (eqb (suc (length zs)) 1) _ _ (ne_eqb (suc (length zs)) 1 (λ h. omega (arith, h, some)))

-- a word that ends its line
last_word : (w r : List ℕ) (j : ℕ) → Clear w → of_line (suc j) (cut_at w r) ≡ counted (suc j) r (before (number w) (Some []))
last_word w r j k = ap (λ ws. counted (suc j) r (numbers ws)) (words_one w k)

-- no byte of a word follows a field
no_follow : (c j : ℕ) → (c ≡ 32 → ⊥) × (c ≡ 10 → ⊥) → c ≡ follows j → ⊥
no_follow c zero k e = k.1 e
no_follow c (suc j) k e = k.0 e

-- what follows a word and the byte after it
pub drop_past : (w r : List ℕ) (s n : ℕ) → n ≡ length w → drop (n + 1) (w ++ s ∷ r) ≡ r
drop_past w r s n e =
    ap (drop (n + 1)) (sym (append_assoc w (s ∷ []) r)) ∙ drop_at (w ++ s ∷ []) r (n + 1) (length_push w s ∙ ap (λ m. m + 1) (sym e))

-- a text that begins with a word and a byte after it
module _ (w r : List ℕ) (s : ℕ) (k : Clear w) (same : front (w ++ s ∷ r) ≡ front w) where
  -- what its front tells of the word
  word : Word (w ++ s ∷ r) w
  word = word_front (w ++ s ∷ r) w same

  -- where a field's follower stands, the word ends
  ends_there : (j : ℕ) → get_or (w ++ s ∷ r) (length (front (w ++ s ∷ r))) 0 ≡ follows j → (length (front (w ++ s ∷ r)) ≡ length w) × (s ≡ follows j)
  ends_there j b = go (cases_lt (length (front (w ++ s ∷ r))) (length w))
    where
      go : (length (front (w ++ s ∷ r)) < length w) ⊎ (length w ≤ length (front (w ++ s ∷ r))) → (length (front (w ++ s ∷ r)) ≡ length w) × (s ≡ follows j)
      go (inl h) = absurd (no_follow _ j (clear_at w _ k h) (sym (get_or_append_left w (s ∷ r) 0 _ h) ∙ b))
      go (inr h) =
          let e : length (front (w ++ s ∷ r)) ≡ length w = omega (arith, h, word.long) in
          (e, sym (get_or_at w s r 0 _ (sym e)) ∙ b)

  -- the word that has a field's number
  word_some : (z : ℤ) → number (front (w ++ s ∷ r)) ≡ Some z → length (front (w ++ s ∷ r)) ≡ length w → number w ≡ Some z
  word_some z v e = word.whole (omega (arith, e)) ∙ v

  -- a word whose front is no number is none
  word_none : number (front (w ++ s ∷ r)) ≡ None → number w ≡ None
  word_none v = go (cases_lt (length (front (w ++ s ∷ r))) (length w))
    where
      go : (length (front (w ++ s ∷ r)) < length w) ⊎ (length w ≤ length (front (w ++ s ∷ r))) → number w ≡ None
      go (inl h) = word.short h
      go (inr h) = word.whole h ∙ v

  -- a word that no follower follows is no number, or another byte follows it
  word_apart : (j : ℕ) → (length (front (w ++ s ∷ r)) < length (w ++ s ∷ r) → get_or (w ++ s ∷ r) (length (front (w ++ s ∷ r))) 0 ≡ follows j → ⊥) → (number w ≡ None) ⊎ (s ≡ follows j → ⊥)
  word_apart j never = go (cases_lt (length (front (w ++ s ∷ r))) (length w))
    where
      go : (length (front (w ++ s ∷ r)) < length w) ⊎ (length w ≤ length (front (w ++ s ∷ r))) → (number w ≡ None) ⊎ (s ≡ follows j → ⊥)
      go (inl h) = inl (word.short h)
      go (inr h) =
          let e : length (front (w ++ s ∷ r)) ≡ length w = omega (arith, h, word.long) in
          inr (λ f. never (omega (arith, e, length-append w (s ∷ r))) (get_or_at w s r 0 _ (sym e) ∙ f))

-- a space ends the front
pub space_front : (w r : List ℕ) → front (w ++ 32 ∷ r) ≡ front w
space_front w r = front_before w r 32 refl (λ e. omega (arith, e))

-- so does a line feed
pub feed_front : (w r : List ℕ) → front (w ++ 10 ∷ r) ≡ front w
feed_front w r = front_before w r 10 refl (λ e. omega (arith, e))

-- the statements on the first field of a text t with j fields after it: a number with the right byte behind it is read
abbrev pub Good : ℕ → ℤ → List ℕ → Type 0
Good j z t = number (front t) ≡ Some z → length (front t) < length t → get_or t (length (front t)) 0 ≡ follows j → fields (suc j) t ≡ in_front (z ∷ []) (fields j (drop (length (front t) + 1) t))

-- without a number in front the line is bad
abbrev pub NoNumber : ℕ → List ℕ → Type 0
NoNumber j t = number (front t) ≡ None → fields (suc j) t ≡ bad

-- without the right byte behind it the line is bad
abbrev pub NoFollower : ℕ → List ℕ → Type 0
NoFollower j t = (length (front t) < length t → get_or t (length (front t)) 0 ≡ follows j → ⊥) → fields (suc j) t ≡ bad

-- a number before a space
good_spaced : (w r : List ℕ) → Clear w → (j : ℕ) (z : ℤ) → Good j z (w ++ 32 ∷ r)
good_spaced w r k zero z v h b = absurd (omega (arith, (ends_there w r 32 k (space_front w r) 0 b).1))
good_spaced w r k (suc i) z v h b =
    let e = ends_there w r 32 k (space_front w r) (suc i) b in
    ap (of_line (suc (suc i))) (first_spaced w r k)
    ∙ line_more w z (suc i) (first_line r) k (word_some w r 32 k (space_front w r) z v e.0)
    ∙ ap (λ x. in_front (z ∷ []) (fields (suc i) x)) (sym (drop_past w r 32 _ e.0))

-- a number before a line feed
good_lined : (w r : List ℕ) → Clear w → (j : ℕ) (z : ℤ) → Good j z (w ++ 10 ∷ r)
good_lined w r k (suc i) z v h b = absurd (omega (arith, (ends_there w r 10 k (feed_front w r) (suc i) b).1))
good_lined w r k zero z v h b =
    let e = ends_there w r 10 k (feed_front w r) 0 b in
    ap (of_line 1) (first_lined w r k) ∙ last_word w r 0 k
    ∙ ap (λ o. counted 1 r (before o (Some []))) (word_some w r 10 k (feed_front w r) z v e.0)
    ∙ ap (λ x. got (z ∷ []) x) (sym (drop_past w r 10 _ e.0))

-- a number and the byte that must follow it: the field is read
pub good_field : (t : List ℕ) (j : ℕ) (z : ℤ) → Good j z t
good_field t j z = go (piece t)
  where
    go : Spaced t ⊎ (Lined t ⊎ Clear t) → Good j z t
    go (inl p) = subst (Good j z) (sym p.is) (good_spaced p.word p.rest p.clear j z)
    go (inr (inl p)) = subst (Good j z) (sym p.is) (good_lined p.word p.rest p.clear j z)
    go (inr (inr k)) = λ v h b. absurd (no_follow _ j (clear_at t _ k h) b)

-- no number in front: the line is bad
pub no_number : (t : List ℕ) (j : ℕ) → NoNumber j t
no_number t j = go (piece t)
  where
    go : Spaced t ⊎ (Lined t ⊎ Clear t) → NoNumber j t
    go (inl p) = subst (NoNumber j) (sym p.is) (λ v. ap (of_line (suc j)) (first_spaced p.word p.rest p.clear) ∙ line_none p.word j (first_line p.rest) p.clear (word_none p.word p.rest 32 p.clear (space_front p.word p.rest) v))
    go (inr (inl p)) = subst (NoNumber j) (sym p.is) (λ v. ap (of_line (suc j)) (first_lined p.word p.rest p.clear) ∙ last_word p.word p.rest j p.clear ∙ ap (λ o. counted (suc j) p.rest (before o (Some []))) (word_none p.word p.rest 10 p.clear (feed_front p.word p.rest) v))
    go (inr (inr k)) = λ v. ap (of_line (suc j)) (first_clear t k)

-- one number is not two or more
counted_one : (j : ℕ) (r : List ℕ) (o : Option ℤ) → counted (suc (suc j)) r (before o (Some [])) ≡ bad
counted_one j r None = refl
counted_one j r (Some z) = cond-false (eqb 1 (suc (suc j))) _ _ (ne_eqb 1 (suc (suc j)) (λ e. omega (arith, e)))

-- a word before a space that is no number or should end its line
apart_spaced : (w r : List ℕ) → Clear w → (j : ℕ) → (number w ≡ None) ⊎ (32 ≡ follows j → ⊥) → of_line (suc j) (longer (w ++ 32 ∷ []) (first_line r)) ≡ bad
apart_spaced w r k j (inl e) = line_none w j (first_line r) k e
apart_spaced w r k zero (inr n) = line_only w (first_line r) k
apart_spaced w r k (suc i) (inr n) = absurd (n refl)

-- a word before a line feed that is no number or should not end its line
apart_lined : (w r : List ℕ) → (j : ℕ) → (number w ≡ None) ⊎ (10 ≡ follows j → ⊥) → counted (suc j) r (before (number w) (Some [])) ≡ bad
apart_lined w r j (inl e) = ap (λ o. counted (suc j) r (before o (Some []))) e
apart_lined w r zero (inr n) = absurd (n refl)
apart_lined w r (suc i) (inr n) = counted_one i r (number w)

-- another byte behind the front: the line is bad
pub no_follower : (t : List ℕ) (j : ℕ) → NoFollower j t
no_follower t j = go (piece t)
  where
    go : Spaced t ⊎ (Lined t ⊎ Clear t) → NoFollower j t
    go (inl p) = subst (NoFollower j) (sym p.is) (λ n. ap (of_line (suc j)) (first_spaced p.word p.rest p.clear) ∙ apart_spaced p.word p.rest p.clear j (word_apart p.word p.rest 32 p.clear (space_front p.word p.rest) j n))
    go (inr (inl p)) = subst (NoFollower j) (sym p.is) (λ n. ap (of_line (suc j)) (first_lined p.word p.rest p.clear) ∙ last_word p.word p.rest j p.clear ∙ apart_lined p.word p.rest j (word_apart p.word p.rest 10 p.clear (feed_front p.word p.rest) j n))
    go (inr (inr k)) = λ n. ap (of_line (suc j)) (first_clear t k)

-- a width within the limit asks for no more than the count
of_width_counted : (w : ℕ) (rest : List ℕ) (o : Option (List ℤ)) (zs : List ℤ) (q : List ℕ) → w ≤ 8 → counted w rest o ≡ got zs q → (of_width w o ≡ Some zs) × (rest ≡ q)
of_width_counted w rest None zs q l e = let y : ◌≡◌ {A = ℕ} 0 1 = cc in absurd (omega arith)
of_width_counted w rest (Some us) zs q l e = go (eqb (length us) w) refl
  where
    go : (b : Bool) → eqb (length us) w ≡ b → (of_width w (Some us) ≡ Some zs) × (rest ≡ q)
    go true t =
        let f : got us rest ≡ got zs q = sym (cond-true (eqb (length us) w) (got us rest) bad t) ∙ e in
        let same : us ≡ zs = cc in
        (cond-true (eqb (length us) w && leb w 8) (Some us) None (and_from _ _ t (le-leb w 8 l)) ∙ ap Some same, cc)
    go false t = let f : bad ≡ got zs q = sym (cond-false (eqb (length us) w) (got us rest) bad t) ∙ e in let y : ◌≡◌ {A = ℕ} 0 1 = cc in absurd (omega arith)

-- and what is not counted has not the width
of_width_bad : (w : ℕ) (rest : List ℕ) (o : Option (List ℤ)) → counted w rest o ≡ bad → of_width w o ≡ None
of_width_bad w rest None e = refl
of_width_bad w rest (Some us) e = go (eqb (length us) w) refl
  where
    go : (b : Bool) → eqb (length us) w ≡ b → of_width w (Some us) ≡ None
    go true t = let f : got us rest ≡ bad = sym (cond-true (eqb (length us) w) (got us rest) bad t) ∙ e in let y : ◌≡◌ {A = ℕ} 0 1 = cc in absurd (omega arith)
    go false t = cond-false (eqb (length us) w && leb w 8) (Some us) None (and_left _ _ t)

-- a text without a line feed is one bad line
sheet_uncut : (w : ℕ) (t : List ℕ) → split 10 t ≡ t ∷ [] → 0 < length t → sheet w t ≡ None ∷ []
sheet_uncut w [] e h = absurd (omega (arith, h))
sheet_uncut w (c ∷ cs) e h = ap (λ ps. map (row_of w) (lines_of ps)) e

-- a first line and the lines after it
sheet_cut : (w : ℕ) (t line rest : List ℕ) → split 10 t ≡ line ∷ split 10 rest → sheet w t ≡ of_width w (numbers (split 32 line)) ∷ sheet w rest
sheet_cut w t line rest e = ap (λ ps. map (row_of w) (lines_of ps)) e ∙ ap (map (row_of w)) (lines_more line (split 10 rest) (split_some 10 rest))

-- the fields of the first line are its row
pub sheet_got : (w : ℕ) (t rest : List ℕ) (zs : List ℤ) → 1 ≤ w → w ≤ 8 → fields w t ≡ got zs rest → sheet w t ≡ Some zs ∷ sheet w rest
sheet_got zero t rest zs some l e = absurd (omega (arith, some))
sheet_got (suc j) t rest zs some l e = go (first_line t) (split_first t) e
  where
    go : (x : Cutting) → Split t (split 10 t) x → of_line (suc j) x ≡ got zs rest → sheet (suc j) t ≡ Some zs ∷ sheet (suc j) rest
    go uncut s e = let y : ◌≡◌ {A = ℕ} 0 1 = cc in absurd (omega arith)
    go (cut_at line more) s e =
        let o = of_width_counted (suc j) more (numbers (split 32 line)) zs rest l e in
        sheet_cut (suc j) t line more s ∙ (λ i. o.0 i ∷ sheet (suc j) (o.1 i))

-- and without them the line is bad
pub sheet_bad : (w : ℕ) (t : List ℕ) → 1 ≤ w → fields w t ≡ bad → 0 < length t → (more : List (Option (List ℤ))) × (sheet w t ≡ None ∷ more)
sheet_bad zero t some e h = absurd (omega (arith, some))
sheet_bad (suc j) t some e h = go (first_line t) (split_first t) e
  where
    go : (x : Cutting) → Split t (split 10 t) x → of_line (suc j) x ≡ bad → (more : List (Option (List ℤ))) × (sheet (suc j) t ≡ None ∷ more)
    go uncut s e = ([], sheet_uncut (suc j) t s h)
    go (cut_at line more) s e = (sheet (suc j) more, sheet_cut (suc j) t line more s ∙ ap (λ o. o ∷ sheet (suc j) more) (of_width_bad (suc j) more (numbers (split 32 line)) e))

-- no line writes a row of a width out of range
of_width_none : (w : ℕ) (line : List ℕ) → is_width w ≡ false → of_width w (numbers (split 32 line)) ≡ None
of_width_none w line out = go (numbers (split 32 line)) refl
  where
    go : (o : Option (List ℤ)) → numbers (split 32 line) ≡ o → of_width w o ≡ None
    go None e = refl
    go (Some zs) e = cond-false (eqb (length zs) w && leb w 8) _ _ (test (cases_lt w 1) (cases_Bool (eqb (length zs) w)))
      where
        some : 0 < length zs
        some = numbers_some (split 32 line) zs (split_some 32 line) e

        test : (w < 1) ⊎ (1 ≤ w) → (eqb (length zs) w ≡ true) ⊎ (eqb (length zs) w ≡ false) → (eqb (length zs) w && leb w 8) ≡ false
        test (inl h) t = and_left _ _ (ne_eqb (length zs) w (λ q. omega (arith, q, h, some)))
        test (inr h) t = and_right _ _ (sym (cond-false (ltb w 1) false (leb w 8) (le-ltb w 1 h)) ∙ out)

-- so the first line of a sheet so wide is bad
pub sheet_none : (w : ℕ) (t : List ℕ) → is_width w ≡ false → 0 < length t → (more : List (Option (List ℤ))) × (sheet w t ≡ None ∷ more)
sheet_none w t out h = go (first_line t) (split_first t)
  where
    go : (x : Cutting) → Split t (split 10 t) x → (more : List (Option (List ℤ))) × (sheet w t ≡ None ∷ more)
    go uncut s = ([], sheet_uncut w t s h)
    go (cut_at line more) s = (sheet w more, sheet_cut w t line more s ∙ ap (λ o. o ∷ sheet w more) (of_width_none w line out))
