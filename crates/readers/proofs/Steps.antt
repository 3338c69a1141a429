-- Single steps of the readers, as code takes them.
use Rattle.std.proofs.Common.{◌≡◌, ℕ, zero, suc, ◌+◌, ◌-◌, ◌*◌, ◌<◌, ◌≤◌, Bool, true, false, cond, ltb, List, [], ◌∷◌, length, get_or, take, drop, Some, None, Option, sym, refl, ap, ◌∙◌, arith}
use Rattle.std.proofs.lemmas.List.{take_rest}
use Rattle.std.proofs.lemmas.Bool.{lt-ltb, cond-true, cond-false}
use Rattle.readers.specs.Readers.{Reader, changed, go_on, kept, after, times, number, byte}

-- numbers

byte_in : (b : ℕ) (bs : List ℕ) → b < 256 → byte (b ∷ bs) ≡ Some (b, bs)
byte_in b bs h = cond-true (ltb b 256) (Some (b, bs)) None (lt-ltb b 256 h)

number_more : (k b : ℕ) (bs rest : List ℕ) (n : ℕ) → b < 256 → number k bs ≡ Some (n, rest) → number (suc k) (b ∷ bs) ≡ Some (b + 256 * n, rest)
number_more k b bs rest n h e = rw (byte_in b bs h, e)

-- a number of four bytes
pub number_four : (bs : List ℕ) → 4 ≤ length bs → get_or bs 0 0 < 256 → get_or bs 1 0 < 256 → get_or bs 2 0 < 256 → get_or bs 3 0 < 256 → number 4 bs ≡ Some (get_or bs 0 0 + get_or bs 1 0 * 256 + get_or bs 2 0 * 65536 + get_or bs 3 0 * 16777216, take (length bs - 4) (drop 4 bs))
number_four [] h p q r s = absurd (omega arith)
number_four (a ∷ []) h p q r s = absurd (omega arith)
number_four (a ∷ b ∷ []) h p q r s = absurd (omega arith)
number_four (a ∷ b ∷ c ∷ []) h p q r s = absurd (omega arith)
number_four (a ∷ b ∷ c ∷ d ∷ bs) h p q r s =
    number_more 3 a (b ∷ c ∷ d ∷ bs) bs (b + 256 * (c + 256 * (d + 256 * 0))) p (number_more 2 b (c ∷ d ∷ bs) bs (c + 256 * (d + 256 * 0)) q (number_more 1 c (d ∷ bs) bs (d + 256 * 0) r (number_more 0 d bs bs 0 s refl)))
    ∙ ap (λ n. Some (n, bs)) (omega arith) ∙ ap (λ l. Some (a + b * 256 + c * 65536 + d * 16777216, l)) (sym (take_rest (a ∷ b ∷ c ∷ d ∷ bs) 4))

-- the combinators at what was read

pub kept_yes : {X : Type 0} (t : X → Bool) (x : X) (rest : List ℕ) (o : Option (X × List ℕ)) → Some (x, rest) ≡ o → t x ≡ true → Some (x, rest) ≡ kept t o
kept_yes t x rest o e h = sym (cond-true (t x) (Some (x, rest)) None h) ∙ ap (kept t) e

pub kept_no : {X : Type 0} (t : X → Bool) (x : X) (rest : List ℕ) (o : Option (X × List ℕ)) → Some (x, rest) ≡ o → t x ≡ false → None ≡ kept t o
kept_no t x rest o e h = sym (cond-false (t x) (Some (x, rest)) None h) ∙ ap (kept t) e

pub changed_like : {X Y : Type 0} (f g : X → Y) (o : Option (X × List ℕ)) → ((x : X) → f x ≡ g x) → changed f o ≡ changed g o
changed_like f g None h = refl
changed_like f g (Some q) h = ap (λ y. Some (y, q.1)) (h q.0)

changed_twice : {X Y Z : Type 0} (f : Y → Z) (g : X → Y) (o : Option (X × List ℕ)) → changed f (changed g o) ≡ changed (λ x. f (g x)) o
changed_twice f g None = refl
changed_twice f g (Some q) = refl

-- what the value is changed to leaves the bytes after it
pub after_changed : {X Y : Type 0} (f : X → Y) (o : Option (X × List ℕ)) → after (changed f o) ≡ after o
after_changed f None = refl
after_changed f (Some q) = refl

abbrev pub listed : {X : Type 0} → X × List X → List X
listed q = q.0 ∷ q.1

-- one of n is read
pub times_step : {X Y : Type 0} (F : List X → Y) (r : Reader X) (n : ℕ) (x : X) (bs rest : List ℕ) → Some (x, rest) ≡ r bs → changed F (times (suc n) r bs) ≡ changed (λ xs. F (x ∷ xs)) (times n r rest)
times_step F r n x bs rest e =
    ap (λ o. changed F (changed listed (go_on o (λ _. times n r)))) (sym e)
    ∙ ap (changed F) (changed_twice listed (λ y. (x, y)) (times n r rest))
    ∙ changed_twice F (λ xs. x ∷ xs) (times n r rest)

-- one of c was passed over
pub after_more : {X : Type 0} (r : Reader X) (c d : ℕ) (bs rest : List ℕ) → c ≡ suc d → Some rest ≡ after (r bs) → after (times c r bs) ≡ after (times d r rest)
after_more r zero d bs rest h e = absurd (omega arith)
after_more {X} r (suc c) d bs rest h e = go (r bs) e ∙ ap (λ n. after (times n r rest)) one
  where
    one : c ≡ d
    one = omega arith

    go : (o : Option (X × List ℕ)) → Some rest ≡ after o → after (changed listed (go_on o (λ _. times c r))) ≡ after (times c r rest)
    go None e = let z : ◌≡◌ {A = ℕ} 0 1 = cc in absurd (omega arith)
    go (Some q) e = let z : rest ≡ q.1 = cc in
        after_changed listed (changed (λ y. (q.0, y)) (times c r q.1)) ∙ after_changed (λ y. (q.0, y)) (times c r q.1) ∙ ap (λ l. after (times c r l)) (sym z)

-- n bytes as they lie

pub bytes_short : (n : ℕ) (bs : List ℕ) → length bs < n → times n byte bs ≡ None
bytes_short zero bs h = absurd (omega arith)
bytes_short (suc n) [] h = refl
bytes_short (suc n) (b ∷ bs) h = at (ltb b 256) (bytes_short n bs (omega arith))
  where
    at : (t : Bool) → times n byte bs ≡ None → changed listed (go_on (cond t (Some (b, bs)) None) (λ _. times n byte)) ≡ None
    at true e = ap (λ o. changed listed (changed (λ y. (b, y)) o)) e
    at false e = refl

pub bytes_in : (n : ℕ) (bs : List ℕ) → n ≤ length bs → ((i : ℕ) → get_or bs i 0 < 256) → times n byte bs ≡ Some (take n bs, drop n bs)
bytes_in zero bs h f = refl
bytes_in (suc n) [] h f = absurd (omega arith)
bytes_in (suc n) (b ∷ bs) h f =
    ap (λ o. changed listed (go_on o (λ _. times n byte))) (byte_in b bs (f 0))
    ∙ ap (λ o. changed listed (changed (λ y. (b, y)) o)) (bytes_in n bs (omega arith) (λ i. f (suc i)))
