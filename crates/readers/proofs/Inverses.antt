-- Readers that read just what is written: each combinator keeps that.
use Rattle.std.proofs.Common.{◌≡◌, ℕ, zero, suc, ◌+◌, ◌*◌, ◌/◌, ◌%◌, ◌^◌, ◌<◌, Bool, true, false, cond, eqb, ltb, List, [], ◌∷◌, ◌++◌, length, Some, None, Option, sym, refl, ap, ◌∙◌, subst, arith}
use Rattle.std.specs.List.{flat_map, AllByRecursion}
use Rattle.std.proofs.lemmas.List.{append_assoc}
use Rattle.std.proofs.lemmas.Bool.{lt-ltb, ltb-true, eq-eqb, eqb-true, cond-true}
use Rattle.measures.specs.Bytes.{bytes_of}
use Rattle.readers.specs.Readers.{Reader, changed, go_on, kept, seq, via, only_if, times, constant, byte, number, with_rest, picked, chosen}

-- what is written reads back, whatever follows, and only that reads so
pub record Inverse {X : Type 0} (Ok : X → Type 0) (put : X → List ℕ) (get : Reader X) : Type 0 where
  pub back : (x : X) (rest : List ℕ) → Ok x → get (put x ++ rest) ≡ Some (x, rest)
  pub only : (bs : List ℕ) (q : X × List ℕ) → get bs ≡ Some q → Ok q.0 × (bs ≡ put q.0 ++ q.1)

-- nothing is not something
pub none_some : {X Y : Type 0} (x : X) → None ≡ Some x → Y
none_some x e = let z : ◌≡◌ {A = ℕ} 0 1 = cc in absurd (omega arith)

-- as a value of another type
pub inv_via : {X Y : Type 0} {Ok : X → Type 0} {put : X → List ℕ} {get : Reader X} (f : X → Y) (Ok' : Y → Type 0) (put' : Y → List ℕ) → Inverse Ok put get → ((y : Y) → Ok' y → (x : X) × Ok x × (f x ≡ y) × (put x ≡ put' y)) → ((x : X) → Ok x → Ok' (f x) × (put x ≡ put' (f x))) → Inverse Ok' put' (via f get)
inv_via {X} {Y} {Ok} {put} {get} f Ok' put' i from to =
    record {
      back = λ y rest ok. let w = from y ok in
          ap (λ l. changed f (get (l ++ rest))) (sym w.3) ∙ ap (changed f) (i.back w.0 rest w.1) ∙ ap (λ v. Some (v, rest)) w.2;
      only = λ bs q e. go bs q (get bs) refl e;
    }
  where
    go : (bs : List ℕ) (q : Y × List ℕ) (o : Option (X × List ℕ)) → get bs ≡ o → changed f o ≡ Some q → Ok' q.0 × (bs ≡ put' q.0 ++ q.1)
    go bs q None e h = none_some q h
    go bs q (Some w) e h =
        let a = i.only bs w e in
        let b = to w.0 a.0 in
        let z : (f w.0, w.1) ≡ q = cc in
        subst (λ (u : Y × List ℕ). Ok' u.0 × (bs ≡ put' u.0 ++ u.1)) z (b.0, a.1 ∙ ap (λ l. l ++ w.1) b.1)

-- one part and then another
pub inv_seq : {X Y : Type 0} {Ok : X → Type 0} {put : X → List ℕ} {get : Reader X} {Ok' : X → Y → Type 0} {put' : X → Y → List ℕ} {get' : X → Reader Y} → Inverse Ok put get → ((x : X) → Ok x → Inverse (Ok' x) (put' x) (get' x)) → Inverse (λ (q : X × Y). Ok q.0 × Ok' q.0 q.1) (λ q. put q.0 ++ put' q.0 q.1) (seq get get')
inv_seq {X} {Y} {Ok} {put} {get} {Ok'} {put'} {get'} i j =
    record {
      back = λ q rest ok.
          ap (λ l. go_on (get l) get') (append_assoc (put q.0) (put' q.0 q.1) rest)
          ∙ ap (λ o. go_on o get') (i.back q.0 (put' q.0 q.1 ++ rest) ok.0)
          ∙ ap (changed (λ y. (q.0, y))) ((j q.0 ok.0).back q.1 rest ok.1);
      only = λ bs q e. go bs q (get bs) refl e;
    }
  where
    second : (bs : List ℕ) (q : (X × Y) × List ℕ) (w : X × List ℕ) → get bs ≡ Some w → (o : Option (Y × List ℕ)) → get' w.0 w.1 ≡ o → changed (λ y. (w.0, y)) o ≡ Some q → (Ok q.0.0 × Ok' q.0.0 q.0.1) × (bs ≡ (put q.0.0 ++ put' q.0.0 q.0.1) ++ q.1)
    second bs q w e None f h = none_some q h
    second bs q w e (Some v) f h =
        let a = i.only bs w e in
        let b = (j w.0 a.0).only w.1 v f in
        let z : ((w.0, v.0), v.1) ≡ q = cc in
        subst (λ (u : (X × Y) × List ℕ). (Ok u.0.0 × Ok' u.0.0 u.0.1) × (bs ≡ (put u.0.0 ++ put' u.0.0 u.0.1) ++ u.1)) z
        ((a.0, b.0), a.1 ∙ ap (λ l. put w.0 ++ l) b.1 ∙ sym (append_assoc (put w.0) (put' w.0 v.0) v.1))

    go : (bs : List ℕ) (q : (X × Y) × List ℕ) (o : Option (X × List ℕ)) → get bs ≡ o → go_on o get' ≡ Some q → (Ok q.0.0 × Ok' q.0.0 q.0.1) × (bs ≡ (put q.0.0 ++ put' q.0.0 q.0.1) ++ q.1)
    go bs q None e h = none_some q h
    go bs q (Some w) e h = second bs q w e (get' w.0 w.1) refl h

-- only what passes a test
pub inv_if : {X : Type 0} {Ok : X → Type 0} {put : X → List ℕ} {get : Reader X} (t : X → Bool) → Inverse Ok put get → Inverse (λ x. Ok x × (t x ≡ true)) put (only_if t get)
inv_if {X} {Ok} {put} {get} t i =
    record {
      back = λ x rest ok. ap (kept t) (i.back x rest ok.0) ∙ cond-true (t x) (Some (x, rest)) None ok.1;
      only = λ bs q e. go bs q (get bs) refl e;
    }
  where
    last : (bs : List ℕ) (q w : X × List ℕ) → get bs ≡ Some w → (b : Bool) → t w.0 ≡ b → cond b (Some w) None ≡ Some q → (Ok q.0 × (t q.0 ≡ true)) × (bs ≡ put q.0 ++ q.1)
    last bs q w e true f h =
        let a = i.only bs w e in
        let z : w ≡ q = cc in
        subst (λ (u : X × List ℕ). (Ok u.0 × (t u.0 ≡ true)) × (bs ≡ put u.0 ++ u.1)) z ((a.0, f), a.1)
    last bs q w e false f h = none_some q h

    go : (bs : List ℕ) (q : X × List ℕ) (o : Option (X × List ℕ)) → get bs ≡ o → kept t o ≡ Some q → (Ok q.0 × (t q.0 ≡ true)) × (bs ≡ put q.0 ++ q.1)
    go bs q None e h = none_some q h
    go bs q (Some w) e h = last bs q w e (t w.0) refl h

-- n of a kind
abbrev pub Many : {X : Type 0} → (X → Type 0) → ℕ → List X → Type 0
Many Ok n xs = (length xs ≡ n) × AllByRecursion Ok xs

-- n of a kind
pub inv_times : {X : Type 0} {Ok : X → Type 0} {put : X → List ℕ} {get : Reader X} → Inverse Ok put get → (n : ℕ) → Inverse (Many Ok n) (flat_map put) (times n get)
inv_times {X} {Ok} {put} {get} i zero = record { back = none_back; only = none_only }
  where
    none_back : (xs : List X) (rest : List ℕ) → Many Ok 0 xs → times 0 get (flat_map put xs ++ rest) ≡ Some (xs, rest)
    none_back [] rest ok = refl
    none_back (x ∷ xs) rest ok = let z = ok.0 in absurd (omega arith)

    none_only : (bs : List ℕ) (q : List X × List ℕ) → times 0 get bs ≡ Some q → Many Ok 0 q.0 × (bs ≡ flat_map put q.0 ++ q.1)
    none_only bs q e = let z : ([], bs) ≡ q = cc in subst (λ (u : List X × List ℕ). Many Ok 0 u.0 × (bs ≡ flat_map put u.0 ++ u.1)) z ((refl, tt), refl)
inv_times {X} {Ok} {put} {get} i (suc n) =
    inv_via (λ q. q.0 ∷ q.1) (Many Ok (suc n)) (flat_map put) (inv_seq i (λ x ok. inv_times i n)) from to
  where
    from : (y : List X) → Many Ok (suc n) y → (x : X × List X) × (Ok x.0 × Many Ok n x.1) × (x.0 ∷ x.1 ≡ y) × (put x.0 ++ flat_map put x.1 ≡ flat_map put y)
    from [] ok = let z = ok.0 in absurd (omega arith)
    from (y ∷ ys) ok = let z = ok.0 in ((y, ys), (ok.1.0, (omega arith, ok.1.1)), refl, refl)

    to : (x : X × List X) → Ok x.0 × Many Ok n x.1 → Many Ok (suc n) (x.0 ∷ x.1) × (put x.0 ++ flat_map put x.1 ≡ flat_map put (x.0 ∷ x.1))
    to x ok = let z = ok.1.0 in ((omega arith, (ok.0, ok.1.1)), refl)

-- just these bytes
pub inv_constant : (cs : List ℕ) → Inverse (λ (u : Unit {0}). Unit {0}) (λ _. cs) (constant cs)
inv_constant [] = record { back = λ x rest ok. refl; only = λ bs q e. (tt, let z : (tt, bs) ≡ q = cc in ap (λ (u : Unit {0} × List ℕ). u.1) z) }
inv_constant (c ∷ cs) =
    let i = inv_constant cs in
    record {
      back = λ x rest ok. cond-true (eqb c c) (constant cs (cs ++ rest)) None (eq-eqb c c refl) ∙ i.back x rest tt;
      only = go i.only;
    }
  where
    last : (b : ℕ) (bs : List ℕ) (q : Unit {0} × List ℕ) → (constant cs bs ≡ Some q → Unit {0} × (bs ≡ cs ++ q.1)) → (t : Bool) → eqb b c ≡ t → cond t (constant cs bs) None ≡ Some q → Unit {0} × (b ∷ bs ≡ c ∷ (cs ++ q.1))
    last b bs q h true f e = let x = eqb-true b c f in let y = (h e).1 in (tt, cc)
    last b bs q h false f e = none_some q e

    go : ((bs : List ℕ) (q : Unit {0} × List ℕ) → constant cs bs ≡ Some q → Unit {0} × (bs ≡ cs ++ q.1)) → (bs : List ℕ) (q : Unit {0} × List ℕ) → constant (c ∷ cs) bs ≡ Some q → Unit {0} × (bs ≡ (c ∷ cs) ++ q.1)
    go h [] q e = none_some q e
    go h (b ∷ bs) q e = last b bs q (h bs q) (eqb b c) refl e

-- one byte
pub inv_byte : Inverse (λ b. b < 256) (λ b. b ∷ []) byte
inv_byte = record { back = λ b rest ok. cond-true (ltb b 256) (Some (b, rest)) None (lt-ltb b 256 ok); only = go }
  where
    last : (b : ℕ) (bs : List ℕ) (q : ℕ × List ℕ) (t : Bool) → ltb b 256 ≡ t → cond t (Some (b, bs)) None ≡ Some q → (q.0 < 256) × (b ∷ bs ≡ q.0 ∷ q.1)
    last b bs q true f e = let z : (b, bs) ≡ q = cc in subst (λ (u : ℕ × List ℕ). (u.0 < 256) × (b ∷ bs ≡ u.0 ∷ u.1)) z (ltb-true b 256 f, refl)
    last b bs q false f e = none_some q e

    go : (bs : List ℕ) (q : ℕ × List ℕ) → byte bs ≡ Some q → (q.0 < 256) × (bs ≡ q.0 ∷ q.1)
    go [] q e = none_some q e
    go (b ∷ bs) q e = last b bs q (ltb b 256) refl e

-- a number of k bytes
pub inv_number : (k : ℕ) → Inverse (λ n. n < 256 ^ k) (bytes_of k) (number k)
inv_number zero =
    record {
      back = λ n rest ok. let z : n ≡ 0 = omega arith in ap (λ m. Some (m, rest)) (sym z);
      only = λ bs q e. let z : (0, bs) ≡ q = cc in subst (λ (u : ℕ × List ℕ). (u.0 < 256 ^ 0) × (bs ≡ u.1)) z (omega arith, refl);
    }
inv_number (suc k) =
    inv_via (λ (q : ℕ × ℕ). q.0 + 256 * q.1) (λ n. n < 256 ^ suc k) (bytes_of (suc k)) (inv_seq inv_byte (λ x ok. inv_number k))
    (λ n ok. ((n % 256, n / 256), (omega arith, omega arith), omega arith, refl))
    (λ x ok. let a : (x.0 + 256 * x.1) % 256 ≡ x.0 = omega arith in let b : (x.0 + 256 * x.1) / 256 ≡ x.1 = omega arith in (omega arith, λ i. sym a i ∷ bytes_of k (sym b i)))

-- the same values, said otherwise
pub inv_like : {X : Type 0} {Ok : X → Type 0} {put : X → List ℕ} {get : Reader X} (Ok' : X → Type 0) → Inverse Ok put get → ((x : X) → Ok' x → Ok x) → ((x : X) → Ok x → Ok' x) → Inverse Ok' put get
inv_like Ok' i from to = record { back = λ x rest ok. i.back x rest (from x ok); only = λ bs q e. let a = i.only bs q e in (to q.0 a.0, a.1) }

-- where there is a value of another type
pub inv_chosen : {X Y : Type 0} {Ok : X → Type 0} {put : X → List ℕ} {get : Reader X} (f : X → Option Y) (Ok' : Y → Type 0) (put' : Y → List ℕ) → Inverse Ok put get → ((y : Y) → Ok' y → (x : X) × Ok x × (f x ≡ Some y) × (put x ≡ put' y)) → ((x : X) (y : Y) → Ok x → f x ≡ Some y → Ok' y × (put x ≡ put' y)) → Inverse Ok' put' (chosen f get)
inv_chosen {X} {Y} {Ok} {put} {get} f Ok' put' i from to =
    record {
      back = λ y rest ok. let w = from y ok in
          ap (λ l. picked f (get (l ++ rest))) (sym w.3) ∙ ap (picked f) (i.back w.0 rest w.1) ∙ ap (with_rest rest) w.2;
      only = λ bs q e. go bs q (get bs) refl e;
    }
  where
    last : (bs : List ℕ) (q : Y × List ℕ) (w : X × List ℕ) → get bs ≡ Some w → (o : Option Y) → f w.0 ≡ o → with_rest w.1 o ≡ Some q → Ok' q.0 × (bs ≡ put' q.0 ++ q.1)
    last bs q w e None g h = none_some q h
    last bs q w e (Some y) g h =
        let a = i.only bs w e in
        let b = to w.0 y a.0 g in
        let z : (y, w.1) ≡ q = cc in
        subst (λ (u : Y × List ℕ). Ok' u.0 × (bs ≡ put' u.0 ++ u.1)) z (b.0, a.1 ∙ ap (λ l. l ++ w.1) b.1)

    go : (bs : List ℕ) (q : Y × List ℕ) (o : Option (X × List ℕ)) → get bs ≡ o → picked f o ≡ Some q → Ok' q.0 × (bs ≡ put' q.0 ++ q.1)
    go bs q None e h = none_some q h
    go bs q (Some w) e h = last bs q w e (f w.0) refl h

-- a reader answers where there is a written form
pub some_when : {X : Type 0} {Ok : X → Type 0} {put : X → List ℕ} {get : Reader X} → Inverse Ok put get → (bs : List ℕ) (x : X) (rest : List ℕ) → Ok x → bs ≡ put x ++ rest → Some (x, rest) ≡ get bs
some_when {X} {Ok} {put} {get} i bs x rest ok e = sym (ap get e ∙ i.back x rest ok)

-- and answers nothing where there is none
pub none_unless : {X : Type 0} {Ok : X → Type 0} {put : X → List ℕ} {get : Reader X} → Inverse Ok put get → (bs : List ℕ) → ((x : X) (rest : List ℕ) → Ok x → bs ≡ put x ++ rest → ⊥) → None ≡ get bs
none_unless {X} {Ok} {put} {get} i bs h = go (get bs) refl
  where
    go : (o : Option (X × List ℕ)) → get bs ≡ o → None ≡ o
    go None e = refl
    go (Some q) e = let a = i.only bs q e in absurd (h q.0 q.1 a.0 a.1)
