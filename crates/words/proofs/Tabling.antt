-- Words in a fixed table. Assumes nothing.
use Rattle.std.proofs.Common.{◌≡◌, ℕ, suc, ◌+◌, ◌<◌, ◌≤◌, min, Bool, true, false, cond, ltb, List, [], ◌∷◌, ◌++◌, map, length, take, set, Some, refl, ap, ◌∙◌, arith, Bor}
use Rattle.std.proofs.lemmas.List.{take_more_set, length-map, length-take}
use Rattle.std.proofs.lemmas.Bool.{cond-true, cond-false, lt-ltb, le-ltb}
use Rattle.std.specs.List.{position_from}
use Rattle.words.specs.Lexemes.{same}
use Rattle.words.specs.Tables.{texts, place, added}
use Rattle.words.specs.declared.names.Table.{Table}

-- the first n words of a table
abbrev pub read : List (Bor (List ℕ)) → ℕ → List (List ℕ)
read xs n = map (λ (w : Bor (List ℕ)). w.now) (take n xs)

-- there are as many names as are used, eight at most
pub long : (xs : List (Bor (List ℕ))) (n : ℕ) → length (read xs n) ≡ min n (length xs)
long xs n = simp (length-map, length-take)

-- a word is sought among the names themselves
pub place_read : (xs : List (Bor (List ℕ))) (w : List ℕ) (k : ℕ) → position_from (λ (x : Bor (List ℕ)). same x.now w) k xs ≡ place (map (λ (x : Bor (List ℕ)). x.now) xs) w k
place_read [] w k = refl
place_read (x ∷ xs) w k = ap (cond (same x.now w) (Some k)) (place_read xs w (k + 1))

-- a table holds at most eight names
pub few_texts : (t : Table) → length (texts t) ≤ 8
unfolding texts
few_texts t = omega (arith, long t.words (min t.used 8))

-- a name is found at a place below their number
pub place_below : (xs : List (List ℕ)) (w : List ℕ) (k i : ℕ) → place xs w k ≡ Some i → i < k + length xs
place_below [] w k i h = let z : ◌≡◌ {A = ℕ} 0 1 = cc in absurd (omega arith)
place_below (x ∷ xs) w k i h = go (place_below xs w (k + 1) i) (same x w) h
  where
    go : (place xs w (k + 1) ≡ Some i → i < k + 1 + length xs) → (b : Bool) → cond b (Some k) (place xs w (k + 1)) ≡ Some i → i < k + suc (length xs)
    go ih true e = let s : k ≡ i = cc in omega arith
    go ih false e = omega (arith, ih e)

-- one name more, below eight
pub pushed : (xs : List (Bor (List ℕ))) (n : ℕ) (w : Bor (List ℕ)) → n < length xs → n < 8 → take (min (n + 1) 8) (set xs n w) ≡ take (min n 8) xs ++ (w ∷ [])
pushed xs n w h l =
    let a : min (n + 1) 8 ≡ n + 1 = omega arith in
    let b : n ≡ min n 8 = omega arith in
    ap (λ k. take k (set xs n w)) a ∙ take_more_set xs n w h ∙ ap (λ k. take k xs ++ (w ∷ [])) b

-- a full table stays
pub added_full : (xs : List (List ℕ)) (w : List ℕ) → 8 ≤ length xs → added xs w ≡ xs
added_full xs w h = cond-false (ltb (length xs) 8) _ _ (le-ltb _ 8 h)

-- a table with room takes one more
pub added_more : (xs : List (List ℕ)) (w : List ℕ) → length xs < 8 → added xs w ≡ xs ++ (w ∷ [])
added_more xs w h = cond-true (ltb (length xs) 8) _ _ (lt-ltb _ 8 h)
