-- A row filled from a key, field by field. Assumes nothing.
use Rattle.std.proofs.Common.{◌≡◌, ℕ, zero, suc, ◌+◌, ◌<◌, ◌≤◌, Bool, true, false, List, [], ◌∷◌, ◌++◌, length, get_or, take, drop, set, replicate, ℤ, pos, sym, refl, ap, ◌∙◌, arith}
use Rattle.std.proofs.lemmas.List.{append_assoc, append-nil, take_all, drop_all, take_more, take_more_set, drop_more, get_or-drop, get_or-set_other}
use Rattle.conditions.specs.Keys.{key, spread}

-- what is left of the fields begins with the next one
at_field : (fs : List Bool) (i : ℕ) (b : Bool) → i < length fs → get_or fs i false ≡ b → drop i fs ≡ b ∷ drop (i + 1) fs
at_field fs i b h e = drop_more fs i false h ∙ ap (λ x. x ∷ drop (i + 1) fs) e

module _ (row : List ℤ) (fs : List Bool) (vs : List ℤ) (i : ℕ) (all : List ℤ) (room : i < length row) (few : i < length fs) (so_far : take i row ++ spread (drop i fs) vs ≡ all) where
  -- a field of the key
  pub filled : (v : ℤ) (more : List ℤ) → get_or fs i false ≡ true → v ≡ get_or vs 0 (pos 0) → more ≡ drop 1 vs → take (i + 1) (set row i v) ++ spread (drop (i + 1) fs) more ≡ all
  filled v more b e m =
      let rest : spread (drop i fs) vs ≡ v ∷ spread (drop (i + 1) fs) more = ap (λ l. spread l vs) (at_field fs i true few b) ∙ (λ k. sym e k ∷ spread (drop (i + 1) fs) (sym m k)) in
      ap (λ l. l ++ spread (drop (i + 1) fs) more) (take_more_set row i v room) ∙ append_assoc (take i row) (v ∷ []) _ ∙ ap (λ l. take i row ++ l) (sym rest) ∙ so_far

  -- another field
  pub skipped : get_or fs i false ≡ false → get_or row i (pos 0) ≡ pos 0 → take (i + 1) row ++ spread (drop (i + 1) fs) vs ≡ all
  skipped b z =
      let rest : spread (drop i fs) vs ≡ pos 0 ∷ spread (drop (i + 1) fs) vs = ap (λ l. spread l vs) (at_field fs i false few b) in
      ap (λ l. l ++ spread (drop (i + 1) fs) vs) (take_more row i (pos 0) room ∙ ap (λ y. take i row ++ y ∷ []) z) ∙ append_assoc (take i row) (pos 0 ∷ []) _ ∙ ap (λ l. take i row ++ l) (sym rest) ∙ so_far

-- all fields are done
pub spread_all : (row : List ℤ) (fs : List Bool) (vs : List ℤ) (i : ℕ) (all : List ℤ) → length row ≤ i → length fs ≤ i → take i row ++ spread (drop i fs) vs ≡ all → row ≡ all
spread_all row fs vs i all p q e = sym (append-nil row) ∙ (λ k. sym (take_all i row p) k ++ spread (sym (drop_all i fs q) k) vs) ∙ e

-- what is filled with one value has it everywhere
pub all_same : {X : Type 0} (n k : ℕ) (d : X) → get_or (replicate n d) k d ≡ d
all_same zero k d = refl
all_same (suc n) zero d = refl
all_same (suc n) (suc k) d = all_same n k d

pub zeros_past : (row : List ℤ) (i : ℕ) (v : ℤ) → ((k : ℕ) → i ≤ k → get_or row k (pos 0) ≡ pos 0) → (k : ℕ) → i + 1 ≤ k → get_or (set row i v) k (pos 0) ≡ pos 0
zeros_past row i v h k l = get_or-set_other row i k v (pos 0) (λ e. omega (arith, e, l)) ∙ h k (omega (arith, l))

-- a key's row has the row's values in the key's fields
pub spread_key : (fs : List Bool) (row : List ℤ) (f : ℕ) → get_or fs f false ≡ true → get_or (spread fs (key fs row)) f (pos 0) ≡ get_or row f (pos 0)
spread_key [] row f h = cc
spread_key (true ∷ fs) row zero h = refl
spread_key (false ∷ fs) row zero h = cc
spread_key (true ∷ fs) row (suc f) h = spread_key fs (drop 1 row) f h ∙ get_or-drop 1 row f (pos 0) ∙ ap (λ k. get_or row k (pos 0)) (omega arith)
spread_key (false ∷ fs) row (suc f) h = spread_key fs (drop 1 row) f h ∙ get_or-drop 1 row f (pos 0) ∙ ap (λ k. get_or row k (pos 0)) (omega arith)
