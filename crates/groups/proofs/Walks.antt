-- Walking a chain. Assumes nothing.
use Rattle.std.proofs.Common.{◌≡◌, ℕ, zero, suc, ◌+◌, ◌-◌, ◌<◌, ◌≤◌, ◌⊎◌, List, [], ◌∷◌, ◌++◌, map, length, get_or, take, drop, sym, refl, ap, ◌∙◌, subst, inl, inr, append-nil, arith}
use Rattle.std.proofs.lemmas.List.{get_or-map, length-map, get_or-take, length-take-le, take_all, drop_all}
use Rattle.std.proofs.lemmas.Bool.{cases_lt}
use Rattle.cells.specs.declared.id.GroupId.{GroupId}
use Rattle.cells.specs.declared.cell.Cell.{Cell}
use Rattle.cells.specs.declared.place.Place.{Place}
use Rattle.groups.specs.Chains.{Link, Chained, cells_of, heads, buckets, live, emptied, bucket_of}

module _ {V : Type 0} where
  pub bucket_at : (n : ℕ) (cs : List (Cell V)) (k : ℕ) (d : Cell V) → k < length cs → get_or (buckets n cs) k 0 ≡ bucket_of (get_or cs k d).id n
  bucket_at n cs k d h = get_or-map (λ c. bucket_of c.id n) cs k d 0 h

  pub length_cells : (xs : List (Place V)) → length (cells_of xs) ≡ length xs
  length_cells xs = length-map xs (λ s. s.cell)

  pub live_at : (xs : List (Place V)) (used k : ℕ) (d : Cell V) (s : Place V) → k < used → used ≤ length xs → get_or (live used xs) k d ≡ (get_or xs k s).cell
  live_at xs used k d s h w = get_or-take used (cells_of xs) k d h ∙ get_or-map (λ s. s.cell) xs k s d (omega arith)

  -- the links of a chained list
  pub head_link : (xs : List (Place V)) (used b : ℕ) (s : Place V) → Chained xs used → b < length xs → Link (buckets (length xs) (cells_of xs)) used b (get_or xs b s).head
  head_link xs used b s c lt =
      subst (Link (buckets (length xs) (cells_of xs)) used b) (get_or-map (λ s. s.head) xs b s 0 lt) (c.first b (omega (arith, length-map xs (λ s. s.head))))

  pub next_link : (xs : List (Place V)) (used i : ℕ) (s : Place V) → Chained xs used → i < used → Link (buckets (length xs) (cells_of xs)) i (get_or (buckets (length xs) (cells_of xs)) i 0) (get_or xs i s).next
  next_link xs used i s c lt =
      subst (Link (buckets (length xs) (cells_of xs)) i (get_or (buckets (length xs) (cells_of xs)) i 0)) (get_or-map (λ s. s.next) xs i s 0 (omega (arith, c.within))) (c.later i lt)

-- the walk stands at `at`: what is past is another's, what is here is of the bucket
abbrev pub Walk : {V : Type 0} → List (Cell V) → ℕ → ℕ → GroupId → ℕ → Type 0
Walk {V} cs n used p at = (at ≤ used) × ((k : ℕ) (d : Cell V) → at ≤ k → k < used → (get_or cs k d).id ≡ p → ⊥) × (0 < at → get_or (buckets n cs) (at - 1) 0 ≡ bucket_of p n)

module _ {V : Type 0} (cs : List (Cell V)) (n used : ℕ) (p : GroupId) (within : used ≤ length cs) where
  pub walk_link : (top b at : ℕ) → top ≤ used → b ≡ bucket_of p n → Link (buckets n cs) top b at → ((k : ℕ) (d : Cell V) → top ≤ k → k < used → (get_or cs k d).id ≡ p → ⊥) → Walk cs n used p at
  walk_link top b at le e l rest = (omega arith, past, λ h. l.2 h ∙ e) where
    past : (k : ℕ) (d : Cell V) → at ≤ k → k < used → (get_or cs k d).id ≡ p → ⊥
    past k d low high is = by (cases_lt k top) where
      by : (k < top) ⊎ (top ≤ k) → ⊥
      by (inl lt) = l.1 k low lt (bucket_at n cs k d (omega arith) ∙ ap (λ q. bucket_of q n) is ∙ sym e)
      by (inr ge) = rest k d ge high is

  -- on from a cell of another place
  pub walk_on : (at i next : ℕ) → i + 1 ≡ at → Walk cs n used p at → ((d : Cell V) → (get_or cs i d).id ≡ p → ⊥) → Link (buckets n cs) i (get_or (buckets n cs) i 0) next → Walk cs n used p next
  walk_on at i next e w other l =
      let z : at - 1 ≡ i = omega arith in
      walk_link i (get_or (buckets n cs) i 0) next (omega arith) (ap (λ j. get_or (buckets n cs) j 0) (sym z) ∙ w.2 (omega arith)) l past where
        past : (k : ℕ) (d : Cell V) → i ≤ k → k < used → (get_or cs k d).id ≡ p → ⊥
        past k d low high is = by (cases_lt i k) where
          by : (i < k) ⊎ (k ≤ i) → ⊥
          by (inl lt) = w.1 k d (omega arith) high is
          by (inr ge) = let z : k ≡ i = omega arith in other d (ap (λ j. (get_or cs j d).id) (sym z) ∙ is)

-- all buckets empty
module _ {V : Type 0} where
  cells_emptied : (xs : List (Place V)) → cells_of (map emptied xs) ≡ cells_of xs
  cells_emptied [] = refl
  cells_emptied (x ∷ xs) = ap (λ l. x.cell ∷ l) (cells_emptied xs)

  heads_emptied : (xs : List (Place V)) (b : ℕ) → get_or (heads (map emptied xs)) b 0 ≡ 0
  heads_emptied [] b = refl
  heads_emptied (x ∷ xs) zero = refl
  heads_emptied (x ∷ xs) (suc b) = heads_emptied xs b

  module _ (xs ys : List (Place V)) (i : ℕ) (end : length xs ≤ i) (inv : ys ≡ map emptied (take i xs) ++ drop i xs) where
    all_emptied : ys ≡ map emptied xs
    all_emptied = let a = take_all i xs end in let b = drop_all i xs end in inv ∙ ap (λ l. map emptied l ++ drop i xs) a ∙ ap (λ l. map emptied xs ++ l) b ∙ append-nil (map emptied xs)

    pub clear_cells : cells_of ys ≡ cells_of xs
    clear_cells = ap cells_of all_emptied ∙ cells_emptied xs

    pub clear_chained : Chained ys 0
    clear_chained = record {
      within = omega arith;
      first = λ b h. let z : get_or (heads ys) b 0 ≡ 0 = ap (λ l. get_or (heads l) b 0) all_emptied ∙ heads_emptied xs b in (omega arith, λ j p q. absurd (omega arith), λ p. absurd (omega arith));
      later = λ k h. absurd (omega arith);
    }

-- what a walk found
module _ {V : Type 0} (xs : List (Place V)) (used : ℕ) (within : used ≤ length xs) where
  pub length_live : length (live used xs) ≡ used
  length_live = let e = length_cells xs in length-take-le used (cells_of xs) (omega arith)

module _ {V : Type 0} (xs : List (Place V)) (used : ℕ) (within : used ≤ length xs) (p : GroupId) where
  pub found_at : (i : ℕ) (s : Place V) → i < used → (get_or xs i s).cell.id ≡ p → (i < length (live used xs)) × ((d : Cell V) → (get_or (live used xs) i d).id ≡ p)
  found_at i s h e = let l = length_live xs used within in (omega arith, λ d. ap (λ c. c.id) (live_at xs used i d s h within) ∙ e)
