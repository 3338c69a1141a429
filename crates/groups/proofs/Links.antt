-- What a write leaves of the chains. Assumes nothing.
use Rattle.std.proofs.Common.{◌≡◌, ℕ, ◌+◌, ◌-◌, ◌<◌, ◌≤◌, ◌⊎◌, List, map, length, get_or, set, sym, ap, ◌∙◌, subst, inl, inr, arith}
use Rattle.std.proofs.lemmas.List.{get_or-map, length-map, length-set, map-set, set-get_or, get_or-set_same, get_or-set_other}
use Rattle.std.proofs.lemmas.Bool.{cases_lt, cases_eq}
use Rattle.cells.specs.declared.cell.Cell.{Cell}
use Rattle.cells.specs.declared.place.Place.{Place}
use Rattle.groups.specs.Chains.{Link, Heads, Nexts, Chained, cells_of, heads, nexts, buckets, bucket_of}
use Rattle.cells.specs.Places.{with_cell, with_next, with_head}

-- a link sees only the buckets below it
pub link_same : (bs cs : List ℕ) (top b k : ℕ) → ((j : ℕ) → j < top → get_or cs j 0 ≡ get_or bs j 0) → Link bs top b k → Link cs top b k
link_same bs cs top b k e l = (l.0, λ j p q h. l.1 j p q (sym (e j q) ∙ h), λ h. e (k - 1) (omega (arith, l.0)) ∙ l.2 h)

-- one more cell in its chain
module _ (bs hs ns : List ℕ) (i b : ℕ) (here : get_or bs i 0 ≡ b) where
  pub heads_more : b < length hs → Heads bs hs i → Heads bs (set hs b (i + 1)) (i + 1)
  heads_more lt f c h = at (cases_eq c b) where
    at : (c ≡ b) ⊎ (c ≡ b → ⊥) → Link bs (i + 1) c (get_or (set hs b (i + 1)) c 0)
    at (inl e) =
        let z : get_or (set hs b (i + 1)) c 0 ≡ i + 1 = ap (λ j. get_or (set hs b (i + 1)) j 0) e ∙ get_or-set_same hs b (i + 1) 0 lt in
        subst (Link bs (i + 1) c) (sym z) (omega arith, λ j p q w. absurd (omega arith), λ w. let y : i + 1 - 1 ≡ i = omega arith in ap (λ j. get_or bs j 0) y ∙ here ∙ sym e)
    at (inr ne) =
        let l = f c (omega (arith, length-set hs b (i + 1))) in
        subst (Link bs (i + 1) c) (sym (get_or-set_other hs b c (i + 1) 0 ne)) (omega (arith, l.0), past l, l.2) where
          past : Link bs i c (get_or hs c 0) → (j : ℕ) → get_or hs c 0 ≤ j → j < i + 1 → get_or bs j 0 ≡ c → ⊥
          past l j p q w = by (cases_lt j i) where
            by : (j < i) ⊎ (i ≤ j) → ⊥
            by (inl lt) = l.1 j p lt w
            by (inr ge) = let y : j ≡ i = omega arith in ne (sym w ∙ ap (λ k. get_or bs k 0) y ∙ here)

  pub nexts_more : i < length ns → b < length hs → Heads bs hs i → Nexts bs ns i → Nexts bs (set ns i (get_or hs b 0)) (i + 1)
  nexts_more lt lb f g k h = at (cases_eq k i) where
    at : (k ≡ i) ⊎ (k ≡ i → ⊥) → Link bs k (get_or bs k 0) (get_or (set ns i (get_or hs b 0)) k 0)
    at (inl e) =
        subst (λ k. Link bs k (get_or bs k 0) (get_or (set ns i (get_or hs b 0)) k 0)) (sym e)
        (subst (Link bs i (get_or bs i 0)) (sym (get_or-set_same ns i (get_or hs b 0) 0 lt)) (subst (λ c. Link bs i c (get_or hs b 0)) (sym here) (f b lb)))
    at (inr ne) = subst (Link bs k (get_or bs k 0)) (sym (get_or-set_other ns i k (get_or hs b 0) 0 ne)) (g k (omega (arith, ne)))

module _ {V : Type 0} where
  -- other cells, of the same buckets as far as they live
  pub chained_cells : (xs ys : List (Place V)) (used : ℕ) → length ys ≡ length xs → heads ys ≡ heads xs → nexts ys ≡ nexts xs → ((j : ℕ) → j < used → get_or (buckets (length xs) (cells_of ys)) j 0 ≡ get_or (buckets (length xs) (cells_of xs)) j 0) → Chained xs used → Chained ys used
  chained_cells xs ys used len hs ns e c = record { within = omega (arith, c.within); first = first'; later = later' } where
    same : (j : ℕ) → j < used → get_or (buckets (length ys) (cells_of ys)) j 0 ≡ get_or (buckets (length xs) (cells_of xs)) j 0
    same j h = ap (λ n. get_or (buckets n (cells_of ys)) j 0) len ∙ e j h

    first' : Heads (buckets (length ys) (cells_of ys)) (heads ys) used
    first' b h = subst (λ l. Link (buckets (length ys) (cells_of ys)) used b (get_or l b 0)) (sym hs) (link_same (buckets (length xs) (cells_of xs)) (buckets (length ys) (cells_of ys)) used b (get_or (heads xs) b 0) same (c.first b (omega (arith, ap length hs))))

    later' : Nexts (buckets (length ys) (cells_of ys)) (nexts ys) used
    later' k h =
        subst (λ l. Link (buckets (length ys) (cells_of ys)) k (get_or (buckets (length ys) (cells_of ys)) k 0) (get_or l k 0)) (sym ns)
        (subst (λ b. Link (buckets (length ys) (cells_of ys)) k b (get_or (nexts xs) k 0)) (sym (same k h))
        (link_same (buckets (length xs) (cells_of xs)) (buckets (length ys) (cells_of ys)) k _ (get_or (nexts xs) k 0) (λ j l. same j (omega arith)) (c.later k h)))

  -- a write that leaves what f reads
  keep : {Y : Type 0} (f : Place V → Y) (l : List (Place V)) (j : ℕ) (r d : Place V) → j < length l → f r ≡ f (get_or l j d) → map f (set l j r) ≡ map f l
  keep f l j r d h e = map-set f l j r ∙ ap (set (map f l) j) (e ∙ sym (get_or-map f l j d (f r) h)) ∙ set-get_or (map f l) j (f r)

  -- one place written: s stood there, r stands there now
  module _ (xs : List (Place V)) (i : ℕ) (s r : Place V) (lt : i < length xs) (is : s ≡ get_or xs i s) where
    pub put_next : (older : ℕ) → r ≡ with_next s older → (cells_of (set xs i r) ≡ cells_of xs) × (heads (set xs i r) ≡ heads xs) × (nexts (set xs i r) ≡ set (nexts xs) i older)
    put_next older e = (
      keep (λ s. s.cell) xs i r s lt (ap (λ p. p.cell) e ∙ ap (λ p. p.cell) is),
      keep (λ s. s.head) xs i r s lt (ap (λ p. p.head) e ∙ ap (λ p. p.head) is),
      map-set (λ s. s.next) xs i r ∙ ap (λ p. set (nexts xs) i p.next) e,
    )

    pub put_head : (newest : ℕ) → r ≡ with_head s newest → (cells_of (set xs i r) ≡ cells_of xs) × (heads (set xs i r) ≡ set (heads xs) i newest) × (nexts (set xs i r) ≡ nexts xs)
    put_head newest e = (
      keep (λ s. s.cell) xs i r s lt (ap (λ p. p.cell) e ∙ ap (λ p. p.cell) is),
      map-set (λ s. s.head) xs i r ∙ ap (λ p. set (heads xs) i p.head) e,
      keep (λ s. s.next) xs i r s lt (ap (λ p. p.next) e ∙ ap (λ p. p.next) is),
    )

    pub put_cell : (c : Cell V) → r ≡ with_cell s c → (cells_of (set xs i r) ≡ set (cells_of xs) i c) × (heads (set xs i r) ≡ heads xs) × (nexts (set xs i r) ≡ nexts xs)
    put_cell c e = (
      map-set (λ s. s.cell) xs i r ∙ ap (λ p. set (cells_of xs) i p.cell) e,
      keep (λ s. s.head) xs i r s lt (ap (λ p. p.head) e ∙ ap (λ p. p.head) is),
      keep (λ s. s.next) xs i r s lt (ap (λ p. p.next) e ∙ ap (λ p. p.next) is),
    )

  length_of : (xs ys : List (Place V)) → heads ys ≡ heads xs → length ys ≡ length xs
  length_of xs ys e = sym (length-map ys (λ s. s.head)) ∙ ap length e ∙ length-map xs (λ s. s.head)

  -- one cell written
  module _ (xs ys : List (Place V)) (i : ℕ) (c : Cell V) (cs : cells_of ys ≡ set (cells_of xs) i c) (hs : heads ys ≡ heads xs) (ns : nexts ys ≡ nexts xs) where
    wrote_chained : (used : ℕ) → ((j : ℕ) → j < used → get_or (set (buckets (length xs) (cells_of xs)) i (bucket_of c.id (length xs))) j 0 ≡ get_or (buckets (length xs) (cells_of xs)) j 0) → Chained xs used → Chained ys used
    wrote_chained used same = chained_cells xs ys used (length_of xs ys hs) hs ns (λ j h. ap (λ l. get_or l j 0) (ap (buckets (length xs)) cs ∙ map-set (λ c. bucket_of c.id (length xs)) (cells_of xs) i c) ∙ same j h)

    -- past the live ones
    pub wrote_past : (used : ℕ) → used ≤ i → Chained xs used → Chained ys used
    wrote_past used le = wrote_chained used (λ j h. get_or-set_other _ i j _ 0 (λ q. omega (arith, q)))

    -- of the same group
    pub wrote_same : (used : ℕ) → i < length xs → c.id ≡ (get_or (cells_of xs) i c).id → Chained xs used → Chained ys used
    wrote_same used lt q =
        let bs = buckets (length xs) (cells_of xs) in
        let here : bucket_of c.id (length xs) ≡ get_or bs i 0 = ap (λ p. bucket_of p (length xs)) q ∙ sym (get_or-map (λ c. bucket_of c.id (length xs)) (cells_of xs) i c 0 (omega (arith, length-map xs (λ s. s.cell)))) in
        wrote_chained used (λ j h. ap (λ l. get_or l j 0) (ap (set bs i) here ∙ set-get_or bs i 0))

  -- the two writes of linking: the cell's link first, then its bucket's head
  module _ (xs ys zs : List (Place V)) (i b older : ℕ) (lt : i < length xs) (lb : b < length xs) (o : older ≡ get_or (heads xs) b 0) (c₁ : cells_of ys ≡ cells_of xs) (h₁ : heads ys ≡ heads xs) (n₁ : nexts ys ≡ set (nexts xs) i older) (c₂ : cells_of zs ≡ cells_of ys) (h₂ : heads zs ≡ set (heads ys) b (i + 1)) (n₂ : nexts zs ≡ nexts ys) where
    pub linked : get_or (buckets (length xs) (cells_of xs)) i 0 ≡ b → Chained xs i → Chained zs (i + 1)
    linked here c =
        let bs = buckets (length xs) (cells_of xs) in
        let lh : length (heads xs) ≡ length xs = length-map xs (λ s. s.head) in
        let ln : length (nexts xs) ≡ length xs = length-map xs (λ s. s.next) in
        let hs : heads zs ≡ set (heads xs) b (i + 1) = h₂ ∙ ap (λ l. set l b (i + 1)) h₁ in
        let ns : nexts zs ≡ set (nexts xs) i (get_or (heads xs) b 0) = n₂ ∙ n₁ ∙ ap (set (nexts xs) i) o in
        let n : length zs ≡ length xs = omega (arith, length-map zs (λ s. s.head), ap length hs, length-set (heads xs) b (i + 1)) in
        let same : buckets (length zs) (cells_of zs) ≡ bs = ap (λ k. buckets k (cells_of zs)) n ∙ ap (buckets (length xs)) (c₂ ∙ c₁) in
        record {
          within = omega arith;
          first = subst (λ l. Heads l (heads zs) (i + 1)) (sym same) (subst (λ l. Heads bs l (i + 1)) (sym hs) (heads_more bs (heads xs) (nexts xs) i b here (omega arith) c.first));
          later = subst (λ l. Nexts l (nexts zs) (i + 1)) (sym same) (subst (λ l. Nexts bs l (i + 1)) (sym ns) (nexts_more bs (heads xs) (nexts xs) i b here (omega arith) (omega arith) c.first c.later));
        }
