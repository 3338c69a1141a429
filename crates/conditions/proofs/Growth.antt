-- How the trees of a condition grow step by step, and that there is room for each step. Assumes nothing.
use Rattle.std.proofs.Common.{◌≡◌, ℕ, ◌+◌, ◌-◌, ◌<◌, ◌≤◌, List, ◌∷◌, length, sym, ap, ◌∙◌, arith}
use Rattle.conditions.specs.Trees.{Tree, compare}
use Rattle.conditions.specs.Postfix.{trees, tree, topmost, grow}
use Rattle.conditions.specs.Promises.{Room, Grown, On}
use Rattle.conditions.specs.declared.condition.Comparison.{Comparison}
use Rattle.conditions.specs.declared.condition.Condition.{Condition}
use Rattle.conditions.specs.declared.condition.Step.{Step}
use Rattle.conditions.specs.declared.condition.Step.TheVariants.{Compare}
use Rattle.conditions.specs.declared.reader.Reader.{Reader}

-- a tree on top
on_top : (c : Condition) (t : Tree) (ts : List Tree) → trees c ≡ t ∷ ts → (trees c ≡ tree c ∷ ts) × (tree c ≡ t)
on_top c t ts e = (e ∙ ap (λ u. u ∷ ts) (sym (ap topmost e)), ap topmost e)

-- a step after another
module _ (c d : Condition) (used : d.used ≡ c.used + 1) where
  -- a comparison that is counted
  pub leaf_room : (r s : Reader) (depth : ℕ) → Room r c depth → r.comparisons < s.comparisons → s.comparisons ≤ 16 → c.used < 159
  leaf_room r s depth h m f = omega (arith, h.room, m, f)

  pub leaf_grown : (r s : Reader) (depth : ℕ) (k : Comparison) → Room r c depth → r.comparisons < s.comparisons → s.comparisons ≤ 16 → trees d ≡ grow (Compare k) (trees c) → Grown (trees c) d s depth × (tree d ≡ compare k)
  leaf_grown r s depth k h m f e =
      let t = on_top d (compare k) (trees c) e in
      (record { one = t.0; room = omega (arith, h.room, m, used, ap length e); few = f }, t.1)

  -- `not`, or a bracket, which a word more closes
  pub around_grown : (x : Step) (make : Tree → Tree) → ((t : Tree) (us : List Tree) → grow x (t ∷ us) ≡ make t ∷ us) → (ts : List Tree) (s u : Reader) (depth : ℕ) → 0 < depth → Grown ts c s (depth - 1) → On s u → trees d ≡ grow x (trees c) → Grown ts d u depth × (tree d ≡ make (tree c))
  around_grown x make is ts s u depth p g o e =
      let e' : trees d ≡ make (tree c) ∷ ts = e ∙ ap (grow x) g.one ∙ is (tree c) ts in
      let t = on_top d (make (tree c)) ts e' in
      (record { one = t.0; room = omega (arith, p, g.room, o.more, used, ap length e', ap length g.one); few = o.few g.few }, t.1)

  -- two terms joined
  pub joint_grown : (x : Step) (make : Tree → Tree → Tree) → ((t u : Tree) (us : List Tree) → grow x (u ∷ t ∷ us) ≡ make t u ∷ us) → (b : Condition) (ts : List Tree) (q s : Reader) (depth : ℕ) → Grown ts b q depth → Grown (trees b) c s depth → trees d ≡ grow x (trees c) → Grown ts d s depth × (tree d ≡ make (tree b) (tree c))
  joint_grown x make is b ts q s depth g h e =
      let two : trees c ≡ tree c ∷ tree b ∷ ts = h.one ∙ ap (λ l. tree c ∷ l) g.one in
      let e' : trees d ≡ make (tree b) (tree c) ∷ ts = e ∙ ap (grow x) two ∙ is (tree b) (tree c) ts in
      let t = on_top d (make (tree b) (tree c)) ts e' in
      (record { one = t.0; room = omega (arith, h.room, used, ap length e', ap length two); few = h.few }, t.1)

-- the same trees below
pub same_grown : (ts us : List Tree) (c : Condition) (s : Reader) (depth : ℕ) → ts ≡ us → Grown ts c s depth → Grown us c s depth
same_grown ts us c s depth e g = record { one = g.one ∙ ap (λ l. tree c ∷ l) e; room = g.room; few = g.few }

-- room for one more step
pub not_room : (ts : List Tree) (c : Condition) (s : Reader) (depth : ℕ) → depth < 8 → Grown ts c s depth → c.used < 159
not_room ts c s depth d g = omega (arith, d, g.room, g.few, ap length g.one)

pub joint_room : (ts us : List Tree) (b c : Condition) (q s : Reader) (depth : ℕ) → depth ≤ 8 → Grown ts b q depth → Grown (trees b) c s depth → c.used < 159
joint_room ts us b c q s depth d g h = omega (arith, d, h.room, h.few, ap length h.one, ap length g.one)

-- room for what comes next
pub next_room : (ts : List Tree) (c : Condition) (s u : Reader) (depth : ℕ) → depth ≤ 8 → Grown ts c s depth → s.comparisons ≤ u.comparisons → Room u c depth
next_room ts c s u depth d g m = record { shallow = d; room = omega (arith, d, g.room, m) }

pub inner_room : (c : Condition) (r s : Reader) (depth : ℕ) → Room r c depth → r.comparisons ≤ s.comparisons → Room s c (depth - 1)
inner_room c r s depth h m = record { shallow = omega (arith, h.shallow); room = omega (arith, h.room, m) }
