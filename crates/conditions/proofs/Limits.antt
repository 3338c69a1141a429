-- What is accepted keeps the limits. Assumes nothing.
use Rattle.std.proofs.Common.{◌≡◌, ℕ, ◌+◌, ◌-◌, ◌≤◌, List, [], ◌∷◌, Some, None, Option, refl, arith}
use Rattle.words.specs.Lexemes.{Lexeme}
use Rattle.words.specs.Spots.{Spot}
use Rattle.conditions.specs.Trees.{Tree, compare, denial, bracketed, both, Within, comparisons}
use Rattle.conditions.specs.Machine.{step, Seen, Names, Prefix, deny, along, Level, Place, denials, brackets, deep, Side, left, right, State, term, operand, field, by, compared, after, settle, joined, arrived, follows, accepted}
use Rattle.conditions.specs.Promises.{opened, unread, condition_of}
use Rattle.conditions.proofs.Keeping.{step_kept, in_before, in_ors, in_outer, in_place, joined_holds, Moved, Keeps, accepted_kept}
use Rattle.conditions.specs.declared.reader.Joining.{Joining}
use Rattle.conditions.specs.declared.reader.Joining.TheVariants.{And, Or, Close, End}
use Rattle.conditions.specs.declared.condition.Shift.TheVariants.{Bare}
use Rattle.conditions.specs.declared.condition.Operand.{Operand}
use Rattle.conditions.specs.declared.condition.Operand.TheVariants.{Number}

-- a tree may stand at a depth
abbrev pub Fits : ℕ → Tree → Type 0
Fits b t = (d : ℕ) → b + d ≡ 8 → Within d t

abbrev pub Before : List Prefix → ℕ → Type 0
Before [] b = Unit {0}
Before (deny ∷ ps) b = Before ps b
Before (along u ∷ ps) b = Fits (denials ps + b) u × Before ps b

abbrev pub Ors : Option Tree → ℕ → Type 0
Ors None b = Unit {0}
Ors (Some u) b = Fits b u

abbrev pub Outer : List Level → Type 0
Outer [] = Unit {0}
Outer (l ∷ ls) = Before l.before (brackets ls) × Ors l.ors (brackets ls) × Outer ls

pub record Sound (p : Place) (more : ℕ) (σ : Seen) : Type 0 where
  pub before : Before p.here.before (brackets p.outer)
  pub ors : Ors p.here.ors (brackets p.outer)
  pub outer : Outer p.outer
  pub low : deep p ≤ 8
  pub few : in_place comparisons p + more ≤ σ.comparisons
  pub most : σ.comparisons ≤ 16

pub record Stands (o : Option Tree) (t : Tree) (ls : List Level) (σ : Seen) : Type 0 where
  pub ors : Ors o (brackets ls)
  pub this : Fits (brackets ls) t
  pub outer : Outer ls
  pub low : brackets ls ≤ 8
  pub few : in_ors comparisons o + comparisons t + in_outer comparisons ls ≤ σ.comparisons
  pub most : σ.comparisons ≤ 16

abbrev pub Kept : State → Seen → Type 0
Kept (term p) σ = Sound p 0 σ
Kept (operand p l s) σ = Sound p 1 σ
Kept (field p side mk) σ = Sound p 1 σ
Kept (by p side mk b) σ = Sound p 1 σ
Kept (compared p o) σ = Sound p 1 σ
Kept (after o t ls) σ = Stands o t ls σ

-- a condition within the limits
abbrev pub WithinLimits : Tree → Seen → Type 0
WithinLimits t σ = Within 8 t × (comparisons t ≤ 16)

settle_kept : (σ : Seen) (ps : List Prefix) (t : Tree) (o : Option Tree) (ls : List Level) → Before ps (brackets ls) → Fits (denials ps + brackets ls) t → Ors o (brackets ls) → Outer ls → denials ps + brackets ls ≤ 8 → in_before comparisons ps + comparisons t + in_ors comparisons o + in_outer comparisons ls ≤ σ.comparisons → σ.comparisons ≤ 16 → Kept (settle ps t o ls) σ
settle_kept σ [] t o ls b f r u l w m = record { ors = r; this = λ d e. f d (omega (arith, e)); outer = u; low = omega (arith, l); few = omega (arith, w); most = m }
settle_kept σ (deny ∷ ps) t o ls b f r u l w m =
    settle_kept σ ps (denial t) o ls b (λ d e. (d - 1, omega (arith, e, l), f (d - 1) (omega (arith, e, l)))) r u (omega (arith, l)) w m
settle_kept σ (along v ∷ ps) t o ls b f r u l w m = settle_kept σ ps (both v t) o ls b.1 (λ d e. (b.0 d e, f d e)) r u l (omega (arith, w)) m

arrived_kept : (σ : Seen) (p : Place) (side : Side) (o : Operand) → Sound p 1 σ → Kept (arrived p side o) σ
arrived_kept σ p left o k = k
arrived_kept σ p (right l s) o k = settle_kept σ p.here.before (compare (record { left = l; sign = s; right = o })) p.here.ors p.outer k.before (λ d e. tt) k.ors k.outer k.low (omega (arith, k.few)) k.most

joined_fits : (b : ℕ) (o : Option Tree) (t : Tree) → Ors o b → Fits b t → Fits b (joined o t)
joined_fits b None t r f = f
joined_fits b (Some u) t r f = λ d e. (r d e, f d e)

follows_kept : (σ : Seen) (o : Option Tree) (t : Tree) (ls : List Level) (j : Option Joining) → Stands o t ls σ → Moved Kept WithinLimits (follows σ o t ls j)
follows_kept σ o t ls (Some And) k = record { before = (λ d e. k.this d (omega (arith, e)), tt); ors = k.ors; outer = k.outer; low = omega (arith, k.low); few = omega (arith, k.few); most = k.most }
follows_kept σ o t ls (Some Or) k = record { before = tt; ors = joined_fits (brackets ls) o t k.ors k.this; outer = k.outer; low = omega (arith, k.low); few = omega (arith, k.few, joined_holds comparisons (λ u v. refl) o t); most = k.most }
follows_kept σ o t [] (Some Close) k = tt
follows_kept σ o t (l ∷ ls) (Some Close) k =
    settle_kept σ l.before (bracketed (joined o t)) l.ors ls k.outer.0
    (λ d e. (d - 1, omega (arith, e, k.low), joined_fits (brackets (l ∷ ls)) o t k.ors k.this (d - 1) (omega (arith, e, k.low))))
    k.outer.1 k.outer.2 (omega (arith, k.low)) (omega (arith, k.few, joined_holds comparisons (λ u v. refl) o t)) k.most
follows_kept σ o t [] (Some End) k = (joined_fits 0 o t k.ors k.this 8 refl, omega (arith, k.few, k.most, joined_holds comparisons (λ u v. refl) o t))
follows_kept σ o t (l ∷ ls) (Some End) k = tt
follows_kept σ o t ls None k = tt

-- every step keeps the limits
keeps : (e : Names) → Keeps e (λ i. Unit {0}) (λ p side σ. Sound p 1 σ) Kept WithinLimits
keeps e = record {
  near = λ w i h. tt;
  denies = λ σ p k h. record { before = k.before; ors = k.ors; outer = k.outer; low = omega (arith, h); few = k.few; most = k.most };
  enters = λ σ p k h. record { before = tt; ors = tt; outer = (k.before, k.ors, k.outer); low = omega (arith, h); few = omega (arith, k.few); most = k.most };
  counts = λ σ p k h. record { before = k.before; ors = k.ors; outer = k.outer; low = k.low; few = omega (arith, k.few); most = omega (arith, h) };
  begins = λ σ p l s k. k;
  value = λ σ p side z k. arrived_kept σ p side (Number z) k;
  base = λ σ p side i k. k;
  again = λ σ p side i k r. k;
  fresh = λ σ p side i k n r h. record { before = k.before; ors = k.ors; outer = k.outer; low = k.low; few = k.few; most = k.most };
  bare = λ σ p side mk k. arrived_kept σ p side (mk Bare) k;
  adds = λ σ p side mk b k. k;
  moved = λ σ p side mk b z k. arrived_kept σ p side (mk z) k;
  signs = λ σ p o s k. k;
  joins = follows_kept;
}

pub step_keeps : (e : Names) (σ : Seen) (st : State) (x : Lexeme) → Kept st σ → Moved Kept WithinLimits (step e σ st x)
step_keeps e = step_kept e (λ i. Unit {0}) (λ p side σ. Sound p 1 σ) Kept WithinLimits (keeps e)

-- at first
pub at_first : Kept (term (opened None [])) unread
at_first = record { before = tt; ors = tt; outer = tt; low = omega arith; few = omega arith; most = omega arith }

pub keeps_limits : (e : Names) (at : Spot) (xs : List Lexeme) (t : Tree) (σ : Seen) (at' : Spot) (ys : List Lexeme) → condition_of e at xs ≡ accepted t σ at' ys → Within 8 t × (comparisons t ≤ 16)
keeps_limits e at xs t σ at' ys = accepted_kept e (λ i. Unit {0}) (λ p side σ. Sound p 1 σ) Kept WithinLimits (keeps e) at xs t σ at' ys at_first
