-- The row fields that are noted are those that the accepted condition reads. Assumes nothing.
use Rattle.std.proofs.Common.{◌≡◌, ℕ, zero, suc, ◌+◌, ◌<◌, ◌≤◌, Bool, true, false, cond, ◌||◌, eqb, ltb, ◌⊎◌, List, [], ◌∷◌, length, get_or, set, Some, None, Ok, Option, sym, refl, ap, ◌∙◌, subst, inl, inr, arith, length-set}
use Rattle.std.proofs.lemmas.Bool.{true≢false, lt-ltb, le-ltb, ltb-true, ltb-false, cases_eq, eq-eqb, ne_eqb, cond-true, cond-false}
use Rattle.std.proofs.lemmas.List.{get_or-set_same, get_or-set_other}
use Rattle.words.specs.Lexemes.{Lexeme}
use Rattle.words.specs.Spots.{Spot}
use Rattle.conditions.specs.Trees.{Tree, compare, denial, bracketed, both, either, reads, operand_reads}
use Rattle.conditions.specs.Keys.{marked}
use Rattle.conditions.specs.Machine.{step, Seen, Names, Prefix, deny, along, Level, Place, Side, left, right, State, term, operand, field, by, compared, after, settle, joined, arrived, follows, accepted}
use Rattle.conditions.specs.Promises.{opened, unread, condition_of}
use Rattle.conditions.proofs.Spreading.{all_same}
use Rattle.conditions.proofs.Keeping.{step_kept, in_before, in_ors, in_outer, in_place, joined_holds, Moved, Keeps, noted_one, accepted_kept}
use Rattle.conditions.specs.declared.reader.Joining.{Joining}
use Rattle.conditions.specs.declared.reader.Joining.TheVariants.{And, Or, Close, End}
use Rattle.conditions.specs.declared.condition.Shift.{Shift}
use Rattle.conditions.specs.declared.condition.Shift.TheVariants.{Bare}
use Rattle.conditions.specs.declared.condition.Operand.{Operand}
use Rattle.conditions.specs.declared.condition.Operand.TheVariants.{Number, Row, Base}
use Rattle.conditions.specs.declared.condition.Found.TheVariants.{RowField}

-- how often an operand reads the row field f
abbrev pub times_in : ℕ → Operand → ℕ
times_in f (Number z) = 0
times_in f (Row g s) = cond (eqb g f) 1 0
times_in f (Base g s) = 0

-- how often a condition does
abbrev pub times : ℕ → Tree → ℕ
times f (compare k) = times_in f k.left + times_in f k.right
times f (denial t) = times f t
times f (bracketed t) = times f t
times f (both t u) = times f t + times f u
times f (either t u) = times f t + times f u

-- it reads the field exactly when it does so at least once
module _ (f : ℕ) where
  in_times : (o : Operand) → ltb 0 (times_in f o) ≡ operand_reads f o
  in_times (Number z) = refl
  in_times (Row g s) = go (eqb g f)
    where
      go : (b : Bool) → ltb 0 (cond b 1 0) ≡ b
      go true = refl
      go false = refl
  in_times (Base g s) = refl

  either_times : (m n : ℕ) (a b : Bool) → ltb 0 m ≡ a → ltb 0 n ≡ b → ltb 0 (m + n) ≡ (a || b)
  either_times m n true b p q = lt-ltb 0 (m + n) (omega (arith, ltb-true 0 m p))
  either_times m n false true p q = lt-ltb 0 (m + n) (omega (arith, ltb-true 0 n q))
  either_times m n false false p q = le-ltb 0 (m + n) (omega (arith, ltb-false 0 m p, ltb-false 0 n q))

  all_times : (t : Tree) → ltb 0 (times f t) ≡ reads f t
  all_times (compare k) = either_times (times_in f k.left) (times_in f k.right) _ _ (in_times k.left) (in_times k.right)
  all_times (denial t) = all_times t
  all_times (bracketed t) = all_times t
  all_times (both t u) = either_times (times f t) (times f u) _ _ (all_times t) (all_times u)
  all_times (either t u) = either_times (times f t) (times f u) _ _ (all_times t) (all_times u)

-- one field more is marked
marked_more : (fs : List Bool) (i : ℕ) → i < length fs → get_or fs i false ≡ false → marked (set fs i true) ≡ marked fs + 1
marked_more [] i h e = absurd (omega arith)
marked_more (true ∷ fs) zero h e = absurd (true≢false e)
marked_more (false ∷ fs) zero h e = refl
marked_more (true ∷ fs) (suc i) h e = ap (λ n. n + 1) (marked_more fs i (omega arith) e)
marked_more (false ∷ fs) (suc i) h e = marked_more fs i (omega arith) e

-- a field is noted exactly when it is read
pub record Told (f n : ℕ) (σ : Seen) : Type 0 where
  pub noted_read : get_or σ.fields f false ≡ true → 0 < n
  pub read_noted : 0 < n → get_or σ.fields f false ≡ true
  pub eight : length σ.fields ≡ 8
  pub few : σ.different ≤ 4
  pub marks : marked σ.fields ≡ σ.different

-- how often a place reads the field f
module _ (f : ℕ) where
  abbrev pub ws : Side → ℕ
  ws left = 0
  ws (right l s) = times_in f l

  abbrev pub weight : State → ℕ
  weight (term p) = in_place (times f) p
  weight (operand p l s) = in_place (times f) p + times_in f l
  weight (field p side mk) = in_place (times f) p + ws side + times_in f (mk Bare)
  weight (by p side mk b) = in_place (times f) p + ws side + times_in f (mk Bare)
  weight (compared p o) = in_place (times f) p + times_in f o
  weight (after o t ls) = in_ors (times f) o + times f t + in_outer (times f) ls

  -- what is added does not change the field
  abbrev pub Steady : State → Type 0
  Steady (field p side mk) = (z : Shift) → times_in f (mk z) ≡ times_in f (mk Bare)
  Steady (by p side mk b) = (z : Shift) → times_in f (mk z) ≡ times_in f (mk Bare)
  Steady (term p) = Unit {0}
  Steady (operand p l s) = Unit {0}
  Steady (compared p o) = Unit {0}
  Steady (after o t ls) = Unit {0}

  abbrev pub Kept : State → Seen → Type 0
  Kept st σ = Told f (weight st) σ × Steady st

  -- what is noted is what the condition reads
  abbrev pub Noted : Tree → Seen → Type 0
  Noted t σ = Told f (times f t) σ

  same : (m n : ℕ) (σ : Seen) → m ≡ n → Told f m σ → Told f n σ
  same m n σ e k = subst (λ x. Told f x σ) e k

  settle_weight : (ps : List Prefix) (t : Tree) (o : Option Tree) (ls : List Level) → weight (settle ps t o ls) ≡ in_before (times f) ps + in_ors (times f) o + in_outer (times f) ls + times f t
  settle_weight [] t o ls = omega arith
  settle_weight (deny ∷ ps) t o ls = settle_weight ps (denial t) o ls
  settle_weight (along v ∷ ps) t o ls = omega (arith, settle_weight ps (both v t) o ls)

  settle_steady : (ps : List Prefix) (t : Tree) (o : Option Tree) (ls : List Level) → Steady (settle ps t o ls)
  settle_steady [] t o ls = tt
  settle_steady (deny ∷ ps) t o ls = settle_steady ps (denial t) o ls
  settle_steady (along v ∷ ps) t o ls = settle_steady ps (both v t) o ls

  arrived_kept : (σ : Seen) (p : Place) (side : Side) (o : Operand) → Told f (in_place (times f) p + ws side + times_in f o) σ → Kept (arrived p side o) σ
  arrived_kept σ p left o k = (same _ _ σ (omega arith) k, tt)
  arrived_kept σ p (right l s) o k = (same _ _ σ (omega (arith, settle_weight p.here.before (compare (record { left = l; sign = s; right = o })) p.here.ors p.outer)) k, settle_steady p.here.before (compare (record { left = l; sign = s; right = o })) p.here.ors p.outer)

  -- a field more is noted
  hit : (σ τ : Seen) (p : Place) (side : Side) (i : ℕ) → Told f (in_place (times f) p + ws side) σ → length τ.fields ≡ 8 → τ.different ≤ 4 → marked τ.fields ≡ τ.different → get_or τ.fields i false ≡ true → ((i ≡ f → ⊥) → get_or τ.fields f false ≡ get_or σ.fields f false) → Told f (in_place (times f) p + ws side + cond (eqb i f) 1 0) τ
  hit σ τ p side i k l x y h o = split (cases_eq i f)
    where
      split : (i ≡ f) ⊎ (i ≡ f → ⊥) → Told f (in_place (times f) p + ws side + cond (eqb i f) 1 0) τ
      split (inl e) =
          let one : ◌≡◌ {A = ℕ} (cond (eqb i f) 1 0) 1 = cond-true (eqb i f) 1 0 (eq-eqb i f e) in
          record { noted_read = λ _. omega (arith, one); read_noted = λ _. ap (λ j. get_or τ.fields j false) (sym e) ∙ h; eight = l; few = x; marks = y }
      split (inr n) =
          let none : ◌≡◌ {A = ℕ} (cond (eqb i f) 1 0) 0 = cond-false (eqb i f) 1 0 (ne_eqb i f n) in
          record { noted_read = λ z. omega (arith, none, k.noted_read (sym (o n) ∙ z)); read_noted = λ z. o n ∙ k.read_noted (omega (arith, none, z)); eight = l; few = x; marks = y }

  follows_kept : (σ : Seen) (o : Option Tree) (t : Tree) (ls : List Level) (j : Option Joining) → Told f (in_ors (times f) o + times f t + in_outer (times f) ls) σ → Moved Kept Noted (follows σ o t ls j)
  follows_kept σ o t ls (Some And) k = (same _ _ σ (omega arith) k, tt)
  follows_kept σ o t ls (Some Or) k = (same _ _ σ (omega (arith, joined_holds (times f) (λ u v. refl) o t)) k, tt)
  follows_kept σ o t [] (Some Close) k = tt
  follows_kept σ o t (l ∷ ls) (Some Close) k = (same _ _ σ (omega (arith, joined_holds (times f) (λ u v. refl) o t, settle_weight l.before (bracketed (joined o t)) l.ors ls)) k, settle_steady l.before (bracketed (joined o t)) l.ors ls)
  follows_kept σ o t [] (Some End) k = same _ _ σ (omega (arith, joined_holds (times f) (λ u v. refl) o t)) k
  follows_kept σ o t (l ∷ ls) (Some End) k = tt
  follows_kept σ o t ls None k = tt

  -- every step keeps it
  keeps : (e : Names) → ((w : List ℕ) (i : ℕ) → e w ≡ Ok (RowField i) → i < 8) → Keeps e (λ i. i < 8) (λ p side σ. Told f (in_place (times f) p + ws side) σ) Kept Noted
  keeps e q = record {
    near = q;
    denies = λ σ p k h. k;
    enters = λ σ p k h. (same _ _ σ (omega arith) k.0, tt);
    counts = λ σ p k h. record { noted_read = λ y. omega (arith, k.0.noted_read y); read_noted = λ y. k.0.read_noted (omega (arith, y)); eight = k.0.eight; few = k.0.few; marks = k.0.marks };
    begins = λ σ p l s k. k.0;
    value = λ σ p side z k. arrived_kept σ p side (Number z) (same _ _ σ (omega arith) k);
    base = λ σ p side i k. (same _ _ σ (omega arith) k, λ z. refl);
    again = λ σ p side i k r. (hit σ σ p side i k k.eight k.few k.marks r (λ _. refl), λ z. refl);
    fresh = λ σ p side i k n r l.
        let more : i < length σ.fields = omega (arith, n, k.eight) in
        (hit σ (noted_one σ i) p side i k (length-set σ.fields i true ∙ k.eight) (omega (arith, l)) (marked_more σ.fields i more r ∙ ap (λ m. m + 1) k.marks) (get_or-set_same σ.fields i true false more) (λ m. get_or-set_other σ.fields i f true false (λ e. m (sym e))), λ z. refl);
    bare = λ σ p side mk k. arrived_kept σ p side _ k.0;
    adds = λ σ p side mk b k. k;
    moved = λ σ p side mk b z k. arrived_kept σ p side _ (same _ _ σ (ap (λ y. in_place (times f) p + ws side + y) (sym (k.1 z))) k.0);
    signs = λ σ p o s k. k;
    joins = λ σ o t ls j k. follows_kept σ o t ls j k.0;
  }

  pub step_keeps : (e : Names) → ((w : List ℕ) (i : ℕ) → e w ≡ Ok (RowField i) → i < 8) → (σ : Seen) (st : State) (x : Lexeme) → Kept st σ → Moved Kept Noted (step e σ st x)
  step_keeps e q = step_kept e (λ i. i < 8) (λ p side σ. Told f (in_place (times f) p + ws side) σ) Kept Noted (keeps e q)

  -- at first
  pub at_first : Kept (term (opened None [])) unread
  at_first = (record { noted_read = λ y. absurd (true≢false (sym y ∙ all_same 8 f false)); read_noted = λ y. absurd (omega (arith, y)); eight = refl; few = omega arith; marks = refl }, tt)

-- what is noted, for every field
pub noted_fields : (t : Tree) (σ : Seen) → ((f : ℕ) → Noted f t σ) → (length σ.fields ≡ 8) × ((f : ℕ) → get_or σ.fields f false ≡ reads f t) × (marked σ.fields ≤ 4)
noted_fields t σ all = ((all 0).eight, λ f. told (get_or σ.fields f false) (times f t) (all f).noted_read (all f).read_noted ∙ all_times f t, omega (arith, (all 0).few, (all 0).marks))
  where
    told : (b : Bool) (n : ℕ) → (b ≡ true → 0 < n) → (0 < n → b ≡ true) → b ≡ ltb 0 n
    told true n p q = sym (lt-ltb 0 n (p refl))
    told false zero p q = refl
    told false (suc n) p q = absurd (true≢false (sym (q (omega arith))))

pub notes_fields : (e : Names) → ((w : List ℕ) (i : ℕ) → e w ≡ Ok (RowField i) → i < 8) → (from : Spot) (xs : List Lexeme) (t : Tree) (σ : Seen) (on : Spot) (ys : List Lexeme) → condition_of e from xs ≡ accepted t σ on ys → (length σ.fields ≡ 8) × ((f : ℕ) → get_or σ.fields f false ≡ reads f t) × (marked σ.fields ≤ 4)
notes_fields e q from xs t σ on ys h = noted_fields t σ (λ f. accepted_kept e (λ i. i < 8) (λ p side σ. Told f (in_place (times f) p + ws f side) σ) (Kept f) (Noted f) (keeps f e q) from xs t σ on ys (at_first f) h)
