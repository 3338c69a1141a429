-- What each word of a condition keeps, all its words keep. Assumes nothing.
use Rattle.std.proofs.Common.{◌≡◌, ℕ, ◌+◌, ◌<◌, Bool, true, false, cond, ltb, List, [], ◌∷◌, get_or, set, ℤ, Some, None, Ok, Err, Option, Result, refl, subst, arith}
use Rattle.std.proofs.lemmas.Bool.{ltb-true}
use Rattle.words.specs.Lexemes.{Lexeme, name, reserved, number, sign, bracket, other, feed, cut}
use Rattle.words.specs.Spots.{Spot, past}
use Rattle.words.specs.declared.signs.Sign.{Sign}
use Rattle.conditions.specs.Trees.{Tree, either}
use Rattle.conditions.specs.Machine.{Fault, form, limit, refusal, Seen, Names, Prefix, deny, along, Level, Place, deep, Side, left, right, State, term, operand, field, by, compared, after, Move, go, stop, done, joined, arrived, onward, step, run, found, begin, first, opens, follows, deeper, denied, inside, note, at_sign, at_by, at_field, shifted, shift_of, opening, joining, Outcome, refused, accepted}
use Rattle.conditions.specs.Promises.{opened, unread, condition_of}
use Rattle.conditions.specs.declared.reader.Opening.{Opening}
use Rattle.conditions.specs.declared.reader.Opening.TheVariants.{Denial, Bracket, Plain}
use Rattle.conditions.specs.declared.reader.Joining.{Joining}
use Rattle.conditions.specs.declared.condition.Shift.{Shift}
use Rattle.conditions.specs.declared.condition.Shift.TheVariants.{Bare}
use Rattle.conditions.specs.declared.condition.Operand.{Operand}
use Rattle.conditions.specs.declared.condition.Operand.TheVariants.{Number, Row, Base}
use Rattle.conditions.specs.declared.condition.Found.{Found}
use Rattle.conditions.specs.declared.condition.Found.TheVariants.{Value, RowField, BaseField}
use Rattle.conditions.proofs.ByKind.{by_kind}

-- what holds after a move: `Kept` of the state that it leads on to, `End` of the condition that it ends
abbrev pub Moved : (State → Seen → Type 0) → (Tree → Seen → Type 0) → Move → Type 0
Moved Kept End (go st σ) = Kept st σ
Moved Kept End (stop f) = Unit {0}
Moved Kept End (done t σ) = End t σ

-- what holds of the outcome
abbrev pub Ended : (Tree → Seen → Type 0) → Outcome → Type 0
Ended End (accepted t σ at xs) = End t σ
Ended End (refused f) = Unit {0}

-- one comparison more
abbrev pub counted_one : Seen → Seen
counted_one σ = record { comparisons = σ.comparisons + 1; different = σ.different; fields = σ.fields }

-- one row field more
abbrev pub noted_one : Seen → ℕ → Seen
noted_one σ i = record { comparisons = σ.comparisons; different = σ.different + 1; fields = set σ.fields i true }

-- every step keeps it: `Near` holds of the row fields that names give, `Begun` where an operand begins
pub record Keeps (e : Names) (Near : ℕ → Type 0) (Begun : Place → Side → Seen → Type 0) (Kept : State → Seen → Type 0) (End : Tree → Seen → Type 0) : Type 0 where
  pub near : (w : List ℕ) (i : ℕ) → e w ≡ Ok (RowField i) → Near i
  pub denies : (σ : Seen) (p : Place) → Kept (term p) σ → deep p < 8 → Kept (term (denied p)) σ
  pub enters : (σ : Seen) (p : Place) → Kept (term p) σ → deep p < 8 → Kept (term (inside p)) σ
  pub counts : (σ : Seen) (p : Place) → Kept (term p) σ → σ.comparisons < 16 → Begun p left (counted_one σ)
  pub begins : (σ : Seen) (p : Place) (l : Operand) (s : Sign) → Kept (operand p l s) σ → Begun p (right l s) σ
  pub value : (σ : Seen) (p : Place) (side : Side) (z : ℤ) → Begun p side σ → Kept (arrived p side (Number z)) σ
  pub base : (σ : Seen) (p : Place) (side : Side) (i : ℕ) → Begun p side σ → Kept (field p side (Base i)) σ
  pub again : (σ : Seen) (p : Place) (side : Side) (i : ℕ) → Begun p side σ → get_or σ.fields i false ≡ true → Kept (field p side (Row i)) σ
  pub fresh : (σ : Seen) (p : Place) (side : Side) (i : ℕ) → Begun p side σ → Near i → get_or σ.fields i false ≡ false → σ.different < 4 → Kept (field p side (Row i)) (noted_one σ i)
  pub bare : (σ : Seen) (p : Place) (side : Side) (mk : Shift → Operand) → Kept (field p side mk) σ → Kept (arrived p side (mk Bare)) σ
  pub adds : (σ : Seen) (p : Place) (side : Side) (mk : Shift → Operand) (b : Bool) → Kept (field p side mk) σ → Kept (by p side mk b) σ
  pub moved : (σ : Seen) (p : Place) (side : Side) (mk : Shift → Operand) (b : Bool) (z : Shift) → Kept (by p side mk b) σ → Kept (arrived p side (mk z)) σ
  pub signs : (σ : Seen) (p : Place) (o : Operand) (s : Sign) → Kept (compared p o) σ → Kept (operand p o s) σ
  pub joins : (σ : Seen) (o : Option Tree) (t : Tree) (ls : List Level) (j : Option Joining) → Kept (after o t ls) σ → Moved Kept End (follows σ o t ls j)

-- how much a place holds, by what each of its trees holds
module _ (n : Tree → ℕ) where
  abbrev pub in_before : List Prefix → ℕ
  in_before [] = 0
  in_before (deny ∷ ps) = in_before ps
  in_before (along u ∷ ps) = n u + in_before ps

  abbrev pub in_ors : Option Tree → ℕ
  in_ors None = 0
  in_ors (Some u) = n u

  abbrev pub in_outer : List Level → ℕ
  in_outer [] = 0
  in_outer (l ∷ ls) = in_before l.before + in_ors l.ors + in_outer ls

  abbrev pub in_place : Place → ℕ
  in_place p = in_before p.here.before + in_ors p.here.ors + in_outer p.outer

  pub joined_holds : ((t u : Tree) → n (either t u) ≡ n t + n u) → (o : Option Tree) (t : Tree) → n (joined o t) ≡ in_ors o + n t
  joined_holds h None t = omega arith
  joined_holds h (Some u) t = h u t

-- what is wrong is no field
no_field : (w : Fault) (i : ℕ) → ◌≡◌ {A = Result Found Fault} (Err w) (Ok (RowField i)) → ⊥
no_field w i h = let z : ◌≡◌ {A = ℕ} 0 1 = cc in omega arith

no_number : (z : ℤ) (i : ℕ) → ◌≡◌ {A = Result Found Fault} (Ok (Value z)) (Ok (RowField i)) → ⊥
no_number z i h = let z : ◌≡◌ {A = ℕ} 0 1 = cc in omega arith

module _ (e : Names) (Near : ℕ → Type 0) (Begun : Place → Side → Seen → Type 0) (Kept : State → Seen → Type 0) (End : Tree → Seen → Type 0) (k : Keeps e Near Begun Kept End) where
  -- the field that a word is
  found_near : (x : Lexeme) (i : ℕ) → found e x ≡ Ok (RowField i) → Near i
  found_near x i =
      let wrong : (w : Fault) → ◌≡◌ {A = Result Found Fault} (Err w) (Ok (RowField i)) → Near i = λ w h. absurd (no_field w i h) in
      by_kind (λ y. found e y ≡ Ok (RowField i) → Near i) (λ u w. k.near w i) (λ j. wrong form) (λ z h. absurd (no_number z i h)) (λ s. wrong form) (λ b. wrong form) (λ b. wrong form) (wrong form) (wrong form) (wrong form) x

  begin_kept : (σ : Seen) (p : Place) (side : Side) (g : Result Found Fault) → ((i : ℕ) → g ≡ Ok (RowField i) → Near i) → Begun p side σ → Moved Kept End (begin σ p side g)
  begin_kept σ p side (Ok (Value z)) q h = k.value σ p side z h
  begin_kept σ p side (Ok (BaseField i)) q h = k.base σ p side i h
  begin_kept σ p side (Err w) q h = tt
  begin_kept σ p side (Ok (RowField i)) q h = by_cases (get_or σ.fields i false) (ltb σ.different 4) refl refl
    where
      by_cases : (a b : Bool) → get_or σ.fields i false ≡ a → ltb σ.different 4 ≡ b → Moved Kept End (note (cond a (Some σ) (cond b (Some (noted_one σ i)) None)) (field p side (Row i)))
      by_cases true b r l = k.again σ p side i h r
      by_cases false true r l = k.fresh σ p side i h (q i refl) r (ltb-true _ 4 l)
      by_cases false false r l = tt

  first_kept : (σ : Seen) (p : Place) (g : Result Found Fault) → ((i : ℕ) → g ≡ Ok (RowField i) → Near i) → Kept (term p) σ → Moved Kept End (first σ p g)
  first_kept σ p (Err w) q h = tt
  first_kept σ p (Ok g) q h = by_cases (ltb σ.comparisons 16) refl
    where
      by_cases : (b : Bool) → ltb σ.comparisons 16 ≡ b → Moved Kept End (cond b (begin (counted_one σ) p left (Ok g)) (stop limit))
      by_cases true l = begin_kept (counted_one σ) p left (Ok g) q (k.counts σ p h (ltb-true _ 16 l))
      by_cases false l = tt

  deeper_kept : (σ : Seen) (p q : Place) → (deep p < 8 → Kept (term q) σ) → Moved Kept End (deeper σ p q)
  deeper_kept σ p q h = by_cases (ltb (deep p) 8) refl
    where
      by_cases : (b : Bool) → ltb (deep p) 8 ≡ b → Moved Kept End (cond b (go (term q) σ) (stop limit))
      by_cases true l = h (ltb-true _ 8 l)
      by_cases false l = tt

  opens_kept : (σ : Seen) (p : Place) (x : Lexeme) (o : Opening) → Kept (term p) σ → Moved Kept End (opens e σ p x o)
  opens_kept σ p x Denial h = deeper_kept σ p (denied p) (k.denies σ p h)
  opens_kept σ p x Bracket h = deeper_kept σ p (inside p) (k.enters σ p h)
  opens_kept σ p x Plain h = first_kept σ p (found e x) (found_near x) h

  sign_kept : (σ : Seen) (p : Place) (o : Operand) (x : Lexeme) → Kept (compared p o) σ → Moved Kept End (at_sign σ p o x)
  sign_kept σ p o x h = by_kind (λ y. Moved Kept End (at_sign σ p o y)) (λ u w. tt) (λ j. tt) (λ z. tt) (λ s. k.signs σ p o s h) (λ b. tt) (λ b. tt) tt tt tt x

  onward_kept : (σ : Seen) (st : State) (x : Lexeme) → Kept st σ → Moved Kept End (onward σ st x)
  onward_kept σ (after o t ls) x h = k.joins σ o t ls (joining x) h
  onward_kept σ (compared p o) x h = sign_kept σ p o x h
  onward_kept σ (term p) x h = tt
  onward_kept σ (operand p l s) x h = tt
  onward_kept σ (field p side mk) x h = tt
  onward_kept σ (by p side mk b) x h = tt

  field_kept : (σ : Seen) (p : Place) (side : Side) (mk : Shift → Operand) (x : Lexeme) → Kept (field p side mk) σ → Moved Kept End (at_field σ p side mk x)
  field_kept σ p side mk x h =
      let on : (y : Lexeme) → Moved Kept End (onward σ (arrived p side (mk Bare)) y) = λ y. onward_kept σ (arrived p side (mk Bare)) y (k.bare σ p side mk h) in
      by_kind (λ y. Moved Kept End (at_field σ p side mk y)) (λ u w. on (name u w)) (λ j. on (reserved j)) (λ z. on (number z)) (λ s. on (sign s)) (λ b. k.adds σ p side mk b h) (λ b. on (bracket b)) (on other) (on feed) (on cut) x

  by_kept : (σ : Seen) (p : Place) (side : Side) (mk : Shift → Operand) (b : Bool) (x : Lexeme) → Kept (by p side mk b) σ → Moved Kept End (at_by σ p side mk b x)
  by_kept σ p side mk b x h = by_kind (λ y. Moved Kept End (at_by σ p side mk b y)) (λ u w. tt) (λ j. tt) (λ z. shifted_kept (shift_of b z)) (λ s. tt) (λ c. tt) (λ c. tt) tt tt tt x
    where
      shifted_kept : (o : Option Shift) → Moved Kept End (shifted σ p side mk o)
      shifted_kept None = tt
      shifted_kept (Some z) = k.moved σ p side mk b z h

  pub step_kept : (σ : Seen) (st : State) (x : Lexeme) → Kept st σ → Moved Kept End (step e σ st x)
  step_kept σ (term p) x h = opens_kept σ p x (opening x) h
  step_kept σ (operand p l s) x h = begin_kept σ p (right l s) (found e x) (found_near x) (k.begins σ p l s h)
  step_kept σ (field p side mk) x h = field_kept σ p side mk x h
  step_kept σ (by p side mk b) x h = by_kept σ p side mk b x h
  step_kept σ (compared p o) x h = sign_kept σ p o x h
  step_kept σ (after o t ls) x h = k.joins σ o t ls (joining x) h

  run_kept : (σ : Seen) (st : State) (at : Spot) (xs : List Lexeme) → Kept st σ → Ended End (run e σ st at xs)
  run_kept σ st at [] h = tt
  run_kept σ st at (x ∷ xs) h = on (λ σ' st' g. run_kept σ' st' (past x at) xs g) (step e σ st x) (step_kept σ st x h)
    where
      on : ((σ' : Seen) (st' : State) → Kept st' σ' → Ended End (run e σ' st' (past x at) xs)) → (m : Move) → Moved Kept End m → Ended End (elim m [ go st' σ' ↦ run e σ' st' (past x at) xs | stop f ↦ refused (refusal f at) | done t σ' ↦ accepted t σ' (past x at) xs ])
      on ih (go st' σ') g = ih σ' st' g
      on ih (stop f) g = tt
      on ih (done t σ') g = g

  -- a condition that is accepted
  pub accepted_kept : (at : Spot) (xs : List Lexeme) (t : Tree) (σ : Seen) (at' : Spot) (ys : List Lexeme) → Kept (term (opened None [])) unread → condition_of e at xs ≡ accepted t σ at' ys → End t σ
  unfolding condition_of
  accepted_kept at xs t σ at' ys h r = subst (Ended End) r (run_kept unread (term (opened None [])) at xs h)
