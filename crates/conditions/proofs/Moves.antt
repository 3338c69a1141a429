-- How the words still to come go on, one word at a time. Assumes nothing.
use Rattle.std.proofs.Common.{◌≡◌, ℕ, ◌+◌, ◌<◌, ◌≤◌, Bool, true, false, ltb, List, [], ◌∷◌, length, get_or, set, ℤ, Some, None, Ok, Err, Option, Result, IsErrAnd, sym, refl, ap, ◌∙◌, arith, Bor}
use Rattle.std.proofs.lemmas.Bool.{cond-true, cond-false, lt-ltb, le-ltb}
use Rattle.text.specs.declared.refusal.Refusal.{Refusal}
use Rattle.words.specs.Lexemes.{Lexeme, name, reserved, number, sign, bracket, other, feed, cut, seen}
use Rattle.words.specs.Spots.{Spot, past}
use Rattle.words.specs.Cutting.{next, later, to_come, here}
use Rattle.words.specs.declared.signs.Sign.{Sign}
use Rattle.words.specs.declared.tokens.Token.{Token}
use Rattle.words.specs.declared.tokens.Token.TheVariants as token
use Rattle.conditions.specs.Trees.{Tree, bracketed}
use Rattle.conditions.specs.Machine.{Fault, form, limit, refusal, Seen, Names, Prefix, deny, along, Level, Place, Side, left, right, State, term, operand, field, by, compared, after, Move, go, stop, done, settle, joined, arrived, onward, step, run, found, begin, first, opens, follows, deeper, deep, note, noted, opening, joining, Outcome, refused, accepted}
use Rattle.conditions.specs.Promises.{seen_by, pick, rest, onto, Leads, On, Counts, opened, NoAnd, NoOr}
use Rattle.conditions.specs.declared.condition.Operand.{Operand}
use Rattle.conditions.specs.declared.condition.Operand.TheVariants.{Number, Row, Base}
use Rattle.conditions.specs.declared.condition.Shift.{Shift}
use Rattle.conditions.specs.declared.condition.Shift.TheVariants.{Bare}
use Rattle.conditions.specs.declared.condition.Found.{Found}
use Rattle.conditions.specs.declared.condition.Found.TheVariants.{Value, RowField, BaseField}
use Rattle.conditions.specs.declared.reader.Opening.{Opening}
use Rattle.conditions.specs.declared.reader.Opening.TheVariants.{Plain}
use Rattle.conditions.specs.declared.reader.Joining.{Joining}
use Rattle.conditions.specs.declared.reader.Joining.TheVariants.{And, Or, Close, End}
use Rattle.conditions.specs.declared.reader.Reader.{Reader}
use Rattle.conditions.proofs.ByKind.{by_token}

-- the next word of a reader
abbrev pub ahead : Reader → Lexeme
ahead r = next (to_come r.words)

-- after an operand a word does what it does in the state there
settle_on : (e : Names) (σ : Seen) (ps : List Prefix) (t : Tree) (o : Option Tree) (ls : List Level) (x : Lexeme) → onward σ (settle ps t o ls) x ≡ step e σ (settle ps t o ls) x
settle_on e σ [] t o ls x = refl
settle_on e σ (deny ∷ ps) t o ls x = settle_on e σ ps _ o ls x
settle_on e σ (along u ∷ ps) t o ls x = settle_on e σ ps _ o ls x

arrived_on : (e : Names) (σ : Seen) (p : Place) (side : Side) (o : Operand) (x : Lexeme) → onward σ (arrived p side o) x ≡ step e σ (arrived p side o) x
arrived_on e σ p left o x = refl
arrived_on e σ p (right l s) o x = settle_on e σ p.here.before _ p.here.ors p.outer x

settle_cut : (e : Names) (σ : Seen) (ps : List Prefix) (t : Tree) (o : Option Tree) (ls : List Level) → step e σ (settle ps t o ls) cut ≡ stop form
settle_cut e σ [] t o ls = refl
settle_cut e σ (deny ∷ ps) t o ls = settle_cut e σ ps _ o ls
settle_cut e σ (along u ∷ ps) t o ls = settle_cut e σ ps _ o ls

-- nothing goes on past the end of the text
cut_stops : (e : Names) (σ : Seen) (st : State) → step e σ st cut ≡ stop form
cut_stops e σ (term p) = refl
cut_stops e σ (operand p l s) = refl
cut_stops e σ (field p left mk) = refl
cut_stops e σ (field p (right l s) mk) = settle_on e σ p.here.before _ p.here.ors p.outer cut ∙ settle_cut e σ p.here.before _ p.here.ors p.outer
cut_stops e σ (by p side mk b) = refl
cut_stops e σ (compared p o) = refl
cut_stops e σ (after o t ls) = refl

-- words give what they give after the move of the first
run_moves : (e : Names) (σ : Seen) (st : State) (at : Spot) (xs : List Lexeme) → run e σ st at xs ≡ pick e at xs (step e σ st (next xs))
run_moves e σ st at [] = sym (ap (pick e at []) (cut_stops e σ st))
run_moves e σ st at (x ∷ xs) = go_on (step e σ st x)
  where
    go_on : (m : Move) → elim m [ go st' σ' ↦ run e σ' st' (past x at) xs | stop f ↦ refused (refusal f at) | done t σ' ↦ accepted t σ' (past x at) xs ] ≡ pick e at (x ∷ xs) m
    go_on (go st' σ') = refl
    go_on (stop f) = refl
    go_on (done t σ') = refl

pub moves : (e : Names) (r : Reader) (st : State) → rest e r st ≡ onto e r (step e (seen_by r) st (ahead r))
unfolding rest onto
moves e r st = run_moves e (seen_by r) st (here r.words) (to_come r.words)

pub moves_at : (e : Names) (r : Reader) (st : State) (x : Lexeme) → x ≡ ahead r → rest e r st ≡ onto e r (step e (seen_by r) st x)
moves_at e r st x h = moves e r st ∙ ap (λ y. onto e r (step e (seen_by r) st y)) (sym h)

-- a wrong word is refused at its place
pub tells : (e : Names) (r : Reader) (f : Fault) (y : Refusal) → y ≡ refusal f (here r.words) → onto e r (stop f) ≡ refused y
unfolding onto
tells e r f y h = sym (ap refused h)

pub refuses : (e : Names) (r : Reader) (st : State) (x : Lexeme) (f : Fault) (y : Refusal) → x ≡ ahead r → step e (seen_by r) st x ≡ stop f → y ≡ refusal f (here r.words) → rest e r st ≡ refused y
refuses e r st x f y h s g = moves_at e r st x h ∙ ap (onto e r) s ∙ tells e r f y g

-- two states in which the next word does the same
pub same_step : (e : Names) (r : Reader) (st st' : State) (x : Lexeme) → x ≡ ahead r → step e (seen_by r) st x ≡ step e (seen_by r) st' x → rest e r st ≡ rest e r st'
same_step e r st st' x h s = moves_at e r st x h ∙ ap (onto e r) s ∙ sym (moves_at e r st' x h)

-- a reader that is one word on
abbrev pub Advanced : Reader → Reader → Type 0
Advanced r s = (e : Names) (st : State) → onto e r (go st (seen_by r)) ≡ rest e s st

pub goes_on : (e : Names) (r s : Reader) (st st' : State) (x : Lexeme) → x ≡ ahead r → step e (seen_by r) st x ≡ go st' (seen_by r) → Advanced r s → rest e r st ≡ rest e s st'
goes_on e r s st st' x h g a = moves_at e r st x h ∙ ap (onto e r) g ∙ a e st'

-- a refusal handed on by `?`
pub fails : {X : Type 0} (e : Names) (s : Reader) (o : Outcome) (st : X → State) (x : Result X Refusal) (f : Refusal) → IsErrAnd x (λ y. y ≡ f) → o ≡ refused f → Leads e s o st x
fails e s o st (Ok v) f m h = absurd m
fails e s o st (Err y) f m h = h ∙ ap refused (sym m)

-- the same reader
pub stays : (r s : Reader) → s.words ≡ r.words → s.comparisons ≡ r.comparisons → On r s
stays r s w k =
    let same : length (to_come s.words) ≡ length (to_come r.words) = ap (λ v. length (to_come v)) w in
    record { on = omega (arith, same); more = omega (arith, k); few = λ h. omega (arith, h, k) }

pub two : (r s t : Reader) → On r s → On s t → On r t
two r s t a b = record { on = omega (arith, a.on, b.on); more = omega (arith, a.more, b.more); few = λ h. b.few (a.few h) }

pub later_shorter : (xs : List Lexeme) → length (later xs) ≤ length xs
later_shorter [] = omega arith
later_shorter (x ∷ xs) = omega arith

-- a comparison is counted before it is read
pub counting : (r q s : Reader) → On q s → q.words ≡ r.words → q.comparisons ≡ r.comparisons + 1 → r.comparisons < 16 → On r s × Counts r s
counting r q s o w e l =
    let same : length (to_come q.words) ≡ length (to_come r.words) = ap (λ v. length (to_come v)) w in (
      record { on = omega (arith, o.on, same); more = omega (arith, o.more, e); few = λ _. o.few (omega (arith, e, l)) },
      (omega (arith, o.more, e), o.few (omega (arith, e, l))),
    )

-- a field with nothing added
pub unshifted : (e : Names) (σ : Seen) (p : Place) (side : Side) (mk : Shift → Operand) (t : Token) → ((a : Bor (List ℕ)) (b : Bool) (l w : ℕ) → t ≡ token.Shift a b l w → ⊥) → step e σ (field p side mk) (seen t) ≡ step e σ (arrived p side (mk Bare)) (seen t)
unshifted e σ p side mk =
    let on : (x : Lexeme) → onward σ (arrived p side (mk Bare)) x ≡ step e σ (arrived p side (mk Bare)) x = arrived_on e σ p side (mk Bare) in
    by_token (λ t. ((a : Bor (List ℕ)) (b : Bool) (l w : ℕ) → t ≡ token.Shift a b l w → ⊥) → step e σ (field p side mk) (seen t) ≡ step e σ (arrived p side (mk Bare)) (seen t))
    (λ a u l w h. on (name u a.now)) (λ a k l w h. on (reserved k)) (λ a z l w h. on (number z)) (λ a s l w h. on (sign s)) (λ a b l w h. absurd (h a b l w refl)) (λ a b l w h. on (bracket b)) (λ a l w h. on other) (λ l w h. on feed) (λ l w h. on cut)

-- what is added is a number
pub by_none : (e : Names) (σ : Seen) (p : Place) (side : Side) (mk : Shift → Operand) (plus : Bool) (t : Token) → ((a : Bor (List ℕ)) (z : ℤ) (l w : ℕ) → t ≡ token.Number a z l w → ⊥) → step e σ (by p side mk plus) (seen t) ≡ stop form
by_none e σ p side mk plus =
    by_token (λ t. ((a : Bor (List ℕ)) (z : ℤ) (l w : ℕ) → t ≡ token.Number a z l w → ⊥) → step e σ (by p side mk plus) (seen t) ≡ stop form)
    (λ a u l w h. refl) (λ a k l w h. refl) (λ a z l w h. absurd (h a z l w refl)) (λ a s l w h. refl) (λ a b l w h. refl) (λ a b l w h. refl) (λ a l w h. refl) (λ l w h. refl) (λ l w h. refl)

-- a sign stands between two operands
pub sign_none : (e : Names) (σ : Seen) (p : Place) (o : Operand) (t : Token) → ((a : Bor (List ℕ)) (s : Sign) (l w : ℕ) → t ≡ token.Sign a s l w → ⊥) → step e σ (compared p o) (seen t) ≡ stop form
sign_none e σ p o =
    by_token (λ t. ((a : Bor (List ℕ)) (s : Sign) (l w : ℕ) → t ≡ token.Sign a s l w → ⊥) → step e σ (compared p o) (seen t) ≡ stop form)
    (λ a u l w h. refl) (λ a k l w h. refl) (λ a z l w h. refl) (λ a s l w h. absurd (h a s l w refl)) (λ a b l w h. refl) (λ a b l w h. refl) (λ a l w h. refl) (λ l w h. refl) (λ l w h. refl)

-- an operand's first word, by what it is
module _ (e : Names) (r : Reader) (p : Place) (side : Side) where
  begins : (f : Result Found Fault) → found e (ahead r) ≡ f → onto e r (begin (seen_by r) p side (found e (ahead r))) ≡ onto e r (begin (seen_by r) p side f)
  begins f h = ap (λ g. onto e r (begin (seen_by r) p side g)) h

  pub value_begins : (s : Reader) (z : ℤ) → found e (ahead r) ≡ Ok (Value z) → Advanced r s → onto e r (begin (seen_by r) p side (found e (ahead r))) ≡ rest e s (arrived p side (Number z))
  value_begins s z h a = begins (Ok (Value z)) h ∙ a e (arrived p side (Number z))

  pub base_begins : (s : Reader) (i : ℕ) → found e (ahead r) ≡ Ok (BaseField i) → Advanced r s → onto e r (begin (seen_by r) p side (found e (ahead r))) ≡ rest e s (field p side (Base i))
  base_begins s i h a = begins (Ok (BaseField i)) h ∙ a e (field p side (Base i))

  pub row_begins : (q s : Reader) (i : ℕ) → found e (ahead r) ≡ Ok (RowField i) → noted (seen_by r) i ≡ Some (seen_by q) → ((e : Names) (m : Move) → onto e r m ≡ onto e q m) → Advanced q s → onto e r (begin (seen_by r) p side (found e (ahead r))) ≡ rest e s (field p side (Row i))
  row_begins q s i h n t a = begins (Ok (RowField i)) h ∙ ap (λ g. onto e r (note g (field p side (Row i)))) n ∙ t e _ ∙ a e (field p side (Row i))

  pub row_refused : (i : ℕ) (y : Refusal) → found e (ahead r) ≡ Ok (RowField i) → noted (seen_by r) i ≡ None → y ≡ refusal limit (here r.words) → onto e r (begin (seen_by r) p side (found e (ahead r))) ≡ refused y
  row_refused i y h n g = begins (Ok (RowField i)) h ∙ ap (λ o. onto e r (note o (field p side (Row i)))) n ∙ tells e r limit y g

  pub wrong_begins : (w : Fault) (y : Refusal) → found e (ahead r) ≡ Err w → y ≡ refusal w (here r.words) → onto e r (begin (seen_by r) p side (found e (ahead r))) ≡ refused y
  wrong_begins w y h g = begins (Err w) h ∙ tells e r w y g

pub noted_more : (σ : Seen) (f : ℕ) → get_or σ.fields f false ≡ false → true ≡ ltb σ.different 4 → noted σ f ≡ Some (record { comparisons = σ.comparisons; different = σ.different + 1; fields = set σ.fields f true })
noted_more σ f g l = cond-false (get_or σ.fields f false) _ _ g ∙ cond-true (ltb σ.different 4) _ _ (sym l)

pub noted_same : (σ : Seen) (f : ℕ) → get_or σ.fields f false ≡ true → noted σ f ≡ Some σ
noted_same σ f g = cond-true (get_or σ.fields f false) _ _ g

pub noted_none : (σ : Seen) (f : ℕ) → get_or σ.fields f false ≡ false → false ≡ ltb σ.different 4 → noted σ f ≡ None
noted_none σ f g l = cond-false (get_or σ.fields f false) _ _ g ∙ cond-false (ltb σ.different 4) _ _ (sym l)

-- a comparison's first word
module _ (e : Names) (r : Reader) (p : Place) where
  firsts : (f : Result Found Fault) → found e (ahead r) ≡ f → onto e r (first (seen_by r) p (found e (ahead r))) ≡ onto e r (first (seen_by r) p f)
  firsts f h = ap (λ g. onto e r (first (seen_by r) p g)) h

  pub counted_on : (s : Reader) (f : Found) → found e (ahead r) ≡ Ok f → true ≡ ltb r.comparisons 16 → seen_by s ≡ record { comparisons = r.comparisons + 1; different = r.different; fields = r.fields } → s.words ≡ r.words → onto e r (first (seen_by r) p (found e (ahead r))) ≡ onto e s (begin (seen_by s) p left (found e (ahead s)))
  unfolding onto
  counted_on s f h l σ w = firsts (Ok f) h ∙ ap (onto e r) (cond-true (ltb r.comparisons 16) _ _ (sym l)) ∙ (λ i. pick e (here (sym w i)) (to_come (sym w i)) (begin (sym σ i) p left (sym h i))) ∙ ap (λ v. pick e (here s.words) (to_come s.words) (begin (seen_by s) p left (found e (next (to_come v))))) (sym w)

  pub many_refused : (f : Found) (y : Refusal) → found e (ahead r) ≡ Ok f → false ≡ ltb r.comparisons 16 → y ≡ refusal limit (here r.words) → onto e r (first (seen_by r) p (found e (ahead r))) ≡ refused y
  many_refused f y h l g = firsts (Ok f) h ∙ ap (onto e r) (cond-false (ltb r.comparisons 16) _ _ (sym l)) ∙ tells e r limit y g

  pub wrong_first : (w : Fault) (y : Refusal) → found e (ahead r) ≡ Err w → y ≡ refusal w (here r.words) → onto e r (first (seen_by r) p (found e (ahead r))) ≡ refused y
  wrong_first w y h g = firsts (Err w) h ∙ tells e r w y g

-- how a term begins
module _ (e : Names) (r : Reader) (p : Place) where
  opening_on : (k : Opening) → k ≡ opening (ahead r) → rest e r (term p) ≡ onto e r (opens e (seen_by r) p (ahead r) k)
  opening_on k h = moves e r (term p) ∙ ap (λ y. onto e r (opens e (seen_by r) p (ahead r) y)) (sym h)

  -- a `not`, and a bracket: the term after it stands at q, one level deeper
  module _ (k : Opening) (q : Place) (is : opens e (seen_by r) p (ahead r) k ≡ deeper (seen_by r) p q) where
    pub deepens : (s : Reader) → k ≡ opening (ahead r) → deep p < 8 → Advanced r s → rest e r (term p) ≡ rest e s (term q)
    deepens s h d a = opening_on k h ∙ ap (onto e r) (is ∙ cond-true (ltb (deep p) 8) _ _ (lt-ltb _ 8 d)) ∙ a e _

    pub too_deep : (y : Refusal) → k ≡ opening (ahead r) → 8 ≤ deep p → y ≡ refusal limit (here r.words) → rest e r (term p) ≡ refused y
    too_deep y h d g = opening_on k h ∙ ap (onto e r) (is ∙ cond-false (ltb (deep p) 8) _ _ (le-ltb _ 8 d)) ∙ tells e r limit y g

  pub plainly : Plain ≡ opening (ahead r) → rest e r (term p) ≡ onto e r (first (seen_by r) p (found e (ahead r)))
  plainly h = opening_on Plain h

-- where no `and` follows, the terms joined by `or` are one
shut : (σ : Seen) (o : Option Tree) (t : Tree) (ls : List Level) (j : Option Joining) → (j ≡ Some And → ⊥) → follows σ o t ls j ≡ follows σ None (joined o t) ls j
shut σ o t ls (Some And) h = absurd (h refl)
shut σ o t ls (Some Or) h = refl
shut σ o t [] (Some Close) h = refl
shut σ o t (l ∷ ls) (Some Close) h = refl
shut σ o t [] (Some End) h = refl
shut σ o t (l ∷ ls) (Some End) h = refl
shut σ o t ls None h = refl

-- inside a bracket
unclosed : (σ : Seen) (o : Option Tree) (t : Tree) (l : Level) (ls : List Level) (j : Option Joining) → (j ≡ Some And → ⊥) → (j ≡ Some Or → ⊥) → (j ≡ Some Close → ⊥) → follows σ o t (l ∷ ls) j ≡ stop form
unclosed σ o t l ls (Some And) a b c = absurd (a refl)
unclosed σ o t l ls (Some Or) a b c = absurd (b refl)
unclosed σ o t l ls (Some Close) a b c = absurd (c refl)
unclosed σ o t l ls (Some End) a b c = refl
unclosed σ o t l ls None a b c = refl

-- what follows a term
joining_on : (e : Names) (r : Reader) (o : Option Tree) (t : Tree) (ls : List Level) (j : Option Joining) → j ≡ joining (ahead r) → rest e r (after o t ls) ≡ onto e r (follows (seen_by r) o t ls j)
joining_on e r o t ls j h = moves e r (after o t ls) ∙ ap (λ y. onto e r (follows (seen_by r) o t ls y)) (sym h)

module _ (e : Names) (r : Reader) (o : Option Tree) (t : Tree) (ls : List Level) where
  pub joins_and : (s : Reader) → Some And ≡ joining (ahead r) → Advanced r s → rest e r (after o t ls) ≡ rest e s (term (record { here = record { before = along t ∷ []; ors = o }; outer = ls }))
  joins_and s h a = joining_on e r o t ls (Some And) h ∙ a e _

  pub joins_or : (s : Reader) → Some Or ≡ joining (ahead r) → Advanced r s → rest e r (after o t ls) ≡ rest e s (term (opened (Some (joined o t)) ls))
  joins_or s h a = joining_on e r o t ls (Some Or) h ∙ a e _

  pub closes : (s : Reader) (l : Level) → Some Close ≡ joining (ahead r) → Advanced r s → rest e r (after o t (l ∷ ls)) ≡ rest e s (settle l.before (bracketed (joined o t)) l.ors ls)
  closes s l h a = joining_on e r o t (l ∷ ls) (Some Close) h ∙ a e _

  pub shuts : NoAnd r → rest e r (after o t ls) ≡ rest e r (after None (joined o t) ls)
  shuts n = moves e r (after o t ls) ∙ ap (onto e r) (shut (seen_by r) o t ls (joining (ahead r)) n) ∙ sym (moves e r (after None (joined o t) ls))

  pub not_closed : (l : Level) (y : Refusal) → NoAnd r → NoOr r → (joining (ahead r) ≡ Some Close → ⊥) → y ≡ refusal form (here r.words) → rest e r (after o t (l ∷ ls)) ≡ refused y
  not_closed l y a b c g = refuses e r (after o t (l ∷ ls)) _ form y refl (unclosed (seen_by r) o t l ls (joining (ahead r)) a b c) g

-- the end of a condition
pub ended : (e : Names) (r : Reader) (t : Tree) → Some End ≡ joining (ahead r) → rest e r (after None t []) ≡ accepted t (seen_by r) (past (ahead r) (here r.words)) (later (to_come r.words))
unfolding onto
ended e r t h = joining_on e r None t [] (Some End) h

unended : (σ : Seen) (t : Tree) (j : Option Joining) → (j ≡ Some And → ⊥) → (j ≡ Some Or → ⊥) → (j ≡ Some End → ⊥) → follows σ None t [] j ≡ stop form
unended σ t (Some And) a b c = absurd (a refl)
unended σ t (Some Or) a b c = absurd (b refl)
unended σ t (Some Close) a b c = refl
unended σ t (Some End) a b c = absurd (c refl)
unended σ t None a b c = refl

pub not_ended : (e : Names) (r : Reader) (t : Tree) (y : Refusal) → NoAnd r → NoOr r → (joining (ahead r) ≡ Some End → ⊥) → y ≡ refusal form (here r.words) → rest e r (after None t []) ≡ refused y
not_ended e r t y a b c g = refuses e r (after None t []) _ form y refl (unended (seen_by r) t (joining (ahead r)) a b c) g

-- a joint is a word, so that one word fewer is to come after it
pub joint_falls : (xs : List Lexeme) (j : Option Joining) → j ≡ joining (next xs) → (j ≡ None → ⊥) → length (later xs) < length xs
joint_falls [] j h n = absurd (n h)
joint_falls (x ∷ xs) j h n = omega arith
