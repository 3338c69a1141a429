-- What the calls of a reader promise, by the words still to come. Assumes nothing.
use Rattle.std.specs.Prelude.{◌≡◌, ℕ, ◌+◌, ◌*◌, ◌<◌, ◌≤◌, false, List, [], ◌∷◌, length, replicate, Some, None, Ok, Err, Option, Result, MatchResult, slice_index_or}
use Rattle.text.specs.declared.refusal.Refusal.{Refusal}
use Rattle.words.specs.Lexemes.{Lexeme}
use Rattle.words.specs.Spots.{Spot, past}
use Rattle.words.specs.Cutting.{next, later, to_come, here}
use Rattle.words.specs.Tables.{texts, place}
use Rattle.words.specs.declared.cursor.Words.{Words}
use Rattle.conditions.specs.Trees.{Tree, compare, reads, comparisons, Within}
use Rattle.conditions.specs.Keys.{marked}
use Rattle.conditions.specs.Machine.{Fault, unknown, limit, Seen, noted, Place, State, Move, Outcome, Names, Side, Level, term, after, settled, arrived, begin, first, go, stop, done, run, accepted, refused, refusal, deep, joining, field, found}
use Rattle.conditions.specs.Postfix.{trees, tree}
use Rattle.conditions.specs.declared.reader.Joining.TheVariants.{And, Or}
use Rattle.conditions.specs.declared.condition.Found.{Found}
use Rattle.conditions.specs.declared.condition.Found.TheVariants.{Value, RowField, BaseField}
use Rattle.conditions.specs.declared.condition.FieldNames.{FieldNames}
use Rattle.conditions.specs.declared.condition.Shift.{Shift}
use Rattle.conditions.specs.declared.condition.Operand.{Operand}
use Rattle.conditions.specs.declared.condition.Comparison.{Comparison}
use Rattle.conditions.specs.declared.condition.Condition.{Condition}
use Rattle.conditions.specs.declared.reader.Reader.{Reader}
use Rattle.conditions.specs.declared.reader.Read.{Read}

-- what a reader has seen
abbrev pub seen_by : Reader → Seen
seen_by r = record { comparisons = r.comparisons; different = r.different; fields = r.fields }

-- what the words still to come give, from a state
unfoldable pub rest : Names → Reader → State → Outcome
rest e r st = run e (seen_by r) st (here r.words) (to_come r.words)

-- what they give after a move of the next word
abbrev pub pick : Names → Spot → List Lexeme → Move → Outcome
pick e at xs (go st σ) = run e σ st (past (next xs) at) (later xs)
pick e at xs (stop f) = refused (refusal f at)
pick e at xs (done t σ) = accepted t σ (past (next xs) at) (later xs)

-- the same of a reader's words
unfoldable pub onto : Names → Reader → Move → Outcome
onto e r m = pick e (here r.words) (to_come r.words) m

-- a reader goes on
pub record On (r s : Reader) : Type 0 where
  pub on : length (to_come s.words) ≤ length (to_come r.words)
  pub more : r.comparisons ≤ s.comparisons
  pub few : r.comparisons ≤ 16 → s.comparisons ≤ 16

-- a row field, or a base field, or none
abbrev pub named : Option ℕ → Option ℕ → Result Found Fault
named (Some i) b = Ok (RowField i)
named None (Some i) = Ok (BaseField i)
named None None = Err unknown

-- the field that a word names: a row field first
unfoldable pub looks : FieldNames → Names
looks n w = named (place (texts n.rows) w 0) (place (texts n.base) w 0)

-- a row has eight fields at most
abbrev pub Known : Found → Type 0
Known (RowField f) = f < 8
Known (BaseField f) = Unit {0}
Known (Value z) = Unit {0}

-- what the next word is as an operand, or its refusal
abbrev pub Finds : Names → Reader → Result Found Refusal → Type 0
Finds e r x = MatchResult x (λ f. found e (next (to_come r.words)) ≡ Ok f) (λ y. (w : Fault) × (found e (next (to_come r.words)) ≡ Err w) × (y ≡ refusal w (here r.words)))

-- noting a row field, or the refusal of one too many
abbrev pub Notes : Reader → Reader → ℕ → Result (Unit {0}) Refusal → Type 0
Notes r s f x = MatchResult x (λ _. noted (seen_by r) f ≡ Some (seen_by s)) (λ y. (noted (seen_by r) f ≡ None) × (y ≡ refusal limit (here r.words)))

-- a call's result leads on from the outcome o to a state, or is the refusal that o is
abbrev pub Leads : {X : Type 0} → Names → Reader → Outcome → (X → State) → Result X Refusal → Type 0
Leads e s o st x = MatchResult x (λ v. o ≡ rest e s (st v)) (λ f. o ≡ refused f)

-- reading what is added to a field
abbrev pub ReadsShift : Reader → Reader → Result Shift Refusal → Type 0
ReadsShift r s x = (e : Names) (p : Place) (side : Side) (mk : Shift → Operand) → Leads e s (rest e r (field p side mk)) (λ z. arrived p side (mk z)) x

-- reading an operand
abbrev pub ReadsOperand : Names → Reader → Reader → Result Operand Refusal → Type 0
ReadsOperand e r s x = (p : Place) (side : Side) → Leads e s (onto e r (begin (seen_by r) p side (found e (next (to_come r.words))))) (arrived p side) x

-- reading a comparison
abbrev pub ReadsComparison : Names → Reader → Reader → Result Comparison Refusal → Type 0
ReadsComparison e r s x = (p : Place) → Leads e s (onto e r (first (seen_by r) p (found e (next (to_come r.words))))) (λ k. settled p (compare k)) x

-- a comparison is counted
abbrev pub Counts : Reader → Reader → Type 0
Counts r s = (r.comparisons < s.comparisons) × (s.comparisons ≤ 16)

-- the steps so far, and the conditions that they leave, have room in what the comparisons so far allow
pub record Room (r : Reader) (c : Condition) (depth : ℕ) : Type 0 where
  pub shallow : depth ≤ 8
  pub room : c.used + length (trees c) ≤ r.comparisons * 10

-- the steps leave one condition more than ts; each level around it may still take a step
pub record Grown (ts : List Tree) (c : Condition) (s : Reader) (depth : ℕ) : Type 0 where
  pub one : trees c ≡ tree c ∷ ts
  pub room : c.used + length (trees c) + 8 ≤ s.comparisons * 10 + depth
  pub few : s.comparisons ≤ 16

-- reading a term, whose steps end up in c
abbrev pub ReadsTerm : Names → Reader → Reader → Condition → ℕ → Result (Unit {0}) Refusal → Type 0
ReadsTerm e r s c depth x = (p : Place) → deep p + depth ≡ 8 → Leads e s (rest e r (term p)) (λ _. settled p (tree c)) x

-- the place at the beginning of a level, or after an `or`
abbrev pub opened : Option Tree → List Level → Place
opened o ls = record { here = record { before = []; ors = o }; outer = ls }

-- reading terms joined by `and`
abbrev pub ReadsAnds : Names → Reader → Reader → Condition → ℕ → Result (Unit {0}) Refusal → Type 0
ReadsAnds e r s c depth x = (o : Option Tree) (ls : List Level) → deep (opened o ls) + depth ≡ 8 → Leads e s (rest e r (term (opened o ls))) (λ _. after o (tree c) ls) x

-- reading those joined by `or`
abbrev pub ReadsOrs : Names → Reader → Reader → Condition → ℕ → Result (Unit {0}) Refusal → Type 0
ReadsOrs e r s c depth x = (ls : List Level) → deep (opened None ls) + depth ≡ 8 → Leads e s (rest e r (term (opened None ls))) (λ _. after None (tree c) ls) x

-- no `and` follows
abbrev pub NoAnd : Reader → Type 0
NoAnd r = joining (next (to_come r.words)) ≡ Some And → ⊥

-- no `or` follows
abbrev pub NoOr : Reader → Type 0
NoOr r = joining (next (to_come r.words)) ≡ Some Or → ⊥

-- what a call answers for a whole condition
abbrev pub outcome : Result Condition Refusal → Reader → Outcome
outcome (Ok c) s = accepted (tree c) (seen_by s) (here s.words) (to_come s.words)
outcome (Err f) s = refused f

-- the words still to come, read as a condition
abbrev pub reading : Names → Reader → Outcome
reading e r = rest e r (term (opened None []))

-- at first nothing is seen
abbrev pub unread : Seen
unread = record { comparisons = 0; different = 0; fields = replicate 8 false }

-- what words give as a condition, from its first word on
unfoldable pub condition_of : Names → Spot → List Lexeme → Outcome
condition_of e at xs = run e unread (term (opened None [])) at xs

-- the call gave what the outcome says: the condition, its row fields and the words after it, or the refusal, at which
-- the words are as before
abbrev pub Gave : Outcome → Words → Words → Result Read Refusal → Type 0
Gave o v w (Ok r) = (t : Tree) × (σ : Seen) × (trees r.condition ≡ t ∷ []) × (r.fields ≡ σ.fields) × (o ≡ accepted t σ (here w) (to_come w))
Gave o v w (Err f) = (o ≡ refused f) × (w ≡ v)

-- what reading a condition answers
abbrev pub ResultOf : Result Read Refusal → Words → Words → Names → Type 0
ResultOf x v w e = Gave (condition_of e (here v) (to_come v)) v w x

-- the fields that come with a condition are those that it reads
abbrev pub KeyFields : Read → Type 0
KeyFields r = (t : Tree) → trees r.condition ≡ t ∷ [] → (length r.fields ≡ 8) × ((f : ℕ) → slice_index_or r.fields f false ≡ reads f t)

-- a condition that was read keeps every limit: 16 comparisons, eight levels, four different row fields
abbrev pub KeepsLimits : Read → Type 0
KeepsLimits r = (t : Tree) → trees r.condition ≡ t ∷ [] → (comparisons t ≤ 16) × Within 8 t × (marked r.fields ≤ 4)
