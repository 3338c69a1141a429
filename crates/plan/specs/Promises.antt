-- What the calls of a plan's reader promise, by the words still to come. Assumes nothing.
use Rattle.std.specs.Prelude.{◌≡◌, ℕ, ◌<◌, Bool, false, List, [], length, Some, Ok, Err, Option, Result, MatchResult}
use Rattle.std.specs.Borrow.{Bor}
use Rattle.text.specs.declared.refusal.Refusal.{Refusal}
use Rattle.words.specs.Lexemes.{Lexeme}
use Rattle.words.specs.Spots.{Spot, past}
use Rattle.words.specs.Cutting.{next, later, to_come, here}
use Rattle.words.specs.declared.cursor.Words.{Words}
use Rattle.conditions.specs.Machine.{form, refusal}
use Rattle.conditions.specs.Postfix.{trees, asked}
use Rattle.conditions.specs.declared.reader.Read.{Read}
use Rattle.plan.specs.Lines.{declared}
use Rattle.plan.specs.Drafts.{Head, Draft, draft_of, columns_of, with_column}
use Rattle.plan.specs.Machine.{Stage, Motion, on, halt, start, second, line, named, measured, headed, after_kind, admit, naming, naming_line, column_name, step, finish, run}
use Rattle.words.specs.Tables.{texts}
use Rattle.plan.specs.declared.reading.Awaits.{Awaits}
use Rattle.plan.specs.declared.reading.Awaits.TheVariants.{Rows, Base, Columns}
use Rattle.any_measure.specs.declared.any.AnyMeasure.{AnyMeasure}
use Rattle.plan.specs.declared.plan.Plan.{Plan}

-- what the words still to come give, from a stage
unfoldable pub rest : Words → Stage → Result Draft Refusal
rest w st = run st (here w) (to_come w)

-- what they give after a motion of the next word
abbrev pub pick : Spot → List Lexeme → Motion → Result Draft Refusal
pick at xs (on st) = run st (past (next xs) at) (later xs)
pick at xs (halt f) = Err (refusal f at)

-- the same of a reader's words
unfoldable pub onto : Words → Motion → Result Draft Refusal
onto w m = pick (here w) (to_come w) m

-- a call's result leads on from the outcome o to a stage, or is the refusal that o is
abbrev pub Leads : {X : Type 0} → Words → Result Draft Refusal → (X → Stage) → Result X Refusal → Type 0
Leads w o st x = MatchResult x (λ v. o ≡ rest w (st v)) (λ f. o ≡ Err f)

-- fewer words are left
abbrev pub Shorter : Words → Words → Type 0
Shorter v w = length (to_come w) < length (to_come v)

-- a line of names: what each word does there, and that the text may not end there
pub record LineOfNames (more done : List (List ℕ) → Stage) (upper : Bool) (most : ℕ) : Type 0 where
  pub steps : (ns : List (List ℕ)) (x : Lexeme) → step (more ns) x ≡ naming_line more done upper most ns x
  pub mid : (ns : List (List ℕ)) (at : Spot) → finish (more ns) at ≡ Err (refusal form at)

-- reading a name that is new among others
abbrev pub ReadsNew : Bool → ℕ → Words → Words → List (List ℕ) → Result (Bor (List ℕ)) Refusal → Type 0
ReadsNew upper most v w ns x = (goes_to : List ℕ → Stage) → Leads w (onto v (admit goes_to ns most (declared upper (next (to_come v))))) (λ (t : Bor (List ℕ)). goes_to t.now) x

-- reading one name
abbrev pub ReadsName : Bool → ℕ → Words → Words → List (List ℕ) → List (List ℕ) → Result (Unit {0}) Refusal → Type 0
ReadsName upper most v w ns ms x = (more : List (List ℕ) → Stage) → Leads w (onto v (naming more ns most (declared upper (next (to_come v))))) (λ _. more ms) x

-- reading a line of names to its end
abbrev pub ReadsNames : Bool → ℕ → Words → Words → List (List ℕ) → List (List ℕ) → Result (Unit {0}) Refusal → Type 0
ReadsNames upper most v w ns ms x = (more done : List (List ℕ) → Stage) → LineOfNames more done upper most → ns ≡ [] → Leads w (rest v (more ns)) (λ _. done ms) x

-- reading a column's name
abbrev pub ReadsTitle : Words → Words → Plan AnyMeasure → Result (Bor (List ℕ)) Refusal → Type 0
ReadsTitle v w p x = Leads w (onto v (column_name (draft_of p) (declared false (next (to_come v))))) (λ (t : Bor (List ℕ)). named (draft_of p) t.now) x

-- reading a measure
abbrev pub ReadsKind : Words → Words → Result AnyMeasure Refusal → Type 0
ReadsKind v w x = (d : Draft) (n : List ℕ) → Leads w (rest v (named d n)) (after_kind d n) x

-- reading a measured field, one of these rows'
abbrev pub ReadsField : List (List ℕ) → Words → Words → Result ℕ Refusal → Type 0
ReadsField rs v w x = (d : Draft) (n : List ℕ) (k : AnyMeasure) → d.rows ≡ rs → Leads w (rest v (measured d n k)) (λ i. headed d (record { name = n; measure = k; field = Some i })) x

-- reading what a measure measures
abbrev pub ReadsMeasured : List (List ℕ) → AnyMeasure → Words → Words → Result (Option ℕ) Refusal → Type 0
ReadsMeasured rs k v w x = (d : Draft) (n : List ℕ) → d.rows ≡ rs → Leads w (rest v (after_kind d n k)) (λ f. headed d (record { name = n; measure = k; field = f })) x

-- reading a condition, if one is given, to the line's end
abbrev pub ReadsWhere : List (List ℕ) → List (List ℕ) → Words → Words → Result Read Refusal → Type 0
ReadsWhere rs bs v w x = (d : Draft) (h : Head) → d.rows ≡ rs → d.base ≡ bs → Leads w (rest v (headed d h)) (λ r. line (with_column d h (asked (trees r.condition)) r.fields)) x

-- reading a column line
abbrev pub ReadsColumn : Words → Words → Plan AnyMeasure → Plan AnyMeasure → Result (Unit {0}) Refusal → Type 0
ReadsColumn v w p q x = Leads w (onto v (column_name (draft_of p) (declared false (next (to_come v))))) (λ _. line (draft_of q)) x

-- what reading a plan answers
abbrev pub meant : Result (Plan AnyMeasure) Refusal → Result Draft Refusal
meant (Ok p) = Ok (draft_of p)
meant (Err f) = Err f

-- the stage at which the reader waits for a line, with what was read so far
abbrev pub awaited : Awaits → Plan AnyMeasure → Stage
awaited Rows p = start
awaited Base p = second (texts p.names.rows)
awaited Columns p = line (draft_of p)

-- what has not been read is empty
abbrev pub Unread : Awaits → Plan AnyMeasure → Type 0
Unread Rows p = (texts p.names.rows ≡ []) × (texts p.names.base ≡ []) × (columns_of p ≡ [])
Unread Base p = (texts p.names.base ≡ []) × (columns_of p ≡ [])
Unread Columns p = Unit {0}
