-- The plan that words write, read from left to right, one word at a time: what may stand where, and what is wrong
-- where something else stands. Assumes nothing.
use Rattle.std.specs.Prelude.{ℕ, Bool, true, false, cond, ◌&&◌, List, [], ◌∷◌, ◌++◌, length, is_some, Some, None, Ok, Err, Option, Result, nat_lt}
use Rattle.text.specs.declared.refusal.Refusal.{Refusal}
use Rattle.text.specs.declared.refusal.Refusal.TheVariants.{PlanLimit}
use Rattle.words.specs.Lexemes.{Lexeme}
use Rattle.words.specs.Spots.{Spot, spot, past}
use Rattle.words.specs.Cutting.{lexemes}
use Rattle.words.specs.Tables.{place}
use Rattle.conditions.specs.Machine.{Fault, form, taken, unknown, limit, refusal, Seen, State, term, Move}
use Rattle.conditions.specs.Machine as conditions
use Rattle.conditions.specs.Promises.{opened, unread}
use Rattle.plan.specs.Lines.{leading, kind_of, takes_field, following, ends_line, Naming, word, held, no_name, declared}
use Rattle.plan.specs.Drafts.{Head, Entry, Draft, names_of, column_names, with_column, no_fields}
use Rattle.any_measure.specs.declared.any.AnyMeasure.{AnyMeasure}
use Rattle.plan.specs.declared.words_of_plan.Leading.{Leading}
use Rattle.plan.specs.declared.words_of_plan.Leading.TheVariants as leads
use Rattle.plan.specs.declared.words_of_plan.Following.{Following}
use Rattle.plan.specs.declared.words_of_plan.Following.TheVariants as follow

-- what may come next: `rows`, a row name or the line's end, `base`, a base name or the line's end, a column's name or
-- the end of the text, a measure, the measured field, `where` or the line's end, a word of a condition
pub data Stage : Type 0 where
  start : Stage
  rows : List (List ℕ) → Stage
  second : List (List ℕ) → Stage
  bases : List (List ℕ) → List (List ℕ) → Stage
  line : Draft → Stage
  named : Draft → List ℕ → Stage
  measured : Draft → List ℕ → AnyMeasure → Stage
  headed : Draft → Head → Stage
  asks : Draft → Head → Seen → State → Stage

-- what a word does: it leads on, or it is wrong
pub data Motion : Type 0 where
  on : Stage → Motion
  halt : Fault → Motion

-- a name that is new among others and not one too many
abbrev pub enter : List (List ℕ) → List ℕ → ℕ → Stage → Motion
enter names w most next = cond (is_some (place names w 0)) (halt taken) (cond (nat_lt (length names) most) (on next) (halt limit))

-- some names stand there
abbrev pub some : List (List ℕ) → Bool
some [] = false
some (n ∷ ns) = true

-- a word that is to be a name new among others
abbrev pub admit : (List ℕ → Stage) → List (List ℕ) → ℕ → Naming → Motion
admit next names most (word w) = enter names w most (next w)
admit next names most held = halt taken
admit next names most no_name = halt form

-- a name of a line of names
abbrev pub naming : (List (List ℕ) → Stage) → List (List ℕ) → ℕ → Naming → Motion
naming more ns = admit (λ w. more (ns ++ (w ∷ []))) ns

-- a word of a line of names, which ends after one name at least
abbrev pub naming_line : (List (List ℕ) → Stage) → (List (List ℕ) → Stage) → Bool → ℕ → List (List ℕ) → Lexeme → Motion
naming_line more done upper most ns x = cond (ends_line x && some ns) (on (done ns)) (naming more ns most (declared upper x))

-- the first word of the rows line
abbrev pub first_line : Option Leading → Motion
first_line (Some leads.Rows) = on (rows [])
first_line (Some leads.Base) = halt form
first_line None = halt form

-- the first word of the base line
abbrev pub second_line : List (List ℕ) → Option Leading → Motion
second_line rs (Some leads.Rows) = halt form
second_line rs (Some leads.Base) = on (bases rs [])
second_line rs None = halt form

-- a column's name
abbrev pub column_name : Draft → Naming → Motion
column_name d = admit (named d) (column_names d.columns) 8

-- after a measure
abbrev pub after_kind : Draft → List ℕ → AnyMeasure → Stage
after_kind d n k = cond (takes_field k) (measured d n k) (headed d (record { name = n; measure = k; field = None }))

-- a measure
abbrev pub measure : Draft → List ℕ → Option AnyMeasure → Motion
measure d n None = halt form
measure d n (Some k) = on (after_kind d n k)

-- the measured field: a row field
abbrev pub measured_at : Draft → List ℕ → AnyMeasure → Option ℕ → Motion
measured_at d n k None = halt unknown
measured_at d n k (Some i) = on (headed d (record { name = n; measure = k; field = Some i }))

-- a word where the measured field is to stand
abbrev pub measured_word : Draft → List ℕ → AnyMeasure → Naming → Motion
measured_word d n k (word w) = measured_at d n k (place d.rows w 0)
measured_word d n k held = halt form
measured_word d n k no_name = halt form

-- after a column's head
abbrev pub after_head : Draft → Head → Option Following → Motion
after_head d h (Some follow.Where) = on (asks d h unread (term (opened None [])))
after_head d h (Some follow.End) = on (line (with_column d h None no_fields))
after_head d h None = halt form

-- a word of a condition
abbrev pub asking : Draft → Head → Move → Motion
asking d h (conditions.go st σ) = on (asks d h σ st)
asking d h (conditions.stop f) = halt f
asking d h (conditions.done t σ) = on (line (with_column d h (Some t) σ.fields))

-- what a word does
abbrev pub step : Stage → Lexeme → Motion
step start x = first_line (leading x)
step (rows ns) x = naming_line rows second false 8 ns x
step (second rs) x = second_line rs (leading x)
step (bases rs ns) x = naming_line (bases rs) (λ ms. line (record { rows = rs; base = ms; columns = [] })) true 4 ns x
step (line d) x = column_name d (declared false x)
step (named d n) x = measure d n (kind_of x)
step (measured d n k) x = measured_word d n k (declared false x)
step (headed d h) x = after_head d h (following x)
step (asks d h σ st) x = asking d h (conditions.step (names_of d) σ st x)

-- the plan is whole with a column at least
abbrev pub whole : Draft → List Entry → Spot → Result Draft Refusal
whole d [] at = Err (refusal form at)
whole d (c ∷ cs) at = Ok d

-- what the end of the text gives: a plan after a column line, and else a missing word
abbrev pub finish : Stage → Spot → Result Draft Refusal
finish (line d) at = whole d d.columns at
finish start at = Err (refusal form at)
finish (rows ns) at = Err (refusal form at)
finish (second rs) at = Err (refusal form at)
finish (bases rs ns) at = Err (refusal form at)
finish (named d n) at = Err (refusal form at)
finish (measured d n k) at = Err (refusal form at)
finish (headed d h) at = Err (refusal form at)
finish (asks d h σ st) at = Err (refusal form at)

-- what the words from a place on give
abbrev pub run : Stage → Spot → List Lexeme → Result Draft Refusal
run st at [] = finish st at
run st at (x ∷ xs) = elim (step st x) [ on st' ↦ run st' (past x at) xs | halt f ↦ Err (refusal f at) ]

-- the plan that a text is, or its refusal; a text over 4,096 bytes is refused before all else
unfoldable pub plan_of : List ℕ → Result Draft Refusal
plan_of text = cond (nat_lt 4096 (length text)) (Err (PlanLimit 0 0)) (run start (spot 1 1) (lexemes text))
