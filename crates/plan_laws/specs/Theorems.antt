-- What is shown above the definitions. Assumes nothing.
use Rattle.std.specs.Prelude.{◌≡◌, ℕ, ◌<◌, ◌≤◌, Bool, false, List, [], ◌∷◌, ◌++◌, length, Some, None, Ok, Err, Option, nat_le, slice_index_or}
use Rattle.words.specs.Lexemes.{Lexeme}
use Rattle.words.specs.Spots.{Spot, spot, past}
use Rattle.words.specs.Cutting.{lexemes}
use Rattle.conditions.specs.Trees.{Tree, comparisons, Within, reads}
use Rattle.conditions.specs.Keys.{marked}
use Rattle.conditions.specs.Machine.{Fault, refusal, Seen, State, term, operand, field, by, compared, after}
use Rattle.plan.specs.Drafts.{Entry, Draft}
use Rattle.plan.specs.Machine.{Stage, Motion, on, halt, start, rows, second, bases, line, measured, headed, asks, step, run, plan_of}
use Rattle.plan.specs.Machine as stages

-- the place after some words
abbrev pub after_words : Spot → List Lexeme → Spot
after_words at [] = at
after_words at (x ∷ xs) = after_words (past x at) xs

-- a text is refused as f at the word x, after the words in front of it
pub record RefusedAt (text : List ℕ) (front : List Lexeme) (x : Lexeme) (f : Fault) : Type 0 where
  pub behind : List Lexeme
  pub words : lexemes text ≡ front ++ x ∷ behind
  pub refused : plan_of text ≡ Err (refusal f (after_words (spot 1 1) front))

-- the refusal is settled by the words up to the refused one: any text with these words is refused alike, at the same
-- place
abbrev pub FirstBadWord : Type 0
FirstBadWord =
    (text other : List ℕ) (front : List Lexeme) (x : Lexeme) (f : Fault) (behind : List Lexeme)
    → length other ≤ 4096 → length text ≤ 4096 → RefusedAt text front x f → lexemes other ≡ front ++ x ∷ behind → RefusedAt other front x f

-- a condition within the limits: 16 comparisons, eight levels, four different row fields, and these are those it reads
abbrev pub Limited : Option Tree → List Bool → Type 0
Limited None fs = marked fs ≡ 0
Limited (Some t) fs = (comparisons t ≤ 16) × Within 8 t × (marked fs ≤ 4) × ((f : ℕ) → slice_index_or fs f false ≡ reads f t)

-- every column's condition is within the limits
abbrev pub AllLimited : List Entry → Type 0
AllLimited [] = Unit {0}
AllLimited (e ∷ es) = Limited e.condition e.fields × AllLimited es

-- a plan within all limits: one to eight row names, one to four base names, one to eight columns
pub record Limits (d : Draft) : Type 0 where
  pub rows : (0 < length d.rows) × (length d.rows ≤ 8)
  pub base : (0 < length d.base) × (length d.base ≤ 4)
  pub columns : (0 < length d.columns) × (length d.columns ≤ 8)
  pub conditions : AllLimited d.columns

-- an accepted plan keeps every limit
abbrev pub AcceptedKeepsLimits : Type 0
AcceptedKeepsLimits = (text : List ℕ) (d : Draft) → plan_of text ≡ Ok d → (length text ≤ 4096) × Limits d

-- the stage after some words, if none of them is wrong
abbrev pub reached : Stage → List Lexeme → Option Stage
reached st [] = Some st
reached st (x ∷ xs) = elim (step st x) [ on st' ↦ reached st' xs | halt f ↦ None ]

-- a term must follow though sixteen comparisons were read
abbrev pub no_more : Seen → State → Bool
no_more σ (term p) = nat_le 16 σ.comparisons
no_more σ (operand p l s) = false
no_more σ (field p side mk) = false
no_more σ (by p side mk b) = false
no_more σ (compared p o) = false
no_more σ (after o t ls) = false

-- the same at a stage of a plan
abbrev pub exhausted : Stage → Bool
exhausted (asks d h σ st) = no_more σ st
exhausted start = false
exhausted (rows ns) = false
exhausted (second rs) = false
exhausted (bases rs ns) = false
exhausted (line d) = false
exhausted (stages.named d n) = false
exhausted (measured d n k) = false
exhausted (headed d h) = false

-- words none of which is wrong begin a plan that is accepted, but for the words just before a comparison too many
abbrev pub GoodWordsGoOn : Type 0
GoodWordsGoOn = (front : List Lexeme) (st : Stage) → reached start front ≡ Some st → exhausted st ≡ false → (rest : List Lexeme) × ((d : Draft) × (run start (spot 1 1) (front ++ rest) ≡ Ok d))
