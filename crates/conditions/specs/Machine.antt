-- The condition that words write, read from left to right, one word at a time: what may stand where, and what is
-- wrong where something else stands. Assumes nothing.
use Rattle.std.specs.Prelude.{ℕ, ◌+◌, Bool, true, false, cond, List, [], ◌∷◌, ℤ, pos, negsuc, Some, None, Ok, Err, Option, Result, nat_lt, slice_index_or, slice_set}
use Rattle.text.specs.declared.refusal.Refusal.{Refusal}
use Rattle.text.specs.declared.refusal.Refusal.TheVariants.{PlanForm, NameTaken, UnknownField, PlanLimit}
use Rattle.words.specs.Lexemes.{Lexeme, name, reserved, number, sign, shift, bracket, other, feed, cut}
use Rattle.words.specs.Spots.{Spot, past}
use Rattle.words.specs.declared.signs.Sign.{Sign}
use Rattle.words.specs.declared.tokens.Keyword.{Keyword}
use Rattle.words.specs.declared.tokens.Keyword.TheVariants as keywords
use Rattle.conditions.specs.declared.wrong.Wrong.{Wrong}
use Rattle.conditions.specs.declared.wrong.Wrong.TheVariants as wrongs
use Rattle.conditions.specs.declared.reader.Joint.{Joint}
use Rattle.conditions.specs.declared.reader.Joint.TheVariants as joints
use Rattle.conditions.specs.declared.reader.Opening.{Opening}
use Rattle.conditions.specs.declared.reader.Opening.TheVariants.{Denial, Bracket, Plain}
use Rattle.conditions.specs.declared.reader.Joining.{Joining}
use Rattle.conditions.specs.declared.reader.Joining.TheVariants.{And, Or, Close, End}
use Rattle.conditions.specs.declared.condition.Shift.{Shift}
use Rattle.conditions.specs.declared.condition.Shift.TheVariants.{Bare, Plus, Minus}
use Rattle.conditions.specs.declared.condition.Operand.{Operand}
use Rattle.conditions.specs.declared.condition.Operand.TheVariants.{Number, Row, Base}
use Rattle.conditions.specs.declared.condition.Found.{Found}
use Rattle.conditions.specs.declared.condition.Found.TheVariants.{Value, RowField, BaseField}
use Rattle.conditions.specs.Trees.{Tree, compare, denial, bracketed, both, either}

-- what is wrong with a word: the form, a name used again or reserved, a name of no field, one too many
abbrev pub Fault : Type 0
Fault = Wrong

-- the form is broken
abbrev pub form : Fault
form = wrongs.Form

-- a name is used again or reserved
abbrev pub taken : Fault
taken = wrongs.Taken

-- a name is that of no field
abbrev pub unknown : Fault
unknown = wrongs.Unknown

-- one is too many
abbrev pub limit : Fault
limit = wrongs.Limit

-- the refusal of a word at its place
abbrev pub refusal : Fault → Spot → Refusal
refusal wrongs.Form at = PlanForm at.line at.word
refusal wrongs.Taken at = NameTaken at.line at.word
refusal wrongs.Unknown at = UnknownField at.line at.word
refusal wrongs.Limit at = PlanLimit at.line at.word

-- how many comparisons were read, how many different row fields, and which
pub record Seen : Type 0 where
  pub comparisons : ℕ
  pub different : ℕ
  pub fields : List Bool

-- what stands before the next term at the same level: `not`, or a term and `and`
pub data Prefix : Type 0 where
  deny : Prefix
  along : Tree → Prefix

-- a level, which a bracket opens: what stands before the next term, and what before the last `or`
pub record Level : Type 0 where
  pub before : List Prefix
  pub ors : Option Tree

-- where a term is to stand: its own level and those around it
pub record Place : Type 0 where
  pub here : Level
  pub outer : List Level

-- how many `not` wait for the next term
abbrev pub denials : List Prefix → ℕ
denials [] = 0
denials (deny ∷ ps) = denials ps + 1
denials (along t ∷ ps) = denials ps

-- how deep the levels around a place are: each is a bracket, and a `not` before a bracket counts too
abbrev pub brackets : List Level → ℕ
brackets [] = 0
brackets (l ∷ ls) = denials l.before + brackets ls + 1

-- how deep a place is
abbrev pub deep : Place → ℕ
deep p = denials p.here.before + brackets p.outer

-- the operand that is read: the left one, or the right one after a left one and a sign
pub data Side : Type 0 where
  left : Side
  right : Operand → Sign → Side

-- what may come next: a term, a right operand, `+` or `-` after a field, the number after these, a sign, or what
-- follows a term
pub data State : Type 0 where
  term : Place → State
  operand : Place → Operand → Sign → State
  field : Place → Side → (Shift → Operand) → State
  by : Place → Side → (Shift → Operand) → Bool → State
  compared : Place → Operand → State
  after : Option Tree → Tree → List Level → State

-- what a word does: it leads on, it is wrong, or it ends the condition
pub data Move : Type 0 where
  go : State → Seen → Move
  stop : Fault → Move
  done : Tree → Seen → Move

-- a term stands: `not` binds first, then `and`
abbrev pub settle : List Prefix → Tree → Option Tree → List Level → State
settle [] t o ls = after o t ls
settle (deny ∷ ps) t o ls = settle ps (denial t) o ls
settle (along u ∷ ps) t o ls = settle ps (both u t) o ls

-- a term stands at a place
abbrev pub settled : Place → Tree → State
settled p t = settle p.here.before t p.here.ors p.outer

-- `or` binds last
abbrev pub joined : Option Tree → Tree → Tree
joined None t = t
joined (Some u) t = either u t

-- an operand is read
abbrev pub arrived : Place → Side → Operand → State
arrived p left o = compared p o
arrived p (right l s) o = settled p (compare (record { left = l; sign = s; right = o }))

-- the field that a name is
abbrev pub Names : Type 0
Names = List ℕ → Result Found Fault

-- what a word is as an operand
abbrev pub found : Names → Lexeme → Result Found Fault
found e (name upper w) = e w
found e (reserved k) = Err form
found e (number z) = Ok (Value z)
found e (sign s) = Err form
found e (shift b) = Err form
found e (bracket b) = Err form
found e other = Err form
found e feed = Err form
found e cut = Err form

-- one row field more, of at most four different ones
abbrev pub noted : Seen → ℕ → Option Seen
noted σ f =
    cond (slice_index_or σ.fields f false) (Some σ)
    (cond (nat_lt σ.different 4) (Some (record { comparisons = σ.comparisons; different = σ.different + 1; fields = slice_set σ.fields f true })) None)

-- a row field is read, or is one too many
abbrev pub note : Option Seen → State → Move
note None st = stop limit
note (Some σ) st = go st σ

-- an operand's first word
abbrev pub begin : Seen → Place → Side → Result Found Fault → Move
begin σ p side (Ok (Value z)) = go (arrived p side (Number z)) σ
begin σ p side (Ok (RowField f)) = note (noted σ f) (field p side (Row f))
begin σ p side (Ok (BaseField f)) = go (field p side (Base f)) σ
begin σ p side (Err w) = stop w

-- a comparison more, of at most 16
abbrev pub counted : Seen → Place → Found → Move
counted σ p f = cond (nat_lt σ.comparisons 16) (begin (record { comparisons = σ.comparisons + 1; different = σ.different; fields = σ.fields }) p left (Ok f)) (stop limit)

-- a comparison's first word: one too many is refused there, if the word is an operand
abbrev pub first : Seen → Place → Result Found Fault → Move
first σ p (Ok f) = counted σ p f
first σ p (Err w) = stop w

-- `not` and brackets nest at most eight deep
abbrev pub deeper : Seen → Place → Place → Move
deeper σ p q = cond (nat_lt (deep p) 8) (go (term q) σ) (stop limit)

-- the place after a `not`
abbrev pub denied : Place → Place
denied p = record { here = record { before = deny ∷ p.here.before; ors = p.here.ors }; outer = p.outer }

-- the place after an opening bracket
abbrev pub inside : Place → Place
inside p = record { here = record { before = []; ors = None }; outer = p.here ∷ p.outer }

-- the keywords that join terms
abbrev pub joint : Keyword → Option Joint
joint keywords.And = Some joints.And
joint keywords.Or = Some joints.Or
joint keywords.Not = Some joints.Not
joint keywords.Rows = None
joint keywords.Base = None
joint keywords.Where = None
joint keywords.Count = None
joint keywords.Sum = None
joint keywords.Least = None
joint keywords.Greatest = None
joint keywords.Mean = None

-- how a joint begins a term
abbrev pub opening_joint : Option Joint → Opening
opening_joint (Some joints.Not) = Denial
opening_joint (Some joints.And) = Plain
opening_joint (Some joints.Or) = Plain
opening_joint None = Plain

-- how a word begins a term
abbrev pub opening : Lexeme → Opening
opening (reserved k) = opening_joint (joint k)
opening (bracket o) = cond o Bracket Plain
opening (name upper w) = Plain
opening (number z) = Plain
opening (sign s) = Plain
opening (shift b) = Plain
opening other = Plain
opening feed = Plain
opening cut = Plain

-- how a joint follows a term
abbrev pub joining_joint : Option Joint → Option Joining
joining_joint (Some joints.And) = Some And
joining_joint (Some joints.Or) = Some Or
joining_joint (Some joints.Not) = None
joining_joint None = None

-- how a word follows a term
abbrev pub joining : Lexeme → Option Joining
joining (reserved k) = joining_joint (joint k)
joining (bracket o) = cond o None (Some Close)
joining feed = Some End
joining (name upper w) = None
joining (number z) = None
joining (sign s) = None
joining (shift b) = None
joining other = None
joining cut = None

-- a term's first word
abbrev pub opens : Names → Seen → Place → Lexeme → Opening → Move
opens e σ p x Denial = deeper σ p (denied p)
opens e σ p x Bracket = deeper σ p (inside p)
opens e σ p x Plain = first σ p (found e x)

-- the sign of a comparison
abbrev pub at_sign : Seen → Place → Operand → Lexeme → Move
at_sign σ p o (sign s) = go (operand p o s) σ
at_sign σ p o (name upper w) = stop form
at_sign σ p o (reserved k) = stop form
at_sign σ p o (number z) = stop form
at_sign σ p o (shift b) = stop form
at_sign σ p o (bracket b) = stop form
at_sign σ p o other = stop form
at_sign σ p o feed = stop form
at_sign σ p o cut = stop form

-- a closing bracket closes the innermost level
abbrev pub close : Seen → Option Tree → Tree → List Level → Move
close σ o t [] = stop form
close σ o t (l ∷ ls) = go (settle l.before (bracketed (joined o t)) l.ors ls) σ

-- the line's end ends a condition with no open bracket
abbrev pub finish : Seen → Option Tree → Tree → List Level → Move
finish σ o t [] = done (joined o t) σ
finish σ o t (l ∷ ls) = stop form

-- what follows a term
abbrev pub follows : Seen → Option Tree → Tree → List Level → Option Joining → Move
follows σ o t ls (Some And) = go (term (record { here = record { before = along t ∷ []; ors = o }; outer = ls })) σ
follows σ o t ls (Some Or) = go (term (record { here = record { before = []; ors = Some (joined o t) }; outer = ls })) σ
follows σ o t ls (Some Close) = close σ o t ls
follows σ o t ls (Some End) = finish σ o t ls
follows σ o t ls None = stop form

-- what a number adds (true) or takes away: only one without sign can stand there
abbrev pub shift_of : Bool → ℤ → Option Shift
shift_of plus (pos n) = Some (cond plus (Plus n) (Minus n))
shift_of plus (negsuc n) = None

-- a field with what is added to it
abbrev pub shifted : Seen → Place → Side → (Shift → Operand) → Option Shift → Move
shifted σ p side mk None = stop form
shifted σ p side mk (Some z) = go (arrived p side (mk z)) σ

-- the word after `+` or `-`
abbrev pub at_by : Seen → Place → Side → (Shift → Operand) → Bool → Lexeme → Move
at_by σ p side mk plus (number z) = shifted σ p side mk (shift_of plus z)
at_by σ p side mk plus (name upper w) = stop form
at_by σ p side mk plus (reserved k) = stop form
at_by σ p side mk plus (sign s) = stop form
at_by σ p side mk plus (shift b) = stop form
at_by σ p side mk plus (bracket b) = stop form
at_by σ p side mk plus other = stop form
at_by σ p side mk plus feed = stop form
at_by σ p side mk plus cut = stop form

-- what may follow an operand
abbrev pub onward : Seen → State → Lexeme → Move
onward σ (after o t ls) x = follows σ o t ls (joining x)
onward σ (compared p o) x = at_sign σ p o x
onward σ (term p) x = stop form
onward σ (operand p l s) x = stop form
onward σ (field p side mk) x = stop form
onward σ (by p side mk b) x = stop form

-- the word after a field: `+` or `-`, or what may follow an operand
abbrev pub at_field : Seen → Place → Side → (Shift → Operand) → Lexeme → Move
at_field σ p side mk (shift plus) = go (by p side mk plus) σ
at_field σ p side mk (name upper w) = onward σ (arrived p side (mk Bare)) (name upper w)
at_field σ p side mk (reserved k) = onward σ (arrived p side (mk Bare)) (reserved k)
at_field σ p side mk (number z) = onward σ (arrived p side (mk Bare)) (number z)
at_field σ p side mk (sign s) = onward σ (arrived p side (mk Bare)) (sign s)
at_field σ p side mk (bracket b) = onward σ (arrived p side (mk Bare)) (bracket b)
at_field σ p side mk other = onward σ (arrived p side (mk Bare)) other
at_field σ p side mk feed = onward σ (arrived p side (mk Bare)) feed
at_field σ p side mk cut = onward σ (arrived p side (mk Bare)) cut

-- what a word does
abbrev pub step : Names → Seen → State → Lexeme → Move
step e σ (term p) x = opens e σ p x (opening x)
step e σ (operand p l s) x = begin σ p (right l s) (found e x)
step e σ (field p side mk) x = at_field σ p side mk x
step e σ (by p side mk plus) x = at_by σ p side mk plus x
step e σ (compared p o) x = at_sign σ p o x
step e σ (after o t ls) x = follows σ o t ls (joining x)

-- the condition that was read, what was seen, and the place and the words after it; or the refusal
pub data Outcome : Type 0 where
  accepted : Tree → Seen → Spot → List Lexeme → Outcome
  refused : Refusal → Outcome

-- what the words from a place on give
abbrev pub run : Names → Seen → State → Spot → List Lexeme → Outcome
run e σ st at [] = refused (refusal form at)
run e σ st at (x ∷ xs) = elim (step e σ st x) [ go st' σ' ↦ run e σ' st' (past x at) xs | stop f ↦ refused (refusal f at) | done t σ' ↦ accepted t σ' (past x at) xs ]
