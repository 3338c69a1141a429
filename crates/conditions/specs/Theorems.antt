-- What is shown above the definitions. Assumes nothing.
use Rattle.std.specs.Prelude.{◌≡◌, ℕ, ◌≤◌, Bool, true, false, List, [], ◌∷◌, length, ℤ, pos, Some, None, codes, Option, slice_index_or}
use Rattle.words.specs.Spots.{spot}
use Rattle.words.specs.Cutting.{lexemes}
use Rattle.words.specs.Tables.{place}
use Rattle.conditions.specs.Trees.{Tree, reads, comparisons, Within}
use Rattle.conditions.specs.Postfix.{works, grow, flat}
use Rattle.conditions.specs.Meaning.{meets}
use Rattle.conditions.specs.Keys.{key, spread}
use Rattle.conditions.specs.Machine.{Names, Outcome, accepted, refused}
use Rattle.conditions.specs.Promises.{named, condition_of}

-- the marked fields are all that a condition reads
abbrev pub Covers : List Bool → Tree → Type 0
Covers fs t = (f : ℕ) → reads f t ≡ true → slice_index_or fs f false ≡ true

-- rows with the same key meet a condition alike
abbrev pub DependsOnItsKey : Type 0
DependsOnItsKey = (t : Tree) (fs : List Bool) (row other base : List ℤ) → Covers fs t → key fs row ≡ key fs other → meets t row base ≡ meets t other base

-- a row meets a condition as its key does
abbrev pub KeyDecides : Type 0
KeyDecides = (t : Tree) (fs : List Bool) (row base : List ℤ) → Covers fs t → meets t (spread fs (key fs row)) base ≡ meets t row base

-- the steps of a condition leave that condition, on whatever was there
abbrev pub StepsLeaveTheTree : Type 0
StepsLeaveTheTree = (t : Tree) (ts : List Tree) → works grow (flat t) ts ≡ t ∷ ts

-- the steps of a condition within the limits fit, and fewer places would not do
abbrev pub StepsFit : Type 0
StepsFit = ((t : Tree) → Within 8 t → comparisons t ≤ 16 → length (flat t) ≤ 159) × ((t : Tree) × (Within 8 t × (comparisons t ≡ 16) × (length (flat t) ≡ 159)))

-- what a condition that is read says of a row
abbrev pub heard : Outcome → List ℤ → List ℤ → Option Bool
heard (accepted t σ at xs) row base = Some (meets t row base)
heard (refused f) row base = None

-- row fields `player` and `points`, and a base field `PLAYER`
abbrev pub players : Names
players w = named (place (codes "player" ∷ codes "points" ∷ []) w 0) (place (codes "PLAYER" ∷ []) w 0)

-- `or` binds last: the condition is true for player 1, points 0
abbrev pub OrBindsLast : Type 0
OrBindsLast = heard (condition_of players (spot 1 1) (lexemes (codes "player = 1 or player = 2 and points > 0\n"))) (pos 1 ∷ pos 0 ∷ []) [] ≡ Some true
