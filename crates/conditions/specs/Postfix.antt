-- The steps of a condition, and the condition that they are. Assumes nothing.
use Rattle.std.specs.Prelude.{min, List, [], ◌∷◌, ◌++◌, take, pos, Some, None, Option}
use Rattle.words.specs.declared.signs.Sign.TheVariants.{Equal}
use Rattle.conditions.specs.declared.condition.Operand.TheVariants.{Number}
use Rattle.conditions.specs.declared.condition.Comparison.{Comparison}
use Rattle.conditions.specs.declared.condition.Step.{Step}
use Rattle.conditions.specs.declared.condition.Step.TheVariants.{Compare, Not, Bracket, And, Or}
use Rattle.conditions.specs.declared.condition.Condition.{Condition}
use Rattle.conditions.specs.Trees.{Tree, compare, denial, bracketed, both, either}

-- what a stack of values is worked on with: a comparison's value, and what `not`, a bracket, `and` and `or` make
pub record Work (X : Type 0) : Type 0 where
  pub leaf : Comparison → X
  pub deny : X → X
  pub wrap : X → X
  pub meet : X → X → X
  pub join : X → X → X

-- one step: a comparison goes onto the stack, `not` and a bracket change its top, `and` and `or` join its two topmost
abbrev pub work : {X : Type 0} → Work X → Step → List X → List X
work w (Compare k) xs = w.leaf k ∷ xs
work w Not [] = []
work w Not (x ∷ xs) = w.deny x ∷ xs
work w Bracket [] = []
work w Bracket (x ∷ xs) = w.wrap x ∷ xs
work w And [] = []
work w And (x ∷ []) = x ∷ []
work w And (y ∷ x ∷ xs) = w.meet x y ∷ xs
work w Or [] = []
work w Or (x ∷ []) = x ∷ []
work w Or (y ∷ x ∷ xs) = w.join x y ∷ xs

-- one step after another
abbrev pub works : {X : Type 0} → (Step → List X → List X) → List Step → List X → List X
works f [] xs = xs
works f (s ∷ ss) xs = works f ss (f s xs)

-- a step on a stack of conditions
abbrev pub grow : Step → List Tree → List Tree
grow = work (record { leaf = compare; deny = denial; wrap = bracketed; meet = both; join = either })

-- the conditions that the steps, of 159 at most, leave on the stack
unfoldable pub trees : Condition → List Tree
trees c = works grow (take (min c.used 159) c.steps) []

-- what is asked: the last of them, or nothing
abbrev pub asked : List Tree → Option Tree
asked [] = None
asked (t ∷ ts) = Some t

-- the last of them; with none, one that is always true
abbrev pub topmost : List Tree → Tree
topmost [] = compare (record { left = Number (pos 0); sign = Equal; right = Number (pos 0) })
topmost (t ∷ ts) = t

-- those below it
abbrev pub below : List Tree → List Tree
below [] = []
below (t ∷ ts) = ts

-- the condition on top of the stack
abbrev pub tree : Condition → Tree
tree c = topmost (trees c)

-- how a condition is written as steps
abbrev pub flat : Tree → List Step
flat (compare k) = Compare k ∷ []
flat (denial t) = flat t ++ (Not ∷ [])
flat (bracketed t) = flat t ++ (Bracket ∷ [])
flat (both t u) = flat t ++ (flat u ++ (And ∷ []))
flat (either t u) = flat t ++ (flat u ++ (Or ∷ []))
