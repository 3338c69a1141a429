-- The steps of a tree: what they leave, and how many they are. Assumes nothing.
use Rattle.std.proofs.Common.{◌≡◌, ℕ, ◌+◌, ◌*◌, ◌≤◌, [], ◌∷◌, ◌++◌, length, pos, refl, ap, ◌∙◌, arith, length-append}
use Rattle.conditions.specs.Trees.{Tree, compare, denial, bracketed, both, either, comparisons, Within}
use Rattle.conditions.specs.Postfix.{works, grow, flat}
use Rattle.conditions.specs.Theorems.{StepsLeaveTheTree, StepsFit}
use Rattle.words.specs.declared.signs.Sign.TheVariants.{Equal}
use Rattle.conditions.specs.declared.condition.Operand.TheVariants.{Number}
use Rattle.conditions.specs.declared.condition.Step.TheVariants.{Not, Bracket, And, Or}
use Rattle.conditions.proofs.Stacks.{after}

pub left : StepsLeaveTheTree
left (compare k) ts = refl
left (denial t) ts = after grow (flat t) (Not ∷ []) ts ∙ ap (grow Not) (left t ts)
left (bracketed t) ts = after grow (flat t) (Bracket ∷ []) ts ∙ ap (grow Bracket) (left t ts)
left (both t u) ts =
    after grow (flat t) (flat u ++ (And ∷ [])) ts ∙ after grow (flat u) (And ∷ []) _ ∙ ap (λ l. grow And (works grow (flat u) l)) (left t ts) ∙ ap (grow And) (left u (t ∷ ts))
left (either t u) ts =
    after grow (flat t) (flat u ++ (Or ∷ [])) ts ∙ after grow (flat u) (Or ∷ []) _ ∙ ap (λ l. grow Or (works grow (flat u) l)) (left t ts) ∙ ap (grow Or) (left u (t ∷ ts))

-- how many `not` and brackets a condition has
abbrev nots : Tree → ℕ
nots (compare k) = 0
nots (denial t) = nots t + 1
nots (bracketed t) = nots t + 1
nots (both t u) = nots t + nots u
nots (either t u) = nots t + nots u

many : (t : Tree) → length (flat t) + 1 ≡ comparisons t * 2 + nots t
many (compare k) = refl
many (denial t) = omega (arith, many t, length-append (flat t) (Not ∷ []))
many (bracketed t) = omega (arith, many t, length-append (flat t) (Bracket ∷ []))
many (both t u) = omega (arith, many t, many u, length-append (flat t) (flat u ++ (And ∷ [])), length-append (flat u) (And ∷ []))
many (either t u) = omega (arith, many t, many u, length-append (flat t) (flat u ++ (Or ∷ [])), length-append (flat u) (Or ∷ []))

-- each comparison stands in at most eight `not`, and d levels more could be around it
each : (t : Tree) (d : ℕ) → d ≤ 8 → Within d t → nots t + 8 ≤ comparisons t * 8 + d
each (compare k) d h w = omega arith
each (denial t) d h w = omega (arith, w.1, each t w.0 (omega (arith, h, w.1)) w.2)
each (bracketed t) d h w = omega (arith, w.1, each t w.0 (omega (arith, h, w.1)) w.2)
each (both t u) d h w = omega (arith, each t d h w.0, each u d h w.1)
each (either t u) d h w = omega (arith, each t d h w.0, each u d h w.1)

fits : (t : Tree) → Within 8 t → comparisons t ≤ 16 → length (flat t) ≤ 159
fits t w h = omega (arith, many t, each t 8 (omega arith) w, h)

-- sixteen comparisons in eight `not` each
abbrev deep : Tree
deep = denial (denial (denial (denial (denial (denial (denial (denial (compare (record { left = Number (pos 0); sign = Equal; right = Number (pos 0) })))))))))

abbrev four : Tree → Tree
four t = both (both (both t t) t) t

deep_within : Within 8 deep
deep_within = (7, refl, (6, refl, (5, refl, (4, refl, (3, refl, (2, refl, (1, refl, (0, refl, tt))))))))

four_within : (t : Tree) → Within 8 t → Within 8 (four t)
four_within t w = (((w, w), w), w)

pub fit : StepsFit
fit = (fits, (four (four deep), (four_within (four deep) (four_within deep deep_within), refl, refl)))
