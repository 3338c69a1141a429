-- What steps leave on a stack. Assumes nothing.
use Rattle.std.proofs.Common.{◌≡◌, ℕ, ◌+◌, ◌<◌, ◌↔◌, min, Bool, true, List, [], ◌∷◌, ◌++◌, map, reverse, length, get_or, take, set, ℤ, Some, None, Option, IsSome, sym, refl, ap, ◌∙◌, arith}
use Rattle.std.specs.Prelude.{option_to_list, unwrap_or}
use Rattle.std.proofs.lemmas.Bool.{true≢false}
use Rattle.std.proofs.lemmas.List.{take_more, take_more_set, reverse-append}
use Rattle.conditions.specs.Trees.{Tree}
use Rattle.conditions.specs.Postfix.{works, grow, asked}
use Rattle.conditions.specs.Meaning.{meets, judge, verdict, says}
use Rattle.conditions.specs.declared.condition.Step.{Step}
use Rattle.conditions.specs.declared.condition.Step.TheVariants.{Compare, Not, Bracket, And, Or}

-- steps after others
pub after : {X : Type 0} (f : Step → List X → List X) (ss tt : List Step) (xs : List X) → works f (ss ++ tt) xs ≡ works f tt (works f ss xs)
after f [] tt xs = refl
after f (s ∷ ss) tt xs = after f ss tt (f s xs)

pub pushed : (ss : List Step) (n : ℕ) (s : Step) → n < length ss → n < 159 → works grow (take (min (n + 1) 159) (set ss n s)) [] ≡ grow s (works grow (take (min n 159) ss) [])
pushed ss n s h l =
    let a : min (n + 1) 159 ≡ n + 1 = omega arith in
    let b : n ≡ min n 159 = omega arith in
    ap (λ k. works grow (take k (set ss n s)) []) a ∙ all_but_one ∙ ap (λ k. grow s (works grow (take k ss) [])) b
  where
    all_but_one : works grow (take (n + 1) (set ss n s)) [] ≡ grow s (works grow (take n ss) [])
    all_but_one = ap (λ l. works grow l []) (take_more_set ss n s h) ∙ after grow (take n ss) (s ∷ []) []

pub further : (ss : List Step) (n : ℕ) (d : Step) → n < length ss → works grow (take (n + 1) ss) [] ≡ grow (get_or ss n d) (works grow (take n ss) [])
further ss n d h = ap (λ l. works grow l []) (take_more ss n d h) ∙ after grow (take n ss) (get_or ss n d ∷ []) []

-- the truths of trees
abbrev pub truths : List ℤ → List ℤ → List Tree → List Bool
truths row base = map (λ t. meets t row base)

-- a step on trees is the same step on their truths
pub agrees : (row base : List ℤ) (s : Step) (ts : List Tree) → truths row base (grow s ts) ≡ judge row base s (truths row base ts)
agrees row base (Compare k) ts = refl
agrees row base Not [] = refl
agrees row base Not (t ∷ ts) = refl
agrees row base Bracket [] = refl
agrees row base Bracket (t ∷ ts) = refl
agrees row base And [] = refl
agrees row base And (t ∷ []) = refl
agrees row base And (u ∷ t ∷ ts) = refl
agrees row base Or [] = refl
agrees row base Or (t ∷ []) = refl
agrees row base Or (u ∷ t ∷ ts) = refl

pub last_truth : (row base : List ℤ) (ts : List Tree) → verdict (truths row base ts) ≡ says (asked ts) row base
last_truth row base [] = refl
last_truth row base (t ∷ ts) = refl

-- the last truth, taken off
pub popped : (xs ys : List Bool) (o : Option Bool) (b : Bool) → xs ≡ ys ++ option_to_list o → (IsSome o ↔ (0 < length xs)) → b ≡ unwrap_or o true → b ≡ verdict (reverse xs)
popped xs ys (Some t) b h v e = e ∙ sym (ap verdict (ap reverse h ∙ reverse-append ys (t ∷ [])))
popped [] ys None b h v e = e
popped (x ∷ xs) ys None b h v e = absurd (true≢false (sym (v.1 (omega arith))))
