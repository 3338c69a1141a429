use Rattle.std.proofs.Common.{◌≡◌, ◌+◌, ◌*◌, List, length, None, Option}
use Rattle.words.specs.Cutting.{to_come}
use Rattle.conditions.specs.Trees.{Tree}
use Rattle.conditions.specs.Machine.{Level, after, deep}
use Rattle.conditions.specs.Postfix.{trees, tree, below}
use Rattle.conditions.specs.Promises.{rest, looks, opened, On, NoAnd, Grown}
use Rattle.conditions.proofs.reader.Reader.+conjunction_disjunction_term.Given as goal

abbrev pub decreases-term : goal.decreases-term
decreases-term l = l.depth * 3

abbrev pub decreases-conjunction : goal.decreases-conjunction
decreases-conjunction l = l.depth * 3 + 1

abbrev pub decreases-disjunction : goal.decreases-disjunction
decreases-disjunction l = l.depth * 3 + 2

abbrev pub invariant-conjunction-loop-self : goal.invariant-conjunction-loop-self
invariant-conjunction-loop-self l =
    On l.initial.self l.self
    × ((o : Option Tree) (ls : List Level) → deep (opened o ls) + l.depth ≡ 8 → rest (looks l.names) l.initial.self (after o (tree l.initial.out) ls) ≡ rest (looks l.names) l.self (after o (tree l.out) ls))
    × Grown (below (trees l.initial.out)) l.out l.self l.depth

abbrev pub decreases-conjunction-loop-self : goal.decreases-conjunction-loop-self
decreases-conjunction-loop-self l = length (to_come l.self.words)

abbrev pub invariant-disjunction-loop-self : goal.invariant-disjunction-loop-self
invariant-disjunction-loop-self l =
    On l.initial.self l.self
    × ((ls : List Level) → deep (opened None ls) + l.depth ≡ 8 → rest (looks l.names) l.initial.self (after None (tree l.initial.out) ls) ≡ rest (looks l.names) l.self (after None (tree l.out) ls))
    × NoAnd l.self
    × Grown (below (trees l.initial.out)) l.out l.self l.depth

abbrev pub decreases-disjunction-loop-self : goal.decreases-disjunction-loop-self
decreases-disjunction-loop-self l = length (to_come l.self.words)
