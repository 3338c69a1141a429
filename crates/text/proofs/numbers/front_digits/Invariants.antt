use Rattle.text.proofs.Fronts.{Passed}
use Rattle.text.proofs.numbers.front_digits.Given as goal

abbrev pub invariant-loop-count : goal.invariant-loop-count
invariant-loop-count l = Passed l.text l.count l.value
