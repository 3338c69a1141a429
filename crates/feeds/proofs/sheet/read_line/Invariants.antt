use Rattle.feeds.proofs.Passing.{Passed}
use Rattle.feeds.proofs.sheet.read_line.Given as goal

abbrev pub invariant-loop-k : goal.invariant-loop-k
invariant-loop-k l = Passed l.text l.width.fields l.place-items l.k l.rest
