use Rattle.any_measure.proofs.Plainly.{five_kinds}
use Rattle.any_measure.proofs.over.five_kinds.Goals as goal

pub returns : goal.returns
returns c = five_kinds
