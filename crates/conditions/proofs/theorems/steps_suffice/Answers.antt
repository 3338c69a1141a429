use Rattle.conditions.proofs.Fitting.{left, fit}
use Rattle.conditions.proofs.theorems.steps_suffice.Goals as goal

pub returns : goal.returns
returns c = record { leave = left; fit = fit }
