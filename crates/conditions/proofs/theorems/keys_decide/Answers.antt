use Rattle.conditions.proofs.Depending.{depends, decides}
use Rattle.conditions.proofs.theorems.keys_decide.Goals as goal

pub returns : goal.returns
returns c = record { rows = depends; key = decides }
