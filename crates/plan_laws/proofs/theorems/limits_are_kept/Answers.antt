use Rattle.plan_laws.proofs.Keeping.{accepted_keeps_limits}
use Rattle.plan_laws.proofs.theorems.limits_are_kept.Goals as goal

pub returns : goal.returns
returns c = accepted_keeps_limits
