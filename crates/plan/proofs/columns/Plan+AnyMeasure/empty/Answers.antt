use Rattle.plan.specs.Drafts.{columns_of}
use Rattle.plan.proofs.Pairing.{paired_none}
use Rattle.plan.proofs.columns.Plan+AnyMeasure.empty.Goals as goal

pub returns : goal.returns
unfolding columns_of
returns c = record { rows = c.empty-rows.ensures.names; base = c.empty-base.ensures.names; columns = paired_none _ _ c.empty.ensures.names }
