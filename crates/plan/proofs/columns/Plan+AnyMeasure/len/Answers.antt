use Rattle.std.proofs.Common.{sym, ◌∙◌}
use Rattle.words.specs.Tables.{texts}
use Rattle.plan.specs.Drafts.{columns_of}
use Rattle.plan.proofs.Pairing.{paired_long}
use Rattle.plan.proofs.columns.Plan+AnyMeasure.len.Goals as goal

pub returns : goal.returns
unfolding columns_of
returns c = record { value = c.len.ensures.value ∙ sym (paired_long (texts c.args.self.now.titles) c.args.self.now.columns.places); few = c.len.ensures.few }
