use Rattle.std.proofs.Common.{is_some, sym, ap, ◌∙◌}
use Rattle.words.specs.Tables.{texts, place}
use Rattle.plan.specs.Drafts.{columns_of}
use Rattle.plan.proofs.Pairing.{paired_names}
use Rattle.plan.proofs.columns.Plan+AnyMeasure.has_column.Goals as goal

pub returns : goal.returns
unfolding columns_of
returns c = c.is_some.ensures ∙ ap is_some c.find.ensures.value ∙ ap (λ l. is_some (place l c.args.name.now 0)) (sym (paired_names (texts c.args.self.now.titles) c.args.self.now.columns.places))
