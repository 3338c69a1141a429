-- An id is listed where it equals one of the ids.
use Rattle.std.proofs.Common.{◌∙◌}
use Rattle.cells.proofs.Heard.{listed_any}
use Rattle.cells.proofs.id.listed.Goals as goal

pub returns : goal.returns
returns c = c.contains.ensures.value ∙ listed_any c.args.id.now c.args.ids.now
