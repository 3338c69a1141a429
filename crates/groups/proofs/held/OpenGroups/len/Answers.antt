-- No two live cells are of one group.
use Rattle.std.proofs.Common.{vec_items, sym, ◌∙◌}
use Rattle.groups.proofs.Holding.{length_open}
use Rattle.groups.proofs.Props.{linked}
use Rattle.groups.proofs.held.OpenGroups.len.Goals as goal

pub returns : goal.returns
returns g c = c.count.ensures ∙ sym (length_open (vec_items c.args.self.now.places) c.args.self.now.used (linked c.args.self.now.kept))
