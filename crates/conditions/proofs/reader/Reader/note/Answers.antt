use Rattle.std.proofs.Common.{sym, refl, ap, ◌∙◌}
use Rattle.conditions.specs.Machine.{noted}
use Rattle.conditions.specs.Promises.{onto, seen_by}
use Rattle.conditions.proofs.Moves.{noted_more, stays}
use Rattle.conditions.proofs.reader.Reader.note.Goals as goal

pub returns : goal.returns
unfolding onto
returns c =
    let n = noted_more (seen_by c.args.self.now) c.from-i.result c.if-self-i.false c.if-not-may_read.ensures in
    record { on = stays c.args.self.now _ refl refl; words = refl; value = ap (noted (seen_by c.args.self.now)) (sym c.from-i.ensures) ∙ n; stays = λ e m. refl }
