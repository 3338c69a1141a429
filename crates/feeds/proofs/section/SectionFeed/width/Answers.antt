use Rattle.std.proofs.ByRecursion.{all_kept_by}
use Rattle.feeds.specs.Sections.{hits}
use Rattle.feeds.proofs.section.SectionFeed.width.Goals as goal

pub returns : goal.returns
returns g c =
    let s = c.args.self.now in
    record { value = c.width.ensures.value; each = all_kept_by (hits s.field s.value) _ (g.F.Feed.coming s.feed) c.width.ensures.each }
