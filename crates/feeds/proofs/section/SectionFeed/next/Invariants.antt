use Rattle.std.proofs.Common.{◌≡◌, length}
use Rattle.feeds.specs.Sections.{section_coming}
use Rattle.feeds.proofs.section.SectionFeed.next.Given as goal

abbrev pub invariant-loop-row : goal.invariant-loop-row
invariant-loop-row g l =
    let f = g.F.Feed in
    let s = l.self in
    let t = l.initial.self in
    (f.wide s.feed ≡ l.width) × (f.wide s.feed ≡ f.wide t.feed) × (f.ending s.feed ≡ f.ending t.feed) × (section_coming f.coming s ≡ section_coming f.coming t)

abbrev pub decreases-loop-row : goal.decreases-loop-row
decreases-loop-row g l = length (g.F.Feed.coming l.self.feed)
