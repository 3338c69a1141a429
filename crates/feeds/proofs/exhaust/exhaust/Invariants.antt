use Rattle.std.proofs.Common.{◌≡◌, ◌+◌, ◌-◌, ◌^◌, ◌≤◌, min, length}
use Rattle.feeds.proofs.exhaust.exhaust.Given as goal

abbrev pub invariant-loop-rows : goal.invariant-loop-rows
invariant-loop-rows g l =
    let f = g.F.Feed in
    (min (l.rows + length (f.coming l.feed)) (2 ^ 64 - 1) ≡ min (length (f.coming l.initial.feed)) (2 ^ 64 - 1))
    × (f.wide l.feed ≡ f.wide l.initial.feed) × (f.ending l.feed ≡ f.ending l.initial.feed) × (l.rows ≤ 2 ^ 64 - 1)

abbrev pub decreases-loop-rows : goal.decreases-loop-rows
decreases-loop-rows g l = length (g.F.Feed.coming l.feed)
