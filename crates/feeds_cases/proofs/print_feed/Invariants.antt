use Rattle.std.proofs.Common.{length}
use Rattle.feeds_cases.proofs.print_feed.Given as goal

abbrev pub decreases-loop : goal.decreases-loop
decreases-loop g l = length (g.F.Feed.coming l.feed)
