-- Fewer rows come at each turn.
use Rattle.std.proofs.Common.{length}
use Rattle.week.proofs.file.gather.Given as goal

abbrev pub decreases-loop-row : goal.decreases-loop-row
decreases-loop-row g l = length (g.F.Feed.coming l.feed)
