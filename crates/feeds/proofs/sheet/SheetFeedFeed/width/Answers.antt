use Rattle.std.proofs.Common.{refl}
use Rattle.feeds.specs.Sheets.{lines}
use Rattle.feeds.proofs.Ends.{rows_width}
use Rattle.feeds.proofs.sheet.SheetFeedFeed.width.Goals as goal

pub returns : goal.returns
returns c = record { value = refl; each = rows_width c.args.self.now.width.fields (lines c.args.self.now.rest.now) }
