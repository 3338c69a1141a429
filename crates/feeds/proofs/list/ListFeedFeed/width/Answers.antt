use Rattle.std.proofs.Common.{refl}
use Rattle.feeds.proofs.Cuts.{all_cut}
use Rattle.feeds.proofs.list.ListFeedFeed.width.Goals as goal

pub returns : goal.returns
returns c = record { value = refl; each = all_cut c.args.self.now.width.fields c.args.self.now.rest.now }
