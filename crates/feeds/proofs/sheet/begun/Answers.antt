use Rattle.std.proofs.Common.{refl, arith}
use Rattle.feeds.specs.Sheets.{sheet}
use Rattle.feeds.proofs.Ends.{held_all, sheet_few}
use Rattle.feeds.proofs.Passing.{width_range}
use Rattle.feeds.proofs.Writings.{exactly_written}
use Rattle.feeds.proofs.sheet.begun.Goals as goal

pub returns : goal.returns
returns c =
    let text = c.args.text.now in
    let w = c.args.width.fields in
    let r = width_range w c.args.width.in_range in
    record {
      width = refl;
      coming = refl;
      ending = held_all 1 (sheet w text) (omega (arith, sheet_few w text));
      exactly = exactly_written w text r.0 r.1;
    }
