-- The new cell lies past the live ones, so no chain sees it before it is linked.
use Rattle.std.proofs.Common.{◌∙◌, arith}
use Rattle.groups.proofs.Links.{put_cell, wrote_past}
use Rattle.groups.proofs.chains.append.Goals as goal

pub link-requires-clause-chained : goal.link-requires-clause-chained
link-requires-clause-chained g c =
    let cell = put_cell c.args.places.now c.args.used _ c.with_cell.result c.requires.within c.index-places-used.is c.args.cell c.with_cell.ensures in
    wrote_past c.args.places.now _ c.args.used c.args.cell cell.0 cell.1 cell.2 c.args.used (omega arith) c.requires.chained

pub returns-clause-cells : goal.returns-clause-cells
returns-clause-cells g c =
    c.link.ensures.cells
    ∙ (put_cell c.args.places.now c.args.used _ c.with_cell.result c.requires.within c.index-places-used.is c.args.cell c.with_cell.ensures).0
