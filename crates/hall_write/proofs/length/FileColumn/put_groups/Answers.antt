-- One cell at a time.
use Rattle.std.proofs.Common.{◌≡◌, get_or, ap}
use Rattle.hall_write.specs.Laid.{cell_bytes}
use Rattle.hall_write.proofs.Overs.{doing_all, doing_room, doing_more}
use Rattle.hall_write.proofs.Lengths.{cells_at}
use Rattle.hall_write.proofs.length.FileColumn.put_groups.Goals as goal

pub loop-cell-init : goal.loop-cell-init
loop-cell-init g c = doing_all _ c.args.out.now

pub put_cell-requires : goal.put_cell-requires
put_cell-requires g c =
    let m = g.M.Measure.meaning in
    let s = c.args.self.now.shape.now in
    let k = c.args.self.now.number in
    let cs = c.args.cells.now in
    let i = c.loop-cell.cell-index in
    let d = c.cell-item.result in
    let e : cell_bytes m k s d ≡ cell_bytes m k s (get_or cs i d) = ap (cell_bytes m k s) c.cell-item.is in
    doing_room c.loop-cell.invariant (cell_bytes m k s d) _ (cells_at m k s cs i d c.loop-cell-test.true e) c.requires

pub loop-cell-preserved : goal.loop-cell-preserved
loop-cell-preserved g c =
    let m = g.M.Measure.meaning in
    let s = c.args.self.now.shape.now in
    let k = c.args.self.now.number in
    let cs = c.args.cells.now in
    let i = c.loop-cell.cell-index in
    let d = c.cell-item.result in
    let e : cell_bytes m k s d ≡ cell_bytes m k s (get_or cs i d) = ap (cell_bytes m k s) c.cell-item.is in
    doing_more c.loop-cell.invariant (cell_bytes m k s d) _ (cells_at m k s cs i d c.loop-cell-test.true e) c.requires c.put_cell.new.out c.put_cell.ensures
