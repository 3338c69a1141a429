-- One column at a time.
use Rattle.hall_file.specs.Written.{column_bytes}
use Rattle.hall_write.proofs.Overs.{doing_all, doing_room, doing_more}
use Rattle.hall_write.proofs.Lengths.{columns_at, the_column}
use Rattle.hall_write.proofs.write.put_columns.Goals as goal

pub loop-number-init : goal.loop-number-init
loop-number-init g c = doing_all _ c.args.out.now

pub put_column-requires : goal.put_column-requires
put_column-requires g c =
    let m = g.M.Measure.meaning in
    let s = c.index-shapes-number.result in
    let cs = c.args.cells.now in
    let i = c.loop-number.number in
    doing_room c.loop-number.invariant (column_bytes m (the_column m i s cs)) _ (columns_at m c.args.shapes.now cs i s c.loop-number-test.true c.index-shapes-number.is) c.requires

pub loop-number-preserved : goal.loop-number-preserved
loop-number-preserved g c =
    let m = g.M.Measure.meaning in
    let s = c.index-shapes-number.result in
    let cs = c.args.cells.now in
    let i = c.loop-number.number in
    doing_more c.loop-number.invariant (column_bytes m (the_column m i s cs)) _ (columns_at m c.args.shapes.now cs i s c.loop-number-test.true c.index-shapes-number.is) c.requires c.put_column.new.out c.put_column.ensures
