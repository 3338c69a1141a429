-- There is no room for the head of the next column.
use Rattle.std.proofs.Common.{◌<◌, length, sym, subst, arith}
use Rattle.hall_file.specs.Written.{file_bytes}
use Rattle.hall_write.specs.Laid.{content_of, Within}
use Rattle.hall_write.proofs.Lengths.{columns_long, file_size}
use Rattle.hall_write.proofs.length.length_within.Goals as goal

pub returns-in_err-groups : goal.returns-in_err-groups
returns-in_err-groups g c fields rows =
    let m = g.M.Measure.meaning in
    let e = columns_long m c.args.shapes.now c.args.cells.now c.loop-number.number c.index-shapes-number.result c.loop-number-test.true c.index-shapes-number.is in
    let z = file_size m fields rows c.args.shapes.now c.args.cells.now in
    let short = c.in_err-groups.ensures in
    let inv = c.loop-number.invariant.0 in
    let more : c.args.room < length (file_bytes m (content_of fields rows c.args.shapes.now c.args.cells.now)) = omega arith in
    subst (Within c.args.room (length (file_bytes m (content_of fields rows c.args.shapes.now c.args.cells.now)))) (sym c.from_residual-in_err-groups.ensures) more
