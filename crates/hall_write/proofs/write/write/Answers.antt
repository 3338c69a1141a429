-- The head and then the columns, where there is room for both.
use Rattle.std.proofs.Common.{◌≡◌, List, ℕ, ◌++◌, length, drop, sym, ap, ◌∙◌, arith, rules}
use Rattle.hall_file.specs.Written.{head_bytes, columns_bytes, file_bytes}
use Rattle.hall_write.specs.Laid.{laid, content_of}
use Rattle.hall_write.proofs.Overs.{puts_as, puts_more, room_more, over_front}
use Rattle.hall_write.proofs.Lengths.{file_size, file_is}
use Rattle.hall_write.proofs.write.write.Goals as goal

pub put-requires : goal.put-requires
put-requires g c =
    let few = (c.in-Some.ensures c.args.fields c.args.rows).1 in
    let z = file_size g.M.Measure.meaning c.args.fields c.args.rows c.args.shapes.now c.args.cells.now in
    let head = ap length c.head_bytes.ensures in
    omega arith

pub put_columns-requires : goal.put_columns-requires
put_columns-requires g c =
    let few = (c.in-Some.ensures c.args.fields c.args.rows).1 in
    let z = file_size g.M.Measure.meaning c.args.fields c.args.rows c.args.shapes.now c.args.cells.now in
    room_more (columns_bytes g.M.Measure.meaning (laid 0 c.args.shapes.now c.args.cells.now)) (puts_as c.head_bytes.ensures c.put.ensures) (omega arith)

-- the same as a list that it is the same as
onto : {x y z : List ℕ} → y ≡ z → x ≡ y → x ≡ z
onto e f = f ∙ e

pub returns : goal.returns
returns g c =
    let m = g.M.Measure.meaning in
    let old = c.args.buffer.now in
    let cb = columns_bytes m (laid 0 c.args.shapes.now c.args.cells.now) in
    let hb = head_bytes c.args.fields (length c.args.shapes.now) c.args.rows in
    let fits = c.in-Some.ensures c.args.fields c.args.rows in
    let n = fits.0 in
    let few = fits.1 in
    let z = file_size m c.args.fields c.args.rows c.args.shapes.now c.args.cells.now in
    let is = file_is m c.args.fields c.args.rows c.args.shapes.now c.args.cells.now in
    let all = puts_more (puts_as c.head_bytes.ensures c.put.ensures) c.put_columns.ensures (omega arith) in
    let name = sym all.same in
    let whole : c.put_columns.new.out.buffer.now ≡ (hb ++ cb) ++ drop (length (hb ++ cb)) old = all.is ∙ over_front (hb ++ cb) old in
    let written = whole ∙ ap (λ l. l ++ drop (length l) old) (sym is) ∙ ap (λ k. file_bytes m (content_of c.args.fields c.args.rows c.args.shapes.now c.args.cells.now) ++ drop k old) (sym n) in
    (n, omega arith, onto written (search rules))
