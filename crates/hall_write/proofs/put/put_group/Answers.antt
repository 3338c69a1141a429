-- Key, rows, value.
use Rattle.std.proofs.Common.{◌++◌, sym, ◌∙◌, subst}
use Rattle.measures.specs.Bytes.{bytes_of}
use Rattle.hall_write.specs.Over.{HasRoom}
use Rattle.hall_write.proofs.Overs.{puts_as, puts_more, room_first, room_more, le_four}
use Rattle.hall_write.proofs.put.put_group.Goals as goal

pub put-requires : goal.put-requires
put-requires g c =
    let x = c.args.cell.now in
    let vb = (g.M.Measure.meaning c.args.shape.now.measure).written x.value in
    let e = c.to_le_bytes.ensures ∙ le_four x.rows in
    subst (λ l. HasRoom l c.put_key.new.out) (sym e)
    (room_first (bytes_of 4 x.rows) vb c.put_key.new.out (room_more (bytes_of 4 x.rows ++ vb) c.put_key.ensures c.requires))

pub put-requires-2 : goal.put-requires-2
put-requires-2 g c =
    let x = c.args.cell.now in
    let vb = (g.M.Measure.meaning c.args.shape.now.measure).written x.value in
    let rows = puts_as (c.to_le_bytes.ensures ∙ le_four x.rows) c.put.ensures in
    subst (λ l. HasRoom l c.put.new.out) (sym c.write.ensures)
    (room_more vb rows (room_more (bytes_of 4 x.rows ++ vb) c.put_key.ensures c.requires))

pub returns : goal.returns
returns g c =
    let x = c.args.cell.now in
    let vb = (g.M.Measure.meaning c.args.shape.now.measure).written x.value in
    let rows = puts_as (c.to_le_bytes.ensures ∙ le_four x.rows) c.put.ensures in
    let value = puts_as c.write.ensures c.put-2.ensures in
    puts_more c.put_key.ensures (puts_more rows value (room_more (bytes_of 4 x.rows ++ vb) c.put_key.ensures c.requires)) c.requires
