-- The head of the column and then its groups.
use Rattle.std.proofs.Common.{◌++◌, ap, ◌∙◌}
use Rattle.measures.specs.Bytes.{bytes_of}
use Rattle.cells.specs.Columns.{column}
use Rattle.hall_file.specs.Written.{shape_bytes, groups_bytes}
use Rattle.hall_write.proofs.Overs.{puts_as, puts_more, room_more}
use Rattle.hall_write.proofs.length.FileColumn.put_column.Goals as goal

pub put_groups-requires : goal.put_groups-requires
put_groups-requires g c =
    let s = c.args.self.now.shape.now in
    let gs = column c.args.self.now.number c.args.cells.now in
    let m = g.M.Measure.meaning in
    room_more (groups_bytes m s gs) (puts_as (c.column_head.ensures ∙ ap (λ n. shape_bytes m s ++ bytes_of 2 n) c.group_count.ensures) c.put.ensures) c.requires

pub returns : goal.returns
returns g c =
    let s = c.args.self.now.shape.now in
    let m = g.M.Measure.meaning in
    puts_more (puts_as (c.column_head.ensures ∙ ap (λ n. shape_bytes m s ++ bytes_of 2 n) c.group_count.ensures) c.put.ensures) c.put_groups.ensures c.requires
