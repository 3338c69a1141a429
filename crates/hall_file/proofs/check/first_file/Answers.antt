-- Head and columns make the file.
use Rattle.std.proofs.Common.{sym, subst}
use Rattle.hall_file.specs.Views.{FirstFile}
use Rattle.hall_file.proofs.Laws.{lawful}
use Rattle.hall_file.proofs.Checks.{no_head, no_columns, parts, front, no_longer}
use Rattle.hall_file.proofs.check.first_file.Goals as goal

pub returns-in_err-head : goal.returns-in_err-head
returns-in_err-head g c = subst (FirstFile g.M.Measure.meaning c.args.bytes.now) (sym c.from_residual.ensures) (no_head (lawful g.met.M.Measure) c.args.bytes.now c.in_err-head.ensures)

pub returns-in_err-rest : goal.returns-in_err-rest
returns-in_err-rest g c = subst (FirstFile g.M.Measure.meaning c.args.bytes.now) (sym c.from_residual-in_err-rest.ensures) (no_columns (lawful g.met.M.Measure) c.args.bytes.now c.in_ok-head.head c.in_ok-head.body.now c.in_ok-head.ensures c.in_err-rest.ensures)

pub overflow_sub-end : goal.overflow_sub-end
overflow_sub-end g c =
    let p = parts (lawful g.met.M.Measure) c.args.bytes.now c.in_ok-head.head c.in_ok-head.body.now c.in_ok-head.ensures c.in_ok-rest.rest.now c.in_ok-rest.ensures in
    no_longer _ _ _ p.body_is

pub returns : goal.returns
returns g c =
    let p = parts (lawful g.met.M.Measure) c.args.bytes.now c.in_ok-head.head c.in_ok-head.body.now c.in_ok-head.ensures c.in_ok-rest.rest.now c.in_ok-rest.ensures in
    (p.holds, p.good, p.written, record { fields = p.fields; columns = p.columns; rows = p.rows; body = front _ _ _ p.body_is })
