-- The cell that the walk finds is the group.
use Rattle.std.proofs.Common.{Some, None, vec_items, sym, ap, ◌∙◌, subst}
use Rattle.cells.proofs.InOrder.{in_order_none}
use Rattle.groups.specs.Chains.{Chained, Found, live}
use Rattle.groups.proofs.Holding.{lookup_found}
use Rattle.groups.proofs.Props.{linked}
use Rattle.groups.proofs.held.OpenGroups.find.Goals as goal

pub seek-requires : goal.seek-requires
seek-requires g c = subst (λ l. Chained l c.args.self.now.used) (sym c.as_slice.ensures.value) (linked c.args.self.now.kept).chained

pub returns-in_err-i : goal.returns-in_err-i
returns-in_err-i g c =
    let out = subst (λ l. Found c.args.id.now (live c.args.self.now.used l) None) c.as_slice.ensures.value c.in_err-i.ensures in
    c.from_residual.ensures ∙ sym (in_order_none c.args.id.now (live c.args.self.now.used (vec_items c.args.self.now.places)) out)

pub returns : goal.returns
returns g c =
    let k = linked c.args.self.now.kept in
    let found = subst (λ l. Found c.args.id.now (live c.args.self.now.used l) (Some c.in_ok-i.i)) c.as_slice.ensures.value c.in_ok-i.ensures in
    ap (λ p. Some p.cell) c.index.ensures ∙ sym (lookup_found (vec_items c.args.self.now.places) c.args.self.now.used k c.args.id.now c.in_ok-i.i c.index.result.now found)
