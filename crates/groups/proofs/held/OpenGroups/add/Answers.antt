-- The lent places come back with the contribution in them.
use Rattle.std.proofs.Common.{sym, refl, subst, Ok, Err}
use Rattle.cells.specs.Groups.{Apart}
use Rattle.groups.specs.declared.added.Added.TheVariants.{Grown, Begun}
use Rattle.groups.specs.Chains.{Chained, Putting, live}
use Rattle.groups.specs.Held.{Adding}
use Rattle.groups.proofs.Props.{linked}
use Rattle.groups.proofs.Holding.{full, put_back}
use Rattle.groups.proofs.held.OpenGroups.add.Goals as goal

pub put-requires-clause-chained : goal.put-requires-clause-chained
put-requires-clause-chained g c = subst (λ l. Chained l c.args.self.now.used) (sym c.as_mut_slice.ensures.value) (linked c.args.self.now.kept).chained

pub put-requires-clause-apart : goal.put-requires-clause-apart
put-requires-clause-apart g c = subst (λ l. Apart (live c.args.self.now.used l)) (sym c.as_mut_slice.ensures.value) (linked c.args.self.now.kept).apart

pub returns-in_err-put : goal.returns-in_err-put
returns-in_err-put g c =
    let o = c.args.self.now in
    subst (Adding (g.M.Measure.meaning c.args.measure.now).join c.args.new o _) (sym (full _ c.from_residual.ensures.0))
    (put_back (g.M.Measure.meaning c.args.measure.now).join c.args.new o (linked o.kept) _ _ c.as_mut_slice.ensures.value c.as_mut_slice.ensures.len c.put.auto.places (Err (record {})) _ refl refl c.in_err-put.ensures)

pub returns-in-Grown : goal.returns-in-Grown
returns-in-Grown g c =
    let o = c.args.self.now in
    put_back (g.M.Measure.meaning c.args.measure.now).join c.args.new o (linked o.kept) _ _ c.as_mut_slice.ensures.value c.as_mut_slice.ensures.len c.put.auto.places (Ok Grown) _ refl refl (subst (λ a. Putting (g.M.Measure.meaning c.args.measure.now).join c.args.new c.as_mut_slice.result.now o.used c.put.new.places (Ok a)) c.in-Grown.is c.in_ok-put.ensures)

pub returns-in-Begun : goal.returns-in-Begun
returns-in-Begun g c =
    let o = c.args.self.now in
    put_back (g.M.Measure.meaning c.args.measure.now).join c.args.new o (linked o.kept) _ _ c.as_mut_slice.ensures.value c.as_mut_slice.ensures.len c.put.auto.places (Ok Begun) _ refl refl (subst (λ a. Putting (g.M.Measure.meaning c.args.measure.now).join c.args.new c.as_mut_slice.result.now o.used c.put.new.places (Ok a)) c.in-Begun.is c.in_ok-put.ensures)
