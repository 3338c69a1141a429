-- At the end all live cells are chained.
use Rattle.std.proofs.Common.{◌≡◌, ◌∙◌, subst, arith}
use Rattle.groups.specs.Chains.{Chained}
use Rattle.groups.proofs.chains.relink.Goals as goal

pub returns : goal.returns
returns g c =
    let e : c.loop-i.i ≡ c.args.used = omega arith in
    record {
      cells = c.loop-i.invariant.0 ∙ c.clear.ensures.cells;
      chained = subst (Chained c.loop-i.places) e c.loop-i.invariant.1;
    }
