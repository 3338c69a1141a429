-- At the end nothing is left to count.
use Rattle.std.proofs.Common.{◌≡◌, List, [], ◌∷◌, length, refl, ap, arith}
use Rattle.cells.specs.declared.id.GroupId.{GroupId}
use Rattle.cells.specs.declared.cell.Cell.{Cell}
use Rattle.cells.specs.Contributions.{beginning}
use Rattle.cells.proofs.Heard.{length_heard}
use Rattle.groups.specs.Held.{open_groups}
use Rattle.groups.proofs.held.OpenGroups.missing.Goals as goal

ended : {V : Type 0} (gs : List (Cell V)) (ps : List GroupId) → length ps ≡ 0 → beginning ps gs ≡ 0
ended gs [] e = refl
ended gs (p ∷ ps) e = absurd (omega arith)

pub returns-clause-exact : goal.returns-clause-exact
returns-clause-exact g c = λ joins xs e.
    let gs = open_groups c.args.self.now in
    let counts = ap (λ l. beginning l gs) e in
    omega (arith, length_heard joins gs xs, counts, ended gs c.loop-id.rest.now c.in_default.ensures.cases, c.loop-id.invariant.counted)
