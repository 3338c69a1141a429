-- The live cells ascend.
use Rattle.std.proofs.Common.{◌≡◌, length, take, vec_items, sym, ap, ◌∙◌, subst, arith}
use Rattle.std.proofs.lemmas.List.{take-map}
use Rattle.cells.specs.Groups.{Sorted}
use Rattle.groups.specs.Chains.{cells_of, live}
use Rattle.groups.proofs.Props.{ordered}
use Rattle.groups.proofs.Sorts.{sorted_from}
use Rattle.groups.proofs.held.SortedGroups.live.Goals as goal

pub front-requires : goal.front-requires
front-requires g c = omega (arith, (ordered c.args.self.now.kept).within, ap length c.as_slice.ensures.value)

pub returns : goal.returns
returns g c =
    let u = c.args.self.now.used in
    let xs = vec_items c.args.self.now.places in
    let is : cells_of c.front.result.now ≡ live u xs =
    ap cells_of (c.front.ensures ∙ ap (take u) c.as_slice.ensures.value) ∙ sym (take-map (λ s. s.cell) u xs) in
    record { groups = is; sorted = subst Sorted (sym is) (sorted_from _ (ordered c.args.self.now.kept).ascending) }
