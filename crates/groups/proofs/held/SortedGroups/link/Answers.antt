-- Sorted cells are in order as they lie, whatever is linked.
use Rattle.std.proofs.Common.{◌≡◌, length, take, vec_items, sym, refl, ap, ◌∙◌, subst, arith}
use Rattle.std.proofs.lemmas.List.{with_items_is}
use Rattle.cells.specs.Groups.{in_order, Apart}
use Rattle.cells.proofs.Sorting.{sorted_apart, in_order_sorted}
use Rattle.groups.specs.Chains.{Linked, live, cells_of}
use Rattle.groups.proofs.Props.{ordered}
use Rattle.groups.proofs.Sorts.{sorted_from}
use Rattle.groups.proofs.held.SortedGroups.link.Goals as goal

pub relink-requires : goal.relink-requires
relink-requires g c =
    let k = ordered c.args.self.kept in
    record { within = omega (arith, k.within, ap length c.as_mut_slice.ensures.value); few = omega (arith, c.args.self.few, c.as_mut_slice.ensures.len) }

pub invariant_of-result : goal.invariant_of-result
invariant_of-result g c =
    let k = ordered c.args.self.kept in
    let u = c.args.self.used in
    let ys = c.relink.new.places in
    let n : length ys ≡ c.args.self.places.len = omega (arith, c.relink.auto.places, c.as_mut_slice.ensures.len) in
    let is : live u ys ≡ live u (vec_items c.args.self.places) = ap (take u) (c.relink.ensures.cells ∙ ap cells_of c.as_mut_slice.ensures.value) in
    let s : Linked ys u = record { chained = c.relink.ensures.chained; apart = subst Apart (sym is) (sorted_apart _ (sorted_from _ k.ascending)) } in
    record { few = c.args.self.few; kept = ∣ subst (λ l. Linked l u) (sym (with_items_is c.args.self.places ys n)) s ∣₁ }

pub returns : goal.returns
returns g c =
    let k = ordered c.args.self.kept in
    let u = c.args.self.used in
    let ys = c.relink.new.places in
    let n : length ys ≡ c.args.self.places.len = omega (arith, c.relink.auto.places, c.as_mut_slice.ensures.len) in
    let cells = ap cells_of (with_items_is c.args.self.places ys n) ∙ c.relink.ensures.cells ∙ ap cells_of c.as_mut_slice.ensures.value in
    record {
      groups = ap (λ l. in_order (take u l)) cells ∙ in_order_sorted _ (sorted_from _ k.ascending);
      arrival = ap (take u) cells;
      cells = cells;
      room = refl;
    }
