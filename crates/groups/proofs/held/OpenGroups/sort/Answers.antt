-- Sorted, the live cells are the groups in order.
use Rattle.std.proofs.Common.{◌≡◌, ◌≤◌, length, drop, vec_items, sym, refl, ap, ◌∙◌, subst, arith}
use Rattle.std.specs.Vec.{with_items}
use Rattle.std.proofs.lemmas.List.{with_items_is}
use Rattle.cells.specs.Groups.{in_order, Apart}
use Rattle.cells.proofs.InOrder.{sorted_in_order}
use Rattle.groups.specs.Chains.{Ordered, Ascending, cells_of, live}
use Rattle.groups.proofs.Props.{linked}
use Rattle.groups.proofs.Sorts.{ascending_from}
use Rattle.groups.proofs.Holding.{length_open}
use Rattle.groups.proofs.held.OpenGroups.sort.Goals as goal

pub sort-requires : goal.sort-requires
sort-requires g c =
    let k = linked c.args.self.kept in
    let e = sym c.as_mut_slice.ensures.value in
    record { within = subst (λ l. c.args.self.used ≤ length l) e k.chained.within; apart = subst (λ l. Apart (live c.args.self.used l)) e k.apart }

pub invariant_of-result : goal.invariant_of-result
invariant_of-result g c =
    let k = linked c.args.self.kept in
    let u = c.args.self.used in
    let xs = vec_items c.args.self.places in
    let ys = c.sort.new.places in
    let n : length ys ≡ c.args.self.places.len = omega (arith, c.sort.auto.places, c.as_mut_slice.ensures.len) in
    let is : live u ys ≡ in_order (live u xs) = c.sort.ensures.live ∙ ap (λ l. in_order (live u l)) c.as_mut_slice.ensures.value in
    let s : Ordered ys u = record {
      within = omega (arith, k.chained.within, ap length c.as_mut_slice.ensures.value, c.as_mut_slice.ensures.len);
      ascending = subst Ascending (sym is) (ascending_from _ (sorted_in_order (live u xs)));
    } in
    record { few = c.args.self.few; kept = ∣ subst (λ l. Ordered l u) (sym (with_items_is c.args.self.places ys n)) s ∣₁ }

pub returns : goal.returns
returns g c =
    let u = c.args.self.used in
    let xs = vec_items c.args.self.places in
    let ys = c.sort.new.places in
    let v = c.as_mut_slice.ensures.value in
    let n : length ys ≡ c.args.self.places.len = omega (arith, c.sort.auto.places, c.as_mut_slice.ensures.len) in
    let items = with_items_is c.args.self.places ys n in
    let long = sym (length_open xs u (linked c.args.self.kept)) in
    record {
      groups = ap (live u) items ∙ c.sort.ensures.live ∙ ap (λ l. in_order (live u l)) v;
      rest = subst (λ m. drop m (cells_of (vec_items (with_items c.args.self.places ys))) ≡ drop m (cells_of xs)) long (ap (λ l. drop u (cells_of l)) items ∙ c.sort.ensures.rest ∙ ap (λ l. drop u (cells_of l)) v);
      room = refl;
    }
