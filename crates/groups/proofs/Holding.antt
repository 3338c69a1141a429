-- What open groups tell, and what a contribution makes of them. Assumes nothing.
use Rattle.std.proofs.Common.{◌≡◌, ℕ, ◌+◌, ◌<◌, true, false, cond, eqb, ltb, List, map, length, get_or, drop, is_some, Some, Ok, Err, Result, true≢false, refl, vec_items, vec_len, sym, ap, ◌∙◌, subst, arith}
use Rattle.std.proofs.lemmas.Bool.{lt-ltb, le-ltb}
use Rattle.std.proofs.lemmas.List.{with_items_is}
use Rattle.std.specs.Vec.{with_items}
use Rattle.std.specs.Result.{IsErr}
use Rattle.cells.specs.declared.id.GroupId.{GroupId}
use Rattle.cells.specs.declared.cell.Cell.{Cell}
use Rattle.cells.specs.Groups.{put, lookup, in_order, Absent}
use Rattle.cells.specs.Columns.{column, group, put_group}
use Rattle.cells.specs.Contributions.{there}
use Rattle.cells.proofs.InOrder.{in_order_at, in_order_none, sorted_in_order}
use Rattle.cells.proofs.Columnwise.{column_put}
use Rattle.cells.proofs.Heard.{length_in_order}
use Rattle.cells.specs.declared.place.Place.{Place}
use Rattle.groups.specs.declared.added.Added.{Added}
use Rattle.groups.specs.declared.added.Added.TheVariants.{Grown, Begun}
use Rattle.groups.specs.declared.added.NoRoom.{NoRoom}
use Rattle.groups.specs.declared.held.OpenGroups.{OpenGroups}
use Rattle.groups.specs.Chains.{Linked, Found, Putting, cells_of, live}
use Rattle.groups.specs.Held.{arrived, open_groups, Adding}
use Rattle.groups.proofs.Walks.{length_live, live_at}

module _ {V : Type 0} (xs : List (Place V)) (used : ℕ) (k : Linked xs used) where
  pub length_open : length (in_order (live used xs)) ≡ used
  length_open = length_in_order (live used xs) k.apart ∙ length_live xs used k.chained.within

  pub lookup_found : (p : GroupId) (i : ℕ) (s : Place V) → Found p (live used xs) (Some i) → lookup p (in_order (live used xs)) ≡ Some (get_or xs i s).cell
  lookup_found p i s found =
      let lt : i < used = omega (arith, found.0, length_live xs used k.chained.within) in
      ap (λ q. lookup q (in_order (live used xs))) (sym (found.1 s.cell)) ∙ in_order_at (live used xs) k.apart i s.cell found.0 ∙ ap Some (live_at xs used i s.cell s lt k.chained.within)

  there_found : (p : GroupId) (i : ℕ) (c : Cell V) → Found p (live used xs) (Some i) → there p (in_order (live used xs)) ≡ true
  there_found p i c found = ap is_some (ap (λ q. lookup q (in_order (live used xs))) (sym (found.1 c)) ∙ in_order_at (live used xs) k.apart i c found.0)

  there_absent : (p : GroupId) → Absent p (live used xs) → there p (in_order (live used xs)) ≡ false
  there_absent p out = ap is_some (in_order_none p (live used xs) out)

-- how many groups there are after
abbrev pub Count : Result Added NoRoom → ℕ → ℕ → Type 0
Count (Ok Grown) before now = now ≡ before
Count (Ok Begun) before now = now ≡ before + 1
Count (Err full) before now = now ≡ before

-- there is one way to have no room
pub full : (r : Result Added NoRoom) → IsErr r → r ≡ Err (record {})
full (Ok came) e = absurd (true≢false (sym e))
full (Err no_room) e = refl

module _ {V : Type 0} (join : V → V → V) (x : Cell V) (o p : OpenGroups V) (k : Linked (vec_items o.places) o.used) (room : vec_len p.places ≡ vec_len o.places) (long : length (vec_items o.places) ≡ vec_len o.places) where
  abbrev xs : List (Place V)
  xs = vec_items o.places

  abbrev ys : List (Place V)
  ys = vec_items p.places

  put_columns : open_groups p ≡ put join x (open_groups o) → (n : ℕ) → column n (open_groups p) ≡ cond (eqb x.id.column n) (put_group join (group x) (column n (open_groups o))) (column n (open_groups o))
  put_columns e n = ap (column n) e ∙ column_put n join x (open_groups o) (sorted_in_order (live o.used xs))

  -- where n groups are, what follows them
  rest_at : (n : ℕ) → p.used ≡ n → Linked ys n → drop n (cells_of ys) ≡ drop n (cells_of xs) → drop (length (open_groups p)) (cells_of ys) ≡ drop (length (open_groups p)) (cells_of xs)
  rest_at n e l h = subst (λ m. drop m (cells_of ys) ≡ drop m (cells_of xs)) (sym (ap (λ u. length (in_order (live u ys))) e ∙ length_open ys n l)) h

  pub adding : (r : Result Added NoRoom) → Count r o.used p.used → Putting join x xs o.used ys r → Adding join x o p r
  adding (Ok Grown) n d =
      let groups : open_groups p ≡ put join x (open_groups o) = ap (λ u. in_order (live u ys)) n ∙ d.0.groups in
      record {
        answers = ap (λ b. cond b (Ok Grown) (cond (ltb (length (open_groups o)) (vec_len o.places)) (Ok Begun) (Err (record {})))) (sym (there_found xs o.used k x.id d.1.0 x d.1.1));
        groups = groups;
        columns = put_columns groups;
        arrival = ap (λ u. map (λ c. c.id) (live u ys)) n ∙ d.2;
        rest = rest_at o.used n d.0.linked d.0.rest;
        room = room;
        unchanged = tt;
      }
  adding (Ok Begun) n d =
      let groups : open_groups p ≡ put join x (open_groups o) = ap (λ u. in_order (live u ys)) n ∙ d.0.groups in
      let left : ltb (length (open_groups o)) (vec_len o.places) ≡ true = lt-ltb _ _ (omega (arith, length_open xs o.used k, d.3)) in
      record {
        answers = ap (λ b. cond b (Ok Begun) (Err (record {}))) (sym left) ∙ ap (λ b. cond b (Ok Grown) (cond (ltb (length (open_groups o)) (vec_len o.places)) (Ok Begun) (Err (record {})))) (sym (there_absent xs o.used k x.id d.1));
        groups = groups;
        columns = put_columns groups;
        arrival = ap (λ u. live u ys) n ∙ d.2;
        rest = rest_at (o.used + 1) n d.0.linked d.0.rest;
        room = room;
        unchanged = tt;
      }
  adding (Err full) n d =
      let same : arrived p ≡ arrived o = ap (λ u. live u ys) n ∙ ap (live o.used) d.0 in
      let full : ltb (length (open_groups o)) (vec_len o.places) ≡ false = le-ltb _ _ (omega (arith, length_open xs o.used k, d.2)) in
      record {
        answers = ap (λ b. cond b (Ok Begun) (Err (record {}))) (sym full) ∙ ap (λ b. cond b (Ok Grown) (cond (ltb (length (open_groups o)) (vec_len o.places)) (Ok Begun) (Err (record {})))) (sym (there_absent xs o.used k x.id d.1));
        groups = ap in_order same;
        columns = λ m. ap (λ l. column m (in_order l)) same;
        arrival = same;
        rest = ap (λ l. drop (length (open_groups p)) (cells_of l)) d.0;
        room = room;
        unchanged = (d.0, n);
      }

-- the lent places came back in their Vec
module _ {V : Type 0} (join : V → V → V) (x : Cell V) (o : OpenGroups V) (k : Linked (vec_items o.places) o.used) (xs ys : List (Place V)) (lent : xs ≡ vec_items o.places) (long : length xs ≡ vec_len o.places) (back : length ys ≡ length xs) where
  pub put_back : (r : Result Added NoRoom) (p : OpenGroups V) → p.places ≡ with_items o.places ys → Count r o.used p.used → Putting join x xs o.used ys r → Adding join x o p r
  put_back r p e n d =
      let same : vec_items p.places ≡ ys = ap vec_items e ∙ with_items_is o.places ys (back ∙ long) in
      adding join x o p k (ap vec_len e) (ap length (sym lent) ∙ long) r n (subst (λ l. Putting join x (vec_items o.places) o.used l r) (sym same) (subst (λ l. Putting join x l o.used ys r) lent d))
