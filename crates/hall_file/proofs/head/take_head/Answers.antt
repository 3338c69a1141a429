-- Each test that fails rules a head out; where all succeed it is there.
use Rattle.std.proofs.Common.{◌+◌, ◌*◌, leb, get_or, sym, arith, ltb-false, ltb-true}
use Rattle.std.proofs.lemmas.Bool.{both_ways, and_parts, and_from, le-leb, leb-true, eq-eqb, eqb-true}
use Rattle.hall_file.proofs.Heads.{head_no, head_yes}
use Rattle.hall_file.proofs.head.take_head.Goals as goal
use Rattle.hall_file.proofs.head.take_head.Goals.{in_default-via-then-bytes-lt11, in_default-via-else-bytes-lt11+in-84+in-76+in_default-1, in_default-via-else-bytes-lt11+in-84+in_default-1, in_default-via-else-bytes-lt11+in_default-1}

pub returns-in_default : goal.returns-in_default
returns-in_default c =
    head_no c.args.bytes.now (λ h.
    elim c.in_default.branch [
      | in_default-via-then-bytes-lt11 w ↦ omega (arith, ltb-true)
      | in_default-via-else-bytes-lt11+in-84+in-76+in_default-1 w ↦ omega (arith, ltb-true)
      | in_default-via-else-bytes-lt11+in-84+in_default-1 w ↦ omega (arith, ltb-true)
      | in_default-via-else-bytes-lt11+in_default-1 w ↦ omega (arith, ltb-true)
    ])

pub returns-then-not-is_version : goal.returns-then-not-is_version
returns-then-not-is_version c = head_no c.args.bytes.now (λ h. both_ways _ (sym c.if-not-is_version.ensures) (eq-eqb _ 1 h.version))

pub returns-then-not-is_one_to : goal.returns-then-not-is_one_to
returns-then-not-is_one_to c = head_no c.args.bytes.now (λ h. both_ways _ (sym c.if-not-is_one_to.ensures) (and_from _ _ (le-leb 1 _ h.fields_some) (le-leb _ 8 h.fields_few)))

pub returns-then-not-is_one_to-2 : goal.returns-then-not-is_one_to-2
returns-then-not-is_one_to-2 c = head_no c.args.bytes.now (λ h. both_ways _ (sym c.if-not-is_one_to-2.ensures) (and_from _ _ (le-leb 1 _ h.columns_some) (le-leb _ 8 h.columns_few)))

pub returns-then-not-is_row_count : goal.returns-then-not-is_row_count
returns-then-not-is_row_count c =
    let e = c.from_le_bytes-rows.ensures in
    head_no c.args.bytes.now (λ h. let r = h.rows_few in both_ways _ (sym c.if-not-is_row_count.ensures) (le-leb _ 1000000 (omega arith)))

pub returns : goal.returns
returns c =
    let bs = c.args.bytes.now in
    let e = c.from_le_bytes-rows.ensures in
    let v = eqb-true (get_or bs 3 0 + get_or bs 4 0 * 256) 1 (sym c.if-not-is_version.ensures) in
    let f = and_parts (leb 1 (get_or bs 5 0)) (leb (get_or bs 5 0) 8) (sym c.if-not-is_one_to.ensures) in
    let k = and_parts (leb 1 (get_or bs 6 0)) (leb (get_or bs 6 0) 8) (sym c.if-not-is_one_to-2.ensures) in
    let n = leb-true c.from_le_bytes-rows.result 1000000 (sym c.if-not-is_row_count.ensures) in
    head_yes bs (λ i. (c.type_inv.bytes i).fits)
    (record { long = omega (arith, ltb-false); t = omega arith; l = omega arith; y = omega arith; version = v; fields_some = leb-true 1 _ f.0; fields_few = leb-true _ 8 f.1; columns_some = leb-true 1 _ k.0; columns_few = leb-true _ 8 k.1; rows_few = omega arith })
    c.from_le_bytes-rows.result e
