-- The rest of the list decides, one value at a time.
use Rattle.std.proofs.Common.{get_or, pos, sym, ap, ◌∙◌, arith, w32, SFits, rules}
use Rattle.std.proofs.lemmas.Int.{to_z-of_z}
use Rattle.std.proofs.lemmas.List.{drop_all}
use Rattle.measures.specs.Values.{all_row_values}
use Rattle.measures.proofs.Rows.{all_row_values_drop}
use Rattle.measures.proofs.values.all_row_values.Goals as goal

pub loop-value-preserved : goal.loop-value-preserved
loop-value-preserved c =
    let e = all_row_values_drop c.args.values.now c.loop-value.value-index c.loop-value-test.true in
    let t = c.if-not-is_row_value.ensures in
    let f : SFits w32 (get_or c.args.values.now c.loop-value.value-index (pos 0)) = search rules in
    grind (arith, to_z-of_z)

pub returns-then-not-is_row_value : goal.returns-then-not-is_row_value
returns-then-not-is_row_value c =
    let e = all_row_values_drop c.args.values.now c.loop-value.value-index c.loop-value-test.true in
    let t = c.if-not-is_row_value.ensures in
    let f : SFits w32 (get_or c.args.values.now c.loop-value.value-index (pos 0)) = search rules in
    grind (arith, to_z-of_z)

pub returns : goal.returns
returns c = sym (c.loop-value.invariant ∙ ap all_row_values (drop_all c.loop-value.value-index c.args.values.now (omega arith)))
