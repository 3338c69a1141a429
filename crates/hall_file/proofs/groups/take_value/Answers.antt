-- Eight bytes, what they read as, and whether that is possible.
use Rattle.std.proofs.Common.{ap, ◌∙◌}
use Rattle.readers.specs.Seen.{seen}
use Rattle.hall_file.proofs.Steps.{value_short, value_at, value_none, value_some, value_not}
use Rattle.hall_file.proofs.groups.take_value.Goals as goal

pub returns-in_err-word : goal.returns-in_err-word
returns-in_err-word g c = ap seen c.from_residual.ensures ∙ value_short (g.M.Measure.meaning c.args.measure.now) c.args.rows c.args.bytes.now c.in_err-word.ensures.cases

pub returns-in_err-value : goal.returns-in_err-value
returns-in_err-value g c =
    let m = g.M.Measure.meaning c.args.measure.now in
    let h = c.in_ok-word.ensures.cases in
    ap seen c.from_residual-in_err-value.ensures
    ∙ value_none m c.args.rows c.args.bytes.now c.in_ok-word.word.now c.in_ok-word.rest.now c.in_err-value.ensures
    ∙ value_at m c.args.rows c.args.bytes.now c.in_ok-word.word.now c.in_ok-word.rest.now h.0 h.1 h.2 (λ i. (c.type_inv.bytes i).fits)

pub returns-then-possible : goal.returns-then-possible
returns-then-possible g c =
    let m = g.M.Measure.meaning c.args.measure.now in
    let h = c.in_ok-word.ensures.cases in
    value_some m c.args.rows c.args.bytes.now c.in_ok-word.word.now c.in_ok-word.rest.now c.in_ok-value.value c.in_ok-value.ensures c.if-possible.ensures
    ∙ value_at m c.args.rows c.args.bytes.now c.in_ok-word.word.now c.in_ok-word.rest.now h.0 h.1 h.2 (λ i. (c.type_inv.bytes i).fits)

pub returns-else-possible : goal.returns-else-possible
returns-else-possible g c =
    let m = g.M.Measure.meaning c.args.measure.now in
    let h = c.in_ok-word.ensures.cases in
    value_not m c.args.rows c.args.bytes.now c.in_ok-word.word.now c.in_ok-word.rest.now c.in_ok-value.value c.in_ok-value.ensures c.if-possible.ensures
    ∙ value_at m c.args.rows c.args.bytes.now c.in_ok-word.word.now c.in_ok-word.rest.now h.0 h.1 h.2 (λ i. (c.type_inv.bytes i).fits)
