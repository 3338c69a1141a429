-- Kind, measured byte and mask, each where it lies.
use Rattle.std.proofs.Common.{◌<◌, ◌≤◌, length, get_or, ap, ◌∙◌, arith, ltb-false, ltb-true}
use Rattle.readers.specs.Seen.{seen}
use Rattle.hall_file.specs.Reading.{measured_of}
use Rattle.hall_file.proofs.Laws.{lawful}
use Rattle.hall_file.proofs.Heads.{shape_short, shape_no_kind, shape_no_field, shape_no_mask, shape_yes}
use Rattle.hall_file.proofs.columns.take_shape.Goals as goal

pub returns-in_default-clause-read : goal.returns-in_default-clause-read
returns-in_default-clause-read g c =
    let l : length c.args.bytes.now < 3 = omega (arith, ltb-true) in
    shape_short (lawful g.met.M.Measure) c.args.fields c.ranges.fields.fits c.args.bytes.now l

pub returns-in_err-measure-clause-read : goal.returns-in_err-measure-clause-read
returns-in_err-measure-clause-read g c =
    ap seen c.from_residual.ensures ∙ shape_no_kind (lawful g.met.M.Measure) c.args.fields c.ranges.fields.fits c.args.bytes.now c.in_err-measure.ensures

pub returns-in_err-measured-clause-read : goal.returns-in_err-measured-clause-read
returns-in_err-measured-clause-read g c =
    ap seen c.from_residual-in_err-measured.ensures
    ∙ shape_no_field (lawful g.met.M.Measure) c.args.fields c.ranges.fields.fits c.args.bytes.now c.in_ok-measure.measure c.in_ok-measure.ensures
    (c.in_err-measured.ensures ∙ ap (λ n. measured_of n c.args.fields (get_or c.args.bytes.now 1 0)) c.fields.ensures)

pub returns-then-not-is_mask-clause-read : goal.returns-then-not-is_mask-clause-read
returns-then-not-is_mask-clause-read g c =
    shape_no_mask (lawful g.met.M.Measure) c.args.fields c.ranges.fields.fits c.args.bytes.now c.if-not-is_mask.ensures

pub returns-clause-read : goal.returns-clause-read
returns-clause-read g c =
    let l : 3 ≤ length c.args.bytes.now = omega (arith, ltb-false) in
    shape_yes (lawful g.met.M.Measure) c.args.fields c.ranges.fields.fits c.args.bytes.now c.in_ok-measure.measure c.in_ok-measured.measured l (c.type_inv.bytes 2).fits c.in_ok-measure.ensures
    (c.in_ok-measured.ensures ∙ ap (λ n. measured_of n c.args.fields (get_or c.args.bytes.now 1 0)) c.fields.ensures)
    c.if-not-is_mask.ensures
