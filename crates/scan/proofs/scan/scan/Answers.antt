-- The column that was scanned is the one asked for, where it is in the plan.
use Rattle.std.proofs.Common.{◌≡◌, true, false, length, Some, Ok, sym, ap, ◌∙◌, subst, arith}
use Rattle.std.specs.List.{list_all}
use Rattle.std.proofs.lemmas.Bool.{cond-true, cond-false}
use Rattle.words.specs.Tables.{texts}
use Rattle.scan.specs.Scans.{rows_of, is_row, answered}
use Rattle.scan.proofs.Gathering.{scanned_by_ok, column_there, column_past}
use Rattle.scan.proofs.scan.scan.Goals as goal

pub returns-then-column-len : goal.returns-then-column-len
returns-then-column-len g c =
    let p = c.args.plan.now in
    let rows = rows_of c.args.rows.now in
    let ok = scanned_by_ok _ _ _ _ _ _ c.in_ok-found.ensures in
    let good : list_all (is_row (length (texts p.names.rows))) rows ≡ true = subst (λ w. list_all (is_row w) rows ≡ true) c.len.ensures.value ok.0 in
    let none = column_past p.columns.places (length (texts p.titles)) c.args.column (omega (arith, c.len-2.ensures.value, c.if-column-len.true)) in
    sym (cond-true _ _ _ good ∙ cond-false _ _ _ ok.1 ∙ ap (answered g.M.Measure.meaning (length (texts p.names.base)) c.args.base.now rows) none)

pub returns-then-not-is_row : goal.returns-then-not-is_row
returns-then-not-is_row g c =
    let p = c.args.plan.now in
    let rows = rows_of c.args.rows.now in
    let col = c.column_at.result.now in
    let ok = scanned_by_ok _ _ _ _ _ _ c.in_ok-found.ensures in
    let good : list_all (is_row (length (texts p.names.rows))) rows ≡ true = subst (λ w. list_all (is_row w) rows ≡ true) c.len.ensures.value ok.0 in
    let eight : length p.columns.places ≡ 8 = c.column_at.ensures.places in
    let there = column_there p.columns.places (length (texts p.titles)) c.args.column col (omega (arith, c.len-2.ensures.value, c.if-column-len.false)) (omega (arith, eight, c.len-2.ensures.value, c.len-2.ensures.few)) in
    let no : is_row (length (texts p.names.base)) c.args.base.now ≡ false = subst (λ w. is_row w c.args.base.now ≡ false) c.len-3.ensures.value (sym c.if-not-is_row.ensures) in
    sym (cond-true _ _ _ good ∙ cond-false _ _ _ ok.1 ∙ ap (answered g.M.Measure.meaning (length (texts p.names.base)) c.args.base.now rows) there ∙ cond-false _ _ _ no)

pub returns : goal.returns
returns g c =
    let p = c.args.plan.now in
    let rows = rows_of c.args.rows.now in
    let col = c.column_at.result.now in
    let ok = scanned_by_ok _ _ _ _ _ _ c.in_ok-found.ensures in
    let good : list_all (is_row (length (texts p.names.rows))) rows ≡ true = subst (λ w. list_all (is_row w) rows ≡ true) c.len.ensures.value ok.0 in
    let eight : length p.columns.places ≡ 8 = c.column_at.ensures.places in
    let within = c.if-column-len.false in
    let there = column_there p.columns.places (length (texts p.titles)) c.args.column col (omega (arith, c.len-2.ensures.value, within)) (omega (arith, eight, c.len-2.ensures.value, c.len-2.ensures.few)) in
    let same = sym (c.column_at.ensures.value (omega (arith, c.len-2.ensures.few, within)) col) in
    let yes : is_row (length (texts p.names.base)) c.args.base.now ≡ true = subst (λ w. is_row w c.args.base.now ≡ true) c.len-3.ensures.value (sym c.if-not-is_row.ensures) in
    ap Ok ok.2 ∙ sym (cond-true _ _ _ good ∙ cond-false _ _ _ ok.1 ∙ ap (answered g.M.Measure.meaning (length (texts p.names.base)) c.args.base.now rows) (there ∙ ap Some same) ∙ cond-true _ _ _ yes)
