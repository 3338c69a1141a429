-- The rest of the list decides, one row at a time.
use Rattle.std.proofs.Common.{◌+◌, ◌≤◌, ◌&&◌, drop, fold, sym, ap, ◌∙◌, subst, arith}
use Rattle.std.specs.List.{list_all}
use Rattle.std.proofs.lemmas.List.{drop_all}
use Rattle.scan.specs.Scans.{rows_of, is_row, with_row}
use Rattle.scan.proofs.Gathering.{rest_from, length_rows_of, with_row_rows, gathers}
use Rattle.scan.proofs.scan.Asked.gather.Goals as goal

pub returns-then-not-is_row : goal.returns-then-not-is_row
returns-then-not-is_row g c =
    let rows = c.args.rows.now in
    let i = c.loop-row.row-index in
    let p = is_row c.args.self.now.width in
    c.loop-row.invariant.0 ∙ ap (list_all p) (rest_from rows i _ c.loop-row-test.true) ∙ ap (λ b. b && list_all p (drop (i + 1) (rows_of rows))) (sym c.if-not-is_row.ensures)

pub loop-row-preserved : goal.loop-row-preserved
loop-row-preserved g c =
    let rows = c.args.rows.now in
    let i = c.loop-row.row-index in
    let p = is_row c.args.self.now.width in
    let m = g.M.Measure.meaning c.args.self.now.column.now.measure in
    let f = with_row m c.args.self.now.column.now c.args.self.now.base.now in
    let few : c.with_row-all.result.rows ≤ c.loop-row.all.rows + 1 =
    subst (λ q. q.rows ≤ c.loop-row.all.rows + 1) (sym c.with_row-all.ensures) (with_row_rows m c.args.self.now.column.now c.args.self.now.base.now c.loop-row.all _) in (
      c.loop-row.invariant.0 ∙ ap (list_all p) (rest_from rows i _ c.loop-row-test.true) ∙ ap (λ b. b && list_all p (drop (i + 1) (rows_of rows))) (sym c.if-not-is_row.ensures),
      c.loop-row.invariant.1 ∙ ap (fold f c.loop-row.all) (rest_from rows i _ c.loop-row-test.true) ∙ ap (λ a. fold f a (drop (i + 1) (rows_of rows))) (sym c.with_row-all.ensures),
      omega (arith, few, c.loop-row.invariant.2),
    )

pub returns : goal.returns
returns g c =
    let rows = c.args.rows.now in
    let i = c.loop-row.row-index in
    let p = is_row c.args.self.now.width in
    let m = g.M.Measure.meaning c.args.self.now.column.now.measure in
    let f = with_row m c.args.self.now.column.now c.args.self.now.base.now in
    let end = drop_all i (rows_of rows) (omega (arith, length_rows_of rows)) in
    let same = sym (ap (fold f c.loop-row.all) end) ∙ sym c.loop-row.invariant.1 ∙ ap (λ v. fold f (record { value = v; rows = 0 }) (rows_of rows)) c.none.ensures ∙ gathers m c.args.self.now.column.now c.args.self.now.base.now (rows_of rows) in
    (c.loop-row.invariant.0 ∙ ap (list_all p) end, same, omega (arith, c.loop-row.invariant.2, c.loop-row.auto.row-index-end, length_rows_of rows))
