use Rattle.std.proofs.Common.{◌≡◌, [], Some, sym, ap, ◌∙◌, subst}
use Rattle.plan.specs.declared.words_of_plan.Leading.TheVariants as leads
use Rattle.std.proofs.lemmas.Result.{err_from_is_err_and}
use Rattle.words.specs.Tables.{texts}
use Rattle.plan.specs.Lines.{leading}
use Rattle.plan.specs.Drafts.{columns_of}
use Rattle.plan.specs.Machine.{rows, second, bases, line, first_line, second_line}
use Rattle.plan.specs.Promises.{rest, awaited, Unread}
use Rattle.plan.proofs.Whole.{too_long, begins, refused, rows_line, base_line, at_rows, at_base, Misplaced, misplaced, column_begins, unfinished, finished}
use Rattle.plan.proofs.reading.read_plan.Goals.{in_default-via-in-Rows+in-Some+in_default, in_default-via-in-Rows+in_default, in_default-via-in-Base+in-Some+in_default, in_default-via-in-Base+in_default}
use Rattle.plan.proofs.reading.read_plan.Goals as goal

pub returns-then-text-gt-MOST_BYTES : goal.returns-then-text-gt-MOST_BYTES
returns-then-text-gt-MOST_BYTES c = too_long c.args.text.now c.if-text-gt-MOST_BYTES.true

pub loop-awaits-init : goal.loop-awaits-init
loop-awaits-init c = (
  begins c.args.text.now c.of-words.result c.if-text-gt-MOST_BYTES.false c.of-words.ensures.words c.of-words.ensures.place,
  (c.empty-plan.ensures.rows, c.empty-plan.ensures.base, c.empty-plan.ensures.columns),
)

pub returns-in_err-read_names-in-Rows-Some-Rows : goal.returns-in_err-read_names-in-Rows-Some-Rows
returns-in_err-read_names-in-Rows-Some-Rows c =
    let word : c.in-Rows-Some-Rows.field-0-1 ≡ leads.Rows = cc in
    let y = err_from_is_err_and c.from_residual.result c.from_residual.ensures.1 in
    let at = at_rows c.loop-awaits.words c.advance.new.self c.loop-awaits.awaits c.loop-awaits.plan c.in-Rows-Some-Rows.is-0 c.loop-awaits.invariant.1 (ap Some (sym word) ∙ c.in-Rows-Some-Rows.ensures ∙ ap leading c.peek.ensures.seen) c.advance.ensures.words c.advance.ensures.place in
    refused _ _ _ _ y.1 y.2 (c.loop-awaits.invariant.0 ∙ at.1 ∙ c.in_err-read_names-in-Rows-Some-Rows.ensures.value rows second rows_line at.0)

pub loop-awaits-preserved-in-Rows-leading_of-2 : goal.loop-awaits-preserved-in-Rows-leading_of-2
unfolding columns_of
loop-awaits-preserved-in-Rows-leading_of-2 c =
    let word : c.in-Rows-Some-Rows.field-0-1 ≡ leads.Rows = cc in
    let u = subst (λ a. Unread a c.loop-awaits.plan) c.in-Rows-Some-Rows.is-0 c.loop-awaits.invariant.1 in
    let at = at_rows c.loop-awaits.words c.advance.new.self c.loop-awaits.awaits c.loop-awaits.plan c.in-Rows-Some-Rows.is-0 c.loop-awaits.invariant.1 (ap Some (sym word) ∙ c.in-Rows-Some-Rows.ensures ∙ ap leading c.peek.ensures.seen) c.advance.ensures.words c.advance.ensures.place in
    (c.loop-awaits.invariant.0 ∙ at.1 ∙ c.in_ok-read_names-in-Rows-Some-Rows.ensures.value rows second rows_line at.0, (u.1, u.2))

pub returns-in_err-read_names-in-Base-Some-Base : goal.returns-in_err-read_names-in-Base-Some-Base
returns-in_err-read_names-in-Base-Some-Base c =
    let word : c.in-Base-Some-Base.field-0-1 ≡ leads.Base = cc in
    let y = err_from_is_err_and c.from_residual-in_err-read_names-in-Base-Some-Base.result c.from_residual-in_err-read_names-in-Base-Some-Base.ensures.1 in
    let at = at_base c.loop-awaits.words c.advance-in-Base-Some-Base.new.self c.loop-awaits.awaits c.loop-awaits.plan c.in-Base-Some-Base.is-0 c.loop-awaits.invariant.1 (ap Some (sym word) ∙ c.in-Base-Some-Base.ensures ∙ ap leading c.peek.ensures.seen) c.advance-in-Base-Some-Base.ensures.words c.advance-in-Base-Some-Base.ensures.place in
    let rs = texts c.loop-awaits.plan.names.rows in
    refused _ _ _ _ y.1 y.2 (c.loop-awaits.invariant.0 ∙ at.1 ∙ c.in_err-read_names-in-Base-Some-Base.ensures.value (bases rs) (λ ms. line (record { rows = rs; base = ms; columns = [] })) (base_line rs) at.0)

pub loop-awaits-preserved-in-Base-this-2 : goal.loop-awaits-preserved-in-Base-this-2
unfolding columns_of
loop-awaits-preserved-in-Base-this-2 c =
    let word : c.in-Base-Some-Base.field-0-1 ≡ leads.Base = cc in
    let at = at_base c.loop-awaits.words c.advance-in-Base-Some-Base.new.self c.loop-awaits.awaits c.loop-awaits.plan c.in-Base-Some-Base.is-0 c.loop-awaits.invariant.1 (ap Some (sym word) ∙ c.in-Base-Some-Base.ensures ∙ ap leading c.peek.ensures.seen) c.advance-in-Base-Some-Base.ensures.words c.advance-in-Base-Some-Base.ensures.place in
    let u = subst (λ a. Unread a c.loop-awaits.plan) c.in-Base-Some-Base.is-0 c.loop-awaits.invariant.1 in
    let rs = texts c.loop-awaits.plan.names.rows in (
      c.loop-awaits.invariant.0 ∙ at.1
          ∙ c.in_ok-read_names-in-Base-Some-Base.ensures.value (bases rs) (λ ms. line (record { rows = rs; base = ms; columns = [] })) (base_line rs) at.0
          ∙ ap (λ cs. rest c.read_names-in-Base-Some-Base.new.words (line (record { rows = rs; base = texts c.read_names-in-Base-Some-Base.new.table; columns = cs }))) (sym u.1),
      tt,
    )

pub returns-in_err-read_column-in-Columns-default : goal.returns-in_err-read_column-in-Columns-default
returns-in_err-read_column-in-Columns-default c =
    let y = err_from_is_err_and c.from_residual-in_err-read_column-in-Columns-default.result c.from_residual-in_err-read_column-in-Columns-default.ensures.1 in
    refused _ _ _ _ y.1 y.2
    (c.loop-awaits.invariant.0
    ∙ ap (λ a. rest c.loop-awaits.words (awaited a c.loop-awaits.plan)) c.in-Columns-default.is-0
    ∙ column_begins c.loop-awaits.words _ c.loop-awaits-test.ensures
    ∙ c.in_err-read_column-in-Columns-default.ensures.value)

pub loop-awaits-preserved : goal.loop-awaits-preserved
loop-awaits-preserved c = (
  c.loop-awaits.invariant.0
      ∙ ap (λ a. rest c.loop-awaits.words (awaited a c.loop-awaits.plan)) c.in-Columns-default.is-0
      ∙ column_begins c.loop-awaits.words _ c.loop-awaits-test.ensures
      ∙ c.in_ok-read_column-in-Columns-default.ensures.value
      ∙ sym (ap (λ a. rest c.read_column.new.words (awaited a c.read_column.new.plan)) c.in-Columns-default.is-0),
  subst (λ a. Unread a c.read_column.new.plan) (sym c.in-Columns-default.is-0) tt,
)

pub returns-in_default : goal.returns-in_default
returns-in_default c =
    let l = c.leading_of.result in
    let wrong : Misplaced c.loop-awaits.awaits l =
    elim c.in_default.branch [
      | in_default-via-in-Rows+in-Some+in_default w ↦ let word : w.in_default.field-0-1 ≡ leads.Base = cc in subst (λ a. Misplaced a l) (sym w.in_default.is-0) (ap first_line (w.in_default.is-1 ∙ ap Some word))
      | in_default-via-in-Rows+in_default w ↦ subst (λ a. Misplaced a l) (sym w.in_default.is-0) (ap first_line w.in_default.is-1)
      | in_default-via-in-Base+in-Some+in_default w ↦ let word : w.in_default.field-0-1 ≡ leads.Rows = cc in subst (λ a. Misplaced a l) (sym w.in_default.is-0) (λ rs. ap (second_line rs) (w.in_default.is-1 ∙ ap Some word))
      | in_default-via-in-Base+in_default w ↦ subst (λ a. Misplaced a l) (sym w.in_default.is-0) (λ rs. ap (second_line rs) w.in_default.is-1)
    ] in
    sym (c.loop-awaits.invariant.0 ∙ misplaced c.loop-awaits.words c.loop-awaits.awaits c.loop-awaits.plan l _ wrong (c.leading_of.ensures ∙ ap leading c.peek.ensures.seen) c.at.ensures)

pub returns-then-len-eq0 : goal.returns-then-len-eq0
returns-then-len-eq0 c = sym (
    c.loop-awaits.invariant.0
    ∙ unfinished c.loop-awaits.words c.loop-awaits.awaits c.loop-awaits.plan _ c.loop-awaits-test.ensures (sym c.len.ensures.value ∙ c.if-len-eq0.true) c.at-then-len-eq0.ensures)

pub returns : goal.returns
returns c = sym (c.loop-awaits.invariant.0 ∙ finished c.loop-awaits.words c.loop-awaits.awaits c.loop-awaits.plan c.loop-awaits-test.ensures (λ e. c.if-len-eq0.false (c.len.ensures.value ∙ e)) c.loop-awaits.invariant.1)
