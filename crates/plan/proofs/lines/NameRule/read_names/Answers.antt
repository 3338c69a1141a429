use Rattle.std.proofs.Common.{length, refl, ap, ◌∙◌, arith}
use Rattle.std.proofs.lemmas.Result.{err_from_is_err_and, IfOk-from_err}
use Rattle.words.specs.Cutting.{to_come}
use Rattle.words.specs.Tables.{texts}
use Rattle.plan.specs.Lines.{ends_line}
use Rattle.plan.proofs.Motions.{fails, advanced, names_end, names_first, names_more}
use Rattle.conditions.proofs.Moves.{later_shorter}
use Rattle.plan.proofs.lines.NameRule.read_names.Goals as goal

pub returns-in_err-read_name : goal.returns-in_err-read_name
returns-in_err-read_name c =
    let y = err_from_is_err_and c.from_residual.result c.from_residual.ensures.1 in
    record {
      shorter = IfOk-from_err c.from_residual.result _ c.from_residual.ensures.0;
      value = λ more done l e. fails _ _ (λ _. done (texts c.read_name.new.table)) _ _ _ y.1 y.2
          (names_first more done c.args.self.upper c.args.self.most l c.args.words.now (texts c.args.table.now) e ∙ c.in_err-read_name.ensures.value more);
    }

pub returns-in_err-read_name-2 : goal.returns-in_err-read_name-2
returns-in_err-read_name-2 c =
    let y = err_from_is_err_and c.from_residual-in_err-read_name-2.result c.from_residual-in_err-read_name-2.ensures.1 in
    record {
      shorter = IfOk-from_err c.from_residual-in_err-read_name-2.result _ c.from_residual-in_err-read_name-2.ensures.0;
      value = λ more done l e. fails _ _ (λ _. done (texts c.read_name-in-loop-self.new.table)) _ _ _ y.1 y.2
          (names_first more done c.args.self.upper c.args.self.most l c.args.words.now (texts c.args.table.now) e
          ∙ c.in_ok-read_name.ensures.value more
          ∙ c.loop-self.invariant.2 more done l
          ∙ names_more more done c.args.self.upper c.args.self.most l c.loop-self.words (texts c.loop-self.table) (c.loop-self-test.ensures ∙ ap ends_line c.peek.ensures.seen)
          ∙ c.in_err-read_name-2.ensures.value more);
    }

pub loop-self-init : goal.loop-self-init
loop-self-init c = (omega arith, c.in_ok-read_name.ensures.some, λ more done l. refl)

pub loop-self-preserved : goal.loop-self-preserved
loop-self-preserved c = (
  omega (arith, c.loop-self.invariant.0, c.in_ok-read_name-2.ensures.shorter),
  c.in_ok-read_name-2.ensures.some,
  λ more done l.
      c.loop-self.invariant.2 more done l
      ∙ names_more more done c.args.self.upper c.args.self.most l c.loop-self.words (texts c.loop-self.table) (c.loop-self-test.ensures ∙ ap ends_line c.peek.ensures.seen)
      ∙ c.in_ok-read_name-2.ensures.value more,
)

pub returns : goal.returns
returns c = record {
  shorter = omega (arith, c.loop-self.invariant.0, c.in_ok-read_name.ensures.shorter, ap length c.advance.ensures.words, later_shorter (to_come c.loop-self.words));
  value = λ more done l e.
      names_first more done c.args.self.upper c.args.self.most l c.args.words.now (texts c.args.table.now) e
      ∙ c.in_ok-read_name.ensures.value more
      ∙ c.loop-self.invariant.2 more done l
      ∙ names_end more done c.args.self.upper c.args.self.most l c.loop-self.words (texts c.loop-self.table) (c.loop-self-test.ensures ∙ ap ends_line c.peek.ensures.seen) c.loop-self.invariant.1
      ∙ advanced c.loop-self.words c.advance.new.self _ c.advance.ensures.words c.advance.ensures.place;
}
