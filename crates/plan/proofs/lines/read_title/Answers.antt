use Rattle.std.proofs.Common.{false, sym, subst, arith}
use Rattle.words.specs.Tables.{texts}
use Rattle.words.specs.Cutting.{to_come, next}
use Rattle.plan.specs.Lines.{declared}
use Rattle.plan.specs.Drafts.{columns_of, draft_of}
use Rattle.plan.specs.Machine.{admit, named}
use Rattle.plan.specs.Promises.{onto, Leads}
use Rattle.plan.proofs.Pairing.{paired_names, paired_long}
use Rattle.std.proofs.lemmas.Result.{IfOk-weaker}
use Rattle.plan.proofs.lines.read_title.Goals as goal

pub returns-clause-value : goal.returns-clause-value
unfolding columns_of
returns-clause-value c =
    subst (λ ns. Leads c.read_new.new.words (onto c.args.words.now (admit (named (draft_of c.args.plan.now)) ns 8 (declared false (next (to_come c.args.words.now))))) (λ t. named (draft_of c.args.plan.now) t.now) c.read_new.result)
    (sym (paired_names (texts c.args.plan.now.titles) c.args.plan.now.columns.places)) (c.read_new.ensures.value (named (draft_of c.args.plan.now)))

pub returns-clause-room : goal.returns-clause-room
unfolding columns_of
returns-clause-room c = IfOk-weaker c.read_new.result _ _ (λ t h. omega (arith, h, paired_long (texts c.args.plan.now.titles) c.args.plan.now.columns.places)) c.read_new.ensures.room
