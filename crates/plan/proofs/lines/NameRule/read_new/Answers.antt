use Rattle.std.proofs.Common.{ltb, is_some, sym, ap, ◌∙◌}
use Rattle.words.specs.Tables.{texts}
use Rattle.plan.specs.Lines.{declared}
use Rattle.plan.specs.Machine.{halt, admit}
use Rattle.plan.specs.Promises.{onto}
use Rattle.plan.proofs.Motions.{advanced, halted, no_name_halts, enter_taken, enter_full, enter_new}
use Rattle.plan.proofs.lines.NameRule.read_new.Goals as goal

pub returns-in-Err-clause-value : goal.returns-in-Err-clause-value
returns-in-Err-clause-value c = λ st.
    ap (λ k. onto c.args.words.now (admit st (texts c.args.names.now) c.args.self.most k)) (sym (c.in-Err.ensures ∙ ap (declared c.args.self.upper) c.peek.ensures.seen))
    ∙ ap (onto c.args.words.now) (no_name_halts st (texts c.args.names.now) c.args.self.most c.in-Err.no_name ∙ ap halt (sym c.from.ensures))
    ∙ halted _ _ _ c.at.ensures

pub returns-then-is_some-clause-value : goal.returns-then-is_some-clause-value
returns-then-is_some-clause-value c = λ st.
    ap (λ k. onto c.args.words.now (admit st (texts c.args.names.now) c.args.self.most k)) (sym (c.in-Ok.ensures ∙ ap (declared c.args.self.upper) c.peek.ensures.seen))
    ∙ ap (onto c.args.words.now) (enter_taken (texts c.args.names.now) c.in-Ok.name.now c.args.self.most _ (sym (c.if-is_some.ensures ∙ ap is_some c.find.ensures.value)))
    ∙ halted _ _ _ c.at-then-is_some.ensures

pub returns-then-not-has_room-clause-value : goal.returns-then-not-has_room-clause-value
returns-then-not-has_room-clause-value c = λ st.
    ap (λ k. onto c.args.words.now (admit st (texts c.args.names.now) c.args.self.most k)) (sym (c.in-Ok.ensures ∙ ap (declared c.args.self.upper) c.peek.ensures.seen))
    ∙ ap (onto c.args.words.now) (enter_full (texts c.args.names.now) c.in-Ok.name.now c.args.self.most _ (sym (c.if-is_some.ensures ∙ ap is_some c.find.ensures.value)) (sym (c.if-not-has_room.ensures ∙ ap (λ n. ltb n c.args.self.most) c.len.ensures.value)))
    ∙ halted _ _ _ c.at-then-not-has_room.ensures

pub returns-clause-value : goal.returns-clause-value
returns-clause-value c = λ st.
    ap (λ k. onto c.args.words.now (admit st (texts c.args.names.now) c.args.self.most k)) (sym (c.in-Ok.ensures ∙ ap (declared c.args.self.upper) c.peek.ensures.seen))
    ∙ ap (onto c.args.words.now) (enter_new (texts c.args.names.now) c.in-Ok.name.now c.args.self.most _ (sym (c.if-is_some.ensures ∙ ap is_some c.find.ensures.value)) (sym (c.if-not-has_room.ensures ∙ ap (λ n. ltb n c.args.self.most) c.len.ensures.value)))
    ∙ advanced _ _ _ c.advance.ensures.words c.advance.ensures.place
