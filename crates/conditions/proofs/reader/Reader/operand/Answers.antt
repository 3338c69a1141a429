use Rattle.std.proofs.Common.{◌≡◌, Ok, refl, ap, ◌∙◌, arith, w32, SFits, to_z, of_z, rules}
use Rattle.std.proofs.lemmas.Int.{ints}
use Rattle.conditions.specs.Machine.{arrived}
use Rattle.conditions.specs.Promises.{rest, looks}
use Rattle.conditions.specs.declared.condition.Operand.TheVariants.{Number, Row, Base}
use Rattle.conditions.proofs.Moves.{fails, two, stays, value_begins, base_begins, row_begins, row_refused, wrong_begins}
use Rattle.conditions.proofs.reader.Reader.operand.Goals as goal

pub returns-in_err-first : goal.returns-in_err-first
returns-in_err-first c =
    let w = c.in_err-first.ensures.value in
    record {
      on = stays c.args.self.now c.args.self.now refl refl;
      value = λ p side. fails _ _ _ (arrived p side) _ _ c.from_residual.ensures.1 (wrong_begins (looks c.args.names.now) c.args.self.now p side w.0 _ w.1 w.2);
    }

pub returns-in_err-note-in-RowField : goal.returns-in_err-note-in-RowField
returns-in_err-note-in-RowField c =
    let w = c.in_err-note-in-RowField.ensures.value in
    record {
      on = c.note.ensures.on;
      value = λ p side. fails _ _ _ (arrived p side) _ _ c.from_residual-in_err-note-in-RowField.ensures.1 (row_refused (looks c.args.names.now) c.args.self.now p side c.in-RowField.field _ (c.in_ok-first.ensures.value ∙ ap Ok c.in-RowField.is) w.0 w.1);
    }

pub returns-in_err-by-in-RowField : goal.returns-in_err-by-in-RowField
returns-in_err-by-in-RowField c = record {
  on = two _ _ _ (two _ _ _ c.note.ensures.on c.advance-in-RowField.ensures.on) c.shift.ensures.on;
  value = λ p side. fails _ _ _ (arrived p side) _ _ c.from_residual-in_err-by-in-RowField.ensures.1
      (row_begins (looks c.args.names.now) c.args.self.now p side c.note.new.self c.advance-in-RowField.new.self c.in-RowField.field (c.in_ok-first.ensures.value ∙ ap Ok c.in-RowField.is) c.in_ok-note-in-RowField.ensures.value c.note.ensures.stays c.advance-in-RowField.ensures.goes
      ∙ c.in_err-by-in-RowField.ensures.value _ p side (Row c.in-RowField.field));
}

pub returns-in_err-by-in-BaseField : goal.returns-in_err-by-in-BaseField
returns-in_err-by-in-BaseField c = record {
  on = two _ _ _ c.advance-in-BaseField.ensures.on c.shift-in-BaseField.ensures.on;
  value = λ p side. fails _ _ _ (arrived p side) _ _ c.from_residual-in_err-by-in-BaseField.ensures.1
      (base_begins (looks c.args.names.now) c.args.self.now p side c.advance-in-BaseField.new.self c.in-BaseField.field (c.in_ok-first.ensures.value ∙ ap Ok c.in-BaseField.is) c.advance-in-BaseField.ensures.goes
      ∙ c.in_err-by-in-BaseField.ensures.value _ p side (Base c.in-BaseField.field));
}

pub returns-in-Value : goal.returns-in-Value
returns-in-Value c =
    let fits : SFits w32 c.in-Value.z = search rules in
    let back : c.in-Value.z ≡ to_z w32 (of_z w32 c.in-Value.z) = omega (arith, ints) in
    record {
      on = c.advance.ensures.on;
      value = λ p side.
          value_begins (looks c.args.names.now) c.args.self.now p side c.advance.new.self c.in-Value.z (c.in_ok-first.ensures.value ∙ ap Ok c.in-Value.is) c.advance.ensures.goes
          ∙ ap (λ z. rest (looks c.args.names.now) c.advance.new.self (arrived p side (Number z))) back;
    }

pub returns-in_ok-by-in-RowField : goal.returns-in_ok-by-in-RowField
returns-in_ok-by-in-RowField c = record {
  on = two _ _ _ (two _ _ _ c.note.ensures.on c.advance-in-RowField.ensures.on) c.shift.ensures.on;
  value = λ p side.
      row_begins (looks c.args.names.now) c.args.self.now p side c.note.new.self c.advance-in-RowField.new.self c.in-RowField.field (c.in_ok-first.ensures.value ∙ ap Ok c.in-RowField.is) c.in_ok-note-in-RowField.ensures.value c.note.ensures.stays c.advance-in-RowField.ensures.goes
      ∙ c.in_ok-by-in-RowField.ensures.value _ p side (Row c.in-RowField.field);
}

pub returns-in_ok-by-in-BaseField : goal.returns-in_ok-by-in-BaseField
returns-in_ok-by-in-BaseField c = record {
  on = two _ _ _ c.advance-in-BaseField.ensures.on c.shift-in-BaseField.ensures.on;
  value = λ p side.
      base_begins (looks c.args.names.now) c.args.self.now p side c.advance-in-BaseField.new.self c.in-BaseField.field (c.in_ok-first.ensures.value ∙ ap Ok c.in-BaseField.is) c.advance-in-BaseField.ensures.goes
      ∙ c.in_ok-by-in-BaseField.ensures.value _ p side (Base c.in-BaseField.field);
}
