use Rattle.std.proofs.Common.{◌≡◌, sym, refl, ap, ◌∙◌, arith, w32, SFits, to_z, of_z, rules}
use Rattle.std.proofs.lemmas.Int.{ints}
use Rattle.conditions.specs.Machine.{field, by, shifted, shift_of}
use Rattle.conditions.specs.Promises.{seen_by}
use Rattle.conditions.proofs.Moves.{same_step, unshifted, goes_on, refuses, by_none, two, stays}
use Rattle.conditions.proofs.reader.Reader.shift.Goals as goal

pub returns-in_default : goal.returns-in_default
returns-in_default c = record {
  on = stays c.args.self.now c.args.self.now refl refl;
  value = λ e p side mk. same_step e c.args.self.now _ _ _ c.peek.ensures.seen (unshifted e _ p side mk _ c.in_default.not-Shift);
}

pub returns-in_default-peek : goal.returns-in_default-peek
returns-in_default-peek c = record {
  on = c.advance.ensures.on;
  value = λ e p side mk.
      goes_on e c.args.self.now c.advance.new.self (field p side mk) (by p side mk c.in-Shift.plus) _ c.in-Shift.ensures.seen refl c.advance.ensures.goes
      ∙ refuses e c.advance.new.self _ _ _ _ c.peek-2.ensures.seen (by_none e _ p side mk _ _ c.in_default-peek.not-Number) c.at.ensures;
}

pub returns-in_default-shift_by : goal.returns-in_default-shift_by
returns-in_default-shift_by c =
    let fits : SFits w32 c.in-Number.value = search rules in
    let back : c.in-Number.value ≡ to_z w32 (of_z w32 c.in-Number.value) = omega (arith, ints) in record {
      on = c.advance.ensures.on;
      value = λ e p side mk.
          goes_on e c.args.self.now c.advance.new.self (field p side mk) (by p side mk c.in-Shift.plus) _ c.in-Shift.ensures.seen refl c.advance.ensures.goes
          ∙ refuses e c.advance.new.self _ _ _ _ c.in-Number.ensures.seen (ap (λ z. shifted (seen_by c.advance.new.self) p side mk (shift_of c.in-Shift.plus z)) back ∙ ap (shifted (seen_by c.advance.new.self) p side mk) (sym c.shift_by.ensures ∙ c.in_default-shift_by.is)) c.at-in_default-shift_by.ensures;
    }

pub returns : goal.returns
returns c =
    let fits : SFits w32 c.in-Number.value = search rules in
    let back : c.in-Number.value ≡ to_z w32 (of_z w32 c.in-Number.value) = omega (arith, ints) in record {
      on = two _ _ _ c.advance.ensures.on c.advance-2.ensures.on;
      value = λ e p side mk.
          goes_on e c.args.self.now c.advance.new.self (field p side mk) (by p side mk c.in-Shift.plus) _ c.in-Shift.ensures.seen refl c.advance.ensures.goes
          ∙ goes_on e c.advance.new.self c.advance-2.new.self (by p side mk c.in-Shift.plus) _ _ c.in-Number.ensures.seen (ap (λ z. shifted (seen_by c.advance.new.self) p side mk (shift_of c.in-Shift.plus z)) back ∙ ap (shifted (seen_by c.advance.new.self) p side mk) (sym c.in-Some.ensures)) c.advance-2.ensures.goes;
    }
