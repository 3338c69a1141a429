use Rattle.std.proofs.Common.{true, false, arith}
use Rattle.text.specs.Numbers.{digits_front}
use Rattle.text.proofs.Fronts.{front_unsigned, empty_unsigned}
use Rattle.text.proofs.numbers.plain_number.Goals as goal
use Rattle.text.proofs.numbers.plain_number.Goals.{else-digits-gt0-via-then-digits-gt0+else-begins_well, else-digits-gt0-via-else-digits-gt0}

pub returns : goal.returns
returns c =
    record {
      value = elim c.else-digits-gt0.branch [
        | else-digits-gt0-via-then-digits-gt0+else-begins_well w ↦ front_unsigned c.args.text.now _ _ false c.requires.count c.requires.value w.if-digits-gt0.true w.if-begins_well.ensures
        | else-digits-gt0-via-else-digits-gt0 w ↦ empty_unsigned (digits_front 9 c.args.text.now) (omega (arith, c.requires.count, w.if-digits-gt0.false))
      ];
      small = tt;
    }

pub returns-then-begins_well : goal.returns-then-begins_well
returns-then-begins_well c =
    record {
      value = front_unsigned c.args.text.now _ _ true c.requires.count c.requires.value c.if-digits-gt0.true c.if-begins_well.ensures;
      small = c.requires.small;
    }
