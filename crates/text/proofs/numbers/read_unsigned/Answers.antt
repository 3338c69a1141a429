use Rattle.std.proofs.Common.{sym, ap, ◌∙◌, arith}
use Rattle.text.specs.Numbers.{unsigned}
use Rattle.text.proofs.Words.{longer_unsigned, whole_digits}
use Rattle.text.proofs.numbers.read_unsigned.Goals as goal

pub returns : goal.returns
returns c =
    let w = c.args.word.now in
    let d = c.front_digits-digits.ensures in
    let p = c.plain_number.ensures in
    record { value = p.value ∙ ap unsigned (whole_digits w (omega (arith, d.count, c.if-digits-word.false))); small = p.small }

pub returns-then-digits-word : goal.returns-then-digits-word
returns-then-digits-word c =
    record { value = sym (longer_unsigned c.args.word.now (omega (arith, c.front_digits-digits.ensures.count, c.if-digits-word.true))); small = tt }
