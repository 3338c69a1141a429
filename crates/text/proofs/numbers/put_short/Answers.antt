-- The digits that are put are those of the number.
use Rattle.text.proofs.Shorts.{one, two, three, told_of, left_of}
use Rattle.text.proofs.numbers.put_short.Goals as goal

pub returns-then-n-lt10-clause-answer : goal.returns-then-n-lt10-clause-answer
returns-then-n-lt10-clause-answer c = told_of _ _ _ _ _ c.put.ensures.answer (one c.args.n _ c.if-n-lt10.true c.digit_byte.ensures)

pub returns-then-n-lt10-clause-bytes : goal.returns-then-n-lt10-clause-bytes
returns-then-n-lt10-clause-bytes c = left_of _ _ _ _ _ c.put.ensures.bytes (one c.args.n _ c.if-n-lt10.true c.digit_byte.ensures)

pub returns-then-n-lt100-clause-answer : goal.returns-then-n-lt100-clause-answer
returns-then-n-lt100-clause-answer c =
    told_of _ _ _ _ _ c.put-then-n-lt100.ensures.answer (two c.args.n _ _ c.if-n-lt10.false c.if-n-lt100.true c.digit_byte-then-n-lt100.ensures c.digit_byte-ones.ensures)

pub returns-then-n-lt100-clause-bytes : goal.returns-then-n-lt100-clause-bytes
returns-then-n-lt100-clause-bytes c =
    left_of _ _ _ _ _ c.put-then-n-lt100.ensures.bytes (two c.args.n _ _ c.if-n-lt10.false c.if-n-lt100.true c.digit_byte-then-n-lt100.ensures c.digit_byte-ones.ensures)

pub returns-clause-answer : goal.returns-clause-answer
returns-clause-answer c =
    told_of _ _ _ _ _ c.put-2.ensures.answer (three c.args.n _ _ _ c.if-n-lt100.false c.requires c.digit_byte-2.ensures c.digit_byte-3.ensures c.digit_byte-ones.ensures)

pub returns-clause-bytes : goal.returns-clause-bytes
returns-clause-bytes c =
    left_of _ _ _ _ _ c.put-2.ensures.bytes (three c.args.n _ _ _ c.if-n-lt100.false c.requires c.digit_byte-2.ensures c.digit_byte-3.ensures c.digit_byte-ones.ensures)
