use Rattle.std.proofs.Common.{rules, ap, ◌∙◌, w64}
use Rattle.std.proofs.lemmas.Int.{to_z-of_z}
use Rattle.text.specs.Numbers.{written}
use Rattle.text.proofs.Writing.{back_if_room}
use Rattle.text.proofs.numbers.write_number.Goals as goal

pub returns-clause-back : goal.returns-clause-back
returns-clause-back c v =
    let w = c.as_bytes.ensures.value ∙ c.format.ensures.text ∙ ap written (to_z-of_z w64 c.args.value c.ranges.value) in
    back_if_room c.args.value _ c.args.at c.args.buffer.now _ _ v w c.put.ensures.answer c.put.ensures.bytes

pub returns-then-contains-clause-back : goal.returns-then-contains-clause-back
returns-then-contains-clause-back c v =
    back_if_room c.args.value _ c.args.at c.args.buffer.now _ _ v (Prim.search rules) c.put_short.ensures.answer c.put_short.ensures.bytes
