use Rattle.std.proofs.Common.{◌∙◌}
use Rattle.text.proofs.Words.{number_by_front, exactly}
use Rattle.text.proofs.numbers.read_number.Goals as goal

pub returns : goal.returns
returns c =
    let w = c.args.word.now in
    let e = c.of_whole.ensures ∙ number_by_front w _ _ c.front_number.ensures.length c.front_number.ensures.number in
    record { value = e; exactly = exactly w _ e }
