use Rattle.std.proofs.Common.{take, drop, ap, ◌∙◌, arith}
use Rattle.words.specs.Cutting.{after_word}
use Rattle.words.proofs.Spelling.{first_gap_len, word_len-le, spelled}
use Rattle.words.proofs.walk.split_word.Goals as goal

pub split_at-requires : goal.split_at-requires
split_at-requires c = omega (arith, c.unwrap_or-end.ensures, first_gap_len c.args.text.now _ c.first_gap.ensures, word_len-le c.args.text.now)

pub returns-clause-word : goal.returns-clause-word
returns-clause-word c = c.split_at.ensures.front ∙ ap (λ k. take k c.args.text.now) (c.unwrap_or-end.ensures ∙ first_gap_len c.args.text.now _ c.first_gap.ensures) ∙ (spelled c.args.text.now).0

pub returns-clause-after : goal.returns-clause-after
returns-clause-after c = ap after_word (c.split_at.ensures.back ∙ ap (λ k. drop k c.args.text.now) (c.unwrap_or-end.ensures ∙ first_gap_len c.args.text.now _ c.first_gap.ensures)) ∙ (spelled c.args.text.now).1
