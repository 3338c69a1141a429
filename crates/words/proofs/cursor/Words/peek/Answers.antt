use Rattle.std.proofs.Common.{eqb, sym, ap, ◌∙◌, arith, rules}
use Rattle.std.proofs.lemmas.List.{take_rest}
use Rattle.words.specs.Lexemes.{lexeme}
use Rattle.words.specs.Cutting.{spell, next}
use Rattle.words.proofs.Spelling.{ahead_none}
use Rattle.words.proofs.Walking.{at_first, at_feed, at_word}
use Rattle.words.proofs.cursor.Words.peek.Goals as goal

pub returns-in-empty-clause-seen : goal.returns-in-empty-clause-seen
returns-in-empty-clause-seen c = sym (ap next (ahead_none (eqb c.args.self.now.word 1) c.args.self.now.rest.now (omega arith)))

pub returns-in_default-clause-seen : goal.returns-in_default-clause-seen
returns-in_default-clause-seen c = c.token_of.ensures.seen ∙ ap lexeme c.split_word.ensures.word ∙ sym (ap next (at_first c.args.self.now.rest.now c.args.self.now.word c.if-is_first.ensures (omega arith)))

pub returns-in-10-clause-seen : goal.returns-in-10-clause-seen
returns-in-10-clause-seen c = sym (ap next (at_feed c.args.self.now.rest.now c.args.self.now.word c.if-is_first.ensures (omega arith) (omega arith)))

pub returns-in-len1-up-clause-seen : goal.returns-in-len1-up-clause-seen
returns-in-len1-up-clause-seen c = c.token_of-in-len1-up.ensures.seen ∙ ap lexeme c.split_word-in-len1-up.ensures.word ∙ ap (λ t. lexeme (spell t).0) (take_rest c.args.self.now.rest.now 1) ∙ sym (ap next (at_word c.args.self.now.rest.now c.args.self.now.word c.if-is_first.ensures (omega arith) (search rules)))
