use Rattle.std.proofs.Common.{eqb, drop, sym, ap, ◌∙◌, arith, rules}
use Rattle.std.proofs.lemmas.List.{take_rest}
use Rattle.words.specs.Spots.{spot, past}
use Rattle.words.specs.Cutting.{spell, ahead, next, later}
use Rattle.words.proofs.Spelling.{ahead_none}
use Rattle.words.proofs.Walking.{at_first, at_feed, at_word, walked, numbered_on}
use Rattle.words.proofs.cursor.Words.advance.Goals as goal

pub returns-in-empty : goal.returns-in-empty
returns-in-empty c =
    let none = ahead_none (eqb c.args.self.now.word 1) c.args.self.now.rest.now (omega arith) in
    record { words = none ∙ sym (ap later none); place = sym (ap (λ l. past (next l) (spot c.args.self.now.line c.args.self.now.word)) none) }

pub returns-in_default : goal.returns-in_default
returns-in_default c =
    let a = at_first c.args.self.now.rest.now c.args.self.now.word c.if-is_first.ensures (omega arith) in
    record {
      words = walked c.args.self.now.rest.now c.args.self.now.word c.split_word.result.1.now _ _ (omega arith) a c.split_word.ensures.after;
      place = numbered_on c.args.self.now.rest.now c.args.self.now.word c.args.self.now.line (spell c.args.self.now.rest.now).0 (spell c.args.self.now.rest.now).1 a;
    }

pub returns-in-10 : goal.returns-in-10
returns-in-10 c =
    let a = at_feed c.args.self.now.rest.now c.args.self.now.word c.if-is_first.ensures (omega arith) (omega arith) in
    record {
      words = ap (ahead _) (take_rest c.args.self.now.rest.now 1) ∙ sym (ap later a);
      place = sym (ap (λ l. past (next l) (spot c.args.self.now.line c.args.self.now.word)) a);
    }

pub returns-in-len1-up : goal.returns-in-len1-up
returns-in-len1-up c =
    let a = at_word c.args.self.now.rest.now c.args.self.now.word c.if-is_first.ensures (omega arith) (search rules) in
    record {
      words = walked c.args.self.now.rest.now c.args.self.now.word c.split_word-in-len1-up.result.1.now _ _ (omega arith) a (c.split_word-in-len1-up.ensures.after ∙ ap (λ t. (spell t).1) (take_rest c.args.self.now.rest.now 1));
      place = numbered_on c.args.self.now.rest.now c.args.self.now.word c.args.self.now.line (spell (drop 1 c.args.self.now.rest.now)).0 (spell (drop 1 c.args.self.now.rest.now)).1 a;
    }
