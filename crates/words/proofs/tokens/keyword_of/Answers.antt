use Rattle.std.proofs.Common.{codes, sym, ap, arith, rules}
use Rattle.std.proofs.lemmas.Slice.Eq.{text_from_reads}
use Rattle.words.specs.Lexemes.{keyword_of}
use Rattle.words.proofs.tokens.keyword_of.Goals as goal

pub returns-in-greatest : goal.returns-in-greatest
returns-in-greatest c = ap keyword_of (sym (text_from_reads c.args.text.now (codes "greatest") (omega arith) (search rules)))
