use Rattle.plan_laws.proofs.Prefixes.{first_bad_word}
use Rattle.plan_laws.proofs.theorems.first_bad_word_decides.Goals as goal

pub returns : goal.returns
returns c = first_bad_word
