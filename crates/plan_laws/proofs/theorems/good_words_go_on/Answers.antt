use Rattle.plan_laws.proofs.Going.{good_words_go_on}
use Rattle.plan_laws.proofs.theorems.good_words_go_on.Goals as goal

pub returns : goal.returns
returns c = good_words_go_on
