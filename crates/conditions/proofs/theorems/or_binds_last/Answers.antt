use Rattle.std.proofs.Common.{refl}
use Rattle.words.specs.Cutting.{lexemes}
use Rattle.conditions.specs.Promises.{condition_of}
use Rattle.conditions.proofs.theorems.or_binds_last.Goals as goal

pub returns : goal.returns
unfolding condition_of lexemes
returns c = refl
