-- A file says one thing at most.
use Rattle.std.proofs.Common.{[], ◌++◌, ap}
use Rattle.hall_file.proofs.Forms.{one_file}
use Rattle.hall_file.proofs.Laws.{lawful}
use Rattle.hall_file.proofs.check.one_content.Goals as goal

pub returns : goal.returns
returns g c a b good-a good-b e = (one_file (lawful g.met.M.Measure) a b [] [] good-a good-b (ap (λ l. l ++ []) e)).0
