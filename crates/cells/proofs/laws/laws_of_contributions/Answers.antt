-- Every measure keeps the six properties, and they give the laws.
use Rattle.cells.proofs.Heard.{law}
use Rattle.cells.proofs.laws.laws_of_contributions.Goals as goal

pub returns : goal.returns
returns g c = λ measures. law (λ k. g.M.Measure.meaning (measures k)) (λ k. g.met.M.Measure.keeps (measures k))
