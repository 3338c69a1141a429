-- Column by column, nothing is lost and nothing moves.
use Rattle.cells.proofs.Columnwise.{flat_columns}
use Rattle.cells.proofs.laws.columns_lie_in_one_list.Goals as goal

pub returns : goal.returns
returns g c = flat_columns
