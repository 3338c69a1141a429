-- The columns left have the shapes left just where all have all.
use Rattle.std.proofs.Common.{List}
use Rattle.hall_file.specs.Written.{Column}
use Rattle.hall_file.specs.Views.{ShowsColumns}
use Rattle.hall_file.proofs.Compares.{Left}
use Rattle.hall_file.proofs.view.Columns.have_shapes.Given as goal

abbrev pub invariant-loop-shape : goal.invariant-loop-shape
invariant-loop-shape g l = (cs : List (Column g.row.M.Denot g.row.M-Value.Denot)) → ShowsColumns g.M.Measure.meaning cs l.self → Left g.M.Measure.meaning cs l.shapes l.columns l.shape-index
