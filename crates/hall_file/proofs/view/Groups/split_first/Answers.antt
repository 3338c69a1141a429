-- The first group lies at the front, and the others right after it.
use Rattle.std.proofs.Common.{◌≡◌, ◌<◌, ◌≤◌, List, length, sym, refl, subst, ap, ◌∙◌, arith}
use Rattle.measures.specs.Values.{most_rows}
use Rattle.cells.specs.Columns.{Group, cell_of}
use Rattle.readers.specs.Readers.{changed}
use Rattle.readers.proofs.Inverses.{none_some}
use Rattle.hall_file.specs.declared.shape.ColumnShape.{ColumnShape}
use Rattle.hall_file.specs.declared.view.Groups.{Groups}
use Rattle.hall_file.specs.Reading.{group}
use Rattle.hall_file.specs.Written.{width}
use Rattle.hall_file.specs.Views.{ShowsGroups}
use Rattle.hall_file.proofs.Laws.{lawful}
use Rattle.hall_file.proofs.Looks.{NextRead, next_read, some_pair}
use Rattle.hall_file.proofs.view.Groups.split_first.Given.{Over}
use Rattle.hall_file.proofs.view.Groups.split_first.Goals as goal

-- what is read at the front, where there is a group
start : (g : Over) (v : Groups g.row.M.Denot) (s : ColumnShape g.row.M.Denot) (gs : List (Group g.row.M-Value.Denot)) → ShowsGroups g.M.Measure.meaning s gs v → 0 < v.left → NextRead (lawful g.met.M.Measure) s gs v.bytes.now
start g v s gs sh l =
    let many = sh.many in
    next_read (lawful g.met.M.Measure) s sh.wide gs v.bytes.now (omega arith) sh.few sh.each sh.bytes

-- the same at the view's own shape
reads_here : (g : Over) (v : Groups g.row.M.Denot) (s : ColumnShape g.row.M.Denot) (gs : List (Group g.row.M-Value.Denot)) (sh : ShowsGroups g.M.Measure.meaning s gs v) (l : 0 < v.left) → group g.M.Measure.meaning v.shape most_rows v.bytes.now ≡ group g.M.Measure.meaning s most_rows v.bytes.now
reads_here g v s gs sh l = ap (λ x. group g.M.Measure.meaning x most_rows v.bytes.now) sh.shape

narrow : (g : Over) (v : Groups g.row.M.Denot) (s : ColumnShape g.row.M.Denot) (gs : List (Group g.row.M-Value.Denot)) → ShowsGroups g.M.Measure.meaning s gs v → width v.shape ≤ 4
narrow g v s gs sh = subst (λ x. width x ≤ 4) (sym sh.shape) sh.wide

pub returns-in_err-cell : goal.returns-in_err-cell
returns-in_err-cell g c s gs sh =
    let l : 0 < c.args.self.left = omega arith in
    let n = start g c.args.self s gs sh l in
    none_some _ (c.in_err-cell.ensures.read (narrow g c.args.self s gs sh) ∙ ap (changed (cell_of c.args.self.number)) (reads_here g c.args.self s gs sh l ∙ n.reads))

pub returns : goal.returns
returns g c s gs sh =
    let l : 0 < c.args.self.left = omega arith in
    let n = start g c.args.self s gs sh l in
    let p = some_pair _ _ _ _ (c.in_ok-cell.ensures.read (narrow g c.args.self s gs sh) ∙ ap (changed (cell_of c.args.self.number)) (reads_here g c.args.self s gs sh l ∙ n.reads)) in
    let many = sh.many in
    let one_less = ap length n.is in
    (n.first, n.others, n.is, p.0, record { shape = sh.shape; wide = sh.wide; many = omega arith; few = n.others_few; each = n.others_good; bytes = p.1 }, refl)
