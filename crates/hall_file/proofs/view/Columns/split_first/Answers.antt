-- The first column lies at the front, and the others right after its groups.
use Rattle.std.proofs.Common.{◌*◌, ◌<◌, List, length, refl, ap, ◌∙◌, arith}
use Rattle.readers.specs.Readers.{number}
use Rattle.readers.proofs.Inverses.{none_some}
use Rattle.hall_file.specs.declared.view.Columns.{Columns}
use Rattle.hall_file.specs.Written.{Column}
use Rattle.hall_file.specs.Views.{ShowsColumns}
use Rattle.hall_file.proofs.Laws.{lawful}
use Rattle.hall_file.proofs.Looks.{FirstRead, first_read, cut, some_pair}
use Rattle.hall_file.proofs.view.Columns.split_first.Given.{Over}
use Rattle.hall_file.proofs.view.Columns.split_first.Goals as goal

-- what is read at the front, where there is a column
start : (g : Over) (v : Columns) (cs : List (Column g.row.M.Denot g.row.M-Value.Denot)) → ShowsColumns g.M.Measure.meaning cs v → v.number < v.head.columns → FirstRead (lawful g.met.M.Measure) v.head.fields v.head.rows cs v.bytes.now
start g v cs sh l =
    let many = sh.many in
    first_read (lawful g.met.M.Measure) v.head.fields v.head.rows sh.fields_few sh.rows_few cs v.bytes.now (omega arith) sh.each sh.bytes

pub returns-in_err-shape : goal.returns-in_err-shape
returns-in_err-shape g c cs sh =
    let s = start g c.args.self cs sh (omega arith) in
    none_some _ (c.in_err-shape.ensures.read ∙ s.shaped)

pub returns-in_err-left : goal.returns-in_err-left
returns-in_err-left g c cs sh =
    let s = start g c.args.self cs sh (omega arith) in
    let p = some_pair _ _ _ _ (c.in_ok-shape.ensures.read ∙ s.shaped) in
    none_some _ (c.in_err-left.ensures ∙ ap (number 2) p.1 ∙ s.counted)

pub returns-in_err-bytes : goal.returns-in_err-bytes
returns-in_err-bytes g c cs sh =
    let s = start g c.args.self cs sh (omega arith) in
    let p = some_pair _ _ _ _ (c.in_ok-shape.ensures.read ∙ s.shaped) in
    let q = some_pair _ _ _ _ (c.in_ok-left.ensures ∙ ap (number 2) p.1 ∙ s.counted) in
    let within = (cut (lawful g.met.M.Measure) s c.in_ok-shape.shape c.in_ok-left.left c.group_length.result _ c.in_ok-left.rest.now p.0 q.0 c.group_length.ensures.value (ap (λ n. n * c.group_length.result) c.from.ensures) q.1).within in
    let short = c.in_err-bytes.ensures.cases in
    absurd (omega arith)

pub returns : goal.returns
returns g c cs sh =
    let s = start g c.args.self cs sh (omega arith) in
    let p = some_pair _ _ _ _ (c.in_ok-shape.ensures.read ∙ s.shaped) in
    let q = some_pair _ _ _ _ (c.in_ok-left.ensures ∙ ap (number 2) p.1 ∙ s.counted) in
    let k = cut (lawful g.met.M.Measure) s c.in_ok-shape.shape c.in_ok-left.left c.group_length.result _ c.in_ok-left.rest.now p.0 q.0 c.group_length.ensures.value (ap (λ n. n * c.group_length.result) c.from.ensures) q.1 in
    let parts = c.in_ok-bytes.ensures.cases in
    let many = sh.many in
    let one_less = ap length s.is in (
      s.first,
      s.others,
      s.is,
      record { shape = p.0; wide = s.wide; many = q.0; few = s.few; each = s.good.each; bytes = parts.1 ∙ k.groups },
      refl,
      record { fields_few = sh.fields_few; rows_few = sh.rows_few; many = omega arith; each = s.others_good; bytes = parts.2 ∙ k.others },
      refl,
    )
