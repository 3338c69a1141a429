-- A file at the front is the whole only where nothing follows it.
use Rattle.std.proofs.Common.{eqb, [], length, sym, refl, ap, ◌∙◌, subst}
use Rattle.std.proofs.lemmas.List.{append-nil}
use Rattle.std.proofs.lemmas.Bool.{both_ways, eq-eqb}
use Rattle.hall_file.specs.Written.{file_bytes}
use Rattle.hall_file.specs.Views.{FirstFile}
use Rattle.hall_file.proofs.Forms.{one_file}
use Rattle.hall_file.proofs.Laws.{lawful}
use Rattle.hall_file.proofs.check.check.Goals as goal

pub returns-else-is_end : goal.returns-else-is_end
returns-else-is_end g c =
    let q = subst (FirstFile g.M.Measure.meaning c.args.bytes.now) c.in_ok-view.ensures.ok_part c.first_file.ensures in
    let rest = c.in_ok-view.rest.now in (
      refl,
      λ w.
          let nil = (one_file (lawful g.met.M.Measure) q.0 w.0 rest [] q.1 w.1 (sym q.2 ∙ w.2 ∙ sym (append-nil (file_bytes g.M.Measure.meaning w.0)))).1 in
          both_ways (eqb (length rest) 0) (sym c.if-is_end.ensures) (eq-eqb (length rest) 0 (ap length nil)),
    )
