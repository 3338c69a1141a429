-- The check shows the one content that is written so.
use Rattle.std.proofs.Common.{◌≡◌, [], ◌++◌, Ok, Err, Result, sym, refl, ap, subst}
use Rattle.text.specs.declared.refusal.Refusal.{Refusal}
use Rattle.hall_file.specs.declared.view.View.{View}
use Rattle.hall_file.specs.Written.{file_bytes}
use Rattle.hall_file.specs.Views.{Checked, Shows}
use Rattle.hall_file.proofs.Forms.{one_file}
use Rattle.hall_file.proofs.Laws.{lawful}
use Rattle.hall_file.proofs.check.written_reads_back.Goals as goal

pub returns : goal.returns
returns g c f r good checked = go r checked
  where
    go : (r : Result View Refusal) → Checked g.M.Measure.meaning (file_bytes g.M.Measure.meaning f) r → (v : View) × (r ≡ Ok v) × Shows g.M.Measure.meaning f v
    go (Ok v) q =
        let same = (one_file (lawful g.met.M.Measure) q.0 f [] [] q.1 good (ap (λ l. l ++ []) (sym q.2))).0 in
        (v, refl, subst (λ x. Shows g.M.Measure.meaning x v) same q.3)
    go (Err e) q = absurd (q.1 (f, good, refl))
