-- One column and one shape at a time.
use Rattle.std.proofs.Common.{false, sym, refl, ◌∙◌}
use Rattle.std.proofs.lemmas.Bool.{both_ways}
use Rattle.hall_file.proofs.Compares.{unlike, left_more}
use Rattle.hall_file.proofs.view.Columns.have_shapes.Goals as goal

pub returns-then-not-same_shape : goal.returns-then-not-same_shape
returns-then-not-same_shape g c cs sh =
    let l = c.loop-shape.invariant cs sh in
    let q = c.in-Some.ensures l.left l.shows in
    unlike g.M.Measure.meaning l q.0 q.1 q.2 c.shape-item.result c.loop-shape-test.true
    (λ e. both_ways false refl (c.if-not-same_shape.ensures.1 (q.3.shape ∙ e ∙ sym c.shape-item.is)))

pub loop-shape-preserved : goal.loop-shape-preserved
loop-shape-preserved g c cs sh =
    let l = c.loop-shape.invariant cs sh in
    let q = c.in-Some.ensures l.left l.shows in
    left_more g.M.Measure.meaning l q.0 q.1 q.2 c.shape-item.result c.loop-shape-test.true
    (sym q.3.shape ∙ c.if-not-same_shape.ensures.0 refl ∙ c.shape-item.is) c.in-Some.others q.5
