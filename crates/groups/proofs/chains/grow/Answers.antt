-- The cell is of the same group, so it stays in its chain.
use Rattle.std.proofs.Common.{◌≡◌, get_or, set, sym, ap, ◌∙◌}
use Rattle.std.proofs.lemmas.List.{get_or-map}
use Rattle.cells.specs.Groups.{grown}
use Rattle.groups.specs.Chains.{cells_of}
use Rattle.groups.proofs.Links.{put_cell, wrote_same}
use Rattle.groups.proofs.chains.grow.Goals as goal

pub returns : goal.returns
returns g c =
    let xs = c.args.places.now in
    let i = c.args.i in
    let s = c.index-places-i.result in
    let join = (g.M.Measure.meaning c.args.measure.now).join in
    let old : (d : _) → (get_or xs i s).cell ≡ get_or (cells_of xs) i d = λ d. sym (get_or-map (λ s. s.cell) xs i s d c.requires) in
    let more : c.grown-cell.result ≡ grown join c.args.new (get_or xs i s).cell = c.grown-cell.ensures in
    let cell = put_cell xs i _ c.with_cell.result c.requires c.index-places-i-2.is c.grown-cell.result c.with_cell.ensures in
    record {
      cells = cell.0 ∙ ap (set (cells_of xs) i) (more ∙ ap (grown join c.args.new) (old c.args.new));
      chained = λ used h. wrote_same xs _ i c.grown-cell.result cell.0 cell.1 cell.2 used c.requires (ap (λ x. x.id) more ∙ ap (λ x. x.id) (old c.grown-cell.result)) h;
    }
