-- The cell links to what was the newest of its bucket, and is the newest now.
use Rattle.std.proofs.Common.{◌≡◌, length, get_or, set, sym, ap, ◌∙◌, arith}
use Rattle.std.proofs.lemmas.List.{get_or-map, length-set}
use Rattle.groups.specs.Chains.{cells_of, buckets, bucket_of}
use Rattle.groups.proofs.Walks.{bucket_at, length_cells}
use Rattle.groups.proofs.Links.{linked, put_next, put_head}
use Rattle.groups.proofs.chains.link.Goals as goal

pub returns : goal.returns
returns g c =
    let xs = c.args.places.now in
    let i = c.args.i in
    let s = c.index-places-i.result in
    let b = c.bucket-b.result in
    let ys = set xs i c.with_next.result in
    let within = c.requires.within in
    let lb = c.bucket-b.ensures.bound in
    let here : get_or (buckets (length xs) (cells_of xs)) i 0 ≡ b =
    bucket_at (length xs) (cells_of xs) i s.cell (omega (arith, length_cells xs)) ∙ ap (λ c. bucket_of c.id (length xs)) (get_or-map (λ s. s.cell) xs i s s.cell within) ∙ sym c.bucket-b.ensures.value in
    let next = put_next xs i _ c.with_next.result within c.index-places-i-2.is _ c.with_next.ensures in
    let head = put_head ys b _ c.with_head.result (omega (arith, length-set xs i c.with_next.result)) c.index-places-b-2.is _ c.with_head.ensures in
    record {
      cells = head.0 ∙ next.0;
      chained = linked xs ys _ i b _ within lb (sym (get_or-map (λ s. s.head) xs b c.index-places-b.result 0 lb)) next.0 next.1 next.2 head.0 head.1 head.2 here c.requires.chained;
    }
