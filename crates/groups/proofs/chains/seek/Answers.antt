-- The walk starts at the head of the group's bucket and goes on by the links.
use Rattle.std.proofs.Common.{◌<◌, length, sym, ap, ◌∙◌, true≢false as never, arith}
use Rattle.std.proofs.lemmas.List.{get_or-map}
use Rattle.groups.specs.Chains.{cells_of}
use Rattle.groups.proofs.Walks.{walk_link, walk_on, length_cells, head_link, next_link, found_at}
use Rattle.groups.proofs.chains.seek.Goals as goal

pub loop-i-init : goal.loop-i-init
loop-i-init g c =
    let xs = c.args.places.now in
    let l = head_link xs c.args.used c.bucket-b.result c.index-places-b.result c.requires c.bucket-b.ensures.bound in
    walk_link (cells_of xs) (length xs) c.args.used c.args.id.now (omega (arith, c.requires.within, length_cells xs)) c.args.used c.bucket-b.result _ (omega arith) c.bucket-b.ensures.value l (λ k d p q e. absurd (omega arith))

pub returns-then-is : goal.returns-then-is
returns-then-is g c =
    found_at c.args.places.now c.args.used c.requires.within c.args.id.now c.in-Some.i c.index-places-i.result (omega (arith, c.in-Some.ensures, c.loop-i.invariant.0)) (c.is.ensures.0 c.if-is.true)

pub loop-i-smaller : goal.loop-i-smaller
loop-i-smaller g c =
    let next = next_link c.args.places.now c.args.used c.in-Some.i c.index-places-i-in-Some.result c.requires (omega (arith, c.in-Some.ensures, c.loop-i.invariant.0)) in
    omega (arith, c.in-Some.ensures, next.0)

pub loop-i-preserved : goal.loop-i-preserved
loop-i-preserved g c =
    let xs = c.args.places.now in
    let i = c.in-Some.i in
    let lt : i < c.args.used = omega (arith, c.in-Some.ensures, c.loop-i.invariant.0) in
    walk_on (cells_of xs) (length xs) c.args.used c.args.id.now (omega (arith, c.requires.within, length_cells xs)) c.loop-i.at i _ c.in-Some.ensures c.loop-i.invariant
    (λ d e. never (sym (c.is.ensures.1 (ap (λ x. x.id) (sym (get_or-map (λ s. s.cell) xs i c.index-places-i.result d (omega (arith, lt, c.requires.within)))) ∙ e)) ∙ c.if-is.false))
    (next_link xs c.args.used i c.index-places-i-in-Some.result c.requires lt)
