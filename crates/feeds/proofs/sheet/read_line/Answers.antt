use Rattle.std.proofs.Common.{◌≡◌, ℕ, ◌<◌, ℤ, set, to_z, of_z, length, take, List, [], ◌∷◌, false, true, ◌+◌, drop, nat_eq, sym, ap, ◌∙◌, subst, arith, w32, SFits, rules}
use Rattle.std.specs.Cmp.Lexicographic.{pointwise, same_text, other_text}
use Rattle.std.proofs.lemmas.Int.{to_z-of_z}
use Rattle.std.specs.List.{between}
use Rattle.std.proofs.lemmas.List.{length-take, take_rest}
use Rattle.text.specs.Numbers.{front}
use Rattle.feeds.specs.SheetFeeds.{LineRead}
use Rattle.feeds.proofs.Fields.{sheet_bad, sheet_got}
use Rattle.feeds.proofs.Passing.{Passed, width_range, passed_none, passed_more, passed_no_number, passed_no_follower, passed_all}
use Rattle.feeds.proofs.sheet.read_line.Goals as goal

pub loop-k-init : goal.loop-k-init
loop-k-init c = passed_none c.args.text.now c.args.width.fields []

pub returns-in_err-place : goal.returns-in_err-place
returns-in_err-place c =
    let l = c.loop-k in
    let text = c.args.text.now in
    let w = c.args.width.fields in
    let r = width_range w c.args.width.in_range in
    let below : l.k < w = omega (arith, length-take {A = ℤ}, r.1) in
    let none = sym c.front_number-front.ensures.number ∙ c.in_err-place.was in
    subst (LineRead w text) (sym c.from_residual.ensures) (sheet_bad w text r.0 (passed_no_number text w l.place-items l.k l.rest.now l.invariant below none))

-- the text behind its front
behind : (t : List ℕ) (n : ℕ) → n ≡ length (front t) → between n (length t) t ≡ drop (length (front t)) t
behind t n e = take_rest t n ∙ ap (λ m. drop m t) e

pub returns-in_err-rest : goal.returns-in_err-rest
returns-in_err-rest c =
    let l = c.loop-k in
    let text = c.args.text.now in
    let w = c.args.width.fields in
    let r = width_range w c.args.width.in_range in
    let t = l.rest.now in
    let n = c.front_number-front.result.length in
    let below : l.k < w = omega (arith, length-take {A = ℤ}, r.1) in
    let other : pointwise nat_eq (take 1 (between n (length t) t)) (c.separator.result ∷ []) ≡ false = c.in_err-rest.ensures.cases in
    let here = behind t n c.front_number-front.ensures.length in
    subst (LineRead w text) (sym c.from_residual-in_err-rest.ensures) (sheet_bad w text r.0 (passed_no_follower text w l.place-items l.k t l.invariant below
    (λ q. other_text _ _ (sym other) (ap (take 1) here ∙ q ∙ ap (λ b. b ∷ []) (sym c.separator.ensures)))))

pub loop-k-preserved : goal.loop-k-preserved
loop-k-preserved c =
    let l = c.loop-k in
    let text = c.args.text.now in
    let w = c.args.width.fields in
    let r = width_range w c.args.width.in_range in
    let t = l.rest.now in
    let n = c.front_number-front.result.length in
    let z = c.in_ok-place.field-0 in
    let below : l.k < w = omega (arith, length-take {A = ℤ}, r.1) in
    let place : l.k < length l.place-items = omega arith in
    let fits : SFits w32 z = search rules in
    let part = between n (length t) t in
    let h : (pointwise nat_eq (take 1 part) (c.separator.result ∷ []) ≡ true) × (c.in_ok-rest.rest.now ≡ drop 1 part) × (length c.in_ok-rest.rest.now + 1 ≡ length part) = c.in_ok-rest.ensures.cases in
    let here = behind t n c.front_number-front.ensures.length in
    let byte = sym (ap (take 1) here) ∙ same_text _ _ (sym h.0) ∙ ap (λ b. b ∷ []) c.separator.ensures in
    let more = passed_more text w l.place-items l.k t l.invariant below z place (sym c.front_number-front.ensures.number ∙ c.in_ok-place.was) byte in
    subst (λ x. Passed text w (set l.place-items l.k (to_z w32 (of_z w32 z))) (l.k + 1) x) (sym (h.1 ∙ ap (drop 1) here))
    (subst (λ y. Passed text w (set l.place-items l.k y) (l.k + 1) (drop 1 (drop (length (front t)) t))) (sym (to_z-of_z w32 z fits)) more)

pub returns : goal.returns
returns c =
    let l = c.loop-k in
    let text = c.args.text.now in
    let w = c.args.width.fields in
    let r = width_range w c.args.width.in_range in
    let all : l.k ≡ w = omega (arith, length-take {A = ℤ}, r.1) in
    let long : length l.place-items ≡ w = omega (arith, length-take {A = ℤ}, r.1) in
    sheet_got w text l.rest.now _ r.0 r.1 (passed_all text w l.place-items _ l.k l.rest.now l.invariant all long)
