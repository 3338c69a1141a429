-- What was written into a buffer is found in it. Assumes nothing.
use Rattle.std.proofs.Common.{◌≡◌, ℕ, true, false, None, Option, subst, ◌+◌, ◌-◌, ◌≤◌, Bool, List, ◌++◌, length, take, drop, ℤ, Some, sym, refl, ap, ◌∙◌, arith}
use Rattle.std.specs.Prelude.{IfSome, if◌then◌else◌}
use Rattle.std.proofs.lemmas.Bool.{leb-true}
use Rattle.std.proofs.lemmas.List.{append_assoc, length-append, length-take-le, take_at, drop_at, drop-drop}
use Rattle.measures.specs.Values.{RowValue}
use Rattle.text.specs.Numbers.{number, over, written, has_room}
use Rattle.text.proofs.Words.{back}

-- bytes written behind others are all of them written
pub over_over : (at : ℕ) (a b old : List ℕ) → at + length a ≤ length old → over (at + length a) b (over at a old) ≡ over at (a ++ b) old
over_over at a b old h =
    let front = take at old ++ a in
    let rest = drop (at + length a) old in
    let l : length front ≡ at + length a = length-append (take at old) a ∙ ap (λ n. n + length a) (length-take-le at old (omega (arith, h))) in
    let e : over at a old ≡ front ++ rest = sym (append_assoc (take at old) a rest) in
    let t : take (at + length a) (over at a old) ≡ front = ap (take (at + length a)) e ∙ take_at front rest _ l in
    let d : drop (at + length a + length b) (over at a old) ≡ drop (at + length (a ++ b)) old =
    sym (drop-drop (length b) (at + length a) (over at a old)) ∙ ap (drop (length b)) (ap (drop (at + length a)) e ∙ drop_at front rest _ l)
    ∙ drop-drop (length b) (at + length a) old ∙ ap (λ n. drop n old) (omega (arith, length-append a b)) in
    ap (λ x. x ++ (b ++ drop (at + length a + length b) (over at a old))) t ∙ ap (λ x. front ++ (b ++ x)) d
    ∙ append_assoc (take at old) a (b ++ drop (at + length (a ++ b)) old) ∙ ap (λ x. take at old ++ x) (sym (append_assoc a b (drop (at + length (a ++ b)) old)))

-- what was written is found where it was written
pub over_there : (at : ℕ) (bytes old : List ℕ) → at + length bytes ≤ length old → take (length bytes) (drop at (over at bytes old)) ≡ bytes
over_there at bytes old h =
    ap (take (length bytes)) (drop_at (take at old) (bytes ++ drop (at + length bytes) old) at (length-take-le at old (omega (arith, h))))
    ∙ take_at bytes (drop (at + length bytes) old) _ refl

-- a row value that was written is read where it was written
pub over_back : (z : ℤ) (at end : ℕ) (old after : List ℕ) → RowValue z → at + length (written z) ≤ length old → after ≡ over at (written z) old → end ≡ at + length (written z) → number (take (end - at) (drop at after)) ≡ Some z
over_back z at end old after v h e f =
    let k : end - at ≡ length (written z) = omega (arith, f) in
    ap (λ n. number (take n (drop at after))) k ∙ ap (λ x. number (take (length (written z)) (drop at x))) e
    ∙ ap number (over_there at (written z) old h) ∙ back z v

-- and so where there was room for it, of what was answered
pub back_if_room : (z : ℤ) (bytes : List ℕ) (at : ℕ) (old after : List ℕ) (r : Option ℕ) → RowValue z → bytes ≡ written z → r ≡ (if has_room at bytes old then Some (at + length bytes) else None) → after ≡ (if has_room at bytes old then over at bytes old else old) → IfSome r (λ end. number (take (end - at) (drop at after)) ≡ Some z)
back_if_room z bytes at old after r v w e f = go (has_room at bytes old) refl e f
  where
    Back : Option ℕ → Type 0
    Back o = IfSome o (λ end. number (take (end - at) (drop at after)) ≡ Some z)

    go : (b : Bool) → has_room at bytes old ≡ b → r ≡ (if b then Some (at + length bytes) else None) → after ≡ (if b then over at bytes old else old) → Back r
    go true h p q = subst Back (sym p) (over_back z at _ old after v (omega (arith, leb-true _ _ h, ap length w)) (q ∙ ap (λ x. over at x old) w) (ap (λ x. at + length x) w))
    go false h p q = subst Back (sym p) tt
