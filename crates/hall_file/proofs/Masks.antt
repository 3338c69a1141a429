-- Masks of a byte.
use Rattle.std.proofs.Common.{◌≡◌, ℕ, ◌*◌, ◌%◌, ◌^◌, ◌<◌, ◌≤◌, min, Bool, true, false, ltb, sym, refl, ap, ◌∙◌, pow_mono, arith, ltb-false, ltb-true}
use Rattle.std.proofs.lemmas.Bool.{lt-ltb}

-- a byte is below 2 to the eighth, and so below 2 to any number above
below_eight : (m fields : ℕ) → m < 256 → ltb m (2 ^ min fields 8) ≡ ltb m (2 ^ fields)
below_eight m fields h = go (ltb 8 fields) refl
  where
    go : (b : Bool) → ltb 8 fields ≡ b → ltb m (2 ^ min fields 8) ≡ ltb m (2 ^ fields)
    go true e =
        let a : 8 < fields = ltb-true 8 fields e in
        let n : min fields 8 ≡ 8 = omega arith in
        let p : 2 ^ 8 ≤ 2 ^ fields = pow_mono {i = 8} {j = fields} (omega arith) in
        ap (λ k. ltb m (2 ^ k)) n ∙ lt-ltb m 256 h ∙ sym (lt-ltb m (2 ^ fields) (omega arith))
    go false e =
        let a : fields ≤ 8 = ltb-false 8 fields e in
        let n : min fields 8 ≡ fields = omega arith in
        ap (λ k. ltb m (2 ^ k)) n

-- the same as the code shifts
pub below_shifted : (m fields n k : ℕ) → n ≡ m → k ≡ min fields 8 → m < 256 → ltb n (1 * 2 ^ k % 4294967296) ≡ ltb m (2 ^ fields)
below_shifted m fields n k e f h =
    let p : 2 ^ k ≤ 2 ^ 8 = pow_mono {i = k} {j = 8} (omega arith) in
    let q : 1 * 2 ^ k % 4294967296 ≡ 2 ^ k = omega arith in
    ap (λ x. ltb x (1 * 2 ^ k % 4294967296)) e ∙ ap (ltb m) q ∙ ap (λ x. ltb m (2 ^ x)) f ∙ below_eight m fields h
