-- Bytes and the number that they hold determine each other. Assumes nothing.
use Rattle.std.specs.Prelude.{◌≡◌, ℕ, zero, suc, ◌+◌, ◌*◌, ◌/◌, ◌%◌, ◌^◌, ◌<◌, List, [], ◌∷◌, length, drop, slice_index, refl}
use Rattle.std.proofs.Common.{ap, arith}
use Rattle.std.proofs.Math.Nat.{pow-succ'}
use Rattle.measures.specs.Bytes.{bytes_of, word_of, AreBytes, EightBytes}

-- k bytes are written
pub length_bytes_of : (k n : ℕ) → length (bytes_of k n) ≡ k
length_bytes_of zero n = refl
length_bytes_of (suc k) n = ap suc (length_bytes_of k (n / 256))

pub bytes_of_are_bytes : (k n : ℕ) → AreBytes (bytes_of k n)
bytes_of_are_bytes zero n = tt
bytes_of_are_bytes (suc k) n = (omega arith, bytes_of_are_bytes k (n / 256))

pub bytes_of_eight : (n : ℕ) → EightBytes (bytes_of 8 n)
bytes_of_eight n = (refl, bytes_of_are_bytes 8 n)

-- what is written reads back
pub word_of_bytes_of : (k n : ℕ) → n < 256 ^ k → word_of (bytes_of k n) ≡ n
word_of_bytes_of zero n h = omega arith
word_of_bytes_of (suc k) n h =
    let rest : n / 256 < 256 ^ k = omega (arith, pow-succ' 256 k) in
    let e = word_of_bytes_of k (n / 256) rest in
    omega arith

-- and only that reads so
pub bytes_of_word_of : (bs : List ℕ) → AreBytes bs → bytes_of (length bs) (word_of bs) ≡ bs
bytes_of_word_of [] h = refl
bytes_of_word_of (b ∷ bs) h =
    let low : (b + 256 * word_of bs) % 256 ≡ b = omega (arith, h.0) in
    let high : (b + 256 * word_of bs) / 256 ≡ word_of bs = omega (arith, h.0) in
    let e = bytes_of_word_of bs h.1 in
    rw (low, high, e)

pub word_of_below : (bs : List ℕ) → AreBytes bs → word_of bs < 256 ^ length bs
word_of_below [] h = omega arith
word_of_below (b ∷ bs) h = omega (arith, h.0, word_of_below bs h.1, pow-succ' 256 (length bs))

-- the number from a byte on
pub word_of_drop : (bs : List ℕ) (k : ℕ) → word_of (drop k bs) ≡ slice_index bs k + 256 * word_of (drop (suc k) bs)
word_of_drop [] zero = refl
word_of_drop [] (suc k) = refl
word_of_drop (b ∷ bs) zero = refl
word_of_drop (b ∷ bs) (suc k) = word_of_drop bs k
