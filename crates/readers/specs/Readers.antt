-- Readers of bytes: what is read, and the bytes after it; or nothing. Assumes nothing.
use Rattle.std.specs.Prelude.{ℕ, zero, suc, ◌+◌, ◌*◌, Bool, cond, List, [], ◌∷◌, Some, None, Option, ◌==◌, nat_lt}

-- reads an X from the front of bytes
abbrev pub Reader : Type 0 → Type 0
Reader X = List ℕ → Option (X × List ℕ)

-- what was read, as a value of another type
abbrev pub changed : {X Y : Type 0} → (X → Y) → Option (X × List ℕ) → Option (Y × List ℕ)
changed f None = None
changed f (Some q) = Some (f q.0, q.1)

-- after one part was read, the next part, which may depend on it
abbrev pub go_on : {X Y : Type 0} → Option (X × List ℕ) → (X → Reader Y) → Option ((X × Y) × List ℕ)
go_on None r = None
go_on (Some q) r = changed (λ y. (q.0, y)) (r q.0 q.1)

-- what was read, if it passes the test
abbrev pub kept : {X : Type 0} → (X → Bool) → Option (X × List ℕ) → Option (X × List ℕ)
kept t None = None
kept t (Some q) = cond (t q.0) (Some q) None

-- one part and then another
abbrev pub seq : {X Y : Type 0} → Reader X → (X → Reader Y) → Reader (X × Y)
seq r s bs = go_on (r bs) s

-- as a value of another type
abbrev pub via : {X Y : Type 0} → (X → Y) → Reader X → Reader Y
via f r bs = changed f (r bs)

-- only what passes the test
abbrev pub only_if : {X : Type 0} → (X → Bool) → Reader X → Reader X
only_if t r bs = kept t (r bs)

-- n of a kind, one after another
abbrev pub times : {X : Type 0} → ℕ → Reader X → Reader (List X)
times zero r bs = Some ([], bs)
times (suc n) r bs = via (λ q. q.0 ∷ q.1) (seq r (λ _. times n r)) bs

-- just these bytes
abbrev pub constant : List ℕ → Reader (Unit {0})
constant [] bs = Some (tt, bs)
constant (c ∷ cs) [] = None
constant (c ∷ cs) (b ∷ bs) = cond (b == c) (constant cs bs) None

-- one byte
abbrev pub byte : Reader ℕ
byte [] = None
byte (b ∷ bs) = cond (nat_lt b 256) (Some (b, bs)) None

-- a number of k bytes, the lowest first
abbrev pub number : ℕ → Reader ℕ
number zero bs = Some (0, bs)
number (suc k) bs = via (λ q. q.0 + 256 * q.1) (seq byte (λ _. number k)) bs

-- a value, if there is one, beside the bytes after it
abbrev pub with_rest : {Y : Type 0} → List ℕ → Option Y → Option (Y × List ℕ)
with_rest rest None = None
with_rest rest (Some y) = Some (y, rest)

-- what was read as a value of another type, where it has one
abbrev pub picked : {X Y : Type 0} → (X → Option Y) → Option (X × List ℕ) → Option (Y × List ℕ)
picked f None = None
picked f (Some q) = with_rest q.1 (f q.0)

-- as a value of another type, where there is one
abbrev pub chosen : {X Y : Type 0} → (X → Option Y) → Reader X → Reader Y
chosen f r bs = picked f (r bs)

-- the bytes after what is read
abbrev pub after : {X : Type 0} → Option (X × List ℕ) → Option (List ℕ)
after None = None
after (Some q) = Some q.1
