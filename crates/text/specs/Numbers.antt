-- How a number is written as text, and which words are numbers. Assumes nothing.
use Rattle.std.specs.Prelude.{◌≡◌, ℕ, zero, suc, ◌+◌, ◌-◌, ◌*◌, Bool, cond, not, ◌&&◌, List, [], ◌∷◌, ◌++◌, length, take, drop, ℤ, pos, neg_ℤ, Some, None, Option, ◌==◌, nat_le, nat_lt, slice_index}
use Rattle.std.specs.Char.{is_ascii_digit}
use Rattle.std.specs.Fmt.{signed_decimal}
use Rattle.std.specs.Str.{all_ascii_digits}
use Rattle.measures.specs.Values.{RowValue}

-- the most digits that a number in a text has
abbrev pub most_digits : ℕ
most_digits = 9

-- the byte of the sign that stands before a negative number
abbrev pub minus_sign : ℕ
minus_sign = 45

-- the byte of the digit 0
abbrev pub zero_digit : ℕ
zero_digit = 48

-- the number that digits write in decimal, after others that write n
abbrev pub read_on : ℕ → List ℕ → ℕ
read_on n [] = n
read_on n (c ∷ cs) = read_on (n * 10 + (c - zero_digit)) cs

-- one to nine digits, the first of them 0 only if it stands alone
abbrev pub plain : List ℕ → Bool
plain w = nat_lt 0 (length w) && (nat_le (length w) most_digits && (not (slice_index w 0 == zero_digit && nat_lt 1 (length w)) && all_ascii_digits w))

-- the number without sign that a word writes, if it writes one
abbrev pub unsigned : List ℕ → Option ℕ
unsigned w = cond (plain w) (Some (read_on 0 w)) None

-- the number without sign taken as it is
abbrev pub positive : Option ℕ → Option ℤ
positive None = None
positive (Some n) = Some (pos n)

-- the number without sign taken below zero; there is no negative zero
abbrev pub negative : Option ℕ → Option ℤ
negative None = None
negative (Some n) = cond (n == 0) None (Some (neg_ℤ (pos n)))

-- the number that a word writes, if it writes one
abbrev pub number : List ℕ → Option ℤ
number w = cond (slice_index w 0 == minus_sign) (negative (unsigned (drop 1 w))) (positive (unsigned w))

-- how a number is written in decimal, with a minus sign before it when negative
abbrev pub written : ℤ → List ℕ
written z = signed_decimal z

-- a word is a number exactly when it is how that number is written, and the number is a row value
pub record Exactly (word : List ℕ) (r : Option ℤ) : Type 0 where
  pub again : (z : ℤ) → r ≡ Some z → RowValue z × (written z ≡ word)
  pub back : (z : ℤ) → RowValue z → written z ≡ word → r ≡ Some z

-- the digits at the front of a text, k at most
abbrev pub digits_front : ℕ → List ℕ → List ℕ
digits_front zero text = []
digits_front (suc k) [] = []
digits_front (suc k) (c ∷ cs) = cond (is_ascii_digit c) (c ∷ digits_front k cs) []

-- the front of a text that a number may be: a minus sign, if there is one, and digits, nine at most
abbrev pub front : List ℕ → List ℕ
front text = cond (slice_index text 0 == minus_sign) (minus_sign ∷ digits_front most_digits (drop 1 text)) (digits_front most_digits text)

-- a buffer in which some bytes were written from a place on, the rest as before
abbrev pub over : ℕ → List ℕ → List ℕ → List ℕ
over at bytes old = take at old ++ (bytes ++ drop (at + length bytes) old)

-- whether bytes fit into a buffer from a place on
abbrev pub has_room : ℕ → List ℕ → List ℕ → Bool
has_room at bytes old = nat_le (at + length bytes) (length old)
