-- The five kinds of measure. Assumes nothing.
use Rattle.std.specs.Prelude.{ℕ, ◌+◌, ◌-◌, ◌*◌, ◌^◌, min, Bool, cond, ◌&&◌, List, ℤ, pos, ◌+ℤ◌, Some, None, Option, ◌==◌, nat_le, nat_lt, slice_index_or, unsigned_abs}
use Rattle.std.proofs.Common.{to_z, of_z}
use Rattle.std.specs.Int.{int_min, int_max, saturate_to_bits, w64}
use Rattle.measures.specs.declared.answer.Answer.{Answer}
use Rattle.measures.specs.declared.answer.Answer.TheVariants.{Number, Mean, NoRows}
use Rattle.measures.specs.Values.{greatest_value, is_row_value}
use Rattle.measures.specs.Meaning.{Meaning}
use Rattle.measures.specs.Bytes.{bytes_of, word_of}

-- the measure that is the only one of its kind, found by a kind byte
abbrev pub only : {M : Type 0} → ℕ → M → ℕ → Option M
only k m n = cond (n == k) (Some m) None

-- what stands in the one measured field
abbrev pub measured : List ℤ → ℤ
measured vs = slice_index_or vs 0 (pos 0)

-- Counts are added. One that would pass 32 bits stays at their end, which is possible for no number
-- of rows that is ever taken; no rows add nothing to any number.
abbrev pub counted : ℕ → ℕ → ℕ
counted a b = cond (a == 0) b (min (a + b) (2 ^ 32 - 1))

-- 1: how many rows
abbrev pub count : Meaning ℕ Answer
count = record {
  kind = 1;
  fields = 0;
  none = 0;
  one = λ _. 1;
  join = counted;
  possible = λ a n. (a == n);
  answer = λ a _. Number (pos a);
  written = bytes_of 8;
  reads = λ bs. cond (nat_lt (word_of bs) (2 ^ 32)) (Some (word_of bs)) None;
}

-- Sums are added, and stay at the ends of 64 bits in the same way.
abbrev pub total : ℤ → ℤ → ℤ
total a b = cond (unsigned_abs a == 0) b (saturate_to_bits 63 (a +ℤ b))

-- each of n rows adds at most the greatest value
abbrev pub is_sum_of : ℤ → ℕ → Bool
is_sum_of a n = nat_le (unsigned_abs a) (greatest_value * n)

-- a number in two's complement, and back
abbrev pub signed_bytes : ℤ → List ℕ
signed_bytes a = bytes_of 8 (of_z w64 a)

abbrev pub signed_word : List ℕ → ℤ
signed_word bs = to_z w64 (word_of bs)

-- a measure that adds up
abbrev pub adding : ℕ → (ℤ → ℕ → Answer) → Meaning ℤ Answer
adding k answer = record {
  kind = k;
  fields = 1;
  none = pos 0;
  one = measured;
  join = total;
  possible = is_sum_of;
  answer = answer;
  written = signed_bytes;
  reads = λ bs. Some (signed_word bs);
}

-- 2: the sum
abbrev pub sum : Meaning ℤ Answer
sum = adding 2 (λ a _. Number a)

-- the sum and the row count, where there are rows
abbrev pub mean_of : ℤ → ℕ → Answer
mean_of a n = cond (n == 0) NoRows (Mean a n)

-- 5: the mean, as sum and row count
abbrev pub mean : Meaning ℤ Answer
mean = adding 5 mean_of

-- the better of two values where there are two
abbrev pub better : (ℤ → ℤ → ℤ) → Option ℤ → Option ℤ → Option ℤ
better pick None b = b
better pick (Some a) None = Some a
better pick (Some a) (Some b) = Some (pick a b)

-- no value for no rows, a row value for some
abbrev pub is_extreme_of : Option ℤ → ℕ → Bool
is_extreme_of None n = n == 0
is_extreme_of (Some a) n = nat_le 1 n && is_row_value a

abbrev pub extreme_answer : Option ℤ → Answer
extreme_answer None = NoRows
extreme_answer (Some a) = Number a

-- (no value is written for no rows; zero stands for it)
abbrev pub extreme_bytes : Option ℤ → List ℕ
extreme_bytes None = bytes_of 8 0
extreme_bytes (Some a) = signed_bytes a

-- the row value that eight bytes hold, if they hold one
abbrev pub extreme_read : List ℕ → Option (Option ℤ)
extreme_read bs = cond (is_row_value (signed_word bs)) (Some (Some (signed_word bs))) None

-- a measure that keeps the better value
abbrev pub extreme : ℕ → (ℤ → ℤ → ℤ) → Meaning (Option ℤ) Answer
extreme k pick = record {
  kind = k;
  fields = 1;
  none = None;
  one = λ vs. Some (measured vs);
  join = better pick;
  possible = is_extreme_of;
  answer = λ a _. extreme_answer a;
  written = extreme_bytes;
  reads = extreme_read;
}

-- 3: the least value
abbrev pub least : Meaning (Option ℤ) Answer
least = extreme 3 int_min

-- 4: the greatest value
abbrev pub greatest : Meaning (Option ℤ) Answer
greatest = extreme 4 int_max
