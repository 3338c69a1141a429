-- What a measure is, and the six properties that make it one. Assumes nothing.
use Rattle.std.specs.Prelude.{◌≡◌, ℕ, ◌+◌, ◌<◌, ◌≤◌, Bool, true, List, length, ℤ, Some, Option}
use Rattle.std.specs.List.{AllByRecursion}
use Rattle.measures.specs.Values.{RowValue, most_rows}
use Rattle.measures.specs.Bytes.{EightBytes}

-- A measure over values of type V that answers with an A.
pub record Meaning (V A : Type 0) : Type 0 where
  -- its byte in a hall file
  pub kind : ℕ
  -- how many row fields it measures: a count measures none
  pub fields : ℕ
  -- the value of no rows
  pub none : V
  -- the value of one row, from what stands in its measured fields
  pub one : List ℤ → V
  -- the value of some rows and some more
  pub join : V → V → V
  -- whether so many rows can have this value
  pub possible : V → ℕ → Bool
  -- what is answered for a value of so many rows
  pub answer : V → ℕ → A
  -- the eight bytes that a value of one row or more is written in
  pub written : V → List ℕ
  -- the value that eight bytes are read as, if any
  pub reads : List ℕ → Option V

-- n rows can have the value a
abbrev pub Possible : {V A : Type 0} → Meaning V A → V → ℕ → Type 0
Possible m a n = m.possible a n ≡ true

-- a value that has a written form: possible for some n from 1 to 1,000,000
abbrev pub Writable : {V A : Type 0} → Meaning V A → V → Type 0
Writable m a = (n : ℕ) × (1 ≤ n) × (n ≤ most_rows) × Possible m a n

-- The six properties. The first is two fields, associative and commutative; the third two, that
-- none is possible for no rows and that nothing else is; the sixth two, forth and back.
pub record Properties {V A : Type 0} (m : Meaning V A) : Type 0 where
  pub join_associates : (a b c : V) (i j k : ℕ) → Possible m a i → Possible m b j → Possible m c k → i + j + k ≤ most_rows → m.join (m.join a b) c ≡ m.join a (m.join b c)
  pub join_commutes : (a b : V) (i j : ℕ) → Possible m a i → Possible m b j → i + j ≤ most_rows → m.join a b ≡ m.join b a
  pub none_joins_to_the_same : (a : V) → m.join m.none a ≡ a
  pub none_for_no_rows : Possible m m.none 0
  pub only_none_for_no_rows : (a : V) → Possible m a 0 → a ≡ m.none
  pub one_row_is_possible : (vs : List ℤ) → length vs ≡ m.fields → AllByRecursion RowValue vs → Possible m (m.one vs) 1
  pub join_is_possible : (a b : V) (i j : ℕ) → Possible m a i → Possible m b j → i + j ≤ most_rows → Possible m (m.join a b) (i + j)
  pub written_reads_back : (a : V) → Writable m a → m.reads (m.written a) ≡ Some a
  pub nothing_else_reads_so : (a : V) (bs : List ℕ) → Writable m a → EightBytes bs → m.reads bs ≡ Some a → bs ≡ m.written a

-- The kind is a byte, and what is written is eight of them.
pub record Formed {V A : Type 0} (m : Meaning V A) : Type 0 where
  pub kind_is_a_byte : m.kind < 256
  pub written_in_eight_bytes : (a : V) → EightBytes (m.written a)
