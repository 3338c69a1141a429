-- A measure among the values of a larger type. Assumes nothing.
use Rattle.std.specs.Prelude.{ℕ, Bool, false, List, Some, None, Option}
use Rattle.std.specs.Option.{option_map}
use Rattle.measures.specs.Meaning.{Meaning}
use Rattle.measures.specs.Bytes.{bytes_of}

-- two values of the measure are joined; with a value of another measure the second is kept
abbrev pub joined_within : {V W : Type 0} → (V → V → V) → (V → W) → W → Option V → Option V → W
joined_within join wrap b None y = b
joined_within join wrap b (Some x) None = b
joined_within join wrap b (Some x) (Some y) = wrap (join x y)

-- no number of rows has a value of another measure
abbrev pub possible_within : {V : Type 0} → (V → ℕ → Bool) → Option V → ℕ → Bool
possible_within possible None n = false
possible_within possible (Some x) n = possible x n

-- a value of another measure is answered by `blank`
abbrev pub answer_within : {V A : Type 0} → (V → ℕ → A) → A → Option V → ℕ → A
answer_within answer blank None n = blank
answer_within answer blank (Some x) n = answer x n

-- a value of another measure is written as zero
abbrev pub written_within : {V : Type 0} → (V → List ℕ) → Option V → List ℕ
written_within written None = bytes_of 8 0
written_within written (Some x) = written x

-- the measure m over W: `wrap` puts its values there, `own` takes them out again
abbrev pub lifted : {V W A : Type 0} → (V → W) → (W → Option V) → A → Meaning V A → Meaning W A
lifted wrap own blank m = record {
  kind = m.kind;
  fields = m.fields;
  none = wrap m.none;
  one = λ vs. wrap (m.one vs);
  join = λ a b. joined_within m.join wrap b (own a) (own b);
  possible = λ a n. possible_within m.possible (own a) n;
  answer = λ a n. answer_within m.answer blank (own a) n;
  written = λ a. written_within m.written (own a);
  reads = λ bs. option_map wrap (m.reads bs);
}
