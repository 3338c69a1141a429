-- What a section feed means. Assumes nothing.
use Rattle.std.specs.Prelude.{◌≡◌, ℕ, Bool, true, false, cond, List, length, ℤ, pos, Ok, Err, filter, Result, int_le, nat_lt, slice_index_or}
use Rattle.measures.specs.Values.{is_row_value}
use Rattle.text.specs.declared.refusal.Refusal.{Refusal}
use Rattle.text.specs.declared.refusal.Refusal.TheVariants.{FeedRange}
use Rattle.feeds.specs.declared.section.Section.{Section}
use Rattle.feeds.specs.Steps.{End}

-- whether two whole numbers are the same
abbrev pub same_number : ℤ → ℤ → Bool
same_number a b = cond (int_le a b) (int_le b a) false

-- whether a row has a value in a field
abbrev pub hits : ℕ → ℤ → List ℤ → Bool
hits field value row = cond (nat_lt field (length row)) (same_number (slice_index_or row field (pos 0)) value) false

-- the rows that have a value in a field
abbrev pub section_of : ℕ → ℤ → List (List ℤ) → List (List ℤ)
section_of field value rows = filter (hits field value) rows

-- whether a section can be made: its field lies below the width and its value is a row value
abbrev pub is_section : ℕ → ℤ → ℕ → Bool
is_section field value width = cond (nat_lt field width) (is_row_value value) false

-- the rows of a section feed, by those that come from the feed below
abbrev pub section_coming : {F : Type 0} → (F → List (List ℤ)) → Section F → List (List ℤ)
section_coming coming s = section_of s.field s.value (coming s.feed)

-- a section feed made on a feed stands on it, is as wide, has its rows that have the value in the field, and ends as it does
pub record SectionOf {F : Type 0} (wide : F → ℕ) (coming : F → List (List ℤ)) (ending : F → End) (feed : F) (field : ℕ) (value : ℤ) (s : Section F) : Type 0 where
  pub below : s.feed ≡ feed
  pub width : wide s.feed ≡ wide feed
  pub rows : section_coming coming s ≡ section_of field value (coming feed)
  pub end : ending s.feed ≡ ending feed

-- in range a section is made, and else the feed comes back as it was, refused as out of range
abbrev pub MadeOn : {F : Type 0} → Bool → F → (Section F → Type 0) → Result (Section F) (F × Refusal) → Type 0
MadeOn fits feed P (Ok s) = (fits ≡ true) × P s
MadeOn fits feed P (Err e) = (fits ≡ false) × (e.0 ≡ feed) × (e.1 ≡ FeedRange)
