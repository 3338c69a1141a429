-- What the making of a feed answers. Assumes nothing.
use Rattle.std.specs.Prelude.{◌≡◌, ℕ, Bool, true, false, cond, Ok, Err, Result, nat_le, nat_lt}
use Rattle.text.specs.declared.refusal.Refusal.{Refusal}
use Rattle.text.specs.declared.refusal.Refusal.TheVariants.{FeedRange}
use Rattle.feeds.specs.Steps.{most_fields}

-- a width from 1 to 8
abbrev pub is_width : ℕ → Bool
is_width w = cond (nat_lt w 1) false (nat_le w most_fields)

-- in range a feed is made that has the meaning asked for, and else it is refused as out of range
abbrev pub Made : {X : Type 0} → Bool → (X → Type 0) → Result X Refusal → Type 0
Made fits P (Ok x) = (fits ≡ true) × P x
Made fits P (Err e) = (fits ≡ false) × (e ≡ FeedRange)
