-- A signed number of 32 bits and its bits. Assumes nothing.
use Rattle.std.proofs.Common.{◌≡◌, ℤ, w32, SFits, to_z, of_z}
use Rattle.std.proofs.lemmas.Int.{to_z-of_z}

-- the bits of a number give it back
pub back : (v : ℤ) → SFits w32 v → to_z w32 (of_z w32 v) ≡ v
back v fits = to_z-of_z w32 v fits
