-- The hash of a group. Assumes nothing.
use Rattle.std.specs.Prelude.{ℕ, ◌*◌, ◌/◌, ◌%◌, ◌^◌, ℤ, pos, bit_xor, slice_index_or}
use Rattle.std.specs.Int.{w32}
use Rattle.std.proofs.Common.{of_z}
use Rattle.cells.specs.declared.id.GroupId.{GroupId}

-- the high half of a number mixed into the low one
abbrev pub folded : ℕ → ℕ
folded m = bit_xor m (m / 2 ^ 32)

-- a number stirred into a hash
unfoldable pub stirred : ℕ → ℤ → ℕ
stirred h v = folded ((bit_xor h (of_z w32 v) * 0x9E3779B97F4A7C15) % 2 ^ 64)

-- the hash of a group: column and key, all stirred together
unfoldable pub hashed : GroupId → ℕ
hashed p = stirred (stirred (stirred (stirred (stirred 0 (pos p.column)) (slice_index_or p.key 0 (pos 0))) (slice_index_or p.key 1 (pos 0))) (slice_index_or p.key 2 (pos 0))) (slice_index_or p.key 3 (pos 0))
