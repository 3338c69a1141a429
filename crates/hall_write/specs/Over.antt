-- Bytes written over a part of a buffer. Assumes nothing.
use Rattle.std.specs.Prelude.{◌≡◌, ℕ, ◌+◌, ◌≤◌, List, ◌++◌, length, take, drop}
use Rattle.hall_write.specs.declared.put.Out.{Out}

-- a buffer after bytes were written into it from a place on
unfoldable pub over : ℕ → List ℕ → List ℕ → List ℕ
over at bs old = take at old ++ (bs ++ drop (at + length bs) old)

-- there is room for bytes after what was written
abbrev pub HasRoom : List ℕ → Out → Type 0
HasRoom bs out = out.end + length bs ≤ length out.buffer.now

-- bytes were written after what was written before, into the same buffer
pub record Puts (bs : List ℕ) (old new : Out) : Type 0 where
  pub same : new.buffer.ghost_name ≡ old.buffer.ghost_name
  pub is : new.buffer.now ≡ over old.end bs old.buffer.now
  pub ends : new.end ≡ old.end + length bs
