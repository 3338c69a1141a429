-- A byte further up is a further division by 256.
use native.Mathlib.Nat.{div-div-eq-div-mul}
use Rattle.measures.proofs.bytes.word_bytes.Goals as goal

pub returns : goal.returns
returns c = simp div-div-eq-div-mul c.to_le_bytes.ensures
