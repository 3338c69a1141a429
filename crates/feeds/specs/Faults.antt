-- What each fault publishes. Assumes nothing.
use Rattle.std.specs.Prelude.{ℕ, List, codes}
use Rattle.text.specs.Refusals.{published}
use Rattle.feeds.specs.declared.fault.Fault.{Fault}
use Rattle.feeds.specs.declared.fault.Fault.TheVariants.{BadLine, RefusedRow}
use Rattle.feeds.specs.declared.fault.Layer.{Layer}
use Rattle.feeds.specs.declared.fault.Layer.TheVariants.{Sheet, Tally}

-- the name of a layer
abbrev pub layer_name : Layer → List ℕ
layer_name Sheet = codes "sheet"
layer_name Tally = codes "tally"

-- what is told of a fault: its number, the layer in which it lies, and the line or row there
pub record PublishedFault : Type 0 where
  pub number : ℕ
  pub layer : Layer
  pub place : ℕ

-- the number, layer and place of every fault
abbrev pub published_fault : Fault → PublishedFault
published_fault (BadLine line) = record { number = 5; layer = Sheet; place = line }
published_fault (RefusedRow refusal row) = record { number = (published refusal).number; layer = Tally; place = row }
