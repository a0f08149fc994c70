-- What a run works on.
use Rattle.zst_outside.specs.States.{SourceState, SinkState}

-- the two images, the input and the output at a moment
pub record Devices (D E : Type 0) : Type 0 where
  pub here : D
  pub there : E
  pub input : SourceState
  pub out : SinkState

abbrev pub devices : {D E : Type 0} → D → E → SourceState → SinkState → Devices D E
devices here there input out = record { here = here; there = there; input = input; out = out }
