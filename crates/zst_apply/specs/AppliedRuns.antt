-- What WRITE records of neighbouring blocks of an object make of a dated state.
use Rattle.std.specs.Prelude.{ℕ, ◌+◌, List, [], ◌∷◌, take, drop, Result, Ok}
use Rattle.zst_model.specs.declared.refusals.refusal.Refusal.{Refusal}
use Rattle.zst_model.specs.declared.states.item.Change.TheVariants.{Write}
use Rattle.zst_model.specs.declared.states.item.Item.TheVariants.{At}
use Rattle.zst_model.specs.states.AppliedItems.{◌>>=◌}
use Rattle.zst_model.specs.states.DatedState.{DatedState}
use Rattle.zst_model.specs.sends.ReceivedRecords.{received}

-- one after another, each with its index among the records and its type; the bytes are those of the blocks, one behind the other
unfoldable pub run_received : (number k size offset : ℕ) → List (ℕ × ℕ) → List ℕ → DatedState → Result DatedState Refusal
run_received number k size offset [] bytes snap = Ok snap
run_received number k size offset (one ∷ rest) bytes snap =
    received number one.0 (At k (Write offset one.1 (take size bytes))) snap >>= run_received number k size (offset + size) rest (drop size bytes)
