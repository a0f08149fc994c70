-- A receive of a text in pieces.
use Rattle.std.specs.Prelude.{ℕ, ◌-◌, List, [], ◌∷◌, ◌++◌, length, drop, sum_by, Option, Some, None}
use Rattle.zst_model.specs.declared.refusals.refusal.Refusal.{Refusal}
use Rattle.zst_model.specs.declared.refusals.refusal.Refusal.TheVariants as refusals
use Rattle.zst_model.specs.pools.Pool.{Pool}
use Rattle.zst_plan.specs.declared.receive.RecvAsk.{RecvAsk}
use Rattle.zst_record.specs.Heads.{Covered, size_of}
use Rattle.zst_stream.specs.Reading.{Outcome, waiting, faulty, complete, reading}
use Rattle.zst_recv.specs.ReceiveSteps.{Stage, Waits, Fed, Goes, Stops, fed}

-- the fault that a reading ends with
abbrev pub fault_of : Outcome → Option Refusal
fault_of waiting = None
fault_of (faulty fault) = Some (refusals.Stream fault)
fault_of complete = None

-- the records that a piece covers behind a text
abbrev pub new_records : List ℕ → List ℕ → List Covered
new_records text piece = drop (length (reading text).covered) (reading (text ++ piece)).covered

-- a piece behind a text that was fed
abbrev pub fed_piece : RecvAsk → List ℕ → List ℕ → Stage → Pool → Fed
fed_piece ask text piece stage pool = fed ask (new_records text piece) (fault_of (reading (text ++ piece)).outcome) stage pool

-- how many bytes of a piece are of the stream: all, or those up to its END
abbrev pub used_by : List ℕ → List ℕ → List Covered → Outcome → ℕ
used_by text piece covered waiting = length piece
used_by text piece covered (faulty fault) = length piece
used_by text piece covered complete = sum_by (λ c. size_of c.head) covered - length text

abbrev pub used_of : List ℕ → List ℕ → ℕ
used_of text piece = let read = reading (text ++ piece) in used_by text piece read.covered read.outcome

-- what comes next of a receive that goes on
abbrev pub and_feed : Fed → (Stage → Pool → Fed) → Fed
and_feed (Goes pool stage) next = next stage pool
and_feed (Stops pool refusal) next = Stops pool refusal

-- pieces behind a text, up to the first that is refused
unfoldable pub feeds : RecvAsk → List ℕ → List (List ℕ) → Stage → Pool → Fed
feeds ask text [] stage pool = Goes pool stage
feeds ask text (piece ∷ rest) stage pool = and_feed (fed_piece ask text piece stage pool) (feeds ask (text ++ piece) rest)

-- a receive of pieces, from its opening
abbrev pub receives : RecvAsk → Pool → List (List ℕ) → Fed
receives ask pool pieces = feeds ask [] pieces Waits pool
