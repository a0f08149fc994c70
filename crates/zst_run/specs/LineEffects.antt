-- What a line does.
use Rattle.std.specs.Prelude.{ℕ, ◌≡◌, ◌≤◌, Bool, true, false, IfSome, List, Option, None, Some, Result, Ok, Err}
use Rattle.zst_outside.specs.Images.{DiskState}
use Rattle.zst_model.specs.pools.Step.{IsCommand}
use Rattle.zst_model.specs.declared.refusals.refusal.Refusal.{Refusal}
use Rattle.zst_line.specs.Line.{IsCreate, refusal_of}
use Rattle.zst_line.specs.declared.line.Line.{Line}
use Rattle.zst_line.specs.declared.line.Line.TheVariants.{Dump, Create, Step, Send, Resume, Receive, Token, Check, Gen, Replay}
use Rattle.zst_line.specs.declared.line.LineFault.{LineFault}
use Rattle.zst_plan.specs.declared.receive.RecvAsk.{RecvAsk}
use Rattle.zst_script.specs.Asks.{IsSource, IsTarget, ask_of, receipt_of}
use Rattle.zst_run.specs.Checks.{Checks}
use Rattle.zst_run.specs.Commands.{Making, Stepping}
use Rattle.zst_run.specs.Devices.{Devices}
use Rattle.zst_run.specs.Dumps.{Dumps}
use Rattle.zst_run.specs.Generating.{Generating}
use Rattle.zst_run.specs.Receives.{Receiving}
use Rattle.zst_run.specs.Replays.{Replays}
use Rattle.zst_run.specs.Replies.{Replies}
use Rattle.zst_run.specs.declared.send.SendRequest.{SendRequest}
use Rattle.zst_run.specs.declared.send.SendRequest.TheVariants.{Named, Rest}
use Rattle.zst_run.specs.Sends.{Sends}
use Rattle.zst_run.specs.Tokens.{Tokens}

-- a line whose values are in their ranges
abbrev pub IsInRange : Line → Type 0
IsInRange (Create image sectors id) = IsCreate sectors id
IsInRange (Step image command) = IsCommand command
IsInRange (Send image from redacts snapshot) = IfSome from IsSource
IsInRange (Receive image keeps forces origin target) = IsTarget target
IsInRange (Gen image steps) = (1 ≤ steps) × (steps ≤ 64)
IsInRange line = Unit {0}

-- whether a line checks a pool
abbrev pub is_check : Line → Bool
is_check (Check image) = true
is_check line = false

-- what a line asks to be sent
abbrev pub send_of : Line → Option SendRequest
send_of (Send image from redacts snapshot) = Some (Named (ask_of from redacts snapshot))
send_of (Resume image token) = Some (Rest token)
send_of line = None

-- what a line asks to be received
abbrev pub receive_of : Line → Option RecvAsk
receive_of (Receive image keeps forces origin target) = Some (receipt_of keeps forces origin target)
receive_of line = None

-- the dataset whose token a line asks for
abbrev pub token_dataset_of : Line → Option (List ℕ)
token_dataset_of (Token image dataset) = Some dataset
token_dataset_of line = None

-- What a line does, of two disks of which it is said what each is at a moment, and whether it tells its images: `replay` runs the script that is its
-- input on both images; all other lines leave the second one alone. `dump` reads the input and leaves the first alone too, `receive` reads the
-- input, and all others leave it alone.
abbrev pub DoesLine : {D E : Type 0} → (D → DiskState) → Bool → (E → DiskState) → Bool → ℕ → Line → Devices D E → Devices D E → Result (Unit {0}) Refusal → Type 0
DoesLine state tells other others now Dump old new result = Dumps old.input new.input old.out new.out result × (new.here ≡ old.here) × (new.there ≡ old.there)
DoesLine state tells other others now (Create image sectors id) old new result =
    Replies (Making sectors id (state old.here) (state new.here)) old.out new.out result × (new.input ≡ old.input) × (new.there ≡ old.there)
DoesLine state tells other others now (Step image command) old new result =
    Replies (Stepping now command (state old.here) (state new.here)) old.out new.out result × (new.input ≡ old.input) × (new.there ≡ old.there)
DoesLine state tells other others now (Send image from redacts snapshot) old new result =
    Sends (Named (ask_of from redacts snapshot)) (state old.here) (state new.here) old.out new.out result × (new.input ≡ old.input) × (new.there ≡ old.there)
DoesLine state tells other others now (Resume image token) old new result =
    Sends (Rest token) (state old.here) (state new.here) old.out new.out result × (new.input ≡ old.input) × (new.there ≡ old.there)
DoesLine state tells other others now (Receive image keeps forces origin target) old new result =
    Replies (Receiving (receipt_of keeps forces origin target) (state old.here) (state new.here) old.input new.input) old.out new.out result × (new.there ≡ old.there)
DoesLine state tells other others now (Token image dataset) old new result =
    Tokens dataset (state old.here) (state new.here) old.out new.out result × (new.input ≡ old.input) × (new.there ≡ old.there)
DoesLine state tells other others now (Check image) old new result =
    Checks (state old.here) (state new.here) old.out new.out result × (new.input ≡ old.input) × (new.there ≡ old.there)
DoesLine state tells other others now (Gen image steps) old new result =
    Replies (Generating now steps (state old.here) (state new.here)) old.out new.out result × (new.input ≡ old.input) × (new.there ≡ old.there)
DoesLine state tells other others now (Replay here there) old new result =
    Replays now (state old.here) (state new.here) tells (other old.there) (other new.there) others old.input new.input old.out new.out result

-- What words do: those that are no line are refused, and nothing is done.
abbrev pub Does : {D E : Type 0} → (D → DiskState) → Bool → (E → DiskState) → Bool → ℕ → Result Line LineFault → Devices D E → Devices D E → Result (Unit {0}) Refusal → Type 0
Does state tells other others now (Ok line) old new result = DoesLine state tells other others now line old new result
Does state tells other others now (Err fault) old new result = (result ≡ Err (refusal_of fault)) × (new ≡ old)
