-- What of a snapshot that was sent and received can't be read.
use Rattle.std.specs.Prelude.{ℕ, ◌≡◌, ◌⊎◌, ◌↔◌, Bool, true, List, Some, Result, Err}
use Rattle.zst_outside.specs.Images.{DiskState}
use Rattle.zst_model.specs.declared.pools.command.Command.TheVariants.{Read}
use Rattle.zst_model.specs.declared.refusals.refusal.Refusal.{Refusal}
use Rattle.zst_model.specs.declared.refusals.refusal.Refusal.TheVariants as refusals
use Rattle.zst_model.specs.declared.refusals.subjects.Name.TheVariants.{Snapshot}
use Rattle.zst_model.specs.pools.Pool.{Pool}
use Rattle.zst_model.specs.sends.Headers.{Sent, choice_of}
use Rattle.zst_model.specs.states.State.{Object, Redacted, State}
use Rattle.zst_plan.specs.RecvPlan.{snapshot_name}
use Rattle.zst_plan.specs.declared.receive.RecvAsk.{RecvAsk}
use Rattle.zst_replication.specs.Replicas.{sent_state}
use Rattle.zst_run.specs.Commands.{Stepping}
use Rattle.zst_run.specs.Replication.{IsReplicated}

-- a block of a state is redacted
pub record IsRedactedAt (state : State) (k i : ℕ) : Type 0 where
  pub object : Object
  pub there : state k ≡ Some object
  pub block : object.blocks i ≡ Redacted

-- a block of an object of the snapshot that is sent isn't given away: the redaction bookmark lists it, or it was redacted there already
pub record IsWithheld (sent : Sent) (k i : ℕ) : Type 0 where
  pub object : Object
  pub there : sent.snapshot.objects.state k ≡ Some object
  pub why : ((choice_of sent).redact k i ≡ true) ⊎ (object.blocks i ≡ Redacted)

-- Exactly these blocks are redacted in what is received.
abbrev pub RedactedExactly : Type 0
RedactedExactly = (sent : Sent) (k i : ℕ) → IsRedactedAt (sent_state sent) k i ↔ IsWithheld sent k i

-- it can't be read (E22), unless the disk failed or no memory was left
abbrev pub IsUnreadable : ℕ → ℕ → Result (List (List ℕ)) Refusal → Type 0
IsUnreadable k i answer = (answer ≡ Err (refusals.Redacted k i)) ⊎ ((answer ≡ Err refusals.DiskFault) ⊎ (answer ≡ Err refusals.OutOfMemory))

-- So a run of `read` on the image that the receiver left, of a block of the snapshot that it received: each of these blocks is refused by E22, and no
-- other is.
abbrev pub RedactedIsUnreadable : (there' later : DiskState) → Type 0
RedactedIsUnreadable there' later =
    (tight : Bool) (receive : RecvAsk) (into : Pool) (sent : Sent) (done : IsReplicated tight receive into sent there') (now k i : ℕ) (answer : Result (List (List ℕ)) Refusal)
    → later.honest → Stepping now (Read (Snapshot (snapshot_name receive.target done.component)) k i) there' later answer
    → (IsWithheld sent k i → IsUnreadable k i answer) × (answer ≡ Err (refusals.Redacted k i) → IsWithheld sent k i)
