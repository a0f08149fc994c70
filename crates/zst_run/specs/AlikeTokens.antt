-- What tokens two receives of the same bytes leave.
use Rattle.std.specs.Prelude.{◌≡◌, Bool, List, ℕ, Err}
use Rattle.zst_outside.specs.Images.{DiskState}
use Rattle.zst_outside.specs.States.{SourceState, Gave}
use Rattle.zst_image.specs.Bodies.{Body}
use Rattle.zst_model.specs.declared.refusals.refusal.Refusal.{Refusal}
use Rattle.zst_model.specs.declared.refusals.refusal.Refusal.TheVariants as refusals
use Rattle.zst_model.specs.declared.refusals.stream_fault.StreamFault.TheVariants.{Truncated}
use Rattle.zst_model.specs.pools.KeptPool.{kept_of}
use Rattle.zst_model.specs.pools.Pool.{Pool, partial_of}
use Rattle.zst_dir.specs.Rows.{Rows}
use Rattle.zst_image.specs.Reads.{ReadsAs}
use Rattle.zst_plan.specs.declared.receive.RecvAsk.{RecvAsk}
use Rattle.zst_recv.specs.Tokens.{token_told}
use Rattle.zst_replication.specs.AlikeReceives.{BeginAlike}
use Rattle.zst_run.specs.Receives.{IsTightOrNew, Keeps, Receiving}

-- the input gave no more before END: it ended (E20), or failed (E29)
abbrev pub IsCut : Refusal → Type 0
IsCut (refusals.Stream (Truncated at)) = Unit {0}
IsCut refusals.SourceFault = Unit {0}
IsCut refusal = ⊥

-- a run of `receive` read these bytes of its input, which gave no more, into an image that is read as this pool, by tight sets or without the target
pub record WasCut (tight : Bool) (ask : RecvAsk) (into : Pool) (text : List ℕ) (there there' : DiskState) : Type 0 where
  pub body : Body
  pub rows : Rows
  pub honest : there'.honest
  pub reads : ReadsAs tight body rows into there.seen
  pub may : IsTightOrNew tight ask into
  pub input : SourceState
  pub input_after : SourceState
  pub gave : Gave input input_after text
  pub refusal : Refusal
  pub cut : IsCut refusal
  pub receives : Receiving ask there there' input input_after (Err refusal)

-- Two such runs that were asked alike and read the same bytes leave images of pools that tell the same token of the target, or none, as long as neither target
-- had a partial state before, or both had one of one header and at one point: whatever else the pools hold, and wherever it stands.
abbrev pub CutsTellAlike : (there there' far far' : DiskState) → Type 0
CutsTellAlike there there' far far' =
    (tight other : Bool) (ask : RecvAsk) (into beside : Pool) (text : List ℕ)
    → WasCut tight ask into text there there' → WasCut other ask beside text far far' → BeginAlike (partial_of ask.target into) (partial_of ask.target beside)
    → (now : Pool) × (later : Pool) × Keeps tight there' now × Keeps other far' later × (token_told ask.target (kept_of now) ≡ token_told ask.target (kept_of later))
