-- What the line `token` tells of a pool.
use Rattle.std.specs.Prelude.{ℕ, ◌≡◌, ◌⊎◌, ◌≤◌, IfErr, List, [], ◌∷◌, None, Result, Err, false}
use Rattle.std.specs.Result.{result_map_both}
use Rattle.zst_outside.specs.Images.{DiskState, OnlyReads}
use Rattle.zst_outside.specs.States.{SinkState}
use Rattle.zst_uber.specs.Slots.{latest}
use Rattle.zst_image.specs.Bodies.{Body}
use Rattle.zst_model.specs.declared.refusals.plan_fault.PlanFault.{PlanFault}
use Rattle.zst_model.specs.declared.refusals.plan_fault.PlanFault.TheVariants.{NoPartial}
use Rattle.zst_model.specs.declared.refusals.refusal.Refusal.{Refusal}
use Rattle.zst_model.specs.declared.refusals.refusal.Refusal.TheVariants as refusals
use Rattle.zst_model.specs.pools.Pool.{Pool}
use Rattle.zst_model.specs.refusals.Refusal.{refusal_of}
use Rattle.zst_dir.specs.Rows.{Rows}
use Rattle.zst_image.specs.Faults.{open_refusal}
use Rattle.zst_image.specs.OpenAnswers.{TellsBody, TellsDir}
use Rattle.zst_image.specs.Reads.{IsNamedBy, Reads, kept_rows}
use Rattle.zst_image.specs.declared.open_fault.OpenFault.{OpenFault}
use Rattle.zst_recv.specs.Tokens.{token_told}
use Rattle.zst_token.specs.Spelling.{token_text}
use Rattle.zst_token.specs.declared.token.Token.{Token}
use Rattle.zst_run.specs.Commands.{HasVersion, IsPoolRefusal, Opens}
use Rattle.zst_run.specs.Replies.{Replied}

-- the answer is what the pool tells, its fault as a refusal, unless the disk failed or no memory was left
abbrev pub AnswersBy : Result Token PlanFault → Result Token Refusal → Type 0
AnswersBy told (Err refusals.DiskFault) = Unit {0}
AnswersBy told (Err refusals.OutOfMemory) = Unit {0}
AnswersBy told answer = answer ≡ result_map_both (λ token. token) refusal_of told

-- An answer of a pool that was opened by this body and these rows, whether or not the image reads as a pool: each pool that they
-- name tells this, whatever its object sets hold.
pub record TokenRan (dataset : List ℕ) (here : DiskState) (answer : Result Token Refusal) (body : Body) (rows : Rows) : Type 0 where
  pub opens : Opens here body rows
  pub told : (pool : Pool) → IsNamedBy body (kept_rows rows) pool → answer ≡ result_map_both (λ token. token) refusal_of (token_told dataset pool)

-- What an answer says of any image. E26 comes where there is no latest body, E27 where it has another version, E25 where it,
-- its free extents or its directory isn't of the layout. A token or E14 comes where all are.
abbrev pub TokenOpened : List ℕ → DiskState → Result Token Refusal → Type 0
TokenOpened dataset here (Err refusals.NoPool) = latest here.seen ≡ None
TokenOpened dataset here (Err (refusals.BadVersion number)) = HasVersion here number
TokenOpened dataset here (Err (refusals.Damaged sector stated found)) = TellsBody here sector stated found ⊎ TellsDir here sector stated found
TokenOpened dataset here (Err refusals.DiskFault) = Unit {0}
TokenOpened dataset here (Err refusals.OutOfMemory) = Unit {0}
TokenOpened dataset here answer = (body : Body) × (rows : Rows) × TokenRan dataset here answer body rows

-- a refusal of opening the pool, or E14
abbrev pub OfToken : List ℕ → Refusal → Type 0
OfToken dataset refusal = ((fault : OpenFault) × (refusal ≡ open_refusal fault)) ⊎ (refusal ≡ refusals.Plan (NoPartial dataset))

-- The token that the pool of an image tells of a dataset. The image is only read.
pub record TellsToken (dataset : List ℕ) (here here' : DiskState) (answer : Result Token Refusal) : Type 0 where
  pub reads : OnlyReads here here'
  pub answers : (pool : Pool) → here'.honest → Reads false pool here.seen → AnswersBy (token_told dataset pool) answer
  pub opened : here'.honest → TokenOpened dataset here answer
  pub refused : IfErr answer (IsPoolRefusal (OfToken dataset) here here')
  pub later : here.faults ≤ here'.faults

-- and its text is written as the one line of the reply
pub record Tokens (dataset : List ℕ) (here here' : DiskState) (out out' : SinkState) (result : Result (Unit {0}) Refusal) : Type 0 where
  pub answer : Result Token Refusal
  pub tells : TellsToken dataset here here' answer
  pub replied : Replied out out' (result_map_both (λ token. token_text token ∷ []) (λ refusal. refusal) answer) result
