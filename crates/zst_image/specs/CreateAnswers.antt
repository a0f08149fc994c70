-- What making a pool answers, and where.
use Rattle.std.specs.Prelude.{◌≡◌, ◌≢◌, ◌*◌, ◌<◌, ℕ, List, [], Option, None, Result, Ok, Err}
use Rattle.zst_outside.specs.Images.{DiskState, OnlyReads}
use Rattle.zst_uber.specs.Slots.{latest}
use Rattle.zst_image.specs.declared.create_fault.CreateFault.{CreateFault}
use Rattle.zst_image.specs.declared.create_fault.CreateFault.TheVariants.{Exists, TooSmall, DiskFault, OutOfMemory}
use Rattle.zst_image.specs.declared.commit_fault.CommitFault.{CommitFault}
use Rattle.zst_image.specs.declared.commit_fault.CommitFault.TheVariants as commits
use Rattle.zst_image.specs.declared.pool_state.PoolState.{PoolState}

-- each answer of a look for a pool where none may be
abbrev pub NoneAnswers : Option (List ℕ) → Result (Unit {0}) CreateFault → Type 0
NoneAnswers body (Ok done) = body ≡ None
NoneAnswers body (Err Exists) = body ≢ None
NoneAnswers body (Err (TooSmall sectors)) = ⊥
NoneAnswers body (Err DiskFault) = Unit {0}
NoneAnswers body (Err OutOfMemory) = ⊥

-- each answer of making a pool, where it comes: memory is wanted only after the checks
abbrev pub CreateAnswers : ℕ → Option (List ℕ) → ℕ → Result PoolState CreateFault → Type 0
CreateAnswers size body sectors (Ok kept) = (body ≡ None) × (¬ (size < 512 * sectors))
CreateAnswers size body sectors (Err Exists) = body ≢ None
CreateAnswers size body sectors (Err (TooSmall asked)) = (body ≡ None) × (size < 512 * sectors) × (asked ≡ sectors)
CreateAnswers size body sectors (Err DiskFault) = Unit {0}
CreateAnswers size body sectors (Err OutOfMemory) = (body ≡ None) × (¬ (size < 512 * sectors))

-- what is kept of a pool that was just made: it has so many sectors, and 24 of them are taken, the first 8 and the one leaf of a directory without rows; below its end none is free
pub record IsNew (sectors : ℕ) (kept : PoolState) : Type 0 where
  pub sectors_are : kept.body.uber.sectors ≡ sectors
  pub end : kept.body.uber.end ≡ 24
  pub free : kept.body.free ≡ []

-- what stands after making a pool was refused: after its checks all is as it was; without memory there still is no pool
abbrev pub RefusedLeaves : DiskState → DiskState → CreateFault → Type 0
RefusedLeaves old new Exists = OnlyReads old new
RefusedLeaves old new (TooSmall sectors) = OnlyReads old new
RefusedLeaves old new DiskFault = Unit {0}
RefusedLeaves old new OutOfMemory = latest new.seen ≡ latest old.seen

-- what a first commit answered, as the answer of making a pool: it always has room
abbrev pub IsMade : Result PoolState CommitFault → Result PoolState CreateFault → Type 0
IsMade (Ok kept) answer = answer ≡ Ok kept
IsMade (Err (commits.Full need largest)) answer = ⊥
IsMade (Err commits.DiskFault) answer = answer ≡ Err DiskFault
IsMade (Err commits.OutOfMemory) answer = answer ≡ Err OutOfMemory
