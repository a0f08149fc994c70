-- What the line `check` tells of a pool.
use Rattle.std.specs.Prelude.{ℕ, ◌≡◌, ◌≢◌, ◌≤◌, IfErr, IfOk, List, [], ◌∷◌, false, Result, Ok, Err}
use Rattle.std.specs.Result.{result_map_both}
use Rattle.zst_outside.specs.Images.{DiskState, OnlyReads}
use Rattle.zst_outside.specs.States.{SinkState}
use Rattle.zst_check.specs.Checks.{IsReportBy, IsSoundOn, report_line}
use Rattle.zst_check.specs.Damage.{IsDamagedPool}
use Rattle.zst_check.specs.ReportNames.{AreNamesIn}
use Rattle.zst_check.specs.declared.report.Report.{Report}
use Rattle.zst_check.specs.declared.report.Report.TheVariants.{Sound, Unsound}
use Rattle.zst_dir.specs.Rows.{Rows}
use Rattle.zst_image.specs.Bodies.{Body}
use Rattle.zst_image.specs.Reads.{ReadsAs, kept_rows}
use Rattle.zst_model.specs.declared.refusals.refusal.Refusal.{Refusal}
use Rattle.zst_model.specs.declared.refusals.refusal.Refusal.TheVariants as refusals
use Rattle.zst_model.specs.pools.Pool.{Pool}
use Rattle.zst_run.specs.Commands.{IsPoolRefusal, OfStepping, Opens, SaysOfOpening}
use Rattle.zst_run.specs.Replies.{Replied}

-- the status that the program ends with behind a report
abbrev pub status_of_report : Report → ℕ
status_of_report (Sound blocks) = 0
status_of_report (Unsound earlier later object block) = 8

-- the answer is a report of the pool of this body and these rows, by the image and with the count of blocks that they reach, unless the disk failed or no memory was left
abbrev pub AnswersReport : DiskState → Body → Rows → Pool → Result Report Refusal → Type 0
AnswersReport here body rows pool (Ok report) = IsReportBy here.seen body.uber (kept_rows rows) pool report
AnswersReport here body rows pool (Err refusals.DiskFault) = Unit {0}
AnswersReport here body rows pool (Err refusals.OutOfMemory) = Unit {0}
AnswersReport here body rows pool (Err refusal) = ⊥

-- a refusal of opening the pool or of what is read of it, which needs no room
abbrev pub OfCheck : Refusal → Type 0
OfCheck refusal = OfStepping refusal × ((need largest : ℕ) → refusal ≢ refusals.Full need largest)

-- A check of the pool that was opened by this body and these rows, whether or not the image reads as a pool: sound comes only where each block that they reach was read with
-- the right sums, with their count; what fails is told with names of the rows; and E25 tells a block that was looked at.
pub record CheckRan (here : DiskState) (answer : Result Report Refusal) (body : Body) (rows : Rows) : Type 0 where
  pub opens : Opens here body rows
  pub sound : (blocks : ℕ) → answer ≡ Ok (Sound blocks) → IsSoundOn here.seen body.uber (kept_rows rows) blocks
  pub named : (earlier later : List ℕ) (object block : ℕ) → answer ≡ Ok (Unsound earlier later object block) → AreNamesIn (kept_rows rows) earlier later
  pub damaged : (sector : ℕ) (stated found : List ℕ) → answer ≡ Err (refusals.Damaged sector stated found)
      → IsDamagedPool here.seen here.size body.uber (kept_rows rows) sector stated found

-- The report on the pool of an image, whatever the image is. The image is only read. E26 comes where there is no latest body, E27 where it has another version, E25 where
-- it, its free extents or its directory isn't of the layout; any other answer, and E25 too, is one of a check of the pool that was opened, but for E28 and E32 of opening it.
pub record TellsReportOn (here here' : DiskState) (answer : Result Report Refusal) : Type 0 where
  pub reads : OnlyReads here here'
  pub answers : (body : Body) (rows : Rows) (pool : Pool) → here'.honest → ReadsAs false body rows pool here.seen → AnswersReport here body rows pool answer
  pub opened : here'.honest → SaysOfOpening (OnlyReads here here') here (CheckRan here answer) answer
  pub refused : IfErr answer (IsPoolRefusal OfCheck here here')
  pub later : here.faults ≤ here'.faults

-- Its line is written as the one line of the reply; and the status with which the program ends where nothing is refused, which is the report's.
pub record Checks (here here' : DiskState) (out out' : SinkState) (result : Result (Unit {0}) Refusal) : Type 0 where
  pub answer : Result Report Refusal
  pub tells : TellsReportOn here here' answer
  pub replied : Replied out out' (result_map_both (λ report. report_line report ∷ []) (λ refusal. refusal) answer) result
  pub ends : ℕ
  pub ends_is : IfOk answer (λ report. ends ≡ status_of_report report)

-- whether it was done, of an answer with the status to end with
abbrev pub as_done : Result ℕ Refusal → Result (Unit {0}) Refusal
as_done answer = result_map_both (λ status. tt) (λ refusal. refusal) answer

-- a check that answers the status with which it ends
abbrev pub EndsCheck : (here here' : DiskState) (out out' : SinkState) → Result ℕ Refusal → Type 0
EndsCheck here here' out out' answer = (checks : Checks here here' out out' (as_done answer)) × IfOk answer (λ status. status ≡ checks.ends)
