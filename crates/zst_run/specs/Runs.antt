-- What a run does: the status, and what is noted.
use Rattle.std.specs.Prelude.{ℕ, ◌≡◌, ◌⊎◌, Bool, ◌==◌, if◌then◌else◌, IfOk, List, ◌++◌, Result, Ok, Err, codes, decimal}
use Rattle.zst_outside.specs.Causes.{Rose}
use Rattle.zst_outside.specs.Images.{DiskState}
use Rattle.zst_outside.specs.States.{SinkState, HandedOn}
use Rattle.zst_outside.specs.Printing.{Wrote, Printed}
use Rattle.zst_model.specs.refusals.Refusal.{number_of, text_of}
use Rattle.zst_model.specs.declared.refusals.plan_fault.PlanFault.{PlanFault}
use Rattle.zst_model.specs.declared.refusals.plan_fault.PlanFault.TheVariants as plans
use Rattle.zst_model.specs.declared.refusals.refusal.Refusal.{Refusal}
use Rattle.zst_model.specs.declared.refusals.refusal.Refusal.TheVariants as refusals
use Rattle.zst_line.specs.Line.{LineAnswers}
use Rattle.zst_line.specs.declared.line.Line.{Line}
use Rattle.zst_line.specs.declared.line.Line.TheVariants.{Check}
use Rattle.zst_line.specs.declared.line.LineFault.{LineFault}
use Rattle.zst_run.specs.Checks.{as_done}
use Rattle.zst_run.specs.Devices.{Devices}
use Rattle.zst_run.specs.LineEffects.{Does, DoesLine}

-- the status that a plan's fault ends the program with
abbrev pub plan_status : PlanFault → ℕ
plan_status (plans.BadName place) = 2
plan_status (plans.Limit which number) = 9
plan_status fault = 3

-- the status that a refusal ends the program with: that of a command's record, which is 0, is another than that of a stream's
abbrev pub status_of : Refusal → ℕ
status_of (refusals.Usage place) = 2
status_of (refusals.Plan fault) = plan_status fault
status_of (refusals.BadToken place) = 2
status_of (refusals.Stream fault) = 4
status_of (refusals.CannotApply place fault) = if place == 0 then 3 else 4
status_of (refusals.Redacted object block) = 3
status_of (refusals.Limit which number) = 9
status_of (refusals.Full need largest) = 9
status_of (refusals.Damaged sector stated found) = 8
status_of refusals.NoPool = 8
status_of (refusals.BadVersion number) = 8
status_of refusals.DiskFault = 7
status_of refusals.SourceFault = 5
status_of refusals.SinkFault = 6
status_of refusals.Failed = 7
status_of refusals.OutOfMemory = 10

-- the line that notes a refusal
unfoldable pub note_of : Refusal → List ℕ
note_of refusal = codes "zst: E" ++ (decimal (number_of refusal) ++ (codes " " ++ (text_of refusal ++ codes "\n")))

-- a front of a text was noted, and all of it, handed on and without a fault, unless a fault was counted
pub record Noted (note note' : SinkState) (text : List ℕ) : Type 0 where
  pub front : (rest : List ℕ) × Wrote note note' text rest
  pub whole : (Printed note note' text × HandedOn note') ⊎ Rose note.faults note'.faults

-- The answer is told by the status: that with which what was done ends where nothing was refused; and a refusal is noted.
abbrev pub Told : SinkState → SinkState → (status ends : ℕ) → Result (Unit {0}) Refusal → Type 0
Told note note' status ends (Ok done) = (status ≡ ends) × (note' ≡ note)
Told note note' status ends (Err refusal) = (status ≡ status_of refusal) × Noted note note' (note_of refusal)

-- the status with which a line ends where nothing is refused: that of the report of a check, and 0 of all others
abbrev pub line_ends : {D E : Type 0} (state : D → DiskState) (tells : Bool) (other : E → DiskState) (others : Bool) (now : ℕ) (line : Line) (old new : Devices D E) (result : Result (Unit {0}) Refusal)
    → DoesLine state tells other others now line old new result → ℕ
line_ends state tells other others now (Check image) old new result does = does.0.ends
line_ends state tells other others now line old new result does = 0

-- and so of what words do
abbrev pub ends_by : {D E : Type 0} (state : D → DiskState) (tells : Bool) (other : E → DiskState) (others : Bool) (now : ℕ) (line : Result Line LineFault) (old new : Devices D E) (result : Result (Unit {0}) Refusal)
    → Does state tells other others now line old new result → ℕ
ends_by state tells other others now (Ok line) old new result does = line_ends state tells other others now line old new result does
ends_by state tells other others now (Err fault) old new result does = 0

-- What words do: the line that they are, or why they are none, and what it does.
abbrev pub DoesWords : {D E : Type 0} → (D → DiskState) → Bool → (E → DiskState) → Bool → ℕ → List (List ℕ) → Devices D E → Devices D E → Result (Unit {0}) Refusal → Type 0
DoesWords state tells other others now words old new result = (line : Result Line LineFault) × LineAnswers words line × Does state tells other others now line old new result

-- What words do that answer the status with which that ends.
abbrev pub EndsWords : {D E : Type 0} → (D → DiskState) → Bool → (E → DiskState) → Bool → ℕ → List (List ℕ) → Devices D E → Devices D E → Result ℕ Refusal → Type 0
EndsWords state tells other others now words old new answer =
    (does : DoesWords state tells other others now words old new (as_done answer)) × IfOk answer (λ status. status ≡ ends_by state tells other others now does.0 old new (as_done answer) does.2)

-- A run of the program on these words, at this time, over two disks of which it is said what each is at a moment, and whether it tells its images:
-- the line that they are, or why they are none, then what it does, and what is told of that.
pub record Runs {D E : Type 0} (state : D → DiskState) (tells : Bool) (other : E → DiskState) (others : Bool) (now : ℕ) (words : List (List ℕ)) (old new : Devices D E) (note note' : SinkState) (status : ℕ) : Type 0 where
  pub line : Result Line LineFault
  pub says : LineAnswers words line
  pub result : Result (Unit {0}) Refusal
  pub does : Does state tells other others now line old new result
  pub told : Told note note' status (ends_by state tells other others now line old new result does) result
