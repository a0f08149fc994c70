-- The line of a report, part by part.
use Rattle.std.specs.Prelude.{codes, decimal, Result}
use Rattle.std.proofs.Common.{List, ℕ, ◌++◌}
use Rattle.zst_outside.specs.Printing.{Prints}
use Rattle.zst_outside.specs.States.{SinkState}
use Rattle.zst_check.specs.Checks.{report_line}
use Rattle.zst_check.specs.declared.report.Report.TheVariants.{Sound, Unsound}

-- what is written of a place, call by call
abbrev pub parts_of : (earlier later object block : List ℕ) → List ℕ
parts_of earlier later object block = codes "unsound " ++ (earlier ++ (codes " " ++ (later ++ ((codes " object " ++ object) ++ (codes " block " ++ block)))))

pub as_place : {T E : Type 0} (out out' : SinkState) (earlier later : List ℕ) (object block : ℕ) (result : Result T E)
    → Prints out out' (parts_of earlier later (decimal object) (decimal block)) result → Prints out out' (report_line (Unsound earlier later object block)) result
as_place out out' earlier later object block result prints = prints

-- and of a count
pub as_count : {T E : Type 0} (out out' : SinkState) (blocks : ℕ) (end : List ℕ) (result : Result T E)
    → Prints out out' ((codes "sound " ++ decimal blocks) ++ end) result → Prints out out' (report_line (Sound blocks) ++ end) result
as_count out out' blocks end result prints = prints
