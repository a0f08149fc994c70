use Rattle.zst_outside.specs.Printing.{Prints-then, Prints-longer}
use Rattle.zst_run.proofs.ReportLines.{as_count}
use Rattle.zst_run.proofs.reports.write_report.Goals as goal
use Rattle.zst_run.proofs.reports.write_report.Goals.{in-Sound+in_ok-write_number-in-Sound, in-Unsound+in_ok-write_place-in-Unsound}

pub returns-in_err-write_number-in-Sound : goal.returns-in_err-write_number-in-Sound
returns-in_err-write_number-in-Sound g c = rw c.in-Sound.is (as_count _ _ _ _ _ (Prints-longer _ _ _ _ _ _ c.from_residual.ensures.0 c.in_err-write_number-in-Sound.ensures))

pub returns-in_err-write_place-in-Unsound : goal.returns-in_err-write_place-in-Unsound
returns-in_err-write_place-in-Unsound g c = rw c.in-Unsound.is (Prints-longer _ _ _ _ _ _ c.from_residual-in_err-write_place-in-Unsound.ensures.0 c.in_err-write_place-in-Unsound.ensures)

pub returns : goal.returns
returns g c = elim c.match-report.branch [
  | in-Sound+in_ok-write_number-in-Sound w ↦
      rw w.in-Sound.is (as_count _ _ _ _ _ (Prints-then _ _ _ _ _ _ w.in_ok-write_number-in-Sound.ensures.whole (rw w.out-is at c.write_all.ensures)))
  | in-Unsound+in_ok-write_place-in-Unsound w ↦
      rw w.in-Unsound.is (Prints-then _ _ _ _ _ _ w.in_ok-write_place-in-Unsound.ensures.whole (rw w.out-is at c.write_all.ensures))
]
