use Rattle.std.specs.Prelude.{Ok}
use Rattle.std.proofs.Common.{refl}
use Rattle.zst_run.proofs.ReplyLines.{line_written}
use Rattle.zst_run.specs.Checks.{status_of_report}
use Rattle.zst_run.proofs.checks.check_image.Goals as goal

pub returns-in-Ok : goal.returns-in-Ok
returns-in-Ok g c = (
  record {
    answer = Ok c.in_ok-report.report;
    tells = c.in_ok-report.ensures;
    replied = line_written _ _ _ c.in-Ok.ensures.prints c.in-Ok.ensures.handed_on;
    ends = status_of_report c.in_ok-report.report;
    ends_is = refl;
  },
  c.status_of_report.ensures,
)
