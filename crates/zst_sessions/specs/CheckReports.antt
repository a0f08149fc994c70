-- What an event that checks a pool tells.
use Rattle.std.specs.Prelude.{◌≡◌, ℕ, true, false, List, Result, Ok, Err, IfOk}
use Rattle.zst_check.specs.Checks.{IsReportBy, IsSoundOn}
use Rattle.zst_check.specs.Damage.{IsDamagedPool}
use Rattle.zst_check.specs.ReportNames.{AreNamesIn}
use Rattle.zst_check.specs.declared.report.Report.{Report}
use Rattle.zst_check.specs.declared.report.Report.TheVariants.{Sound, Unsound}
use Rattle.zst_model.specs.declared.refusals.refusal.Refusal.{Refusal}
use Rattle.zst_model.specs.declared.refusals.refusal.Refusal.TheVariants as refusals
use Rattle.zst_model.specs.pools.Pool.{Pool as Plain}
use Rattle.zst_pool.specs.Calls.{IsAtRest}
use Rattle.zst_sessions.specs.Engines.{Kept}
use Rattle.zst_sessions.specs.declared.event_reply.EventReply.{EventReply}
use Rattle.zst_sessions.specs.declared.event_reply.EventReply.TheVariants.{Checked}

-- A check of a pool that is kept so tells a report of the one that is at rest there, by its image, unless it is refused. Whatever the image is, sound comes only where each block
-- that the latest body reaches was read with the right sums, with their count; what fails has names of the rows; and E25 tells a block that was looked at.
pub record TellsCheck (kept : Kept) (running : Plain) (result : Result EventReply Refusal) : Type 0 where
  pub told : kept.failed ≡ false → IsAtRest true kept.disk kept.state running
      → IfOk result (λ reply. (report : Report) × (reply ≡ Checked report) × IsReportBy kept.disk.seen kept.state.body.uber kept.state.dir running report)
  pub sound : (blocks : ℕ) → result ≡ Ok (Checked (Sound blocks)) → IsSoundOn kept.disk.seen kept.state.body.uber kept.state.dir blocks
  pub named : (earlier later : List ℕ) (object block : ℕ) → result ≡ Ok (Checked (Unsound earlier later object block)) → AreNamesIn kept.state.dir earlier later
  pub damaged : (sector : ℕ) (stated found : List ℕ) → result ≡ Err (refusals.Damaged sector stated found)
      → IsDamagedPool kept.disk.seen kept.disk.size kept.state.body.uber kept.state.dir sector stated found
