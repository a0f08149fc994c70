use Rattle.std.proofs.Common.{sym}
use Rattle.zst_sessions.proofs.HeldThings.{others_free}
use Rattle.zst_sessions.specs.EngineSteps.{coded_held}
use Rattle.zst_sessions.proofs.holders.holder_for.Goals as goal

pub returns-in_default : goal.returns-in_default
returns-in_default c = record {
  busy = λ running are.
      sym (others_free (coded_held c.args.side c.args.sends.now c.args.receives.now) running c.args.command.now c.in_default.not-Rollback c.in_default.not-Destroy c.in_default.not-Abort);
  claimed = λ none k d lt here both. c.in_default.not-Abort _ both.0;
}
