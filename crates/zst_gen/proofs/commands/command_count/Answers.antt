use Rattle.std.proofs.Common.{sym}
use Rattle.zst_gen.proofs.Counted.{generated_long}
use Rattle.zst_gen.proofs.commands.command_count.Goals as goal

pub returns : goal.returns
returns c = sym (generated_long c.args.steps)
