use Rattle.zst_gen.proofs.InRange.{made_fits}
use Rattle.zst_gen.proofs.commands.command.Goals as goal

pub returns-clause-in_range : goal.returns-clause-in_range
returns-clause-in_range c = made_fits c.args.steps c.args.number c.requires.0 c.requires.1 c.behind_first.result c.behind_first.ensures
