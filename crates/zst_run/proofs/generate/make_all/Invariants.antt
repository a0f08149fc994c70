use Rattle.zst_run.specs.GeneratorTurns.{RunsOn}
use Rattle.zst_run.proofs.generate.make_all.Given as goal

-- the commands before this one were accepted
abbrev pub invariant-commands : goal.invariant-commands
invariant-commands g l = RunsOn l.now l.steps l.number l.fn.pool l.pool
