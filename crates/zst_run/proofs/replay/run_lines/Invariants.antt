use Rattle.std.proofs.Common.{◌-◌, ◌+◌}
use Rattle.zst_script.specs.ScriptLines.{number_of}
use Rattle.zst_script.specs.Scripts.{script_limit}
use Rattle.zst_run.specs.ReplayTurns.{HasRun}
use Rattle.zst_run.proofs.replay.run_lines.Given as goal

-- the lines so far were read and run
abbrev pub invariant-lines : goal.invariant-lines
invariant-lines g l =
    let source = g.S.Source in
    let sink = g.K.Sink in
    HasRun l.fn.engine l.engine l.lines (source.state l.fn.input) (source.state l.input) (sink.state l.fn.out) (sink.state l.out)

-- a script has no more lines than bytes, and one
abbrev pub decreases-lines : goal.decreases-lines
decreases-lines g l = script_limit + 2 - number_of l.lines
