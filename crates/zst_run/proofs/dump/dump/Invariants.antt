use Rattle.std.proofs.Common.{◌≤◌}
use Rattle.zst_run.specs.DumpTurns.{Dumping, progress_of}
use Rattle.zst_run.proofs.dump.dump.Given as goal

-- the dump is under way, and each turn so far has moved it on
abbrev pub invariant-turns : goal.invariant-turns
invariant-turns g l =
    let source = g.S.Source in
    let sink = g.K.Sink in
    record {
      dumping : Dumping (source.state l.fn.input) (source.state l.input) (sink.state l.fn.out) (sink.state l.out) l.reader l.counts;
      turns : l.turned ≤ progress_of l.reader;
    }
