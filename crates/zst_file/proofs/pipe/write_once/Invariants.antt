-- A call that was interrupted took no byte.
use Rattle.std.specs.Io.KnownBytes.{Keeps}
use Rattle.zst_file.proofs.pipe.write_once.Given as goal

abbrev pub invariant-loop : goal.invariant-loop
invariant-loop g l = Keeps (g.W.Write.contents l.initial.writer) (g.W.Write.contents l.writer)
