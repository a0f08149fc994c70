-- A call that was interrupted took no byte.
use Rattle.std.specs.Io.KnownBytes.{Keeps}
use Rattle.zst_file.proofs.input.read_once.Given as goal

abbrev pub invariant-loop : goal.invariant-loop
invariant-loop g l = Keeps (g.R.Read.remaining l.initial.reader) (g.R.Read.remaining l.reader)
