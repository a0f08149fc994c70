use Rattle.std.proofs.Common.{arith}
use Rattle.zst_script.proofs.ReadingSteps.{longest_is}
use Rattle.zst_script.proofs.script_lines.ScriptLines.read_piece.Goals as goal

pub read_from-requires-clause-room : goal.read_from-requires-clause-room
read_from-requires-clause-room g c = let short = c.requires.short in omega (arith, short, longest_is)
