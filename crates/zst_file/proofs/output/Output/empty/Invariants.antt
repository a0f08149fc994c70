use Rattle.std.proofs.Common.{◌≡◌, ℕ, List, Option, length}
use Rattle.std.specs.Io.KnownBytes.{Keeps}
use Rattle.zst_file.specs.declared.output.Output.{Output}
use Rattle.zst_file.specs.Output.{output_state, held_by}
use Rattle.zst_file.proofs.output.Output.empty.Given as goal

-- no byte is lost or doubled between the buffer and the writer
pub record Stays {W : Type 0} (contents : W → Option (List ℕ)) (old new : Output W) : Type 0 where
  pub written : (output_state new).written ≡ (output_state old).written
  pub faults : (output_state new).faults ≡ (output_state old).faults
  pub writer : Keeps (held_by contents old) (held_by contents new)

abbrev pub invariant-loop-self : goal.invariant-loop-self
invariant-loop-self g l = Stays g.W.Write.contents l.initial.self l.self

abbrev pub decreases-loop-self : goal.decreases-loop-self
decreases-loop-self g l = length l.self.buffer.items
