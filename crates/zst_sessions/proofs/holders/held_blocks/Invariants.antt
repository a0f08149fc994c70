use Rattle.std.proofs.Common.{◌≡◌, take}
use Rattle.zst_sessions.specs.EngineSteps.{held_blocks}
use Rattle.zst_sessions.proofs.holders.held_blocks.Given as goal

abbrev pub invariant-loop-one : goal.invariant-loop-one
invariant-loop-one l = l.held.items ≡ held_blocks l.side (take l.one-index l.sends)
