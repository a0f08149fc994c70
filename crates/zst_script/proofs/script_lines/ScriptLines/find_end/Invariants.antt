use Rattle.std.proofs.Common.{◌≤◌, ◌-◌, ◌^◌, length, take}
use Rattle.zst_script.specs.LineReading.{ReadsOn}
use Rattle.zst_script.specs.LineStages.{HasNoEnd, IsOpen}
use Rattle.zst_script.specs.ScriptLines.{held_of, read_of, stage_of}
use Rattle.zst_script.proofs.script_lines.ScriptLines.find_end.Given as goal

-- more was read, and no line ends in so much of what is held
abbrev pub invariant-reads : goal.invariant-reads
invariant-reads g l =
    let source = g.S.Source in
    record {
      reads : ReadsOn (source.state l.fn.input) (source.state l.input) l.fn.self l.self;
      live : IsOpen (stage_of l.self);
      within : l.searched ≤ length (held_of l.self);
      whole : HasNoEnd (take l.searched (held_of l.self));
    }

-- each read gives some bytes, up to the limit
abbrev pub decreases-reads : goal.decreases-reads
decreases-reads g l = 2 ^ 24 - read_of l.self
