use Rattle.std.proofs.Common.{◌≡◌, ◌≤◌, ◌-◌, length, take}
use Rattle.zst_model.specs.states.State.{AreBytes}
use Rattle.zst_outside.specs.States.{Gave}
use Rattle.zst_run.proofs.receive.read_piece.Given as goal

-- what was given so far stands at the front of the room, and no fault was counted
abbrev pub invariant-reads : goal.invariant-reads
invariant-reads g l =
    let source = g.S.Source in
    record {
      within : l.count ≤ length l.room;
      gave : Gave (source.state l.fn.input) (source.state l.input) (take l.count l.room);
      none : (source.state l.input).faults ≡ (source.state l.fn.input).faults;
      bytes : AreBytes l.room;
      size : length l.room ≡ length l.fn.room;
    }

-- each read gives some bytes
abbrev pub decreases-reads : goal.decreases-reads
decreases-reads g l = length l.initial.room - l.count
