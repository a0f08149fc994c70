use Rattle.std.proofs.Common.{◌≡◌, ◌+◌, ◌*◌, ◌-◌, ◌^◌, ◌≤◌, true, ℕ, List, min}
use Rattle.std.specs.Prelude.{Contains, None, Some, IfSome}
use Rattle.zst_block.specs.IoCalls.{Looks}
use Rattle.zst_block.specs.IoStates.{IsHonest, blocks_of, disk_of, io_of}
use Rattle.zst_model.specs.declared.sends.header.Header.{Header}
use Rattle.zst_model.specs.declared.states.item.Item.{Item}
use Rattle.zst_model.specs.sends.View.{view_of}
use Rattle.zst_model.specs.states.DatedState.{DatedState}
use Rattle.zst_send.specs.Subjects.{HoldsFor, IsTightFor, choice_for}
use Rattle.zst_send.specs.Costs.{cells_due, cells_next, ended}
use Rattle.zst_send.specs.DueItems.{DueFits, is_run, size_of_run}
use Rattle.zst_send.specs.KnownPointers.{DueStands, IsAmong}
use Rattle.zst_send.specs.WalkPositions.{ComesFirst, WalkFits}
use Rattle.zst_send.proofs.ItemRuns.{RunComes}
use Rattle.zst_send.proofs.walk.Walk.lengthened.Given as goal

abbrev pub invariant-loop-both : goal.invariant-loop-both
invariant-loop-both g l = record {
  comes : (header : Header) (snap : DatedState) (left : List Item) → IsHonest l.io → HoldsFor (blocks_of l.fn.io) l.subject snap
      → ComesFirst (blocks_of l.fn.io) snap (view_of header snap (choice_for l.subject)) left l.fn.self.position (Some l.fn.run)
      → RunComes (blocks_of l.io) snap (view_of header snap (choice_for l.subject)) left l.self.position l.run l.next;
  paid : (header : Header) (snap : DatedState) (left : List Item) → IsHonest l.io → IsTightFor (blocks_of l.fn.io) l.subject snap
      → ComesFirst (blocks_of l.fn.io) snap (view_of header snap (choice_for l.subject)) left l.fn.self.position (Some l.fn.run)
      → (disk_of l.io).calls + 64 * (cells_due snap l.fn.run + ended l.fn.self.position) ≤ (disk_of l.fn.io).calls + 64 * (cells_due snap l.run + (min 1 (cells_next snap l.next) + ended l.self.position));
  stands : (images : List (List ℕ)) → Contains images (disk_of l.fn.io).seen → IsHonest l.io → IfSome l.next (DueStands (IsAmong images) l.subject.set);
  walk : WalkFits l.self;
  run : is_run l.run ≡ true;
  run_fits : DueFits l.run;
  next : IfSome l.next DueFits;
  looks : Looks (io_of l.fn.io) (io_of l.io) None;
}

abbrev pub decreases-loop-both : goal.decreases-loop-both
decreases-loop-both g l = 2 ^ 61 - size_of_run l.run
