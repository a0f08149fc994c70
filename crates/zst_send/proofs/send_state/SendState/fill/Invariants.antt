use Rattle.std.proofs.Common.{◌≡◌, ◌-◌, ◌≤◌, List, ℕ, length}
use Rattle.std.specs.Prelude.{Contains, None}
use Rattle.zst_block.specs.IoCalls.{Looks}
use Rattle.zst_block.specs.IoStates.{IsHonest, blocks_of, disk_of, io_of}
use Rattle.zst_model.specs.declared.sends.header.Header.{Header}
use Rattle.zst_model.specs.declared.sends.header.Point.{Point}
use Rattle.zst_model.specs.sends.View.{view_of}
use Rattle.zst_model.specs.states.DatedState.{DatedState}
use Rattle.zst_model.specs.declared.states.item.Item.{Item}
use Rattle.zst_send.specs.Records.{HasPut}
use Rattle.zst_send.proofs.ItemCosts.{Paid}
use Rattle.zst_send.specs.Subjects.{HoldsFor, IsTightFor, choice_for}
use Rattle.zst_send.specs.KnownPointers.{IsAmong, IsOfSet}
use Rattle.zst_send.specs.SendState.{StandFits, StandsAt}
use Rattle.zst_send.specs.PendingRecords.{IsLoaded, BufferFits}
use Rattle.zst_send.proofs.GivenRecords.{HasGiven}
use Rattle.zst_send.specs.Takes.{AreThere}
use Rattle.zst_send.proofs.send_state.SendState.fill.Given as goal

abbrev pub invariant-loop-count : goal.invariant-loop-count
invariant-loop-count g l = record {
  stands : (header : Header) (snap : DatedState) (left : List ℕ) → IsHonest l.io → HoldsFor (blocks_of l.fn.io) l.subject snap
      → IsLoaded (blocks_of l.fn.io) l.fn.buffer → StandsAt (blocks_of l.fn.io) snap (view_of header snap (choice_for l.subject)) l.subject.to l.fn.self left
      → HasGiven (blocks_of l.io) snap (view_of header snap (choice_for l.subject)) l.subject.to left l.into l.count l.self l.buffer;
  paid : (header : Header) (snap : DatedState) (point : Point) (front : ℕ) (put : List Item) (place : ℕ) → IsHonest l.io → HoldsFor (blocks_of l.fn.io) l.subject snap
      → HasPut (blocks_of l.fn.io) snap (view_of header snap (choice_for l.subject)) point front put place l.fn.self
      → Paid (blocks_of l.io) snap (view_of header snap (choice_for l.subject)) (IsTightFor (blocks_of l.fn.io) l.subject snap) point front put place l.count
      l.fn.self l.self l.buffer.holds (disk_of l.fn.io).calls (disk_of l.io).calls;
  knows : (images : List (List ℕ)) → Contains images (disk_of l.fn.io).seen → IsHonest l.io → IsOfSet (IsAmong images) l.subject.set l.fn.self → IsOfSet (IsAmong images) l.subject.set l.self;
  there : AreThere l.fn.self.pending l.fn.buffer.holds (length l.fn.into) → AreThere l.self.pending l.buffer.holds (length l.into - l.count) × ((disk_of l.io).calls ≤ (disk_of l.fn.io).calls);
  stand : StandFits l.self;
  buffer : BufferFits l.buffer;
  into : length l.into ≡ length l.fn.into;
  count : l.count ≤ length l.into;
  looks : Looks (io_of l.fn.io) (io_of l.io) None;
}

abbrev pub decreases-loop-count : goal.decreases-loop-count
decreases-loop-count g l = length l.into - l.count
