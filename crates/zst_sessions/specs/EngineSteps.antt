-- What the engine keeps, whatever the images are, and what an event does to it.
use Rattle.std.specs.Prelude.{◌≡◌, ◌≢◌, ◌⊎◌, ◌==◌, ◌≤◌, IsTrue, ℕ, true, false, List, [], length, take, find, filter, map, ◌++◌, All, AllPairs, Some, Result, Err}
use Rattle.zst_outside.specs.Causes.{Rose}
use Rattle.zst_outside.specs.declared.disk.Disk.{Ghosts}
use Rattle.zst_space.specs.FreeSectors.{FreeSectors}
use Rattle.zst_block.specs.Blocks.{KeepsBlocks}
use Rattle.zst_block.specs.IoStates.{disk_of}
use Rattle.zst_dir.specs.RowNames.{Match}
use Rattle.zst_dir.specs.Rows.{Rows, IsLawful, is_for}
use Rattle.zst_image.specs.Commits.{HasItsExtents, Ready}
use Rattle.zst_image.specs.Bodies.{free_by}
use Rattle.zst_model.specs.declared.refusals.refusal.Refusal.{Refusal}
use Rattle.zst_model.specs.declared.refusals.refusal.Refusal.TheVariants as refusals
use Rattle.zst_model.specs.declared.pools.command.Command.TheVariants as commands
use Rattle.zst_model.specs.pools.Pool.{Pool as Plain}
use Rattle.zst_model.specs.pools.Sessions.{Held, Holds, Claims}
use Rattle.zst_pool.specs.Reclaims.{SparesReached}
use Rattle.zst_pool.specs.declared.pool.Pool.{Pool}
use Rattle.zst_recv.specs.Costs.{PieceIsShort}
use Rattle.zst_recv.specs.Feeds.{new_records}
use Rattle.zst_recv.specs.GoingOn.{IsRow}
use Rattle.zst_recv.specs.Stages.{RecvFits, ask_of, is_live, stage_of}
use Rattle.zst_script.specs.declared.event.Event.{Event}
use Rattle.zst_script.specs.declared.event.Event.TheVariants as events
use Rattle.zst_script.specs.declared.event.Side.{Side}
use Rattle.zst_script.specs.declared.event.Side.TheVariants.{Here, There}
use Rattle.zst_roots.specs.declared.held.HeldBlocks.{HeldBlocks}
use Rattle.zst_send.specs.HeldPointers.{held_of}
use Rattle.zst_send.specs.Sends.{SendFits}
use Rattle.zst_sessions.specs.CheckReports.{TellsCheck}
use Rattle.zst_sessions.specs.Engines.{Kept, ReceiveStandsOn, SendStandsOn, Stands, Steps, kept_at}
use Rattle.zst_sessions.specs.EventReplies.{answer_of}
use Rattle.zst_sessions.specs.FullPools.{StepIsShort, WasFed}
use Rattle.zst_sessions.specs.World.{OpenReceive, OpenSend, World, at_side, is_side}
use Rattle.zst_sessions.specs.declared.engine.Engine.{Engine}
use Rattle.zst_sessions.specs.declared.engine.Room.{Room}
use Rattle.zst_sessions.specs.declared.event_reply.EventReply.{EventReply}
use Rattle.zst_sessions.specs.declared.open_sessions.OpenReceive as kept_receives
use Rattle.zst_sessions.specs.declared.open_sessions.OpenSend as kept_sends

-- a piece that is taken at once has at most so many bytes
abbrev pub piece_limit : ℕ
piece_limit = 1048576

-- the memory of an engine: no session is in it, and it has room for a piece
pub record RoomFits (room : Room) : Type 0 where
  pub sends : room.sends.items ≡ []
  pub receives : room.receives.items ≡ []
  pub piece : length room.piece.items ≡ piece_limit

-- ---- two pools of which one changes

-- the two once that of a side is another
abbrev pub here_with : Side → (new here : Kept) → Kept
here_with Here new here = new
here_with There new here = here

abbrev pub there_with : Side → (new there : Kept) → Kept
there_with Here new there = there
there_with There new there = new

-- ---- what is kept of sessions, whatever the images are

-- what is kept of a receive is in its ranges beside these rows: it goes on, its partial state is the row of its target, and it was fed some text
pub record ReceiveFits (rows : Rows) (coded : kept_receives.OpenReceive) : Type 0 where
  pub live : is_live (stage_of coded.recv) ≡ true
  pub fits : RecvFits rows coded.recv
  pub row : IsRow rows (ask_of coded.recv).target (stage_of coded.recv)
  pub fed : (text : List ℕ) × WasFed coded.recv text

-- the target of a receive that is open
abbrev pub target_of : kept_receives.OpenReceive → List ℕ
target_of coded = (ask_of coded.recv).target

-- two pools and the sessions on them are in their ranges: the next commit of each pool can be made unless its disk has failed, and receives into one pool differ in their targets
pub record SessionsFit (here there : Kept) (sends : List kept_sends.OpenSend) (receives : List kept_receives.OpenReceive) : Type 0 where
  pub here_ready : here.failed ≡ false → Ready here.disk here.state.body
  pub there_ready : there.failed ≡ false → Ready there.disk there.state.body
  pub sends_fit : All (λ one. SendFits one.send) sends
  pub receives_fit : All (λ one. ReceiveFits (kept_at one.side here there).state.dir one) receives
  pub targets : AllPairs (λ a b. a.side ≡ b.side → target_of a ≢ target_of b) receives

-- what the sessions of a pool hold and claim of it
abbrev pub coded_hold : kept_sends.OpenSend → Held
coded_hold one = Holds one.id one.snapshot

abbrev pub coded_claim : kept_receives.OpenReceive → Held
coded_claim one = Claims one.id (target_of one)

abbrev pub coded_held : Side → List kept_sends.OpenSend → List kept_receives.OpenReceive → List Held
coded_held side sends receives = map coded_hold (filter (λ one. is_side one.side side) sends) ++ map coded_claim (filter (λ one. is_side one.side side) receives)

-- ---- what an event of one session or one command leaves to the others

-- what sends of a pool hold of it
abbrev pub held_blocks : Side → List kept_sends.OpenSend → List HeldBlocks
held_blocks side sends = map (λ one. held_of one.send) (filter (λ one. is_side one.side side) sends)

-- What an event made of one pool, as far as its other sessions see it, but for its blocks: unless the disk has failed, the next commit can be made; the directory is
-- lawful, and has the rows of partial states that it had, but for those that are the event's own.
pub record LeavesRows (own : List ℕ → Type 0) (old new : Kept) : Type 0 where
  pub mark : new.failed ≡ false → old.failed ≡ false
  pub ready : new.failed ≡ false → Ready new.disk new.state.body
  pub lawful : IsLawful new.state.dir
  pub rows : (target : List ℕ) → ¬ (own target) → find (is_for target) new.state.dir.partials ≡ find (is_for target) old.state.dir.partials

-- And the blocks that were there still are, unless the disk has failed.
pub record KeepsSessions (own : List ℕ → Type 0) (old new : Kept) : Type 0 where
  pub leaves : LeavesRows own old new
  pub blocks : new.failed ≡ false → KeepsBlocks old.disk.seen (free_by old.state.body) new.disk.seen (free_by new.state.body)
  pub extents : new.failed ≡ false → HasItsExtents old.disk old.state.body → HasItsExtents new.disk new.state.body

-- So it is with a command, also with a reclaim: that makes none of the blocks free that the rows reach or these sessions hold, where no read gave other bytes.
pub record KeepsHeld (own : List ℕ → Type 0) (held : List HeldBlocks) (old new : Kept) : Type 0 where
  pub leaves : LeavesRows own old new
  pub blocks : new.disk.honest → new.failed ≡ false → SparesReached held old.disk new.disk old.state new.state

-- What an event leaves of the blocks of one pool, whatever the image is, unless the disk has failed by then. Each block still stands that stood in sectors which the
-- latest body from before left not free. And each block that was there still is, over the sectors that the latest body then leaves free, and so do that body's own free extents
-- stand where those of the one before did; of a pool that was opened again it is so where its disk hadn't failed, no read gave other bytes, and the extents of the body from
-- before stood in sectors that it left not free.
pub record SparesBlocks (again : Type 0) (old new : Kept) : Type 0 where
  pub stood : new.failed ≡ false → KeepsBlocks old.disk.seen (free_by old.state.body) new.disk.seen (free_by old.state.body)
  pub blocks : (again → (old.failed ≡ false) × new.disk.honest × HasItsExtents old.disk old.state.body) → new.failed ≡ false → KeepsBlocks old.disk.seen (free_by old.state.body) new.disk.seen (free_by new.state.body)
  pub extents : (again → (old.failed ≡ false) × new.disk.honest) → new.failed ≡ false → HasItsExtents old.disk old.state.body → HasItsExtents new.disk new.state.body

-- Sends stand on where a pool changes so.
abbrev pub SendsStandBeside : Type 1
SendsStandBeside =
    (side : Side) (own : List ℕ → Type 0) (here there new : Kept) (coded : List kept_sends.OpenSend) (sends : List OpenSend)
    → KeepsSessions own (kept_at side here there) new
    → Match (λ one send. SendStandsOn (kept_at send.side here there) one send) coded sends
    → Match (λ one send. SendStandsOn (kept_at send.side (here_with side new here) (there_with side new there)) one send) coded sends

-- So do receives, but those whose rows are the event's own, where no pool's number falls.
abbrev pub ReceivesStandBeside : Type 1
ReceivesStandBeside =
    (side : Side) (own : List ℕ → Type 0) (here there new : Kept) (world next : World) (coded : List kept_receives.OpenReceive) (receives : List OpenReceive)
    → KeepsSessions own (kept_at side here there) new
    → ((of : Side) → (at_side of world).pool.number ≤ (at_side of next).pool.number)
    → All (λ receive. receive.side ≡ side → ¬ (own receive.ask.target)) receives
    → Match (λ one receive. ReceiveStandsOn true (kept_at receive.side here there) (at_side receive.side world).pool one receive) coded receives
    → Match (λ one receive. ReceiveStandsOn true (kept_at receive.side (here_with side new here) (there_with side new there)) (at_side receive.side next).pool one receive) coded receives

-- And so they do behind a command that leaves what the sends of its pool hold, and what the rows reach.
abbrev pub SendsStandHeld : Type 1
SendsStandHeld =
    (side : Side) (own : List ℕ → Type 0) (here there new : Kept) (coded : List kept_sends.OpenSend) (sends : List OpenSend)
    → KeepsHeld own (held_blocks side coded) (kept_at side here there) new → new.disk.honest
    → Match (λ one send. SendStandsOn (kept_at send.side here there) one send) coded sends
    → Match (λ one send. SendStandsOn (kept_at send.side (here_with side new here) (there_with side new there)) one send) coded sends

abbrev pub ReceivesStandHeld : Type 1
ReceivesStandHeld =
    (side : Side) (own : List ℕ → Type 0) (held : List HeldBlocks) (here there new : Kept) (world next : World) (coded : List kept_receives.OpenReceive) (receives : List OpenReceive)
    → KeepsHeld own held (kept_at side here there) new → new.disk.honest
    → ((of : Side) → (at_side of world).pool.number ≤ (at_side of next).pool.number)
    → All (λ receive. receive.side ≡ side → ¬ (own receive.ask.target)) receives
    → Match (λ one receive. ReceiveStandsOn true (kept_at receive.side here there) (at_side receive.side world).pool one receive) coded receives
    → Match (λ one receive. ReceiveStandsOn true (kept_at receive.side (here_with side new here) (there_with side new there)) (at_side receive.side next).pool one receive) coded receives

-- And what is kept stays in its ranges.
abbrev pub SessionsFitBeside : Type 1
SessionsFitBeside =
    (side : Side) (own : List ℕ → Type 0) (here there new : Kept) (sends : List kept_sends.OpenSend) (receives : List kept_receives.OpenReceive)
    → LeavesRows own (kept_at side here there) new
    → All (λ one. one.side ≡ side → ¬ (own (target_of one))) receives
    → SessionsFit here there sends receives → SessionsFit (here_with side new here) (there_with side new there) sends receives

-- ---- an event of the engine

module _ {D : Type 0} {g : Ghosts D} where
  -- a pool as the engine keeps it
  abbrev pub kept_pool : Pool D g → Kept
  kept_pool pool = record { disk = disk_of pool.io; tells = g.tells_images; state = pool.kept; failed = pool.io.failed }

  -- the same pool at a later moment: its disk is the same, whose count of faults didn't fall, and where a read had given other bytes that still counts
  pub record IsLaterPool (old new : Pool D g) : Type 0 where
    pub faults : (disk_of old.io).faults ≤ (disk_of new.io).faults
    pub honest : (disk_of new.io).honest → (disk_of old.io).honest
    pub same : new.io.disk.ghost_name ≡ old.io.disk.ghost_name

module _ {D E : Type 0} {g : Ghosts D} {h : Ghosts E} where
  -- No session is open on these pools yet, and it is this time.
  pub record HasNoSessions (here : Pool D g) (there : Pool E h) (now : ℕ) (engine : Engine D E g h) : Type 0 where
    pub here_is : engine.here ≡ here
    pub there_is : engine.there ≡ there
    pub time : engine.now ≡ now
    pub sends : engine.sends.items ≡ []
    pub receives : engine.receives.items ≡ []

  -- the same engine at a later moment: so it is with both of its pools, and its time is the same
  pub record IsLaterEngine (old new : Engine D E g h) : Type 0 where
    pub here : IsLaterPool old.here new.here
    pub there : IsLaterPool old.there new.there
    pub time : new.now ≡ old.now

  -- what the engine keeps is in its ranges, and it has room for a piece
  pub record EngineFits (engine : Engine D E g h) : Type 0 where
    pub sessions : SessionsFit (kept_pool engine.here) (kept_pool engine.there) engine.sends.items engine.receives.items
    pub room : length engine.room.items ≡ piece_limit

  -- no disk of a pool failed from one moment to another
  abbrev pub NoneFailed : Engine D E g h → Engine D E g h → Type 0
  NoneFailed old new = (old.here.io.failed ≡ false → new.here.io.failed ≡ false) × (old.there.io.failed ≡ false → new.there.io.failed ≡ false)

  -- two worlds that read as pools by tight sets, and what is kept of their sessions
  abbrev pub StandsFor : Engine D E g h → World → Type 0
  StandsFor engine world = Stands true (kept_pool engine.here) (kept_pool engine.there) engine.sends.items engine.receives.items world

  -- what an event makes of the world that the engine stands for, where its disks tell their images and read as they should
  abbrev pub StepsWorld : Event → Engine D E g h → Engine D E g h → Result EventReply Refusal → Type 0
  StepsWorld event old new result =
      (world : World) → (disk_of new.here.io).honest → (disk_of new.there.io).honest → IsTrue g.tells_images → IsTrue h.tells_images → StandsFor old world
      → Steps true old.now world event (kept_pool old.here) (kept_pool old.there) (kept_pool new.here) (kept_pool new.there) new.sends.items new.receives.items (answer_of result)

  -- the sectors that are left of the pool of a side
  abbrev pub left_on : Side → Engine D E g h → FreeSectors
  left_on Here engine = engine.here.io.space
  left_on There engine = engine.there.io.space

  -- E24 of a pump: what was taken for the receive with this id, which stands in front of the room, found no room in its pool, behind each text that the receive was fed, and there is one
  pub record PumpIsShort (id count : ℕ) (old new : Engine D E g h) (need largest : ℕ) : Type 0 where
    pub one : kept_receives.OpenReceive
    pub is_open : find (λ r. r.id == id) old.receives.items ≡ Some one
    pub taken : ℕ
    pub within : taken ≤ count
    pub fed : (text : List ℕ) × WasFed one.recv text
    pub short : (text : List ℕ) → WasFed one.recv text
        → PieceIsShort (new_records text (take taken new.room.items)) (kept_at one.side (kept_pool old.here) (kept_pool old.there)).state (left_on one.side new) need largest

  -- E24 comes of a command or of a pump alone, and tells what it found of the free sectors of its pool
  abbrev pub EventIsShort : Event → (old new : Engine D E g h) → (need largest : ℕ) → Type 0
  EventIsShort (events.Step side command) old new need largest =
      StepIsShort command (held_blocks side old.sends.items) (kept_at side (kept_pool old.here) (kept_pool old.there)) (kept_at side (kept_pool new.here) (kept_pool new.there)) (left_on side new) need largest
  EventIsShort (events.Pump send receive count) old new need largest = PumpIsShort receive count old new need largest
  EventIsShort event old new need largest = ⊥

  -- an event of the engine: what it makes of a world, and what holds whatever the images are
  pub record StepsEngine (event : Event) (old new : Engine D E g h) (result : Result EventReply Refusal) : Type 0 where
    pub steps : StepsWorld event old new result
    pub fits : EngineFits new
    pub later : IsLaterEngine old new
    -- E28 comes only where the count of faults of a disk rose in this event, and E31 only where a disk had failed before
    pub cause : result ≡ Err refusals.DiskFault → Rose (disk_of old.here.io).faults (disk_of new.here.io).faults ⊎ Rose (disk_of old.there.io).faults (disk_of new.there.io).faults
    pub open_still : old.here.io.failed ≡ false → old.there.io.failed ≡ false → ¬ (result ≡ Err refusals.Failed)
    -- a check tells a report of a pool that is at rest, with the count of blocks that its latest body reaches, and of any other what its image shows
    pub checks : (side : Side) (running : Plain) → event ≡ events.Check side → (kept_at side (kept_pool new.here) (kept_pool new.there)).disk.honest → TellsCheck (kept_at side (kept_pool old.here) (kept_pool old.there)) running result
    -- unless it answers E28 no disk fails in it; and what stands of the blocks of both pools, of each where the event is no reclaim of it
    pub works : ¬ (result ≡ Err refusals.DiskFault) → NoneFailed old new
    pub here_spares : event ≢ events.Step Here commands.Reclaim → SparesBlocks (event ≡ events.Reopen Here) (kept_pool old.here) (kept_pool new.here)
    pub there_spares : event ≢ events.Step There commands.Reclaim → SparesBlocks (event ≡ events.Reopen There) (kept_pool old.there) (kept_pool new.there)
    -- E24 tells what was found
    pub full : (need largest : ℕ) → result ≡ Err (refusals.Full need largest) → EventIsShort event old new need largest
