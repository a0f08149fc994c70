-- What a replay on two images comes to for each receive that its events feed with one stream alone, whatever other sessions and commands there are.
use Rattle.std.specs.Prelude.{ℕ, ◌^◌, ◌<◌, ◌≡◌, ◌⊎◌, ◌++◌, Bool, true, IsTrue, List, ◌∷◌, Option, Result, Ok}
use Rattle.zst_outside.specs.Images.{DiskState, Leaves}
use Rattle.zst_outside.specs.States.{SourceState, SinkState}
use Rattle.zst_image.specs.Reads.{Reads}
use Rattle.zst_model.specs.declared.refusals.refusal.Refusal.{Refusal}
use Rattle.zst_model.specs.declared.sends.header.Point.{Point}
use Rattle.zst_model.specs.pools.Pool.{Partial, Pool}
use Rattle.zst_model.specs.sends.Headers.{Sent, header_of}
use Rattle.zst_recv.specs.ReceiveSteps.{Ends, Goes}
use Rattle.zst_replication.specs.Outcomes.{Course, HasOneMore}
use Rattle.zst_replication.specs.Replicas.{sent_state}
use Rattle.zst_script.specs.declared.event.Event.{Event}
use Rattle.zst_script.specs.declared.event.Event.TheVariants as events
use Rattle.zst_script.specs.declared.event.Side.{Side}
use Rattle.zst_script.specs.declared.event.Side.TheVariants.{Here, There}
use Rattle.zst_sessions.specs.Moves.{Answer, feeding}
use Rattle.zst_sessions.specs.Replay.{Moves, Replay, image_of, opened}
use Rattle.zst_sessions.specs.World.{OpenReceive, World, at_side, next_piece}
use Rattle.zst_interleaving.specs.Courses.{IsFit}
use Rattle.zst_interleaving.specs.FedReplays.{GivesNext, IsFedWith, IsInEvent, IsInProgress, SplitsAt}
use Rattle.zst_run.specs.Replays.{IsLeft, IsReplayed}

-- the two images read as these pools by tight sets, over disks that tell their images and the truth
pub record IsOfPools (now : ℕ) (here here' : DiskState) (tells : Bool) (there there' : DiskState) (others : Bool) (pool other : Pool) : Type 0 where
  pub time : now < 2 ^ 64
  pub here_honest : here'.honest
  pub there_honest : there'.honest
  pub here_tells : IsTrue tells
  pub there_tells : IsTrue others
  pub here_reads : Reads true pool here.seen
  pub there_reads : Reads true other there.seen

-- ---- the images, event by event

-- an image reads as what a side keeps on the way of one of the events
pub record ReadsInEvent (now : ℕ) (side : Side) (world : World) (run : List Event) (answers : List Answer) (image : List ℕ) : Type 0 where
  pub way : World
  pub inside : IsInEvent now world run answers way
  pub reads : Reads true (image_of side way) image

-- one stood before the replay, or it reads as what the side kept at first, or so
abbrev pub IsOfReplay : DiskState → (now : ℕ) → Side → World → List Event → List Answer → List ℕ → Type 0
IsOfReplay disk now side world run answers image = disk.images image ⊎ (Reads true (image_of side world) image ⊎ ReadsInEvent now side world run answers image)

-- Events were run over two images. Each event splits the run, and each image, at every moment and in the end, is of one of the events, or stood before them.
pub record RunsByEvents (now : ℕ) (here here' there there' : DiskState) (world : World) (run : List Event) (answers : List Answer) : Type 0 where
  pub last : World
  pub runs : Replay now world run answers last
  pub splits : (front rest : List Event) (event : Event) → run ≡ front ++ event ∷ rest → SplitsAt now world front event rest answers last
  pub here_moments : Leaves here here' (IsOfReplay here now Here world run answers)
  pub there_moments : Leaves there there' (IsOfReplay there now There world run answers)
  pub here_images : (c : List ℕ) → here'.images c → IsOfReplay here now Here world run answers c
  pub there_images : (c : List ℕ) → there'.images c → IsOfReplay there now There world run answers c
  pub here_left : IsLeft here' last.here
  pub there_left : IsLeft there' last.there

-- So it is of each replay of two images that read as pools.
abbrev pub ReplaysRunByEvents : (here here' : DiskState) → Bool → (there there' : DiskState) → Bool → Type 0
ReplaysRunByEvents here here' tells there there' others =
    (now : ℕ) (input input' : SourceState) (out out' : SinkState) (result : Result (Unit {0}) Refusal) (pool other : Pool)
    → (ran : IsReplayed now here here' tells there there' others input input' out out' result) → IsOfPools now here here' tells there there' others pool other
    → RunsByEvents now here here' there there' (opened pool other) ran.events ran.answers

-- ---- a receive among others

-- Of such a replay each pump into a receive which the events before it opened and fed with one stream alone, and which it gives what comes next of that, is in the
-- receive's progress: whatever other events stand between, and however any of them and the pump are answered.
abbrev pub ReplayedFeedsAreProgress : (here here' : DiskState) → Bool → (there there' : DiskState) → Bool → Type 0
ReplayedFeedsAreProgress here here' tells there there' others =
    (now : ℕ) (input input' : SourceState) (out out' : SinkState) (result : Result (Unit {0}) Refusal) (pool other : Pool)
    (sent also : Sent) (start : Option Point) (course : Course) (front rest : List Event) (told : List Answer) (sends id count : ℕ) (before : World) (receive : OpenReceive)
    → (ran : IsReplayed now here here' tells there there' others input input' out out' result) → IsOfPools now here here' tells there there' others pool other
    → ran.events ≡ front ++ events.Pump sends id count ∷ rest
    → IsFedWith sent also start course now id (opened pool other) front told before receive → GivesNext sent also start course before sends count receive
    → IsInProgress sent course now before (events.Pump sends id count) receive

-- And where it is answered with its line, and its feed comes to END, one snapshot more is there: the one that was sent, with its guid, objects, contents and
-- holes, redacted as it was asked, where the base was fit for it.
abbrev pub ReplayedFeedsComplete : (here here' : DiskState) → Bool → (there there' : DiskState) → Bool → Type 0
ReplayedFeedsComplete here here' tells there there' others =
    (now : ℕ) (input input' : SourceState) (out out' : SinkState) (result : Result (Unit {0}) Refusal) (pool other : Pool)
    (sent also : Sent) (start : Option Point) (course : Course) (front rest : List Event) (told : List Answer) (sends id count : ℕ) (before after : World) (receive : OpenReceive)
    (lines : List (List ℕ)) (made : Pool) (partial : Partial)
    → (ran : IsReplayed now here here' tells there there' others input input' out out' result) → IsOfPools now here here' tells there there' others pool other
    → ran.events ≡ front ++ events.Pump sends id count ∷ rest
    → IsFedWith sent also start course now id (opened pool other) front told before receive → (next : GivesNext sent also start course before sends count receive) → IsFit sent course.state
    → Moves now before (events.Pump sends id count) (Ok lines) after
    → feeding receive.ask receive.text (next_piece count next.send) receive.stage (at_side receive.side before).pool ≡ Goes made (Ends partial)
    → HasOneMore (at_side receive.side before).pool (at_side receive.side after).pool receive.ask.target course.component course.base (header_of sent) (sent_state sent)
