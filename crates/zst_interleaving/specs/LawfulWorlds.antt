-- The laws of lawful pools along a replay, whatever its events are and however they are answered.
use Rattle.std.specs.Prelude.{ℕ, ◌^◌, ◌<◌, List, All}
use Rattle.zst_model.specs.pools.Pool.{IsPool, Pool}
use Rattle.zst_model.specs.pools.Step.{IsCommand}
use Rattle.zst_model.specs.states.State.{AreBytes}
use Rattle.zst_script.specs.declared.event.Event.{Event}
use Rattle.zst_script.specs.declared.event.Event.TheVariants as events
use Rattle.zst_script.specs.Lines.{EventIs}
use Rattle.zst_send.specs.Sends.{begun_text}
use Rattle.zst_sessions.specs.Lawfulness.{IsWorld}
use Rattle.zst_sessions.specs.Moves.{Answer}
use Rattle.zst_sessions.specs.Replay.{Moves, Replay, opened}
use Rattle.zst_sessions.specs.World.{World}
use Rattle.zst_interleaving.specs.LawfulFeeds.{IsAsk}

-- both pools are lawful, each send that is open is of bytes, and each receive that is open is into a dataset's name and has read bytes
pub record IsLawfulWorld (world : World) : Type 0 where
  pub here : IsPool world.here.pool
  pub there : IsPool world.there.pool
  pub sends : All (λ send. AreBytes (begun_text send.sent send.start)) world.sends
  pub receives : All (λ receive. IsAsk receive.ask × AreBytes receive.text) world.receives

-- two lawful pools as they were opened are such a world
abbrev pub OpenedAreLawful : Type 0
OpenedAreLawful = (here there : Pool) → IsPool here → IsPool there → IsLawfulWorld (opened here there)

-- an event as a line says it: a command is of words in their ranges, and a receive is of names
abbrev pub IsFitFor : Event → Type 0
IsFitFor (events.Step side command) = IsCommand command
IsFitFor (events.Receive side id ask) = IsAsk ask
IsFitFor event = Unit {0}

-- So is each event that the words of a line say.
abbrev pub LinesAreFit : Type 0
LinesAreFit = (event : Event) (words : List (List ℕ)) → EventIs event words → IsFitFor event

-- However such an event is answered, as the definition says, or where it finds a disk full or lost or no memory left, it leaves a lawful world lawful.
abbrev pub MovesKeepLawful : Type 0
MovesKeepLawful =
    (now : ℕ) (world next : World) (event : Event) (answer : Answer)
    → now < 2 ^ 64 → IsWorld world → IsFitFor event → Moves now world event answer next → IsLawfulWorld world → IsLawfulWorld next

-- each event of a run is so
abbrev pub AreFit : List Event → Type 0
AreFit run = All IsFitFor run

-- So a replay of such events leaves it lawful.
abbrev pub ReplaysKeepLawful : Type 0
ReplaysKeepLawful =
    (now : ℕ) (world last : World) (run : List Event) (answers : List Answer)
    → now < 2 ^ 64 → IsWorld world → IsLawfulWorld world → AreFit run → Replay now world run answers last → IsLawfulWorld last
