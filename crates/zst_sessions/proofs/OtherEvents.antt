-- The events that aren't a check: by its definition each of them has one answer.
use Rattle.std.proofs.Common.{◌≡◌, ℕ, refl}
use Rattle.std.specs.Prelude.{◌≢◌}
use Rattle.zst_script.specs.declared.event.Event.{Event}
use Rattle.zst_script.specs.declared.event.Event.TheVariants as events
use Rattle.zst_script.specs.declared.event.Side.{Side}
use Rattle.zst_sessions.specs.Moves.{Answer, AnswersBy, moved}
use Rattle.zst_sessions.specs.World.{World}

-- an event that checks neither pool
abbrev pub IsOther : Event → Type 0
IsOther event = (of : Side) → event ≢ events.Check of

-- what such an event answers is what its definition says
pub answers_by : (now : ℕ) (event : Event) (world : World) (answer : Answer) → IsOther event → answer ≡ (moved now event world).answer → AnswersBy now event world answer
answers_by now (events.Check side) world answer other is = absurd (other side refl)
answers_by now event world answer other is = is
