-- The events that a replay ran are those that lines say.
use Rattle.std.specs.Prelude.{Result, Ok, Err}
use Rattle.std.proofs.Common.{ℕ, List, [], ◌++◌, refl}
use Rattle.zst_outside.specs.States.{SourceState}
use Rattle.zst_model.specs.declared.refusals.refusal.Refusal.{Refusal}
use Rattle.zst_model.specs.declared.refusals.refusal.Refusal.TheVariants as refusals
use Rattle.zst_script.specs.Scripts.{AllRead, Broken, IsScript, Long, Misread, Says, ScriptEnd, TooLong, Whole}
use Rattle.zst_script.specs.declared.event.Event.{Event}
use Rattle.zst_sessions.specs.Moves.{Answer}
use Rattle.zst_run.specs.Replays.{RunsScript}

-- some lines say these events
pub record AreSaid (run : List Event) : Type 0 where
  pub number : ℕ
  pub lines : List (List ℕ)
  pub end : ScriptEnd
  pub says : Says number lines run end

of_script : (text : List ℕ) (run : List Event) (end : ScriptEnd) → IsScript text run end → AreSaid run
of_script text run end (Whole which short says) = record { number = 1; lines = _; end = which; says = says }
of_script text run end (Broken line long says) = record { number = 1; lines = _; end = Misread line; says = says }
of_script text run end (Long long says) = record { number = 1; lines = _; end = AllRead; says = says }

pub are_said : (text : List ℕ) (run : List Event) (answers : List Answer) (input input' : SourceState) (result : Result (Unit {0}) Refusal) → RunsScript text run answers input input' result → AreSaid run
are_said text run answers input input' (Ok done) is = of_script text run AllRead is.1
are_said text run answers input input' (Err (refusals.Usage place)) is = of_script (text ++ []) run (Misread place) (is.0 [] (λ over. refl))
are_said text run answers input input' (Err (refusals.Limit which number)) is = of_script (text ++ []) run TooLong (is.2 [])
are_said text run answers input input' (Err refusals.SourceFault) is = record { number = 1; lines = is.1.0; end = AllRead; says = is.1.2 }
are_said text run answers input input' (Err refusals.SinkFault) is = record { number = 1; lines = is.0.lines; end = AllRead; says = is.0.say }
are_said text run answers input input' (Err refusals.OutOfMemory) is = record { number = 1; lines = is.0.lines; end = AllRead; says = is.0.say }
are_said text run answers input input' (Err (refusals.Plan fault)) is = absurd is
are_said text run answers input input' (Err (refusals.BadToken place)) is = absurd is
are_said text run answers input input' (Err (refusals.Stream fault)) is = absurd is
are_said text run answers input input' (Err (refusals.CannotApply place fault)) is = absurd is
are_said text run answers input input' (Err (refusals.Redacted object block)) is = absurd is
are_said text run answers input input' (Err (refusals.Full need largest)) is = absurd is
are_said text run answers input input' (Err (refusals.Damaged sector stated found)) is = absurd is
are_said text run answers input input' (Err refusals.NoPool) is = absurd is
are_said text run answers input input' (Err (refusals.BadVersion number)) is = absurd is
are_said text run answers input input' (Err refusals.DiskFault) is = absurd is
are_said text run answers input input' (Err refusals.Failed) is = absurd is
