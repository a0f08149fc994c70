-- An event that does nothing: it is refused, and all stands as it did.
use Rattle.std.proofs.Common.{◌≡◌, ℕ, false, true, Err, refl, arith}
use Rattle.std.specs.Prelude.{Result}
use Rattle.zst_outside.specs.Images.{Leaves-none}
use Rattle.zst_outside.specs.declared.disk.Disk.{Ghosts}
use Rattle.zst_block.specs.IoStates.{disk_of}
use Rattle.zst_model.specs.declared.refusals.refusal.Refusal.{Refusal}
use Rattle.zst_model.specs.declared.refusals.refusal.Refusal.TheVariants as refusals
use Rattle.zst_pool.specs.declared.pool.Pool.{Pool}
use Rattle.zst_script.specs.declared.event.Event.{Event}
use Rattle.zst_script.specs.declared.event.Side.TheVariants.{Here, There}
use Rattle.zst_sessions.proofs.OtherEvents.{IsOther, answers_by}
use Rattle.zst_sessions.proofs.SparedBlocks.{none_spares}
use Rattle.zst_sessions.specs.EngineSteps.{EngineFits, IsLaterPool, StandsFor, StepsEngine, kept_pool}
use Rattle.zst_sessions.specs.Engines.{MayLeave}
use Rattle.zst_sessions.specs.EventReplies.{answer_of}
use Rattle.zst_sessions.specs.Moves.{moved}
use Rattle.zst_sessions.specs.Replay.{AsDefined}
use Rattle.zst_sessions.specs.World.{World}
use Rattle.zst_sessions.specs.declared.engine.Engine.{Engine}
use Rattle.zst_sessions.specs.declared.event_reply.EventReply.{EventReply}

-- a pool that nothing was done to
pub stays_later : {D : Type 0} {g : Ghosts D} (pool : Pool D g) → IsLaterPool pool pool
stays_later pool = record { faults = omega arith; honest = λ is. is; same = refl }

-- what a definition says of an event where it does nothing
pub record DoesNothing (now : ℕ) (event : Event) (world : World) (result : Result EventReply Refusal) : Type 0 where
  pub answer : answer_of result ≡ (moved now event world).answer
  pub stays : world ≡ (moved now event world).world

module _ {D E : Type 0} {g : Ghosts D} {h : Ghosts E} (event : Event) (old : Engine D E g h) (result : Result EventReply Refusal) where
  -- so the engine answers one that is no check where it does nothing, and no disk was asked
  pub nothing_done : IsOther event → EngineFits old → ((world : World) → StandsFor old world → DoesNothing old.now event world result) → ¬ (result ≡ Err refusals.DiskFault)
      → (old.here.io.failed ≡ false → old.there.io.failed ≡ false → ¬ (result ≡ Err refusals.Failed))
      → ((need largest : ℕ) → ¬ (result ≡ Err (refusals.Full need largest))) → StepsEngine event old old result
  nothing_done other fits says no_fault open_still never_full = record {
    steps = λ world honest also tells told stands.
        let is = says world stands in
        record {
          next = world;
          moves = AsDefined (answers_by old.now event world (answer_of result) other is.answer) is.stays;
          stands = stands;
          here_moments = Leaves-none (disk_of old.here.io) (MayLeave true Here event (kept_pool old.here) world (moved old.now event world).world);
          there_moments = Leaves-none (disk_of old.there.io) (MayLeave true There event (kept_pool old.there) world (moved old.now event world).world);
        };
    fits = fits;
    later = record { here = stays_later old.here; there = stays_later old.there; time = refl };
    cause = λ is. absurd (no_fault is);
    open_still = open_still;
    checks = λ of running is honest. absurd (other of is);
    works = λ alive. (λ works. works, λ works. works);
    here_spares = λ no_reclaim. none_spares (kept_pool old.here);
    there_spares = λ no_reclaim. none_spares (kept_pool old.there);
    full = λ need largest is. absurd (never_full need largest is);
  }
