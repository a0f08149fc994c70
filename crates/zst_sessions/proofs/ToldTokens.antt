-- What a telling of a pool's token makes of a world, and of what the engine keeps: nothing.
use Rattle.std.proofs.Common.{◌≡◌, ℕ, Bool, true, false, cond, List, Result, Ok, Err, refl, sym, ap, ◌∙◌}
use Rattle.zst_outside.specs.Images.{Leaves-none}
use Rattle.zst_outside.specs.declared.disk.Disk.{Ghosts}
use Rattle.zst_block.specs.Blocks.{Has}
use Rattle.zst_dir.specs.RowNames.{AreNamed}
use Rattle.zst_image.specs.Bodies.{free_by}
use Rattle.zst_model.specs.declared.refusals.plan_fault.PlanFault.{PlanFault}
use Rattle.zst_model.specs.declared.refusals.refusal.Refusal.{Refusal}
use Rattle.zst_model.specs.declared.refusals.refusal.Refusal.TheVariants as refusals
use Rattle.zst_model.specs.pools.Pool.{Pool as Plain}
use Rattle.zst_pool.proofs.NamedPools.{rows_named}
use Rattle.zst_recv.specs.Tokens.{token_told}
use Rattle.zst_script.specs.declared.event.Event.{Event}
use Rattle.zst_script.specs.declared.event.Event.TheVariants as events
use Rattle.zst_script.specs.declared.event.Side.{Side}
use Rattle.zst_script.specs.declared.event.Side.TheVariants.{Here, There}
use Rattle.zst_sessions.proofs.SparedBlocks.{none_spares}
use Rattle.zst_sessions.proofs.SteppedWorlds.{same_later, stands_at}
use Rattle.zst_sessions.specs.CommandSteps.{told_as, token_answer}
use Rattle.zst_sessions.specs.EngineSteps.{EngineFits, StepsEngine, kept_pool}
use Rattle.zst_sessions.specs.Engines.{Kept, MayLeave, Stands, Steps, kept_at}
use Rattle.zst_sessions.specs.EventReplies.{answer_of}
use Rattle.zst_sessions.specs.Moves.{Answer, moved, refuses, told_by}
use Rattle.zst_sessions.specs.Replay.{Moves, AsDefined}
use Rattle.zst_sessions.specs.World.{World, at_side}
use Rattle.zst_sessions.specs.declared.engine.Engine.{Engine}
use Rattle.zst_sessions.specs.declared.event_reply.EventReply.{EventReply}
use Rattle.zst_sessions.specs.declared.open_sessions.OpenReceive.{OpenReceive}
use Rattle.zst_sessions.specs.declared.open_sessions.OpenSend.{OpenSend}
use Rattle.zst_token.specs.declared.token.Token.{Token}

-- an event that leaves a world, and all that is kept, as it was
pub idle_steps : (now : ℕ) (world : World) (event : Event) (answer : Answer) (here there : Kept) (sends : List OpenSend) (receives : List OpenReceive)
    → Stands true here there sends receives world → Moves now world event answer world → Steps true now world event here there here there sends receives answer
idle_steps now world event answer here there sends receives stands moves = record {
  next = world;
  moves = moves;
  stands = stands;
  here_moments = Leaves-none here.disk (MayLeave true Here event here world (moved now event world).world);
  there_moments = Leaves-none there.disk (MayLeave true There event there world (moved now event world).world);
}

-- what is told of a token is what the definition answers, and the world stays
told_alike : (world : World) (told : Result Token PlanFault) → token_answer (told_as told) ≡ (told_by world told).answer
told_alike world (Ok token) = refl
told_alike world (Err fault) = refl

told_stays : (world : World) (told : Result Token PlanFault) → world ≡ (told_by world told).world
told_stays world (Ok token) = refl
told_stays world (Err fault) = refl

token_moves : (now : ℕ) (side : Side) (dataset : List ℕ) (world : World) (answer : Answer)
    → ((at_side side world).failed ≡ true → answer ≡ Err refusals.Failed) → ((at_side side world).failed ≡ false → answer ≡ token_answer (told_as (token_told dataset (at_side side world).pool)))
    → Moves now world (events.Token side dataset) answer world
unfolding moved
token_moves now side dataset world answer failed works = go (at_side side world).failed refl
  where
    rest : Bool → Result Token PlanFault → Answer
    rest b told = (cond b (refuses refusals.Failed world) (told_by world told)).answer

    left : Bool → Result Token PlanFault → World
    left b told = (cond b (refuses refusals.Failed world) (told_by world told)).world

    go : (b : Bool) → (at_side side world).failed ≡ b → Moves now world (events.Token side dataset) answer world
    go true is =
        let told = token_told dataset (at_side side world).pool in
        AsDefined (failed is ∙ sym (ap (λ (b : Bool). rest b told) is)) (sym (ap (λ (b : Bool). left b told) is))
    go false is =
        let told = token_told dataset (at_side side world).pool in
        AsDefined (works is ∙ told_alike world told ∙ sym (ap (λ (b : Bool). rest b told) is)) (told_stays world told ∙ sym (ap (λ (b : Bool). left b told) is))

-- where both disks work, that of a side does
works_at : (side : Side) (here there : Kept) → here.failed ≡ false → there.failed ≡ false → (kept_at side here there).failed ≡ false
works_at Here here there first second = first
works_at There here there first second = second

-- a token's answer is a refusal only as that
only_refusal : (told : Result Token Refusal) (refusal : Refusal) → token_answer told ≡ Err refusal → told ≡ Err refusal
only_refusal (Ok token) refusal is = absurd (cc is)
only_refusal (Err also) refusal is = let same : also ≡ refusal = cc is in ap refused same
  where
    refused : Refusal → Result Token Refusal
    refused r = Err r

module _ {D E : Type 0} {g : Ghosts D} {h : Ghosts E} (old : Engine D E g h) (side : Side) (dataset : List ℕ) (told : Result Token Refusal) (result : Result EventReply Refusal) where
  -- the side's pool
  abbrev pub kept_there : Kept
  kept_there = kept_at side (kept_pool {g = g} old.here) (kept_pool {g = h} old.there)

  -- a token that is told leaves the engine as it was
  pub token_steps : answer_of result ≡ token_answer told → EngineFits old → (kept_there.failed ≡ true → told ≡ Err refusals.Failed)
      → (kept_there.failed ≡ false → (running : Plain) → AreNamed kept_there.state.dir running → told ≡ told_as (token_told dataset running))
      → (kept_there.failed ≡ false → ¬ (told ≡ Err refusals.Failed)) → ¬ (told ≡ Err refusals.DiskFault) → ((need largest : ℕ) → ¬ (told ≡ Err (refusals.Full need largest)))
      → StepsEngine (events.Token side dataset) old old result
  token_steps answers fits failed works alive no_fault never_full = record {
    steps = λ world honest also tells and stands.
        let at = stands_at side (kept_pool {g = g} old.here) (kept_pool {g = h} old.there) world stands.here_stands stands.there_stands in
        idle_steps old.now world (events.Token side dataset) (answer_of result) (kept_pool {g = g} old.here) (kept_pool {g = h} old.there) old.sends.items old.receives.items stands
        (token_moves old.now side dataset world (answer_of result) (λ is. answers ∙ ap (λ (t : Result Token Refusal). token_answer t) (failed (at.mark ∙ is)))
        (λ is.
        let rested = at.rests (at.mark ∙ is) in
        let pool = (at_side side world).pool in
        answers
        ∙ ap (λ (t : Result Token Refusal). token_answer t) (works (at.mark ∙ is) pool (rows_named (Has kept_there.disk.seen (free_by kept_there.state.body)) kept_there.state.dir pool rested.runs_by))));
    fits = fits;
    later = record { here = same_later old.here; there = same_later old.there; time = refl };
    cause = λ is. absurd (no_fault (only_refusal told refusals.DiskFault (sym answers ∙ ap answer_of is)));
    open_still = λ first second is. alive (works_at side (kept_pool {g = g} old.here) (kept_pool {g = h} old.there) first second) (only_refusal told refusals.Failed (sym answers ∙ ap answer_of is));
    checks = λ of running is honest. absurd (cc is);
    works = λ alive. (λ works. works, λ works. works);
    here_spares = λ no_reclaim. none_spares (kept_pool old.here);
    there_spares = λ no_reclaim. none_spares (kept_pool old.there);
    full = λ need largest is. absurd (never_full need largest (only_refusal told (refusals.Full need largest) (sym answers ∙ ap answer_of is)));
  }
