-- A receive among others, as part of a replay on two images.
use Rattle.std.specs.Prelude.{Result}
use Rattle.std.proofs.Common.{◌≡◌, ◌⊎◌, inl, inr, ℕ, Bool, true, List, ◌∷◌, ◌++◌, subst}
use Rattle.zst_outside.specs.Images.{DiskState, Leaves, Leaves-weaker}
use Rattle.zst_outside.specs.States.{SourceState, SinkState}
use Rattle.zst_image.specs.Reads.{Reads}
use Rattle.zst_model.specs.declared.refusals.refusal.Refusal.{Refusal}
use Rattle.zst_model.specs.pools.Pool.{Pool}
use Rattle.zst_script.specs.declared.event.Event.{Event}
use Rattle.zst_script.specs.declared.event.Side.{Side}
use Rattle.zst_script.specs.declared.event.Side.TheVariants.{Here, There}
use Rattle.zst_sessions.specs.Lawfulness.{IsWorld}
use Rattle.zst_sessions.specs.Moves.{Answer}
use Rattle.zst_sessions.specs.Replay.{Replay, image_of, opened}
use Rattle.zst_sessions.specs.World.{World}
use Rattle.zst_interleaving.specs.FedReplays.{IsInEvent, ReplayedPumpsAreProgress, ReplayedPumpsComplete, ReplaysSplit, ScriptsAreFit, SplitsAt, WaysAreInEvents}
use Rattle.zst_interleaving.specs.LawfulWorlds.{AreFit, IsLawfulWorld, OpenedAreLawful}
use Rattle.zst_run.specs.Interleaved.{IsOfPools, IsOfReplay, ReplayedFeedsAreProgress, ReplayedFeedsComplete, ReplaysRunByEvents}
use Rattle.zst_run.specs.Replays.{IsReplayed, RunsOver, StoodOrReads}
use Rattle.zst_run.proofs.ReplayedEvents.{are_said}
use Rattle.zst_run.proofs.ReplayImages.{new_is_world}

-- an image on the way of a run is of one of its events
of_replay : WaysAreInEvents → (disk : DiskState) (now : ℕ) (side : Side) (world : World) (run : List Event) (answers : List Answer) (c : List ℕ)
    → StoodOrReads disk now side world run answers c → IsOfReplay disk now side world run answers c
of_replay ways disk now side world run answers c (inl stood) = inl stood
of_replay ways disk now side world run answers c (inr on) = go (ways now world on.0 run answers on.1)
  where
    go : (on.0 ≡ world) ⊎ IsInEvent now world run answers on.0 → IsOfReplay disk now side world run answers c
    go (inl is) = inr (inl (subst (λ (w : World). Reads true (image_of side w) c) is on.2))
    go (inr inside) = inr (inr (record { way = on.0; inside = inside; reads = on.2 }))

module _ (now : ℕ) (here here' : DiskState) (tells : Bool) (there there' : DiskState) (others : Bool) (input input' : SourceState) (out out' : SinkState) (result : Result (Unit {0}) Refusal)
    (pool other : Pool) (ran : IsReplayed now here here' tells there there' others input input' out out' result) (of : IsOfPools now here here' tells there there' others pool other)
  where
    abbrev start_world : World
    start_world = opened pool other

    over : RunsOver now here here' there there' start_world ran.events ran.answers
    over = ran.pools pool other of.here_honest of.there_honest of.here_tells of.there_tells of.here_reads of.there_reads

    -- the pools that the images read as are a lawful world, for which the events of the script are fit
    stands : IsWorld start_world
    stands = new_is_world pool other

    lawful : OpenedAreLawful → IsLawfulWorld start_world
    lawful law = law pool other of.here_reads.2.described.lawful of.there_reads.2.described.lawful

    fit : ScriptsAreFit → AreFit ran.events
    fit law = let said = are_said ran.text ran.events ran.answers input input' result ran.script in law said.number said.lines ran.events said.end said.says

    split_here : ReplaysSplit → (front rest : List Event) (event : Event) → ran.events ≡ front ++ event ∷ rest → SplitsAt now start_world front event rest ran.answers over.last
    split_here law front rest event is = law now start_world over.last front rest event ran.answers (subst (λ (es : List Event). Replay now start_world es ran.answers over.last) is over.runs)

    moments_of : WaysAreInEvents → (side : Side) (disk disk' : DiskState) → Leaves disk disk' (StoodOrReads disk now side start_world ran.events ran.answers)
        → Leaves disk disk' (IsOfReplay disk now side start_world ran.events ran.answers)
    moments_of ways side disk disk' leaves =
        Leaves-weaker disk disk' (StoodOrReads disk now side start_world ran.events ran.answers) (IsOfReplay disk now side start_world ran.events ran.answers) leaves
        (of_replay ways disk now side start_world ran.events ran.answers)

-- ---- the laws

pub replays_by_events : ReplaysSplit → WaysAreInEvents → (here here' : DiskState) (tells : Bool) (there there' : DiskState) (others : Bool) → ReplaysRunByEvents here here' tells there there' others
replays_by_events splits ways here here' tells there there' others now input input' out out' result pool other ran of =
    let r = over now here here' tells there there' others input input' out out' result pool other ran of in
    let world = opened pool other in
    let moments = moments_of now here here' tells there there' others input input' out out' result pool other ran of ways in
    record {
      last = r.last;
      runs = r.runs;
      splits = split_here now here here' tells there there' others input input' out out' result pool other ran of splits;
      here_moments = moments Here here here' r.here_moments;
      there_moments = moments There there there' r.there_moments;
      here_images = λ c image. of_replay ways here now Here world ran.events ran.answers c (r.here_images c image);
      there_images = λ c image. of_replay ways there now There world ran.events ran.answers c (r.there_images c image);
      here_left = r.here_left;
      there_left = r.there_left;
    }

pub feeds_progress : OpenedAreLawful → ScriptsAreFit → ReplayedPumpsAreProgress → (here here' : DiskState) (tells : Bool) (there there' : DiskState) (others : Bool)
    → ReplayedFeedsAreProgress here here' tells there there' others
feeds_progress opens scripts law here here' tells there there' others now input input' out out' result pool other sent also start course front rest told sends id count before receive ran of =
    law sent also start course now (opened pool other) before ran.events front rest told sends id count receive of.time
    (stands now here here' tells there there' others input input' out out' result pool other ran of)
    (lawful now here here' tells there there' others input input' out out' result pool other ran of opens)
    (fit now here here' tells there there' others input input' out out' result pool other ran of scripts)

pub feeds_complete : OpenedAreLawful → ScriptsAreFit → ReplayedPumpsComplete → (here here' : DiskState) (tells : Bool) (there there' : DiskState) (others : Bool)
    → ReplayedFeedsComplete here here' tells there there' others
feeds_complete opens scripts law here here' tells there there' others now input input' out out' result pool other sent also start course front rest told sends id count before after receive
    lines made partial ran of =
    law sent also start course now (opened pool other) before after ran.events front rest told sends id count receive lines made partial of.time
    (stands now here here' tells there there' others input input' out out' result pool other ran of)
    (lawful now here here' tells there there' others input input' out out' result pool other ran of opens)
    (fit now here here' tells there there' others input input' out out' result pool other ran of scripts)
