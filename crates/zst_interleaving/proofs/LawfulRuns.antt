-- Every interleaving of two pools that were lawful when it began.
use Rattle.std.proofs.Common.{ℕ, ◌^◌, ◌<◌, List, Option}
use Rattle.std.proofs.lemmas.List.Elements.{All-head, All-tail}
use Rattle.zst_model.specs.declared.sends.header.Point.{Point}
use Rattle.zst_model.specs.sends.Headers.{Sent}
use Rattle.zst_replication.specs.Outcomes.{Course}
use Rattle.zst_script.specs.declared.event.Event.{Event}
use Rattle.zst_script.specs.declared.event.Event.TheVariants as events
use Rattle.zst_sessions.specs.Lawfulness.{IsWorld, MovesKeepWorlds}
use Rattle.zst_sessions.specs.Moves.{Answer}
use Rattle.zst_sessions.specs.World.{OpenReceive, World}
use Rattle.zst_interleaving.specs.Events.{IsFedAlong, PassedBy, Pumped, Ready, RunsAreProgress, RunsComplete}
use Rattle.zst_interleaving.specs.LawfulRuns.{Feeds, IsFedBy, LawfulRunsAreProgress, LawfulRunsComplete, Opens, Passes, RunsFindLawful}
use Rattle.zst_interleaving.specs.LawfulWorlds.{AreFit, IsFitFor, IsLawfulWorld, MovesKeepLawful}
use Rattle.zst_interleaving.proofs.LawfulMoves.{pool_at}

module _ (worlds : MovesKeepWorlds) (moves : MovesKeepLawful) (sent also : Sent) (start : Option Point) (course : Course) (now id : ℕ) (fits : now < 2 ^ 64) where
  finds : (world last : World) (receive then : OpenReceive) (es : List Event) (told : List Answer) → IsFedBy sent also start course now id world receive es told last then
      → AreFit es → IsWorld world → IsLawfulWorld world → IsFedAlong sent also start course now id world receive es told last then × IsLawfulWorld last
  finds _ _ _ _ _ _ (Opens world receive found) fit stands is = (Ready world receive found, is)
  finds _ _ _ _ _ _ (Passes world next last receive then event answer es told found goes rest) fit stands is =
      let more = finds next last receive then es told rest (All-tail IsFitFor event es fit) (worlds now world next event answer goes stands)
      (moves now world next event answer fits stands (All-head IsFitFor event es fit) goes is) in
      (PassedBy world next last receive then event answer es told found goes more.0, more.1)
  finds _ _ _ _ _ _ (Feeds world next last receive further then sends count send answer es told found sending front may goes rest) fit stands is =
      let pump = events.Pump sends id count in
      let more = finds next last further then es told rest (All-tail IsFitFor pump es fit) (worlds now world next pump answer goes stands)
      (moves now world next pump answer fits stands (All-head IsFitFor pump es fit) goes is) in
      (Pumped world next last receive further then sends count send answer es told found sending (pool_at world receive.side is) front may goes more.0, more.1)

pub runs_find : MovesKeepWorlds → MovesKeepLawful → RunsFindLawful
runs_find worlds moves sent also start course now id world last receive then es told fits stands is fit run =
    finds worlds moves sent also start course now id fits world last receive then es told run fit stands is

pub lawful_progress : RunsFindLawful → RunsAreProgress → LawfulRunsAreProgress
lawful_progress find progress sent also start course now id world last next receive then es told sends count send answer fits stands is fit opened run sending front may goes =
    let more = find sent also start course now id world last receive then es told fits stands is fit run in
    progress sent also start course now id world last next receive then es told sends count send answer stands opened more.0 sending (pool_at last then.side more.1) front may goes

pub lawful_complete : RunsFindLawful → RunsComplete → LawfulRunsComplete
lawful_complete find complete sent also start course now id world last next receive then es told sends count send lines pool partial fits stands is fit opened run sending front may base goes e =
    let more = find sent also start course now id world last receive then es told fits stands is fit run in
    complete sent also start course now id world last next receive then es told sends count send lines pool partial stands opened more.0 sending (pool_at last then.side more.1) front may base goes e
