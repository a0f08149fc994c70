-- Pumps of a replay of two lawful pools.
use Rattle.std.proofs.Common.{◌≡◌, inl, ℕ, suc, ◌^◌, ◌<◌, List, [], ◌∷◌, ◌++◌, Option, refl, ap, ◌∙◌, subst, append_assoc}
use Rattle.std.proofs.lemmas.List.Elements.{All-cons, All-nil}
use Rattle.zst_model.specs.declared.sends.header.Point.{Point}
use Rattle.zst_model.specs.pools.Pool.{Pool}
use Rattle.zst_model.specs.sends.Headers.{Sent, sent_view}
use Rattle.zst_replication.specs.Outcomes.{Course, Progress}
use Rattle.zst_replication.proofs.StoppedReceives.{start_untouched}
use Rattle.zst_script.specs.Lines.{words_of}
use Rattle.zst_script.specs.Scripts.{Event', Nothing, Passes, Stops}
use Rattle.zst_script.specs.declared.event.Event.{Event}
use Rattle.zst_script.specs.declared.event.Event.TheVariants as events
use Rattle.zst_sessions.specs.Lawfulness.{IsWorld, MovesKeepWorlds}
use Rattle.zst_sessions.specs.Moves.{Answer}
use Rattle.zst_sessions.specs.Replay.{GoesOn, Moves, Replay, Stays, image_of}
use Rattle.zst_sessions.specs.World.{OpenReceive, World, at_side}
use Rattle.zst_interleaving.specs.FedReplays.{IsFedWith, ReplayedPumpsAreProgress, ReplayedPumpsComplete, ScriptsAreFit}
use Rattle.zst_interleaving.specs.LawfulRuns.{LawfulRunsAreProgress, LawfulRunsComplete}
use Rattle.zst_interleaving.specs.LawfulWorlds.{AreFit, IsFitFor, IsLawfulWorld, LinesAreFit, ReplaysKeepLawful}
use Rattle.zst_interleaving.proofs.FitRuns.{front_fit, rest_fit}
use Rattle.zst_interleaving.proofs.SplitReplays.{on_its_way}

-- ---- what lines say

pub scripts_fit : LinesAreFit → ScriptsAreFit
scripts_fit fit _ _ _ _ (Nothing number) = All-nil IsFitFor
scripts_fit fit _ _ _ _ (Passes number line lines run end passed says) = scripts_fit fit (suc number) lines run end says
scripts_fit fit _ _ _ _ (Event' number line lines one run end kept says more) =
    All-cons IsFitFor one run (fit one (words_of line) says.says) (scripts_fit fit (suc number) lines run end more)
scripts_fit fit _ _ _ _ (Stops number line lines kept none) = All-nil IsFitFor

-- ---- where the events before lead

-- a lawful world
record Reaches (world : World) : Type 0 where
  stands : IsWorld world
  lawful : IsLawfulWorld world

module _ (worlds : MovesKeepWorlds) (law : ReplaysKeepLawful) (now : ℕ) (fits : now < 2 ^ 64) where
  worlds_on : (world last : World) (es : List Event) (told : List Answer) → Replay now world es told last → IsWorld world → IsWorld last
  worlds_on _ _ _ _ (Stays world) stands = stands
  worlds_on _ _ _ _ (GoesOn world next last event answer es told goes on) stands = worlds_on next last es told on (worlds now world next event answer goes stands)

  reach : (world last : World) (es : List Event) (told : List Answer) → Replay now world es told last → AreFit es → IsWorld world → IsLawfulWorld world → Reaches last
  reach world last es told on fit stands is = record { stands = worlds_on world last es told on stands; lawful = law now world last es told fits stands is fit on }

  module _ (sent also : Sent) (start : Option Point) (course : Course) (world before : World) (run front rest : List Event) (told : List Answer) (id : ℕ) (receive : OpenReceive)
      (stands : IsWorld world) (is : IsLawfulWorld world) (fit : AreFit run) (split : run ≡ front ++ rest) (fed : IsFedWith sent also start course now id world front told before receive)
    where
      -- those events that lead to where the receive was opened, and those behind it
      firsts : AreFit fed.first
      firsts = front_fit fed.first (fed.since ++ rest) (subst AreFit (split ∙ ap (λ (es : List Event). es ++ rest) fed.run_is ∙ append_assoc fed.first fed.since rest) fit)

      others : AreFit fed.since
      others = front_fit fed.since rest (rest_fit fed.first (fed.since ++ rest) (subst AreFit (split ∙ ap (λ (es : List Event). es ++ rest) fed.run_is ∙ append_assoc fed.first fed.since rest) fit))

      -- where it was opened
      opens_in : Reaches fed.opening
      opens_in = reach world fed.opening fed.first fed.told fed.leads firsts stands is

-- ---- the laws

pub pumps_progress : MovesKeepWorlds → ReplaysKeepLawful → LawfulRunsAreProgress → ReplayedPumpsAreProgress
pumps_progress worlds keeps law sent also start course now world before run front rest told sends id count receive fits stands is fit split fed next = record {
  behind = on;
  meanwhile = λ said way goes. on_its_way Progressed now pump before way (pump ∷ []) said goes refl (inl (start_untouched receive.ask pool pool refl)) on;
}
  where
    pump : Event
    pump = events.Pump sends id count

    pool : Pool
    pool = (at_side receive.side before).pool

    Progressed : World → Type 0
    Progressed way = Progress receive.ask (sent_view sent) course (image_of receive.side before) (image_of receive.side way)

    on : (answer : Answer) (after : World) → Moves now before pump answer after → Progressed after
    on answer after goes =
        let there = opens_in worlds keeps now fits sent also start course world before run front (pump ∷ rest) told id receive stands is fit split fed in
        let events_fit = others worlds keeps now fits sent also start course world before run front (pump ∷ rest) told id receive stands is fit split fed in
        (law sent also start course now id fed.opening before after fed.opened_one receive fed.since fed.more sends count next.send answer fits there.stands there.lawful events_fit
        fed.is_opened fed.fed next.there next.front next.may goes).0

pub pumps_complete : MovesKeepWorlds → ReplaysKeepLawful → LawfulRunsComplete → ReplayedPumpsComplete
pumps_complete worlds keeps law sent also start course now world before after run front rest told sends id count receive lines pool partial fits stands is fit split fed next base goes e =
    let pump = events.Pump sends id count in
    let there = opens_in worlds keeps now fits sent also start course world before run front (pump ∷ rest) told id receive stands is fit split fed in
    let events_fit = others worlds keeps now fits sent also start course world before run front (pump ∷ rest) told id receive stands is fit split fed in
    law sent also start course now id fed.opening before after fed.opened_one receive fed.since fed.more sends count next.send lines pool partial fits there.stands there.lawful events_fit
    fed.is_opened fed.fed next.there next.front next.may base goes e
