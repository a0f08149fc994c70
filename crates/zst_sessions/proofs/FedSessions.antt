-- What is kept of the sessions stays in its ranges where a receive is fed.
use Rattle.std.proofs.Common.{◌≡◌, ◌≢◌, inl, inr, ◌<◌, ◌++◌, ℕ, Bool, true, false, List, length, get_or, Result, refl, sym, ap, ◌∙◌, subst}
use Rattle.std.specs.List.{All, remove}
use Rattle.std.proofs.lemmas.List.Elements.{All-get_or}
use Rattle.zst_plan.specs.declared.receive.RecvAsk.{RecvAsk}
use Rattle.zst_recv.specs.Answers.{goes_on}
use Rattle.zst_recv.specs.GoingOn.{FittingReceive, IsRow}
use Rattle.zst_recv.specs.Stages.{ask_of, stage_of}
use Rattle.zst_recv.specs.declared.fault.RecvFault.{RecvFault}
use Rattle.zst_recv.specs.declared.recv.FeedReport.{FeedReport}
use Rattle.zst_recv.specs.declared.recv.Recv.{Recv}
use Rattle.zst_script.specs.declared.event.Side.{Side}
use Rattle.zst_script.specs.declared.event.Side.TheVariants.{Here, There}
use Rattle.zst_sessions.proofs.Beside.{sessions_fit_beside}
use Rattle.zst_sessions.proofs.ChangedMatches.{All-others, All-remove, All-settled, AllPairs-remove, AllPairs-settled}
use Rattle.zst_sessions.specs.EngineSteps.{ReceiveFits, SessionsFit, here_with, target_of, there_with}
use Rattle.zst_sessions.specs.Engines.{Kept, kept_at}
use Rattle.zst_sessions.specs.FullPools.{WasFed}
use Rattle.zst_sessions.specs.Pumps.{FeedsKept, settled}
use Rattle.zst_sessions.specs.declared.open_sessions.OpenReceive.{OpenReceive}
use Rattle.zst_sessions.specs.declared.open_sessions.OpenSend.{OpenSend}

-- what holds of what is kept of the changed side holds of it on its side
own_side : (Q : Kept → Type 0) (side : Side) (here there new : Kept) → Q new → Q (kept_at side (here_with side new here) (there_with side new there))
own_side Q Here here there new is = is
own_side Q There here there new is = is

module _ (fitting : FittingReceive) (here there new : Kept) (sends : List OpenSend) (coded : List OpenReceive) (place : ℕ) (one : OpenReceive) (after : Recv) (piece : List ℕ) (fed : Result FeedReport RecvFault)
    (fits : SessionsFit here there sends coded) (below : place < length coded) (is_there : get_or coded place one ≡ one) (feeds : FeedsKept (kept_at one.side here there) new one.recv after piece fed)
    (reads : (text : List ℕ) → WasFed one.recv text → goes_on fed ≡ true → WasFed after (text ++ piece)) where
  abbrev Apart : OpenReceive → OpenReceive → Type 0
  Apart a b = a.side ≡ b.side → target_of a ≢ target_of b

  abbrev Fits : OpenReceive → Type 0
  Fits r = ReceiveFits (kept_at r.side here there).state.dir r

  abbrev FitsNow : OpenReceive → Type 0
  FitsNow r = ReceiveFits (kept_at r.side (here_with one.side new here) (there_with one.side new there)).state.dir r

  -- the others into its pool have other targets
  others : All (λ r. r.side ≡ one.side → ¬ (target_of r ≡ (ask_of one.recv).target)) (remove coded place)
  others k d lt = elim (All-others Apart coded place one below fits.targets k d lt) [
    | inl before ↦ (λ sides same. before (ap (λ (r : OpenReceive). r.side) is_there ∙ sym sides) (ap (λ (r : OpenReceive). target_of r) is_there ∙ sym same))
    | inr behind ↦ (λ sides same. behind (sides ∙ sym (ap (λ (r : OpenReceive). r.side) is_there)) (same ∙ sym (ap (λ (r : OpenReceive). target_of r) is_there)))
  ]

  -- so they fit on
  rest : SessionsFit (here_with one.side new here) (there_with one.side new there) sends (remove coded place)
  rest = sessions_fit_beside fitting one.side (λ target. target ≡ (ask_of one.recv).target) here there new sends (remove coded place) feeds.keeps.leaves others (record {
    here_ready = fits.here_ready;
    there_ready = fits.there_ready;
    sends_fit = fits.sends_fit;
    receives_fit = All-remove Fits coded place fits.receives_fit;
    targets = AllPairs-remove Apart coded place fits.targets;
  })

  was : Fits one
  was = subst Fits is_there (All-get_or Fits coded place one below fits.receives_fit)

  -- and so does the one that was fed, where it goes on
  fits_now : goes_on fed ≡ true → FitsNow (record one { recv = after })
  fits_now on =
      own_side (λ k. ReceiveFits k.state.dir (record one { recv = after })) one.side here there new (record {
        live = feeds.receive.live ∙ on;
        fits = feeds.receive.fits;
        row = subst (λ (a : RecvAsk). IsRow new.state.dir a.target (stage_of after)) (sym feeds.receive.ask) (feeds.own on was.row);
        fed = (was.fed.0 ++ piece, reads was.fed.0 was.fed.1 on);
      })

  by_end : (goes : Bool) → goes_on fed ≡ goes → SessionsFit (here_with one.side new here) (there_with one.side new there) sends (settled goes place (record one { recv = after }) coded)
  by_end false on = rest
  by_end true on = record {
    here_ready = rest.here_ready;
    there_ready = rest.there_ready;
    sends_fit = rest.sends_fit;
    receives_fit = All-settled FitsNow coded place (record one { recv = after }) rest.receives_fit (fits_now on);
    targets = AllPairs-settled Apart coded place one (record one { recv = after })
        (λ r apart sides same. apart (ap (λ (o : OpenReceive). o.side) is_there ∙ sides) (ap (λ (o : OpenReceive). target_of o) is_there ∙ sym asked ∙ same))
        (λ r apart sides same. apart (sides ∙ sym (ap (λ (o : OpenReceive). o.side) is_there)) (same ∙ asked ∙ sym (ap (λ (o : OpenReceive). target_of o) is_there))) fits.targets;
  }
    where
      asked : (ask_of after).target ≡ (ask_of one.recv).target
      asked = ap (λ (a : RecvAsk). a.target) feeds.receive.ask

  pub fed_fit : SessionsFit (here_with one.side new here) (there_with one.side new there) sends (settled (goes_on fed) place (record one { recv = after }) coded)
  fed_fit = by_end (goes_on fed) refl
