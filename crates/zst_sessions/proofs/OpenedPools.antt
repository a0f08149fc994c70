-- Two pools that were just opened, and no session.
use Rattle.std.proofs.Common.{◌≡◌, ◌≢◌, true, false, List, [], sym, ◌∙◌, subst}
use Rattle.std.proofs.lemmas.List.Elements.{All-nil}
use Rattle.zst_image.specs.Commits.{Ready}
use Rattle.zst_model.proofs.InsertedLaws.{AllPairs-nil}
use Rattle.zst_model.specs.pools.Pool.{Pool}
use Rattle.zst_pool.specs.Calls.{IsAtRest}
use Rattle.zst_send.specs.Sends.{SendFits}
use Rattle.zst_sessions.specs.EngineSteps.{ReceiveFits, SessionsFit, target_of}
use Rattle.zst_sessions.specs.Engines.{Kept, PoolStands, Stands, kept_at}
use Rattle.zst_sessions.specs.Lawfulness.{IsStanding}
use Rattle.zst_sessions.specs.Replay.{opened}
use Rattle.zst_sessions.specs.World.{OpenReceive, OpenSend, at_side}
use Rattle.zst_sessions.specs.declared.open_sessions.OpenReceive as kept_receives
use Rattle.zst_sessions.specs.declared.open_sessions.OpenSend as kept_sends

-- a pool at rest whose disk hasn't failed stands for the pool that runs
pool_opened : (kept : Kept) (running : Pool) → kept.failed ≡ false → (kept.failed ≡ false → Ready kept.disk kept.state.body) → IsAtRest true kept.disk kept.state running
    → PoolStands true kept (record { pool = running; failed = false })
pool_opened kept running works ready rested = record {
  mark = works;
  rests = λ w. rested;
  ready = ready;
  lost = λ fell. absurd (let both : true ≡ false = sym fell ∙ works in cc);
}

-- so both stand for the world that begins with them
pub pools_opened : (here there : Kept) (running elsewhere : Pool) → here.failed ≡ false → (here.failed ≡ false → Ready here.disk here.state.body) → IsAtRest true here.disk here.state running
    → there.failed ≡ false → (there.failed ≡ false → Ready there.disk there.state.body) → IsAtRest true there.disk there.state elsewhere → Stands true here there [] [] (opened running elsewhere)
pools_opened here there running elsewhere works ready rested also too rests = record {
  here_stands = pool_opened here running works ready rested;
  there_stands = pool_opened there elsewhere also too rests;
  send_stands = tt;
  receive_stands = tt;
  lawful = record {
    sends = AllPairs-nil (λ (a b : OpenSend). a.id ≢ b.id);
    receives = AllPairs-nil (λ (a b : OpenReceive). a.id ≢ b.id);
    targets = AllPairs-nil (λ (a b : OpenReceive). a.side ≡ b.side → a.ask.target ≢ b.ask.target);
    standing = All-nil (λ (r : OpenReceive). IsStanding r.ask r.stage (at_side r.side (opened running elsewhere)).pool);
  };
}

-- and what is kept of no session is in its ranges
pub none_fit : (here there : Kept) (sends : List kept_sends.OpenSend) (receives : List kept_receives.OpenReceive) → sends ≡ [] → receives ≡ [] → (here.failed ≡ false → Ready here.disk here.state.body)
    → (there.failed ≡ false → Ready there.disk there.state.body) → SessionsFit here there sends receives
none_fit here there sends receives no_send no_receive ready too =
    subst (λ (s : List kept_sends.OpenSend). SessionsFit here there s receives) (sym no_send) (subst (λ (r : List kept_receives.OpenReceive). SessionsFit here there [] r) (sym no_receive) (record {
      here_ready = ready;
      there_ready = too;
      sends_fit = All-nil (λ (one : kept_sends.OpenSend). SendFits one.send);
      receives_fit = All-nil (λ (one : kept_receives.OpenReceive). ReceiveFits (kept_at one.side here there).state.dir one);
      targets = AllPairs-nil (λ (a b : kept_receives.OpenReceive). a.side ≡ b.side → target_of a ≢ target_of b);
    }))
