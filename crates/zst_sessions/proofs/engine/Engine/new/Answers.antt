use Rattle.std.proofs.Common.{true, List, [], refl, sym, subst}
use Rattle.zst_sessions.proofs.OpenedPools.{none_fit, pools_opened}
use Rattle.zst_sessions.specs.EngineSteps.{kept_pool}
use Rattle.zst_sessions.specs.Engines.{Stands}
use Rattle.zst_sessions.specs.Replay.{opened}
use Rattle.zst_sessions.specs.declared.open_sessions.OpenReceive.{OpenReceive}
use Rattle.zst_sessions.specs.declared.open_sessions.OpenSend.{OpenSend}
use Rattle.zst_sessions.proofs.engine.Engine.new.Goals as goal

pub returns-clause-fits : goal.returns-clause-fits
returns-clause-fits g c = record {
  sessions = none_fit (kept_pool c.args.here) (kept_pool c.args.there) c.args.room.sends.items c.args.room.receives.items c.requires.room.sends c.requires.room.receives c.requires.here c.requires.there;
  room = c.requires.room.piece;
}

pub returns-clause-stands : goal.returns-clause-stands
returns-clause-stands g c = λ running elsewhere works rested also rests.
    let here = kept_pool c.args.here in
    let there = kept_pool c.args.there in
    subst (λ (sends : List OpenSend). Stands true here there sends c.args.room.receives.items (opened running elsewhere)) (sym c.requires.room.sends)
    (subst (λ (receives : List OpenReceive). Stands true here there [] receives (opened running elsewhere)) (sym c.requires.room.receives)
    (pools_opened here there running elsewhere works c.requires.here rested also c.requires.there rests))

pub returns-clause-begins : goal.returns-clause-begins
returns-clause-begins g c = record { here_is = refl; there_is = refl; time = refl; sends = c.requires.room.sends; receives = c.requires.room.receives }
