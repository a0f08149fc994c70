use Rattle.std.proofs.Common.{refl, sym}
use Rattle.zst_sessions.specs.Openings.{IsRefused}
use Rattle.zst_sessions.proofs.engine.Engine.add_send.Goals as goal

pub returns-in-Some-clause-adds : goal.returns-in-Some-clause-adds
returns-in-Some-clause-adds g c = IsRefused c.in-Some.refusal (sym c.in-Some.ensures) refl refl
