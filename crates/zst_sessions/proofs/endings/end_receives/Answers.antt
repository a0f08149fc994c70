use Rattle.std.proofs.Common.{rules, not}
use Rattle.std.proofs.lemmas.Fn.{filter_same}
use Rattle.zst_sessions.specs.World.{is_side}
use Rattle.zst_sessions.specs.declared.open_sessions.OpenReceive.{OpenReceive}
use Rattle.zst_sessions.proofs.endings.end_receives.Goals as goal

pub returns : goal.returns
returns c = filter_same _ (λ (one : OpenReceive). not (is_side one.side c.args.side)) _ (λ x b f' k. search rules) _ _ c.retain.ensures.filtered
