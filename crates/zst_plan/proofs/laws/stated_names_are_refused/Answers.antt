use Rattle.zst_plan.proofs.RefusedStreams.{name_stops, name_has_no_mark}
use Rattle.zst_plan.proofs.laws.stated_names_are_refused.Goals as goal

pub returns : goal.returns
returns c = record { stops = name_stops; unmarked = name_has_no_mark }
