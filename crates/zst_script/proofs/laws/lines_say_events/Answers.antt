use Rattle.zst_script.proofs.LineExamples.{images_stand, lines_refused, pools_said, sessions_said}
use Rattle.zst_script.proofs.laws.lines_say_events.Goals as goal

pub returns : goal.returns
returns c = record { sessions = sessions_said; images = images_stand; pools = pools_said; refused = lines_refused }
