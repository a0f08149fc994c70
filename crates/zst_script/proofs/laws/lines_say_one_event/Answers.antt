use Rattle.zst_script.proofs.OneEvent.{line_says_one}
use Rattle.zst_script.proofs.laws.lines_say_one_event.Goals as goal

pub returns : goal.returns
returns c = line_says_one
