use Rattle.zst_script.proofs.LineSplits.{lines_end}
use Rattle.zst_script.proofs.ReadLines.{go_on}
use Rattle.zst_script.proofs.laws.scripts_go_on.Goals as goal

pub returns : goal.returns
returns c = record { lines = lines_end; events = go_on }
