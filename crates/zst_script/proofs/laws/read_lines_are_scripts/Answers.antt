use Rattle.std.proofs.Common.{arith}
use Rattle.zst_script.proofs.ReadScripts.{reads_all, stops_at_limit, stops_at_line}
use Rattle.zst_script.proofs.laws.read_lines_are_scripts.Goals as goal

pub returns-clause-whole : goal.returns-clause-whole
returns-clause-whole c = reads_all

pub returns-clause-misread : goal.returns-clause-misread
returns-clause-misread c = stops_at_line

pub returns-clause-too_long : goal.returns-clause-too_long
returns-clause-too_long c = stops_at_limit

pub returns-clause-long : goal.returns-clause-long
returns-clause-long c = λ line long event says. let short = says.short in omega arith
