-- A line that words say has its values in their ranges.
use Rattle.std.proofs.Common.{ℕ, List}
use Rattle.zst_line.specs.WordFaults.{IsLine}
use Rattle.zst_line.specs.Line.{LineIs}
use Rattle.zst_line.specs.declared.line.Line.{Line}
use Rattle.zst_line.specs.declared.line.Line.TheVariants.{Dump, Create, Step, Send, Resume, Receive, Token, Check, Gen, Replay}
use Rattle.zst_script.proofs.LineNames.{names_fit}
use Rattle.zst_run.specs.LineEffects.{IsInRange}

pub in_range : (line : Line) (words : List (List ℕ)) → IsLine words → LineIs line words → IsInRange line
in_range Dump words said is = tt
in_range (Create image sectors id) words said is = is.1
in_range (Step image command) words said is = is.1
in_range (Send image from redacts snapshot) words said is = names_fit (Send image from redacts snapshot) words (said, is)
in_range (Resume image token) words said is = tt
in_range (Receive image keeps forces origin target) words said is = names_fit (Receive image keeps forces origin target) words (said, is)
in_range (Token image dataset) words said is = tt
in_range (Check image) words said is = tt
in_range (Gen image steps) words said is = (is.1, is.2)
in_range (Replay here there) words said is = tt
