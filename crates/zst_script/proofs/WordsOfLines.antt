-- What a line says, by its words.
use Rattle.std.proofs.Common.{ℕ, ◌≤◌, IsUtf8, List, length, Option, Some, None}
use Rattle.zst_script.specs.EventWords.{WordsSay}
use Rattle.zst_script.specs.Lines.{longest_line, words_of}
use Rattle.zst_script.specs.Scripts.{SaysOf}
use Rattle.zst_script.specs.declared.event.Event.{Event}

pub line_says : (line : List ℕ) (event : Option Event) → length line ≤ longest_line → IsUtf8 line → WordsSay (words_of line) event → SaysOf line event
line_says line None short text says = λ event said. says event said.says
line_says line (Some event) short text says = record { short = short; text = text; says = says }
