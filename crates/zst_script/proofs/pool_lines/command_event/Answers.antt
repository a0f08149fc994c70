use Rattle.std.proofs.Common.{◌∷◌, map, string_bytes, ap, ◌∙◌}
use Rattle.zst_script.specs.EventWords.{event_of_command_line}
use Rattle.zst_script.specs.Lines.{word_for}
use Rattle.zst_script.proofs.LineEvents.{answered, read_command, unanswered}
use Rattle.zst_script.proofs.pool_lines.command_event.Goals as goal

pub returns-in-Some : goal.returns-in-Some
returns-in-Some c =
    let words = map string_bytes c.args.words.items in
    let put = map string_bytes c.as_slice.result.now in
    let read = read_command c.args.side words put (string_bytes c.args.image) c.requires.image c.requires.command (ap (map string_bytes) c.as_slice.ensures.value ∙ c.in_ok-words.ensures) in
    answered (word_for c.args.side ∷ words) put (event_of_command_line c.args.side) c.in-Some.line c.event_of_command_line.result read (rw c.in-Some.is at c.in_ok-line.ensures.line) c.event_of_command_line.ensures

pub returns : goal.returns
returns c =
    let words = map string_bytes c.args.words.items in
    let put = map string_bytes c.as_slice.result.now in
    let read = read_command c.args.side words put (string_bytes c.args.image) c.requires.image c.requires.command (ap (map string_bytes) c.as_slice.ensures.value ∙ c.in_ok-words.ensures) in
    unanswered (word_for c.args.side ∷ words) put (event_of_command_line c.args.side) read (rw c.in-None.is at c.in_ok-line.ensures.line)
