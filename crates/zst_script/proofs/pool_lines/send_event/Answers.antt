use Rattle.std.proofs.Common.{◌∷◌, map, string_bytes, codes, ap, ◌∙◌}
use Rattle.zst_script.specs.EventWords.{event_of_send_line}
use Rattle.zst_script.specs.Lines.{word_for}
use Rattle.zst_script.proofs.LineEvents.{answered, read_with_id, sends_are_read, unanswered}
use Rattle.zst_script.proofs.pool_lines.send_event.Goals as goal

pub returns-in-Some-2 : goal.returns-in-Some-2
returns-in-Some-2 c =
    let side = c.args.side in
    let words = map string_bytes c.args.words.items in
    let put = map string_bytes c.as_slice.result.now in
    let read = read_with_id side (codes "send") words (map string_bytes c.take_id.new.words.items) put (string_bytes c.args.image) c.in-Some.send (event_of_send_line side c.in-Some.send) (sends_are_read side c.in-Some.send)
    c.requires.image c.requires.verb c.in-Some.ensures (ap (map string_bytes) c.as_slice.ensures.value ∙ c.in_ok-words.ensures) in
    answered (word_for side ∷ words) put (event_of_send_line side c.in-Some.send) c.in-Some-2.line c.event_of_send_line.result read (rw c.in-Some-2.is at c.in_ok-line.ensures.line) c.event_of_send_line.ensures

pub returns : goal.returns
returns c =
    let side = c.args.side in
    let words = map string_bytes c.args.words.items in
    let put = map string_bytes c.as_slice.result.now in
    let read = read_with_id side (codes "send") words (map string_bytes c.take_id.new.words.items) put (string_bytes c.args.image) c.in-Some.send (event_of_send_line side c.in-Some.send) (sends_are_read side c.in-Some.send)
    c.requires.image c.requires.verb c.in-Some.ensures (ap (map string_bytes) c.as_slice.ensures.value ∙ c.in_ok-words.ensures) in
    unanswered (word_for side ∷ words) put (event_of_send_line side c.in-Some.send) read (rw c.in-None.is at c.in_ok-line.ensures.line)
