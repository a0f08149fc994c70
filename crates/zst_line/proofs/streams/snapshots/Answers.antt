use Rattle.std.proofs.Common.{◌<◌, [], map, length, string_bytes, arith}
use Rattle.std.proofs.lemmas.List.{get_or-map, length-map, take_more}
use Rattle.std.proofs.lemmas.List.Elements.{All-get_or}
use Rattle.zst_line.specs.Grammar.{snapshot}
use Rattle.zst_line.specs.WordFaults.{Takes}
use Rattle.zst_line.specs.declared.word_slot.WordSlot.TheVariants as slots
use Rattle.zst_line.proofs.WordWalk.{word_here}
use Rattle.zst_line.proofs.streams.snapshots.Goals as goal

pub snapshot-requires : goal.snapshot-requires
snapshot-requires c =
    let at = c.loop-word.word-index in
    let h : at < length c.args.words.now = c.loop-word-test.true in
    let long = length-map c.args.words.now string_bytes in
    let fits = All-get_or (Takes (slots.Name snapshot)) (map string_bytes c.args.words.now) at [] (omega (arith, long)) c.requires in
    let here = get_or-map string_bytes c.args.words.now at c.word-item.result [] h in
    rw (here, ← c.word-item.is, ← c.as_str.ensures.value) at fits

pub loop-word-preserved : goal.loop-word-preserved
loop-word-preserved c =
    let at = c.loop-word.word-index in
    let h : at < length (map string_bytes c.args.words.now) = simp length-map c.loop-word-test.true in
    let more = take_more (map string_bytes c.args.words.now) at [] h in
    let here = word_here c.args.words.now at c.word-item.result c.loop-word-test.true in
    let pushed = c.in_ok-push.ensures.items in
    let was = c.loop-word.invariant in
    let is = c.word-item.is in
    let text = c.as_str.ensures.value in
    let name = c.snapshot.ensures.same in
    cc
