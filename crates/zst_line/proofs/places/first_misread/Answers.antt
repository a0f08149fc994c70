use Rattle.std.proofs.Common.{◌≡◌, ◌<◌, map, length, string_bytes, arith}
use Rattle.std.proofs.lemmas.List.{length-map}
use Rattle.zst_line.specs.Grammar.{word_at}
use Rattle.zst_line.proofs.WordWalk.{word_here, named_next, misread_here}
use Rattle.zst_line.proofs.places.first_misread.Goals as goal

pub returns-in-Some : goal.returns-in-Some
returns-in-Some c =
    let words = map string_bytes c.args.words.now in
    let at = c.loop-index.index in
    let count = c.requires in
    let test = c.loop-index-test.true in
    let there : at < length c.args.words.now = omega arith in
    let here = word_here c.args.words.now at c.index-words-index.result there in
    let is = c.index-words-index.is in
    let value = c.as_str.ensures.value in
    let text : word_at words at ≡ c.as_str.result.now = cc in
    misread_here c.args.slots.now words at c.in-Some.fault test (simp length-map there) (rw text c.in-Some.ensures) c.loop-index.invariant

pub loop-index-preserved : goal.loop-index-preserved
loop-index-preserved c =
    let words = map string_bytes c.args.words.now in
    let at = c.loop-index.index in
    let count = c.requires in
    let test = c.loop-index-test.true in
    let there : at < length c.args.words.now = omega arith in
    let here = word_here c.args.words.now at c.index-words-index.result there in
    let is = c.index-words-index.is in
    let value = c.as_str.ensures.value in
    let text : word_at words at ≡ c.as_str.result.now = cc in
    named_next c.args.slots.now words at test (simp length-map there) (rw text c.in_default.ensures) c.loop-index.invariant
