use Rattle.std.proofs.Common.{◌≡◌, ◌+◌, ◌-◌, true, false, length, map, drop, string_bytes, sym, ◌∙◌, arith, length-drop}
use Rattle.std.proofs.lemmas.List.{length-map, take_all, drop-map}
use Rattle.zst_line.specs.Grammar.{word_at}
use Rattle.zst_line.proofs.WordWalk.{word_here}
use Rattle.zst_line.proofs.OptionPlaces.{value_turn}
use Rattle.zst_line.proofs.streams.value_behind.Goals as goal

pub returns-then-eq : goal.returns-then-eq
returns-then-eq c =
    let words = map string_bytes c.args.words.now in
    let at = c.loop-index.index in
    let here = word_here c.args.words.now at c.index-words-index.result c.loop-index-test.true in
    let is = c.index-words-index.is in
    let value = c.as_str.ensures.value in
    let text : word_at words at ≡ c.as_str.result.now = cc in
    let turn = value_turn c.args.option.now words at c.as_str.result.now true (simp length-map c.loop-index-test.true) text (sym c.if-eq.ensures) in
    let whole = take_all (length c.args.words.now - (at + 1)) (drop (at + 1) c.args.words.now) (omega (arith, length-drop (at + 1) c.args.words.now)) in
    let moved = drop-map string_bytes (at + 1) c.args.words.now in
    let found = c.first_of.ensures in
    let was = c.loop-index.invariant in
    cc

pub loop-index-preserved : goal.loop-index-preserved
loop-index-preserved c =
    let words = map string_bytes c.args.words.now in
    let at = c.loop-index.index in
    let here = word_here c.args.words.now at c.index-words-index.result c.loop-index-test.true in
    let is = c.index-words-index.is in
    let value = c.as_str.ensures.value in
    let text : word_at words at ≡ c.as_str.result.now = cc in
    c.loop-index.invariant ∙ value_turn c.args.option.now words at c.as_str.result.now false (simp length-map c.loop-index-test.true) text (sym c.if-eq.ensures)
