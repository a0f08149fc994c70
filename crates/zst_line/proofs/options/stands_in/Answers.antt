use Rattle.std.proofs.Common.{◌≡◌, [], true, false, bytes_eq, map, string_bytes, sym, refl, ◌∙◌}
use Rattle.std.proofs.lemmas.List.{length-map}
use Rattle.std.proofs.lemmas.List.Folds.{list_any_at, list_any_more}
use Rattle.zst_line.specs.Grammar.{word_at}
use Rattle.zst_line.proofs.WordWalk.{word_here}
use Rattle.zst_line.proofs.options.stands_in.Goals as goal

pub returns-then-eq : goal.returns-then-eq
returns-then-eq c =
    let words = map string_bytes c.args.words.now in
    let at = c.loop-other.other-index in
    let here = word_here c.args.words.now at c.other-item.result c.loop-other-test.true in
    let is = c.other-item.is in
    let value = c.as_str.ensures.value in
    let text : word_at words at ≡ c.as_str.result.now = cc in
    let same : bytes_eq (word_at words at) c.args.word.now ≡ true = rw text (sym c.if-eq.ensures) in
    sym (list_any_at (λ other. bytes_eq other c.args.word.now) words at [] (simp length-map c.loop-other-test.true) same)

pub loop-other-preserved : goal.loop-other-preserved
loop-other-preserved c =
    let words = map string_bytes c.args.words.now in
    let at = c.loop-other.other-index in
    let here = word_here c.args.words.now at c.other-item.result c.loop-other-test.true in
    let is = c.other-item.is in
    let value = c.as_str.ensures.value in
    let text : word_at words at ≡ c.as_str.result.now = cc in
    let other : bytes_eq (word_at words at) c.args.word.now ≡ false = rw text (sym c.if-eq.ensures) in
    let more = list_any_more (λ other. bytes_eq other c.args.word.now) words at [] (simp length-map c.loop-other-test.true) in
    more ∙ rw (c.loop-other.invariant, other) refl
