use Rattle.std.proofs.Common.{◌++◌, ap, ◌∙◌}
use Rattle.std.proofs.lemmas.Result.{on_ok_weaker}
use Rattle.zst_bytes.specs.Words.{word, text_bytes, words_bytes}
use Rattle.zst_dir.specs.Spelling.{header_bytes}
use Rattle.zst_dir.proofs.SpelledRows.{appended_nine}
use Rattle.zst_dir.proofs.encoding.push_header.Goals as goal

pub returns : goal.returns
unfolding header_bytes
returns c =
    let header = c.args.header.now in
    on_ok_weaker c.push_words-2.result
    (λ last. appended_nine c.args.out.now.items (word header.kind) (word header.flags) (word header.features) (word header.time) (word header.to) (word header.from)
    (text_bytes header.name) (words_bytes header.redact) (words_bytes header.from_redact)
    c.push_word.new.out.items c.push_word-2.new.out.items c.push_word-3.new.out.items c.push_word-4.new.out.items c.push_word-5.new.out.items c.push_word-6.new.out.items
    c.push_text.new.out.items c.push_words.new.out.items c.push_words-2.new.out.items
    (c.in_ok-push_word.ensures ∙ ap (λ n. c.args.out.now.items ++ word n) c.from.ensures)
    (c.in_ok-push_word-2.ensures ∙ ap (λ n. c.push_word.new.out.items ++ word n) c.from-2.ensures)
    (c.in_ok-push_word-3.ensures ∙ ap (λ n. c.push_word-2.new.out.items ++ word n) c.from-3.ensures)
    c.in_ok-push_word-4.ensures c.in_ok-push_word-5.ensures c.in_ok-push_word-6.ensures
    (c.in_ok-push_text.ensures ∙ ap (λ l. c.push_word-6.new.out.items ++ text_bytes l) c.as_bytes.ensures.same)
    (c.in_ok-push_words.ensures ∙ ap (λ l. c.push_text.new.out.items ++ words_bytes l) c.as_slice.ensures.same)
    (last ∙ ap (λ l. c.push_words.new.out.items ++ words_bytes l) c.as_slice-2.ensures.same))
    c.push_words-2.ensures
