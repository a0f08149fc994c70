use Rattle.std.proofs.Common.{◌≡◌, [], ◌∷◌, map, codes, string_bytes, arith, lit<}
use Rattle.std.proofs.lemmas.List.{length-map}
use Rattle.std.specs.List.{AllZip}
use Rattle.zst_line.specs.declared.word_slot.WordSlot.TheVariants.{Given, Token, Image}
use Rattle.zst_line.specs.Grammar.{word_at}
use Rattle.zst_line.specs.WordFaults.{Takes}
use Rattle.zst_line.proofs.WordWalk.{word_here, three_words}
use Rattle.zst_line.proofs.Numbers.{takes_at}
use Rattle.zst_line.proofs.streams.resume.Goals as goal
use Rattle.zst_model.proofs.OrderLaws.{same_bytes}

pub token-requires : goal.token-requires
token-requires c =
    let fits : AllZip Takes (Given ∷ Token ∷ Image ∷ []) (map string_bytes c.args.words.now) = rw c.requires.goes_on at c.requires.fits in
    takes_at (Given ∷ Token ∷ Image ∷ []) c.args.words.now 1 c.word-item.result c.as_str-2.result.now fits (lit< tt) c.word-item.is c.as_str-2.ensures.value

pub returns : goal.returns
returns c =
    let words = map string_bytes c.args.words.now in
    let count = length-map c.args.words.now string_bytes in
    let least = c.in-len3.len_at_least in
    let most = c.in-len3.len_below in
    let are = three_words words (omega arith) in
    let option : word_at words 0 ≡ codes "-t" = same_bytes (word_at words 0) (codes "-t") c.requires.goes_on in
    let one = word_here c.args.words.now 1 c.word-item.result (omega arith) in
    let two = word_here c.args.words.now 2 c.image-item.result (omega arith) in
    let word_is = c.word-item.is in
    let image_is = c.image-item.is in
    let image_text = c.as_str.ensures.value in
    let token_text = c.as_str-2.ensures.value in
    let image = c.in_ok-text.ensures in
    (c.as_str-2.result.now, c.token.ensures.read, c.token.ensures.token, cc)
