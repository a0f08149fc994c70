-- The last word of a line with options, of texts.
use Rattle.std.proofs.Common.{◌≡◌, ℕ, suc, ◌-◌, ◌<◌, None, List, [], ◌∷◌, length, map, get_or, string_bytes, String, Global, arith}
use Rattle.std.proofs.lemmas.List.{length-map}
use Rattle.std.specs.List.{AllZip}
use Rattle.zst_line.specs.declared.kind.Kind.{Kind}
use Rattle.zst_line.specs.declared.word_slot.WordSlot.{WordSlot}
use Rattle.zst_line.specs.Grammar.{named, places_behind, word_at}
use Rattle.zst_line.specs.WordFaults.{Takes}
use Rattle.zst_line.proofs.WordWalk.{word_here}
use Rattle.zst_line.proofs.OptionPlaces.{last_takes}

pub last_word : (kind : Kind) (one last : WordSlot) (words : List (String Global)) (word : String Global) (text : List ℕ) → ((count : ℕ) → named kind count ≡ one ∷ last ∷ [])
    → AllZip Takes (places_behind kind [] None (map string_bytes words)) (map string_bytes words) → word ≡ get_or words (length words - 1) word → text ≡ string_bytes word → Takes last text
last_word kind one last words word text two fits is same =
    let end = last_takes kind one last (map string_bytes words) two fits in
    let long = end.long in
    let count = length-map words string_bytes in
    let there : suc end.before < length words = omega arith in
    let index : length words - 1 ≡ suc end.before = omega arith in
    let here = word_here words (suc end.before) word there in
    let text_is : word_at (map string_bytes words) (suc end.before) ≡ text = cc in
    rw text_is at end.takes
