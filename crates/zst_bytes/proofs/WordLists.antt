-- Lists of numbers as words, one after another.
use Rattle.std.proofs.Common.{◌≡◌, ℕ, ◌+◌, ◌*◌, ◌<◌, List, [], ◌∷◌, ◌++◌, length, get_or, take, flat_map, refl, ap, ◌∙◌, arith, length-append}
use Rattle.std.proofs.lemmas.List.{append-nil, take_more}
use Rattle.std.proofs.lemmas.List.Concat.{flat_map-append}
use Rattle.zst_bytes.specs.Words.{word}
use Rattle.zst_bytes.proofs.BytesLaws.{length-number_bytes}

-- numbers are eight bytes each
pub length-words : (numbers : List ℕ) → length (flat_map word numbers) ≡ 8 * length numbers
length-words [] = refl
length-words (x ∷ numbers) = omega (arith, length-append (word x) (flat_map word numbers), length-number_bytes 8 x, length-words numbers)

-- one word more
pub words-more : (numbers : List ℕ) (i : ℕ) → i < length numbers → flat_map word (take (i + 1) numbers) ≡ flat_map word (take i numbers) ++ word (get_or numbers i 0)
words-more numbers i inside =
    ap (flat_map word) (take_more numbers i 0 inside) ∙ flat_map-append word (take i numbers) (get_or numbers i 0 ∷ [])
    ∙ ap (λ (l : List ℕ). flat_map word (take i numbers) ++ l) (append-nil (word (get_or numbers i 0)))
