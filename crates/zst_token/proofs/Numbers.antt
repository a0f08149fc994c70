-- Numbers as words, and as sixteen digits each.
use Rattle.std.proofs.Common.{◌≡◌, ℕ, zero, suc, ◌+◌, ◌*◌, ◌<◌, List, [], ◌∷◌, ◌++◌, length, get_or, take, drop, flat_map, refl, ap, ◌∙◌, arith}
use Rattle.std.proofs.lemmas.List.{drop-drop}
use Rattle.std.specs.Int.{w64, to_le_bytes}
use Rattle.hex.proofs.HexLemmas.{length-encode_with}
use Rattle.hex.specs.Hex.{encode_lower, encode_with, lower_digits}
use Rattle.zst_bytes.specs.Bytes.{number_bytes}
use Rattle.zst_bytes.specs.Words.{word}
use Rattle.zst_bytes.proofs.WordLists.{length-words, words-more}
use Rattle.zst_fletcher.specs.WeightSum.{IsWhole}
use Rattle.zst_token.specs.Parser.{number_of, numbers_in}

-- and so whole words of four
pub IsWhole-words : (numbers : List ℕ) → IsWhole (flat_map word numbers)
IsWhole-words numbers = omega (arith, length-words numbers)

-- the digits of two texts
pub encode-append : (xs ys : List ℕ) → encode_lower (xs ++ ys) ≡ encode_lower xs ++ encode_lower ys
unfolding encode_with
encode-append [] ys = refl
encode-append (x ∷ xs) ys = rw (encode-append xs ys) refl

-- sixteen digits a number
pub length-digits : (numbers : List ℕ) → length (encode_lower (flat_map word numbers)) ≡ 16 * length numbers
length-digits numbers = omega (arith, length-encode_with lower_digits (flat_map word numbers), length-words numbers)

pub length-numbers_in : (count : ℕ) (digits : List ℕ) → length (numbers_in count digits) ≡ count
length-numbers_in zero digits = refl
length-numbers_in (suc count) digits = ap suc (length-numbers_in count (drop 16 digits))

-- one number more
pub numbers_in-more : (count : ℕ) (digits : List ℕ) → numbers_in (suc count) digits ≡ numbers_in count digits ++ number_of (take 16 (drop (16 * count) digits)) ∷ []
numbers_in-more zero digits = refl
numbers_in-more (suc count) digits =
    let places : 16 + 16 * count ≡ 16 * suc count = omega arith in
    ap (λ (l : List ℕ). number_of (take 16 digits) ∷ l) (numbers_in-more count (drop 16 digits))
    ∙ ap (λ (l : List ℕ). (number_of (take 16 digits) ∷ numbers_in count (drop 16 digits)) ++ number_of (take 16 l) ∷ []) (drop-drop (16 * count) 16 digits ∙ ap (λ (n : ℕ). drop n digits) places)

-- and its digits
pub digits-more : (numbers : List ℕ) (i : ℕ) → i < length numbers
    → encode_lower (flat_map word (take (i + 1) numbers)) ≡ encode_lower (flat_map word (take i numbers)) ++ encode_lower (word (get_or numbers i 0))
digits-more numbers i inside = ap encode_lower (words-more numbers i inside) ∙ encode-append (flat_map word (take i numbers)) (word (get_or numbers i 0))

-- a word is how a number of 64 bits is written
pub word-to_le_bytes : (n : ℕ) → to_le_bytes w64 n ≡ word n
unfolding number_bytes
word-to_le_bytes n = refl
