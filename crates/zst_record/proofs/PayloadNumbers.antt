-- The numbers of a payload, and their bytes.
use Rattle.std.proofs.Common.{◌≡◌, ℕ, zero, suc, ◌+◌, ◌*◌, ◌<◌, ◌≤◌, ◌^◌, List, [], ◌∷◌, ◌++◌, length, get_or, take, drop, flat_map, refl, sym, ap, ◌∙◌, arith, length-drop}
use Rattle.std.proofs.lemmas.List.{drop-drop, drop_at, length-take-le, take-append-drop, take_at}
use Rattle.std.proofs.lemmas.List.Elements.{All-cons, All-drop, All-head, All-nil, All-tail, All-take}
use Rattle.std.proofs.lemmas.Nat.{le_bytes_8}
use Rattle.std.specs.Int.{w64, from_le_bytes}
use Rattle.std.specs.List.{All}
use Rattle.byteorder.specs.Endian.{little_number}
use Rattle.byteorder.specs.Numbers.{little_from-lt}
use Rattle.zst_bytes.specs.Bytes.{bytes_at, number_at}
use Rattle.zst_bytes.specs.Words.{word}
use Rattle.zst_bytes.proofs.BytesLaws.{length-number_bytes, number-again}
use Rattle.zst_bytes.proofs.FrontWords.{word-to_le_bytes}
use Rattle.zst_record.specs.Payload.{numbers_in}

abbrev IsByte : ℕ → Type 0
IsByte byte = byte < 2 ^ 8

pub length-numbers_in : (count : ℕ) (bytes : List ℕ) → length (numbers_in count bytes) ≡ count
length-numbers_in zero bytes = refl
length-numbers_in (suc count) bytes = ap suc (length-numbers_in count (drop 8 bytes))

-- a number in front, read from its place
number-at : (place : ℕ) (bytes : List ℕ) → number_at bytes place 8 ≡ number_at (drop place bytes) 0 8
unfolding number_at bytes_at
number-at place bytes = refl

-- one number more
pub numbers_in-more : (count : ℕ) (bytes : List ℕ) → numbers_in (suc count) bytes ≡ numbers_in count bytes ++ number_at bytes (8 * count) 8 ∷ []
numbers_in-more zero bytes = refl
numbers_in-more (suc count) bytes =
    let places : 8 + 8 * count ≡ 8 * suc count = omega arith in
    let same : number_at (drop 8 bytes) (8 * count) 8 ≡ number_at bytes (8 * suc count) 8 =
    number-at (8 * count) (drop 8 bytes) ∙ ap (λ (l : List ℕ). number_at l 0 8) (drop-drop (8 * count) 8 bytes ∙ ap (λ (n : ℕ). drop n bytes) places) ∙ sym (number-at (8 * suc count) bytes) in
    ap (λ (l : List ℕ). number_at bytes 0 8 ∷ l) (numbers_in-more count (drop 8 bytes))
    ∙ ap (λ (n : ℕ). number_at bytes 0 8 ∷ (numbers_in count (drop 8 bytes) ++ n ∷ [])) same

-- a number in front is read again
number-front : (n : ℕ) (rest : List ℕ) → n < 2 ^ 64 → number_at (word n ++ rest) 0 8 ≡ n
unfolding number_at bytes_at
number-front n rest small = ap (little_number 8) (take_at (word n) rest 8 (length-number_bytes 8 n)) ∙ number-again 8 n small

-- and so are numbers
pub numbers-read : (numbers : List ℕ) → All (λ n. n < 2 ^ 64) numbers → numbers_in (length numbers) (flat_map word numbers) ≡ numbers
numbers-read [] fit = refl
numbers-read (n ∷ numbers) fit =
    let later : List ℕ = flat_map word numbers in
    let first : number_at (word n ++ later) 0 8 ≡ n = number-front n later (All-head (λ n. n < 2 ^ 64) n numbers fit) in
    let back : drop 8 (word n ++ later) ≡ later = drop_at (word n) later 8 (length-number_bytes 8 n) in
    ap (λ (k : ℕ). k ∷ numbers_in (length numbers) (drop 8 (word n ++ later))) first
    ∙ ap (λ (l : List ℕ). n ∷ numbers_in (length numbers) l) back
    ∙ ap (λ (l : List ℕ). n ∷ l) (numbers-read numbers (All-tail (λ n. n < 2 ^ 64) n numbers fit))

-- each of bytes is below 256
small_bytes : (bytes : List ℕ) → All (λ byte. byte < 2 ^ 8) bytes → (i : ℕ) → get_or bytes i 0 < 256
small_bytes [] all i = omega arith
small_bytes (x ∷ bytes) all zero = All-head IsByte x bytes all
small_bytes (x ∷ bytes) all (suc i) = small_bytes bytes (All-tail IsByte x bytes all) i

number-from_le_bytes : (bytes : List ℕ) → number_at bytes 0 8 ≡ from_le_bytes w64 (take 8 bytes)
unfolding number_at bytes_at
number-from_le_bytes bytes = omega arith

-- the number in front is written in the bytes that stand there
word-front : (bytes : List ℕ) → 8 ≤ length bytes → All (λ byte. byte < 2 ^ 8) bytes → word (number_at bytes 0 8) ≡ take 8 bytes
word-front bytes long all =
    word-to_le_bytes (number_at bytes 0 8)
    ∙ le_bytes_8 (take 8 bytes) (number_at bytes 0 8) (length-take-le 8 bytes long) (small_bytes (take 8 bytes) (All-take IsByte 8 bytes all)) (number-from_le_bytes bytes)

-- bytes are those of their numbers
pub words-back : (count : ℕ) (bytes : List ℕ) → length bytes ≡ 8 * count → All (λ byte. byte < 2 ^ 8) bytes → flat_map word (numbers_in count bytes) ≡ bytes
words-back zero [] size all = refl
words-back zero (x ∷ bytes) size all = absurd (omega arith)
words-back (suc count) bytes size all =
    let later : List ℕ = flat_map word (numbers_in count (drop 8 bytes)) in
    ap (λ (l : List ℕ). l ++ later) (word-front bytes (omega arith) all)
    ∙ ap (λ (l : List ℕ). take 8 bytes ++ l) (words-back count (drop 8 bytes) (omega (arith, length-drop 8 bytes)) (All-drop IsByte 8 bytes all))
    ∙ take-append-drop 8 bytes

number-small : (bytes : List ℕ) → All (λ byte. byte < 2 ^ 8) bytes → number_at bytes 0 8 < 2 ^ 64
unfolding number_at bytes_at
number-small bytes all = little_from-lt 0 8 (take 8 bytes) (small_bytes (take 8 bytes) (All-take IsByte 8 bytes all))

-- numbers of bytes have 64 bits
pub numbers-small : (count : ℕ) (bytes : List ℕ) → All (λ byte. byte < 2 ^ 8) bytes → All (λ n. n < 2 ^ 64) (numbers_in count bytes)
numbers-small zero bytes all = All-nil (λ n. n < 2 ^ 64)
numbers-small (suc count) bytes all =
    All-cons (λ n. n < 2 ^ 64) (number_at bytes 0 8) (numbers_in count (drop 8 bytes)) (number-small bytes all) (numbers-small count (drop 8 bytes) (All-drop IsByte 8 bytes all))
