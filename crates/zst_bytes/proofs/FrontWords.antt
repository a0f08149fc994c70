-- What stands at the front of bytes that begin with a word.
use Rattle.std.proofs.Common.{◌≡◌, ℕ, zero, suc, ◌^◌, ◌<◌, ◌≤◌, List, [], ◌∷◌, ◌++◌, length, take, drop, get_or, refl, sym, ap, ◌∙◌, arith, length-append}
use Rattle.std.proofs.lemmas.List.{take-append-drop, length-take-le, take_at, drop_at}
use Rattle.std.proofs.lemmas.Nat.{le_bytes_8, from_le_bytes-to_le_bytes_8}
use Rattle.std.specs.Int.{w64, to_le_bytes, from_le_bytes}
use Rattle.zst_bytes.specs.Bytes.{number_bytes}
use Rattle.zst_bytes.proofs.BytesLaws.{length-number_bytes}
use Rattle.zst_bytes.specs.Words.{word}

-- a word is how a number of 64 bits is written
pub word-to_le_bytes : (n : ℕ) → word n ≡ to_le_bytes w64 n
unfolding number_bytes
word-to_le_bytes n = refl

-- the front of a text of bytes is one
take_bytes : (k : ℕ) (bytes : List ℕ) → ((i : ℕ) → get_or bytes i 0 < 256) → (i : ℕ) → get_or (take k bytes) i 0 < 256
take_bytes zero bytes small i = omega arith
take_bytes (suc k) [] small i = omega arith
take_bytes (suc k) (x ∷ bytes) small zero = small 0
take_bytes (suc k) (x ∷ bytes) small (suc i) = take_bytes k bytes (λ j. small (suc j)) i

-- the number that the first 8 bytes read as is the word that stands there
pub word_in_front : (bytes front : List ℕ) (n : ℕ) → 8 ≤ length bytes → ((i : ℕ) → get_or bytes i 0 < 256) → front ≡ take 8 bytes → n ≡ from_le_bytes w64 front
    → bytes ≡ word n ++ drop 8 bytes
word_in_front bytes front n long small is reads =
    let size : length (take 8 bytes) ≡ 8 = length-take-le 8 bytes long in
    let same : word n ≡ take 8 bytes = word-to_le_bytes n ∙ le_bytes_8 (take 8 bytes) n size (take_bytes 8 bytes small) (reads ∙ ap (from_le_bytes w64) is) in
    sym (ap (λ (front : List ℕ). front ++ drop 8 bytes) same ∙ take-append-drop 8 bytes)

-- bytes that begin with a word are 8 or more
pub long_with_word : (bytes rest : List ℕ) (n : ℕ) → bytes ≡ word n ++ rest → 8 ≤ length bytes
long_with_word bytes rest n is = omega (arith, ap length is, length-append (word n) rest, length-number_bytes 8 n)

-- the word in front is the number that the first 8 bytes read as
pub word_read : (bytes rest front : List ℕ) (n read : ℕ) → n < 2 ^ 64 → bytes ≡ word n ++ rest → front ≡ take 8 bytes → read ≡ from_le_bytes w64 front → read ≡ n
word_read bytes rest front n read fits is front_is reads =
    let same : front ≡ to_le_bytes w64 n = front_is ∙ ap (take 8) is ∙ take_at (word n) rest 8 (length-number_bytes 8 n) ∙ word-to_le_bytes n in
    reads ∙ ap (from_le_bytes w64) same ∙ from_le_bytes-to_le_bytes_8 n fits

-- what follows the word is what follows the first 8 bytes
pub word_rest : (bytes rest : List ℕ) (n : ℕ) → bytes ≡ word n ++ rest → drop 8 bytes ≡ rest
word_rest bytes rest n is = ap (drop 8) is ∙ drop_at (word n) rest 8 (length-number_bytes 8 n)
