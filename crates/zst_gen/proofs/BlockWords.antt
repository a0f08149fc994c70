-- The words of a block, one after another.
use Rattle.std.proofs.Common.{◌≡◌, ℕ, zero, suc, ◌+◌, ◌*◌, ◌^◌, ◌<◌, List, [], ◌++◌, length, take, flat_map, refl, sym, ap, ◌∙◌, arith, length-append}
use Rattle.std.specs.List.{range_with_len}
use Rattle.std.proofs.lemmas.List.{append-nil, append_assoc, take_all}
use Rattle.std.proofs.lemmas.List.Elements.{All-append, All-nil}
use Rattle.zst_bytes.specs.Bytes.{number_bytes, written}
use Rattle.zst_bytes.proofs.BytesLaws.{length-number_bytes, written_front}
use Rattle.zst_model.specs.states.State.{AreBytes}
use Rattle.zst_model.proofs.LowBytes.{lowest_are_bytes}
use Rattle.zst_gen.specs.Generated.{block_bytes, block_word, block_words}

-- one number more
flat_more : (f : ℕ → List ℕ) (a n : ℕ) → flat_map f (range_with_len a (suc n)) ≡ flat_map f (range_with_len a n) ++ f (a + n)
flat_more f a zero = let e : a ≡ a + 0 = omega arith in append-nil (f a) ∙ ap f e
flat_more f a (suc n) =
    let e : (a + 1) + n ≡ a + suc n = omega arith in
    ap (λ (rest : List ℕ). f a ++ rest) (flat_more f (a + 1) n ∙ ap (λ (k : ℕ). flat_map f (range_with_len (a + 1) n) ++ f k) e)
    ∙ sym (append_assoc (f a) (flat_map f (range_with_len (a + 1) n)) (f (a + suc n)))

flat_long : (f : ℕ → List ℕ) (long : (j : ℕ) → length (f j) ≡ 4) (a n : ℕ) → length (flat_map f (range_with_len a n)) ≡ 4 * n
flat_long f long a zero = refl
flat_long f long a (suc n) = let more = flat_long f long (a + 1) n in let one = long a in omega (arith, length-append (f a) (flat_map f (range_with_len (a + 1) n)), more, one)

-- a word more of a block
pub words-more : (k i n : ℕ) → block_words k i (n + 1) ≡ block_words k i n ++ number_bytes 4 (block_word k i n)
unfolding block_words
words-more k i n =
    let next : n + 1 ≡ suc n = omega arith in
    let here : 0 + n ≡ n = omega arith in
    let f : ℕ → List ℕ = λ j. number_bytes 4 (block_word k i j) in
    ap (λ (m : ℕ). flat_map f (range_with_len 0 m)) next ∙ flat_more f 0 n ∙ ap (λ (m : ℕ). flat_map f (range_with_len 0 n) ++ f m) here

pub words-long : (k i n : ℕ) → length (block_words k i n) ≡ 4 * n
unfolding block_words
words-long k i n = flat_long (λ j. number_bytes 4 (block_word k i j)) (λ j. length-number_bytes 4 (block_word k i j)) 0 n

pub words-none : (k i : ℕ) → block_words k i 0 ≡ []
unfolding block_words
words-none k i = refl

-- words are of bytes
pub number_are_bytes : (width value : ℕ) → AreBytes (number_bytes width value)
unfolding number_bytes
number_are_bytes width value = lowest_are_bytes 0 width value

flat_are_bytes : (f : ℕ → List ℕ) → ((j : ℕ) → AreBytes (f j)) → (a n : ℕ) → AreBytes (flat_map f (range_with_len a n))
flat_are_bytes f each a zero = All-nil (λ byte. byte < 2 ^ 8)
flat_are_bytes f each a (suc n) = All-append (λ byte. byte < 2 ^ 8) (f a) (flat_map f (range_with_len (a + 1) n)) (each a) (flat_are_bytes f each (a + 1) n)

pub words_are_bytes : (k i n : ℕ) → AreBytes (block_words k i n)
unfolding block_words
words_are_bytes k i n = flat_are_bytes (λ j. number_bytes 4 (block_word k i j)) (λ j. number_are_bytes 4 (block_word k i j)) 0 n

-- a word that is written behind those before it
pub word_written : (k i n value : ℕ) (old new : List ℕ) → length old ≡ 131072 → n < 32768 → take (n * 4) old ≡ block_words k i n → value ≡ block_word k i n
    → new ≡ written (n * 4) 4 (number_bytes 4 value) old → take ((n + 1) * 4) new ≡ block_words k i (n + 1)
word_written k i n value old new long inside before is now =
    let end : (n + 1) * 4 ≡ n * 4 + 4 = omega arith in
    ap (λ (m : ℕ). take m new) end ∙ ap (take (n * 4 + 4)) now
    ∙ written_front (n * 4) 4 (number_bytes 4 value) old (length-number_bytes 4 value) (omega arith)
    ∙ ap (λ (l : List ℕ). l ++ number_bytes 4 value) before ∙ ap (λ (v : ℕ). block_words k i n ++ number_bytes 4 v) is ∙ sym (words-more k i n)

-- all words are written
pub all_written : (k i n : ℕ) (bytes : List ℕ) → length bytes ≡ 131072 → n ≡ 32768 → take (n * 4) bytes ≡ block_words k i n → bytes ≡ block_bytes k i
all_written k i n bytes long all is = sym (take_all (n * 4) bytes (omega arith)) ∙ is ∙ ap (block_words k i) all
