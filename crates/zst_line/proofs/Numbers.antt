-- A number that a word spells is in the range that the word is in.
use Rattle.std.proofs.Common.{◌≡◌, ℕ, zero, suc, ◌-◌, ◌^◌, ◌<◌, ◌≤◌, true, List, [], ◌∷◌, length, map, get_or, string_bytes, String, Global, decimal, sym, ◌∙◌, arith}
use Rattle.std.proofs.lemmas.Fmt.{decimal_injective}
use Rattle.std.proofs.lemmas.List.{length-map}
use Rattle.std.proofs.lemmas.Slice.Zip.{AllZip-long}
use Rattle.std.specs.List.{AllZip}
use Rattle.zst_line.specs.declared.word_slot.WordSlot.{WordSlot}
use Rattle.zst_line.specs.declared.word_slot.WordSlot.TheVariants.{Image, Number}
use Rattle.zst_line.specs.Grammar.{word_at}
use Rattle.zst_line.specs.WordFaults.{Takes}
use Rattle.zst_line.specs.Words.{IsNumber, IsSize}
use Rattle.zst_line.proofs.WordWalk.{word_here}
use Rattle.zst_model.specs.states.State.{is_block_size}
use Rattle.zst_line.proofs.Sizes.{block_size_below}

pub in_range : (word : List ℕ) (n low high : ℕ) → IsNumber low high word → high < 2 ^ 64 → n < 2 ^ 64 → word ≡ decimal n → (low ≤ n) × (n ≤ high)
in_range word n low high is small fits e =
    let most = is.most in
    let least = is.least in
    let same : n ≡ is.number = decimal_injective n is.number fits (omega arith) (sym e ∙ is.spelled) in
    (omega arith, omega arith)

-- a block size is a number of 32 bits
pub size_in_range : (word : List ℕ) → IsSize word → IsNumber 0 (2 ^ 64 - 1) word
size_in_range word is =
    let small = block_size_below is.size is.block in
    record { number = is.size; spelled = is.spelled; least = omega arith; most = omega arith }

pub size_below : (word : List ℕ) (n : ℕ) → IsSize word → n < 2 ^ 64 → word ≡ decimal n → n < 2 ^ 32
size_below word n is fits e =
    let small = block_size_below is.size is.block in
    let same : n ≡ is.size = decimal_injective n is.size fits (omega arith) (sym e ∙ is.spelled) in
    omega arith

pub size_is_block : (word : List ℕ) (n : ℕ) → IsSize word → n < 2 ^ 64 → word ≡ decimal n → is_block_size n ≡ true
size_is_block word n is fits e =
    let small = block_size_below is.size is.block in
    let same : n ≡ is.size = decimal_injective n is.size fits (omega arith) (sym e ∙ is.spelled) in
    rw same is.block

fit_at : (slots : List WordSlot) (words : List (List ℕ)) (i : ℕ) → AllZip Takes slots words → i < length slots → Takes (get_or slots i Image) (word_at words i)
fit_at [] words i fits h = absurd (omega arith)
fit_at (slot ∷ slots) [] i fits h = absurd fits
fit_at (slot ∷ slots) (word ∷ words) zero fits h = fits.0
fit_at (slot ∷ slots) (word ∷ words) (suc i) fits h = fit_at slots words i fits.1 (omega arith)

-- there are as many words as places
pub as_many : (slots : List WordSlot) (words : List (String Global)) → AllZip Takes slots (map string_bytes words) → length words ≡ length slots
as_many slots words fits =
    let long = AllZip-long Takes slots (map string_bytes words) fits in
    let count = length-map words string_bytes in
    omega arith

-- a word is what its place takes
pub takes_at : (slots : List WordSlot) (words : List (String Global)) (i : ℕ) (word : String Global) (text : List ℕ) → AllZip Takes slots (map string_bytes words) → i < length slots → word ≡ get_or words i word
    → text ≡ string_bytes word → Takes (get_or slots i Image) text
takes_at slots words i word text fits h is same =
    let long = AllZip-long Takes slots (map string_bytes words) fits in
    let count = length-map words string_bytes in
    let there : i < length words = omega arith in
    let here = word_here words i word there in
    let text_is : word_at (map string_bytes words) i ≡ text = cc in
    rw text_is at (fit_at slots (map string_bytes words) i fits h)

-- a number at a place is in the range of its place
pub number_at : (slots : List WordSlot) (words : List (String Global)) (i low high n : ℕ) (word : String Global) (text : List ℕ) → AllZip Takes slots (map string_bytes words) → i < length slots
    → get_or slots i Image ≡ Number low high → high < 2 ^ 64 → word ≡ get_or words i word → text ≡ string_bytes word → text ≡ decimal n → n < 2 ^ 64 → (low ≤ n) × (n ≤ high)
number_at slots words i low high n word text fits h slot small is same spelled below =
    let takes = takes_at slots words i word text fits h is same in
    in_range text n low high (rw slot at takes).0 small below spelled

-- a number at a place is one of 64 bits
pub number_taken : (slots : List WordSlot) (words : List (String Global)) (i low high : ℕ) (word : String Global) (text : List ℕ) → AllZip Takes slots (map string_bytes words) → i < length slots
    → get_or slots i Image ≡ Number low high → high < 2 ^ 64 → word ≡ get_or words i word → text ≡ string_bytes word → IsNumber 0 (2 ^ 64 - 1) text
number_taken slots words i low high word text fits h slot small is same =
    let takes = takes_at slots words i word text fits h is same in
    let number = (rw slot at takes).0 in
    let most = number.most in
    record { number = number.number; spelled = number.spelled; least = omega arith; most = omega arith }
