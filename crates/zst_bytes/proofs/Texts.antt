-- A text with its length and its padding, by its parts.
use Rattle.std.proofs.Common.{◌≡◌, ℕ, List, [], ◌∷◌, ◌++◌, length, refl, sym, ap, ◌∙◌, append_assoc}
use Rattle.std.specs.List.{All}
use Rattle.std.proofs.lemmas.List.Elements.{All-head, All-tail, All-replicate}
use Rattle.zst_bytes.specs.Fields.{zeros}
use Rattle.zst_bytes.proofs.FieldsLaws.{length-zeros}
use Rattle.zst_bytes.specs.Words.{word, padding, text_bytes}

abbrev IsZero : ℕ → Type 0
IsZero byte = byte ≡ 0

-- bytes that are each zero are zeros
zeros-from_all : (bytes : List ℕ) → All (λ byte. byte ≡ 0) bytes → bytes ≡ zeros (length bytes)
unfolding zeros
zeros-from_all [] each = refl
zeros-from_all (x ∷ bytes) each =
    ap (λ (first : ℕ). first ∷ bytes) (All-head IsZero x bytes each) ∙ ap (λ (rest : List ℕ). 0 ∷ rest) (zeros-from_all bytes (All-tail IsZero x bytes each))

-- each of so many zeros is zero
pub all_zeros : (count : ℕ) → All (λ byte. byte ≡ 0) (zeros count)
unfolding zeros
all_zeros count = All-replicate IsZero count 0 refl

-- what stands behind a text's bytes
abbrev pub behind_text : List ℕ → List ℕ → List ℕ
behind_text text rest = zeros (padding (length text)) ++ rest

-- what stands behind a text's length
abbrev pub behind_length : List ℕ → List ℕ → List ℕ
behind_length text rest = text ++ behind_text text rest

-- the zeros behind a text are as many as its length asks for
pub length-filler : (text : List ℕ) (count filler : ℕ) → length text ≡ count → filler ≡ padding count → length (zeros (padding (length text))) ≡ filler
length-filler text count filler size is = length-zeros (padding (length text)) ∙ ap padding size ∙ sym is

-- a text begins with its length
pub text_parts : (text rest : List ℕ) → text_bytes text ++ rest ≡ word (length text) ++ behind_length text rest
unfolding text_bytes
text_parts text rest = simp append_assoc

-- a text, of its parts
pub text_of_parts : (start after_word after_text rest text filler : List ℕ) (count : ℕ) → start ≡ word count ++ after_word → after_word ≡ text ++ after_text → length text ≡ count
    → after_text ≡ filler ++ rest → length filler ≡ padding count → All (λ byte. byte ≡ 0) filler → start ≡ text_bytes text ++ rest
text_of_parts start after_word after_text rest text filler count is text_is size filler_is filler_size each =
    let filled : filler ≡ zeros (padding (length text)) = zeros-from_all filler each ∙ ap zeros (filler_size ∙ ap padding (sym size)) in
    is ∙ ap (λ (n : ℕ). word n ++ after_word) (sym size)
    ∙ ap (λ (l : List ℕ). word (length text) ++ l) (text_is ∙ ap (λ (l : List ℕ). text ++ l) (filler_is ∙ ap (λ (l : List ℕ). l ++ rest) filled))
    ∙ sym (text_parts text rest)
