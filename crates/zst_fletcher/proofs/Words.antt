-- The words of a text that is made of two.
use Rattle.std.proofs.Common.{◌≡◌, ◌+◌, ◌*◌, ◌/◌, ◌%◌, ◌^◌, ◌<◌, ◌≤◌, ℕ, zero, suc, List, [], ◌∷◌, ◌++◌, length, take, drop, refl, ap, sym, ◌∙◌, arith, length-append, length-take, length-drop, append_assoc}
use Rattle.std.proofs.Math.Seq.{take-add}
use Rattle.std.proofs.lemmas.List.{drop-drop}
use Rattle.std.specs.Int.{w32, from_le_bytes}
use Rattle.std.specs.Simd.Lanes.{Each1, number_l, digits_l}
use Rattle.zst_fletcher.specs.WeightSum.{words, IsWhole}

pub words-append : (xs ys : List ℕ) → IsWhole xs → words (xs ++ ys) ≡ words xs ++ words ys
words-append [] ys h = refl
words-append (a ∷ []) ys h = absurd (omega arith)
words-append (a ∷ b ∷ []) ys h = absurd (omega arith)
words-append (a ∷ b ∷ c ∷ []) ys h = absurd (omega arith)
words-append (a ∷ b ∷ c ∷ d ∷ xs) ys h = ap (λ r. from_le_bytes w32 (a ∷ b ∷ c ∷ d ∷ []) ∷ r) (words-append xs ys (omega arith))

pub words-four : (xs : List ℕ) → length xs ≡ 4 → words xs ≡ from_le_bytes w32 xs ∷ []
words-four [] h = absurd (omega arith)
words-four (a ∷ []) h = absurd (omega arith)
words-four (a ∷ b ∷ []) h = absurd (omega arith)
words-four (a ∷ b ∷ c ∷ []) h = absurd (omega arith)
words-four (a ∷ b ∷ c ∷ d ∷ []) h = refl
words-four (a ∷ b ∷ c ∷ d ∷ e ∷ xs) h = absurd (omega arith)

-- one more word of the text
pub words-more : (before bytes : List ℕ) (i : ℕ) → IsWhole before → 4 * i + 4 ≤ length bytes →
    words (before ++ take (4 * (i + 1)) bytes) ≡ words (before ++ take (4 * i) bytes) ++ from_le_bytes w32 (take 4 (drop (4 * i) bytes)) ∷ []
words-more before bytes i whole room =
    let split : take (4 * (i + 1)) bytes ≡ take (4 * i) bytes ++ take 4 (drop (4 * i) bytes) =
    ap (λ n. take n bytes) (omega arith) ∙ take-add (4 * i) 4 bytes in
    let front : IsWhole (before ++ take (4 * i) bytes) = simp (length-append, length-take) (omega arith) in
    let four : length (take 4 (drop (4 * i) bytes)) ≡ 4 = simp (length-take, length-drop) (omega arith) in
    rw split (
    ap words (sym (append_assoc before (take (4 * i) bytes) (take 4 (drop (4 * i) bytes))))
    ∙ words-append (before ++ take (4 * i) bytes) (take 4 (drop (4 * i) bytes)) front
    ∙ ap (λ ws. words (before ++ take (4 * i) bytes) ++ ws) (words-four _ four))

pub length-words : (xs : List ℕ) → IsWhole xs → length xs ≡ 4 * length (words xs)
length-words [] h = refl
length-words (a ∷ []) h = absurd (omega arith)
length-words (a ∷ b ∷ []) h = absurd (omega arith)
length-words (a ∷ b ∷ c ∷ []) h = absurd (omega arith)
length-words (a ∷ b ∷ c ∷ d ∷ xs) h = omega (arith, length-words xs (omega arith))

-- the words of whole steps
pub steps-count : (bytes : List ℕ) (i : ℕ) → 128 * i ≤ length bytes → length (words (take (128 * i) bytes)) ≡ 32 * i
steps-count bytes i room =
    let long : length (take (128 * i) bytes) ≡ 128 * i = simp length-take (omega arith) in
    omega (arith, length-words (take (128 * i) bytes) (omega arith))

-- one more step of the text
pub words-step : (bytes : List ℕ) (i : ℕ) → 128 * i + 128 ≤ length bytes →
    words (take (128 * (i + 1)) bytes) ≡ words (take (128 * i) bytes) ++ words (take 128 (drop (128 * i) bytes))
words-step bytes i room =
    let split : take (128 * (i + 1)) bytes ≡ take (128 * i) bytes ++ take 128 (drop (128 * i) bytes) =
    ap (λ n. take n bytes) (omega arith) ∙ take-add (128 * i) 128 bytes in
    rw split (words-append (take (128 * i) bytes) (take 128 (drop (128 * i) bytes)) (simp length-take (omega arith)))

-- one more row behind some of a step
words-row : (before bytes : List ℕ) (at n : ℕ) → n % 4 ≡ 0 → at + n ≤ length bytes
    → (before ++ words (take n (drop at bytes))) ++ words (take 32 (drop (at + n) bytes)) ≡ before ++ words (take (n + 32) (drop at bytes))
words-row before bytes at n whole room =
    let front = take n (drop at bytes) in
    let row = take 32 (drop (at + n) bytes) in
    let split : take (n + 32) (drop at bytes) ≡ front ++ row = take-add n 32 (drop at bytes) ∙ ap (λ bs. front ++ take 32 bs) (drop-drop n at bytes) in
    let parts : words (front ++ row) ≡ words front ++ words row = words-append front row (simp (length-take, length-drop) (omega arith)) in
    append_assoc before (words front) (words row) ∙ ap (λ ws. before ++ ws) (sym (ap words split ∙ parts))

pub length-row : (before bytes : List ℕ) (at : ℕ) → length before % 8 ≡ 0 → at + 32 ≤ length bytes
    → length (before ++ words (take 32 (drop at bytes))) % 8 ≡ 0
length-row before bytes at whole room =
    let row = take 32 (drop at bytes) in
    let long : length row ≡ 32 = simp (length-take, length-drop) (omega arith) in
    omega (arith, length-append before (words row), length-words row (omega arith))

-- the four rows of a step
pub words-rows : (before bytes : List ℕ) (at : ℕ) → at + 128 ≤ length bytes
    → (((before ++ words (take 32 (drop at bytes))) ++ words (take 32 (drop (at + 32) bytes))) ++ words (take 32 (drop (at + 64) bytes)))
    ++ words (take 32 (drop (at + 96) bytes)) ≡ before ++ words (take 128 (drop at bytes))
words-rows before bytes at room =
    rw (words-row before bytes at 32 refl (omega arith), words-row before bytes at 64 refl (omega arith)) (words-row before bytes at 96 refl (omega arith))

-- the digits of 32 bits of the number that the bytes are
pub words-digits : (n : ℕ) (xs : List ℕ) → length xs ≡ 4 * n → Each1 (λ x. x < 2 ^ 8) xs → digits_l (2 ^ 32) n (number_l 256 xs) ≡ words xs
words-digits zero [] h small = refl
words-digits zero (a ∷ xs) h small = absurd (omega arith)
words-digits (suc n) [] h small = absurd (omega arith)
words-digits (suc n) (a ∷ []) h small = absurd (omega arith)
words-digits (suc n) (a ∷ b ∷ []) h small = absurd (omega arith)
words-digits (suc n) (a ∷ b ∷ c ∷ []) h small = absurd (omega arith)
words-digits (suc n) (a ∷ b ∷ c ∷ d ∷ xs) h small =
    let rest = number_l 256 xs in
    let word : number_l 256 (a ∷ b ∷ c ∷ d ∷ xs) % 2 ^ 32 ≡ from_le_bytes w32 (a ∷ b ∷ c ∷ d ∷ []) = omega (arith, small.0, small.1.0, small.1.1.0, small.1.1.1.0) in
    let more : number_l 256 (a ∷ b ∷ c ∷ d ∷ xs) / 2 ^ 32 ≡ rest = omega (arith, small.0, small.1.0, small.1.1.0, small.1.1.1.0) in
    rw (word, more) (ap (λ r. from_le_bytes w32 (a ∷ b ∷ c ∷ d ∷ []) ∷ r) (words-digits n xs (omega arith) small.1.1.1.1))
