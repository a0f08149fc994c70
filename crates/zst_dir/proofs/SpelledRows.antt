-- Rows that are spelled one after the other behind their count.
use Rattle.std.proofs.Common.{◌≡◌, ℕ, ◌+◌, ◌<◌, ◌≤◌, List, [], ◌∷◌, ◌++◌, get_or, length, take, sym, ap, ◌∙◌, append_assoc}
use Rattle.std.specs.List.{flat_map}
use Rattle.std.proofs.lemmas.List.{take_all, take_more, append-nil}
use Rattle.std.proofs.lemmas.List.Concat.{flat_map-append}
use Rattle.zst_bytes.specs.Words.{word}
use Rattle.zst_dir.specs.Spelling.{rows_bytes}

-- behind the old bytes stand the count of the rows, and each row up to a place
abbrev pub SpelledUpTo : {A : Type 0} → (A → List ℕ) → List ℕ → List A → ℕ → List ℕ → Type 0
SpelledUpTo bytes old rows place now = now ≡ old ++ (word (length rows) ++ flat_map bytes (take place rows))

pub spelled-none : {A : Type 0} (bytes : A → List ℕ) (old : List ℕ) (rows : List A) (now : List ℕ) → now ≡ old ++ word (length rows) → SpelledUpTo bytes old rows 0 now
spelled-none bytes old rows now is = is ∙ ap (λ (l : List ℕ). old ++ l) (sym (append-nil (word (length rows))))

pub spelled-more : {A : Type 0} (bytes : A → List ℕ) (old : List ℕ) (rows : List A) (place : ℕ) (row : A) (now next : List ℕ) → place < length rows
    → row ≡ get_or rows place row → SpelledUpTo bytes old rows place now → next ≡ now ++ bytes row → SpelledUpTo bytes old rows (place + 1) next
spelled-more {A = A} bytes old rows place row now next inside read so_far is =
    let count : List ℕ = word (length rows) in
    let front : List ℕ = flat_map bytes (take place rows) in
    let more : flat_map bytes (take (place + 1) rows) ≡ front ++ bytes row =
    ap (flat_map bytes) (take_more rows place row inside) ∙ flat_map-append bytes (take place rows) (get_or rows place row ∷ [])
    ∙ ap (λ (l : List ℕ). front ++ l) (append-nil (bytes (get_or rows place row)) ∙ ap bytes (sym read)) in
    is ∙ ap (λ (l : List ℕ). l ++ bytes row) so_far ∙ append_assoc old (count ++ front) (bytes row)
    ∙ ap (λ (l : List ℕ). old ++ l) (append_assoc count front (bytes row) ∙ ap (λ (l : List ℕ). count ++ l) (sym more))

pub spelled-all : {A : Type 0} (bytes : A → List ℕ) (old : List ℕ) (rows : List A) (place : ℕ) (now : List ℕ) → length rows ≤ place
    → SpelledUpTo bytes old rows place now → now ≡ old ++ rows_bytes bytes rows
spelled-all {A = A} bytes old rows place now all so_far =
    so_far ∙ ap (λ (l : List A). old ++ (word (length rows) ++ flat_map bytes l)) (take_all place rows all)

-- nine texts, appended one after the other
pub appended_nine : (old a b c d e f g h i s1 s2 s3 s4 s5 s6 s7 s8 s9 : List ℕ)
    → s1 ≡ old ++ a → s2 ≡ s1 ++ b → s3 ≡ s2 ++ c → s4 ≡ s3 ++ d → s5 ≡ s4 ++ e → s6 ≡ s5 ++ f → s7 ≡ s6 ++ g → s8 ≡ s7 ++ h → s9 ≡ s8 ++ i
    → s9 ≡ old ++ (a ++ (b ++ (c ++ (d ++ (e ++ (f ++ (g ++ (h ++ i))))))))
appended_nine old a b c d e f g h i s1 s2 s3 s4 s5 s6 s7 s8 s9 e1 e2 e3 e4 e5 e6 e7 e8 e9 =
    rw (e9, e8, e7, e6, e5, e4, e3, e2, e1) (simp append_assoc)
