-- Texts and their lines.
use Rattle.std.proofs.Common.{◌≡◌, ◌≢◌, ℕ, Bool, true, false, cond, ◌==◌, ne_eqb, List, [], ◌∷◌, ◌++◌, All, refl, sym, ap, ◌∙◌}
use Rattle.std.specs.List.{onto_first}
use Rattle.std.proofs.lemmas.Bool.{cond-false}
use Rattle.std.proofs.lemmas.List.Elements.{All-head, All-tail}
use Rattle.zst_script.specs.Scripts.{LinesEnd, ended_lines, lines_of}

abbrev EndsNone : ℕ → Type 0
EndsNone byte = byte ≢ 10

-- a byte that ends no line is one of the first line
goes_on : (byte : ℕ) (text : List ℕ) → EndsNone byte → lines_of (byte ∷ text) ≡ onto_first byte (lines_of text)
goes_on byte text other = cond-false (byte == 10) _ _ (ne_eqb byte 10 other)

first_is : (line rest : List ℕ) → All EndsNone line → lines_of (line ++ 10 ∷ rest) ≡ line ∷ lines_of rest
first_is [] rest all = refl
first_is (byte ∷ line) rest all =
    goes_on byte (line ++ 10 ∷ rest) (All-head EndsNone byte line all) ∙ ap (onto_first byte) (first_is line rest (All-tail EndsNone byte line all))

last_is : (line : List ℕ) → All EndsNone line → lines_of line ≡ line ∷ []
last_is [] all = refl
last_is (byte ∷ line) all = goes_on byte line (All-head EndsNone byte line all) ∙ ap (onto_first byte) (last_is line (All-tail EndsNone byte line all))

-- there is a first line
pub has_first : (text : List ℕ) → (first : List ℕ) × (rest : List (List ℕ)) × (lines_of text ≡ first ∷ rest)
has_first [] = ([], [], refl)
has_first (byte ∷ text) = go (byte == 10) (has_first text)
  where
    go : (t : Bool) → (first : List ℕ) × (rest : List (List ℕ)) × (lines_of text ≡ first ∷ rest)
        → (first : List ℕ) × (rest : List (List ℕ)) × (cond t ([] ∷ lines_of text) (onto_first byte (lines_of text)) ≡ first ∷ rest)
    go true had = ([], lines_of text, refl)
    go false had = (byte ∷ had.0, had.1, ap (onto_first byte) had.2)

ended_is : (line rest : List ℕ) → All EndsNone line → ended_lines (lines_of (line ++ 10 ∷ rest)) ≡ line ∷ ended_lines (lines_of rest)
ended_is line rest all =
    let had = has_first rest in
    ap ended_lines (first_is line rest all ∙ ap (λ (lines : List (List ℕ)). line ∷ lines) had.2) ∙ sym (ap (λ (lines : List (List ℕ)). line ∷ ended_lines lines) had.2)

pub lines_end : LinesEnd
lines_end line rest all = (first_is line rest all, last_is line all, ended_is line rest all, ap ended_lines (last_is line all))
