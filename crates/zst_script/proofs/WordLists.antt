-- The words of a line as texts.
use Rattle.std.proofs.Common.{◌≡◌, ℕ, ◌≤◌, Some, String, Global, string_bytes, List, [], ◌∷◌, length, map, get_or, remove, decimal, sym, ap, ◌∙◌, arith}
use Rattle.zst_script.specs.EventWords.{TakesId}
use Rattle.zst_script.specs.Lines.{IsId}

-- the second of some words taken out, where it spells an id
pub id_taken : (words left : List (String Global)) (id : String Global) (text : List ℕ) (number : ℕ) → 2 ≤ length words → id ≡ get_or words 1 id → text ≡ string_bytes id → left ≡ remove words 1
    → IsId number → text ≡ decimal number → TakesId (map string_bytes words) (map string_bytes left) (Some number)
id_taken [] left id text number two is texts without fits spelled = absurd (omega arith)
id_taken (verb ∷ []) left id text number two is texts without fits spelled = absurd (omega arith)
id_taken (verb ∷ word ∷ rest) left id text number two is texts without fits spelled =
    let word_is : string_bytes word ≡ decimal number = ap string_bytes (sym is) ∙ sym texts ∙ spelled in
    (string_bytes verb, map string_bytes rest, (fits, ap (λ (w : List ℕ). string_bytes verb ∷ w ∷ map string_bytes rest) word_is, ap (map string_bytes) without))
