-- The line of the content that was made, part by part.
use Rattle.std.specs.Prelude.{codes, decimal, Result}
use Rattle.std.specs.List.{concat}
use Rattle.std.proofs.Common.{◌≡◌, ℕ, ◌*◌, List, [], ◌∷◌, ◌++◌, append_assoc, subst}
use Rattle.std.proofs.lemmas.List.{append-nil}
use Rattle.zst_outside.specs.Printing.{Prints}
use Rattle.zst_outside.specs.States.{SinkState}
use Rattle.zst_run.specs.Generating.{gen_line}

-- what is written, call by call
abbrev pub parts_of : (steps blocks holes bytes number : List ℕ) → List ℕ
parts_of steps blocks holes bytes number =
    (codes "gen " ++ steps) ++ ((codes " blocks " ++ blocks) ++ ((codes " holes " ++ holes) ++ ((codes " bytes " ++ bytes) ++ ((codes " number " ++ number) ++ codes "\n"))))

line_is : (steps blocks holes bytes number : List ℕ) → parts_of steps blocks holes bytes number
    ≡ concat (codes "gen " ∷ steps ∷ codes " blocks " ∷ blocks ∷ codes " holes " ∷ holes ∷ codes " bytes " ∷ bytes ∷ codes " number " ∷ number ∷ []) ++ codes "\n"
line_is steps blocks holes bytes number = simp (append_assoc, append-nil)

pub as_line : {T E : Type 0} (out out' : SinkState) (steps number : ℕ) (result : Result T E)
    → Prints out out' (parts_of (decimal steps) (decimal (224 * steps)) (decimal (31 * steps)) (decimal (224 * steps * 131072)) (decimal number)) result
    → Prints out out' (gen_line steps number ++ codes "\n") result
as_line out out' steps number result prints =
    subst (λ (text : List ℕ). Prints out out' text result) (line_is (decimal steps) (decimal (224 * steps)) (decimal (31 * steps)) (decimal (224 * steps * 131072)) (decimal number)) prints
