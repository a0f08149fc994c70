-- The line of a refusal, part by part.
use Rattle.std.specs.Prelude.{codes, decimal, Result}
use Rattle.std.proofs.Common.{◌≡◌, List, ℕ, ◌++◌, append_assoc, subst}
use Rattle.zst_outside.specs.Printing.{Prints}
use Rattle.zst_outside.specs.States.{SinkState}
use Rattle.zst_model.specs.declared.refusals.refusal.Refusal.{Refusal}
use Rattle.zst_model.specs.refusals.Refusal.{number_of, text_of}
use Rattle.zst_run.specs.Replies.{refusal_line}
use Rattle.zst_run.specs.Runs.{note_of}

-- what is written, call by call
abbrev pub parts_of : (number text : List ℕ) → List ℕ
parts_of number text = codes "E" ++ (number ++ (codes " " ++ (text ++ codes "\n")))

line_is : (number text : List ℕ) → parts_of number text ≡ (codes "E" ++ (number ++ (codes " " ++ text))) ++ codes "\n"
line_is number text = simp append_assoc

pub as_refusal : {T E : Type 0} (out out' : SinkState) (refusal : Refusal) (result : Result T E)
    → Prints out out' (parts_of (decimal (number_of refusal)) (text_of refusal)) result → Prints out out' (refusal_line refusal ++ codes "\n") result
as_refusal out out' refusal result prints = subst (λ (text : List ℕ). Prints out out' text result) (line_is (decimal (number_of refusal)) (text_of refusal)) prints

note_is : (number text : List ℕ)
    → codes "zst: " ++ ((codes "E" ++ (number ++ (codes " " ++ text))) ++ codes "\n") ≡ codes "zst: E" ++ (number ++ (codes " " ++ (text ++ codes "\n")))
note_is number text = simp append_assoc

-- behind the program's name it is the note
pub as_note : {T E : Type 0} (out out' : SinkState) (refusal : Refusal) (result : Result T E)
    → Prints out out' (codes "zst: " ++ (refusal_line refusal ++ codes "\n")) result → Prints out out' (note_of refusal) result
unfolding note_of
as_note out out' refusal result prints = subst (λ (text : List ℕ). Prints out out' text result) (note_is (decimal (number_of refusal)) (text_of refusal)) prints
