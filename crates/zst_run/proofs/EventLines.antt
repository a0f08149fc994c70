-- The lines that events answer, part by part.
use Rattle.std.specs.Prelude.{codes, decimal, Result}
use Rattle.std.proofs.Common.{◌≡◌, List, ℕ, ◌++◌, append_assoc, subst}
use Rattle.zst_outside.specs.Printing.{Prints}
use Rattle.zst_outside.specs.States.{SinkState}
use Rattle.zst_model.specs.pools.AnswerLines.{word}
use Rattle.zst_sessions.specs.EventReplies.{standing_text}
use Rattle.zst_sessions.specs.Moves.{took}
use Rattle.zst_sessions.specs.declared.event_reply.Standing.{Standing}

-- what is written of a pump, call by call
abbrev pub parts_of : (taken applied standing : List ℕ) → List ℕ
parts_of taken applied standing = (codes "took " ++ taken) ++ ((codes " applied " ++ applied) ++ (standing ++ codes "\n"))

regrouped : (first taken second applied standing end : List ℕ) → (first ++ taken) ++ ((second ++ applied) ++ (standing ++ end)) ≡ ((first ++ taken) ++ (second ++ (applied ++ standing))) ++ end
regrouped first taken second applied standing end = simp append_assoc

pump_is : (taken applied standing : List ℕ)
    → parts_of taken applied standing ≡ ((codes "took" ++ (codes " " ++ taken)) ++ (codes " applied" ++ ((codes " " ++ applied) ++ standing))) ++ codes "\n"
pump_is taken applied standing = regrouped (codes "took ") taken (codes " applied ") applied standing (codes "\n")

pub as_pumped : {T E : Type 0} (out out' : SinkState) (taken applied : ℕ) (standing : Standing) (result : Result T E)
    → Prints out out' (parts_of (decimal taken) (decimal applied) (standing_text standing)) result
    → Prints out out' (took taken ++ (codes " applied" ++ (word applied ++ standing_text standing)) ++ codes "\n") result
as_pumped out out' taken applied standing result prints =
    subst (λ (text : List ℕ). Prints out out' text result) (pump_is (decimal taken) (decimal applied) (standing_text standing)) prints
