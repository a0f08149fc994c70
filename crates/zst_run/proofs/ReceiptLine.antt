-- The line of a receive, part by part.
use Rattle.std.specs.Prelude.{codes, decimal, Result}
use Rattle.std.proofs.Common.{◌≡◌, ℕ, List, [], ◌∷◌, ◌++◌, append_assoc, subst}
use Rattle.std.specs.List.{concat}
use Rattle.std.proofs.lemmas.List.{append-nil}
use Rattle.zst_outside.specs.Printing.{Prints}
use Rattle.zst_outside.specs.States.{SinkState}
use Rattle.zst_model.specs.refusals.Texts.{guid_text}
use Rattle.zst_plan.specs.RecvPlan.{snapshot_name}
use Rattle.zst_run.specs.ReceiveTurns.{line_of}
use Rattle.zst_run.specs.declared.receive.Receipt.{Receipt}

-- what is written, call by call
abbrev pub parts_of : (name guid items : List ℕ) → List ℕ
parts_of name guid items = codes "received " ++ (name ++ ((codes " guid " ++ guid) ++ ((codes " items " ++ items) ++ codes "\n")))

line_is : (name guid items : List ℕ) → parts_of name guid items ≡ concat (codes "received " ∷ name ∷ codes " guid " ∷ guid ∷ codes " items " ∷ items ∷ []) ++ codes "\n"
line_is name guid items = simp (append_assoc, append-nil)

pub as_line : {T E : Type 0} (out out' : SinkState) (receipt : Receipt) (result : Result T E)
    → Prints out out' (parts_of (snapshot_name receipt.snapshot.target receipt.snapshot.component) (guid_text receipt.snapshot.guid) (decimal receipt.items)) result
    → Prints out out' (line_of receipt ++ codes "\n") result
as_line out out' receipt result prints =
    subst (λ (text : List ℕ). Prints out out' text result) (line_is (snapshot_name receipt.snapshot.target receipt.snapshot.component) (guid_text receipt.snapshot.guid) (decimal receipt.items)) prints
