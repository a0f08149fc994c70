use Rattle.std.proofs.Common.{◌≡◌, ℕ, List, Ok, Err, Result, arith, inl, inr, sym, ◌∙◌}
use Rattle.std.proofs.lemmas.Bool.{false≢true}
use Rattle.std.specs.Result.{IfOk}
use Rattle.hex.specs.Hex.{decode_of}
use Rattle.hex.proofs.HexLemmas.{decode_of-ok}
use Rattle.zst_model.specs.states.State.{IsBonus, largest_bonus}
use Rattle.zst_line.specs.Words.{IsHex}
use Rattle.zst_line.proofs.Spills.{decoded_bytes}
use Rattle.zst_line.proofs.word_values.bonus.Goals as goal

short : {E : Type 0} (word : List ℕ) → IsHex 1 largest_bonus word → (result : Result (List ℕ) E) → IfOk result (λ bytes. decode_of word ≡ Ok bytes) → IfOk result IsBonus
short word is (Ok bytes) decoded = let twice = (decode_of-ok word bytes decoded).2 in let room = is.room in (omega arith, decoded_bytes word bytes decoded)
short word is (Err fault) decoded = tt

pub returns-clause-most : goal.returns-clause-most
returns-clause-most c = elim c.requires [
  | inl none ↦ absurd (false≢true (sym c.if-is_none.false ∙ c.is_none.ensures.1 none))
  | inr digits ↦ short c.args.word.now digits c.bytes.result c.bytes.ensures
]
