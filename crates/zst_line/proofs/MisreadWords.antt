-- What is misread is answered by its fault.
use Rattle.std.proofs.Common.{ℕ, List, [], ◌∷◌, Err, inl, inr}
use Rattle.zst_line.specs.declared.line.LineFault.{LineFault}
use Rattle.zst_line.specs.declared.line.LineFault.TheVariants as faults
use Rattle.zst_line.specs.declared.word_slot.WordSlot.{WordSlot}
use Rattle.zst_line.specs.declared.word_slot.WordSlot.TheVariants.{Token, Name}
use Rattle.zst_line.specs.Grammar.{places_of}
use Rattle.zst_line.specs.WordFaults.{Misread, FirstMisread, MisreadAs}
use Rattle.zst_line.specs.Line.{LineAnswers}

no_usage_here : (slot : WordSlot) (word : List ℕ) (at : ℕ) → Misread slot word (faults.Usage at) → ⊥
no_usage_here (Name names) word at h = h
no_usage_here Token word at h = h
no_usage_here slot word at h = h

no_usage : (slots : List WordSlot) (words : List (List ℕ)) (at : ℕ) → FirstMisread slots words (faults.Usage at) → ⊥
no_usage [] words at h = h
no_usage (slot ∷ slots) [] at h = h
no_usage (slot ∷ slots) (word ∷ words) at (inl here) = no_usage_here slot word at here
no_usage (slot ∷ slots) (word ∷ words) at (inr later) = no_usage slots words at later.1

pub misread_answers : (words : List (List ℕ)) (fault : LineFault) → MisreadAs fault words → LineAnswers words (Err fault)
misread_answers words (faults.Usage at) h = absurd (no_usage (places_of h.kind h.rest) h.rest at h.fact.1)
misread_answers words (faults.BadName at) h = h
misread_answers words (faults.BadToken at) h = h
misread_answers words faults.Memory h = tt
