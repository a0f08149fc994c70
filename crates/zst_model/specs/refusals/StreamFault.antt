-- The number and the text of each fault of a stream.
use Rattle.std.specs.Prelude.{ℕ, List, [], ◌∷◌, codes, decimal}
use Rattle.std.specs.List.{concat}
use Rattle.zst_model.specs.refusals.Faults.{flaw_text, lack_text}
use Rattle.zst_model.specs.refusals.Texts.{sums_text}
use Rattle.zst_model.specs.declared.refusals.stream_fault.StreamFault.{StreamFault}
use Rattle.zst_model.specs.declared.refusals.stream_fault.StreamFault.TheVariants as faults

-- the number of a stream's fault
abbrev pub stream_number : StreamFault → ℕ
stream_number (faults.Grammar at flaw) = 17
stream_number (faults.Checksum at stated found) = 18
stream_number (faults.Unsupported at lack) = 19
stream_number (faults.Truncated at) = 20

-- the text of a stream's fault
unfoldable pub stream_text : StreamFault → List ℕ
stream_text (faults.Grammar at flaw) = concat (codes "grammar at " ∷ decimal at ∷ codes ": " ∷ flaw_text flaw ∷ [])
stream_text (faults.Checksum at stated found) =
    concat (codes "checksum at " ∷ decimal at ∷ codes ": stated " ∷ sums_text stated ∷ codes ", found " ∷ sums_text found ∷ [])
stream_text (faults.Unsupported at lack) = concat (codes "unsupported at " ∷ decimal at ∷ codes ": " ∷ lack_text lack ∷ [])
stream_text (faults.Truncated at) = concat (codes "truncated at " ∷ decimal at ∷ [])
