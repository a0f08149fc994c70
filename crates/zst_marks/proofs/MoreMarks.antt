-- More marks, and then more.
use Rattle.std.proofs.Common.{ℕ, List, refl, ◌∙◌}
use Rattle.zst_marks.specs.Marks.{MarksMore}

pub MarksMore-none : (words : List ℕ) → MarksMore words words
MarksMore-none words = record { stay = λ sector marked. marked; room = refl }

pub MarksMore-then : (old mid new : List ℕ) → MarksMore old mid → MarksMore mid new → MarksMore old new
MarksMore-then old mid new first second = record { stay = λ sector marked. second.stay sector (first.stay sector marked); room = second.room ∙ first.room }
