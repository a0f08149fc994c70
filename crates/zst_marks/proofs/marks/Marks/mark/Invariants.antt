use Rattle.std.proofs.Common.{◌≡◌, ◌⊎◌, ◌↔◌, ℕ, length}
use Rattle.zst_space.specs.FreeSectors.{IsWithin}
use Rattle.zst_marks.specs.Marks.{IsMarked}
use Rattle.zst_marks.proofs.marks.Marks.mark.Given as goal

-- the first sectors are marked
abbrev pub invariant-loop-k : goal.invariant-loop-k
invariant-loop-k l = record {
  marked : (sector : ℕ) → IsMarked l.self sector ↔ (IsWithin l.first l.k sector ⊎ IsMarked l.initial.self sector);
  room : length l.self ≡ length l.initial.self;
}
