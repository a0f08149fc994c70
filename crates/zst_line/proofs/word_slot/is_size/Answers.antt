use Rattle.std.proofs.Common.{sym, ◌∙◌, arith}
use Rattle.std.proofs.lemmas.Bool.{false≢true}
use Rattle.zst_line.proofs.Sizes.{block_size_below}
use Rattle.zst_line.proofs.word_slot.is_size.Goals as goal

pub returns-in-Some : goal.returns-in-Some
returns-in-Some c = (
  λ h. record { size = c.in-Some.size; spelled = c.in-Some.ensures.found; block = sym c.is_block_size.ensures ∙ h },
  λ s.
      let small = block_size_below s.size s.block in
      let same = c.in-Some.ensures.exact s.size (omega arith) s.spelled in
      cc (c.is_block_size.ensures, s.block),
)

pub returns-in-None : goal.returns-in-None
returns-in-None c = (
  λ h. absurd (false≢true h),
  λ s.
      let small = block_size_below s.size s.block in
      cc (c.in-None.ensures.exact s.size (omega arith) s.spelled),
)
