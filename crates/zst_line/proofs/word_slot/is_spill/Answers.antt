use Rattle.std.proofs.Common.{◌≡◌, Some, decimal, sym, ◌∙◌, arith, lit<}
use Rattle.std.proofs.lemmas.Bool.{false≢true}
use Rattle.std.proofs.lemmas.Str.Pattern.{split_parts}
use Rattle.zst_line.specs.Words.{IsHex}
use Rattle.zst_line.proofs.Sizes.{spill_size_below}
use Rattle.zst_line.proofs.Spills.{spill_halves, no_halves}
use Rattle.zst_line.proofs.word_slot.is_spill.Goals as goal

pub returns-then-is_spill_size : goal.returns-then-is_spill_size
returns-then-is_spill_size c = (
  λ h.
      let parts = split_parts 58 c.args.word.now (Some (c.in-Some.size, c.in-Some.bytes)) c.in-Some.ensures.cases (lit< tt) in
      let size : c.in-Some.size.now ≡ decimal c.in-Some-decimal.size = c.in-Some-decimal.ensures.found in
      record {
        size = c.in-Some-decimal.size;
        bytes = c.in-Some.bytes.now;
        spelled = rw size at parts.0;
        block = sym c.is_spill_size.ensures ∙ c.if-is_spill_size.true;
        digits = c.is_hex.ensures.0 h;
      },
  λ s.
      let halves = spill_halves c.args.word.now (c.in-Some.size, c.in-Some.bytes) c.in-Some.ensures.cases s in
      let small = spill_size_below s.size s.block in
      let same : Some c.in-Some-decimal.size ≡ Some s.size = c.in-Some-decimal.ensures.exact s.size (omega arith) halves.0 in
      let size : s.size ≡ c.in-Some-decimal.size = cc in
      let digits : IsHex 0 c.in-Some-decimal.size c.in-Some.bytes.now = rw (← size, halves.1) s.digits in
      c.is_hex.ensures.1 digits,
)

pub returns-else-is_spill_size : goal.returns-else-is_spill_size
returns-else-is_spill_size c = (
  λ h. absurd (false≢true (sym c.if-is_spill_size.false ∙ h)),
  λ s.
      let halves = spill_halves c.args.word.now (c.in-Some.size, c.in-Some.bytes) c.in-Some.ensures.cases s in
      let small = spill_size_below s.size s.block in
      let same : Some c.in-Some-decimal.size ≡ Some s.size = c.in-Some-decimal.ensures.exact s.size (omega arith) halves.0 in
      cc (same, s.block, c.is_spill_size.ensures),
)

pub returns-in-None-decimal : goal.returns-in-None-decimal
returns-in-None-decimal c = (
  λ h. absurd (false≢true h),
  λ s.
      let halves = spill_halves c.args.word.now (c.in-Some.size, c.in-Some.bytes) c.in-Some.ensures.cases s in
      let small = spill_size_below s.size s.block in
      cc (c.in-None-decimal.ensures.exact s.size (omega arith) halves.0),
)

pub returns-in-None : goal.returns-in-None
returns-in-None c = (λ h. absurd (false≢true h), λ s. absurd (no_halves c.args.word.now c.in-None.ensures.cases s))
