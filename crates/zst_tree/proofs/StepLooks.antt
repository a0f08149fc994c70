-- What calls that look cost, one after another.
use Rattle.std.proofs.Common.{◌≡◌, ℕ, ◌+◌, ◌≤◌, arith}
use Rattle.std.specs.Prelude.{Option, None}
use Rattle.zst_block.specs.IoStates.{IoState}
use Rattle.zst_block.specs.declared.fault.BlockFault.{BlockFault}
use Rattle.zst_block.proofs.IoCallLemmas.{Looks-none, Looks-then}
use Rattle.zst_tree.specs.Steps.{LooksAtMost, LooksBySteps, LooksInSteps}

-- a call that does nothing
pub BySteps-none : (io : IoState) (steps : ℕ) → LooksBySteps io io None steps steps
BySteps-none io steps = record { looks = Looks-none io; later = omega arith; calls = omega arith }

pub InSteps-none : {most : ℕ} (io : IoState) (steps : ℕ) → LooksInSteps most io io None steps steps
InSteps-none io steps = record { by_steps = BySteps-none io steps; few = omega arith }

pub AtMost-none : {most : ℕ} (io : IoState) → LooksAtMost most io io None
AtMost-none io = record { looks = Looks-none io; calls = omega arith }

-- two calls
module _ {old mid new : IoState} {stop : Option BlockFault} where
  pub BySteps-then : {before middle after : ℕ} → LooksBySteps old mid None before middle → LooksBySteps mid new stop middle after → LooksBySteps old new stop before after
  BySteps-then first second = record { looks = Looks-then first.looks second.looks; later = omega (arith, first.later, second.later); calls = omega (arith, first.calls, second.calls) }

  pub InSteps-then : {one more most before middle after : ℕ} → one + more ≤ most → LooksInSteps one old mid None before middle → LooksInSteps more mid new stop middle after → LooksInSteps most old new stop before after
  InSteps-then le first second = record { by_steps = BySteps-then first.by_steps second.by_steps; few = omega (arith, le, first.few, second.few) }

  pub AtMost-then : {one more most : ℕ} → one + more ≤ most → LooksAtMost one old mid None → LooksAtMost more mid new stop → LooksAtMost most old new stop
  AtMost-then le first second = record { looks = Looks-then first.looks second.looks; calls = omega (arith, le, first.calls, second.calls) }

-- who takes fewer takes no more
module _ {old new : IoState} {stop : Option BlockFault} where
  pub InSteps-more : {fewer most before after : ℕ} → fewer ≤ most → LooksInSteps fewer old new stop before after → LooksInSteps most old new stop before after
  InSteps-more le looks = record { by_steps = looks.by_steps; few = omega (arith, le, looks.few) }

  pub AtMost-more : {fewer most : ℕ} → fewer ≤ most → LooksAtMost fewer old new stop → LooksAtMost most old new stop
  AtMost-more le looks = record { looks = looks.looks; calls = omega (arith, le, looks.calls) }

  -- a call that counts one step for all that it asks of the disk
  pub InSteps-one : {before after : ℕ} → after ≡ before + 1 → LooksAtMost 1 old new stop → LooksInSteps 1 old new stop before after
  InSteps-one one looks = record { by_steps = record { looks = looks.looks; later = omega (arith, one); calls = omega (arith, one, looks.calls) }; few = omega (arith, one) }
