-- Blocks that are taken, in the words of calls that write.
use Rattle.std.proofs.Common.{◌≡◌, inl, ℕ, ◌+◌, ◌≤◌, ◌||◌, Bool, false, refl, sym, ◌∙◌, ap, arith}
use Rattle.std.specs.Prelude.{Option, Some, None}
use Rattle.zst_outside.specs.Images.{OnlyReads-none}
use Rattle.zst_space.specs.FreeSectors.{FreeSectors, IsFree, largest_of, room}
use Rattle.zst_space.specs.TakenExtents.{without}
use Rattle.zst_block.specs.IoStates.{IoState}
use Rattle.zst_block.specs.IoCalls.{IsBlockLength, IsFull, TakesAtMost, Works, fails}
use Rattle.zst_block.specs.declared.fault.BlockFault.{BlockFault}
use Rattle.zst_block.specs.declared.fault.BlockFault.TheVariants.{DiskFault, Full}
use Rattle.zst_block.proofs.BlocksLaws.{FillsFree-reads}
use Rattle.zst_block.proofs.IoCallLemmas.{Looks-none}
use Rattle.zst_block.proofs.TakenSectors.{takes, takes_more, takes_then}
use Rattle.zst_extents.proofs.Stored.{FillsFree-less}

-- with these free sectors
abbrev pub left_with : FreeSectors → IoState → IoState
left_with left io = record { disk = io.disk; space = left; failed = io.failed; checksum_errors = io.checksum_errors; reference = io.reference }

-- one block more is taken
pub TakesAtMost-more : (taken most : ℕ) (space mid less : FreeSectors) → TakesAtMost taken (IsBlockLength 16) space mid → less ≡ without mid 16 → 16 ≤ largest_of mid → room less + 16 ≡ room mid → taken + 16 ≤ most
    → TakesAtMost most (IsBlockLength 16) space less
TakesAtMost-more taken most space mid less first after some left le =
    let second = takes {IsLength = IsBlockLength 16} mid less 16 (inl refl) (λ fits. after) (λ under. absurd (omega (arith, under, some))) (omega (arith, left)) in
    takes_more (taken + 16) most space less le (takes_then space mid less first second)

-- sectors are taken, and nothing is written
pub Works-space : {most : ℕ} {old : IoState} {less : FreeSectors} {stop : Option BlockFault} → ((sector : ℕ) → IsFree less sector → IsFree old.space sector) → TakesAtMost most (IsBlockLength 16) old.space less
    → ((need largest : ℕ) → stop ≡ Some (Full need largest) → IsFull most 16 old.space less need largest) → fails stop ≡ false → (stop ≡ Some DiskFault → ⊥) → Works most 16 old (left_with less old) stop
Works-space {most} {old} {less} {stop} fewer taken full sure never = record {
  fills = FillsFree-less old.disk old.disk old.space old.space less fewer (FillsFree-reads old.disk old.disk old.space (OnlyReads-none old.disk));
  takes = taken;
  full = full;
  told = λ whole. refl;
  failed = (Looks-none old).failed ∙ ap (λ (b : Bool). old.failed || b) (sym sure);
  cause = record { later = omega arith; fault = λ is. absurd (never is) };
  same = refl;
}

-- after a call that wrote into some of them, those that are left
pub Works-left : {most more : ℕ} {old new : IoState} {left : FreeSectors} → Works most 16 old new None → ((sector : ℕ) → IsFree left sector → IsFree new.space sector) → TakesAtMost more (IsBlockLength 16) old.space left → Works more 16 old (left_with left new) None
Works-left {most} {more} {old} {new} {left} works fewer taken = record {
  fills = FillsFree-less old.disk new.disk old.space new.space left fewer works.fills;
  takes = taken;
  full = λ need largest is. absurd (cc);
  told = works.told;
  failed = works.failed;
  cause = works.cause;
  same = works.same;
}
