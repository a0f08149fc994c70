-- Blocks before the end of a space.
use Rattle.std.proofs.Common.{◌≡◌, inl, inr, ⊎_elim, ℕ, ◌+◌, ◌-◌, ◌*◌, ◌/◌, ◌<◌, ◌≤◌, List, [], length, sym, ◌∙◌, ap, subst, arith}
use Rattle.std.proofs.lemmas.Bool.{cases_lt}
use Rattle.zst_outside.specs.Ranges.{length-bytes_at}
use Rattle.zst_space.specs.FreeSectors.{FreeSectors, IsInSome}
use Rattle.zst_space.specs.declared.space.Extent.{Extent}
use Rattle.zst_block.specs.Blocks.{Has}
use Rattle.zst_block.specs.declared.ptr.Ptr.{Ptr}
use Rattle.zst_leaves.specs.Leaves.{BlocksBefore, StandsBefore}

-- a block of some bytes that is there ends before the end
ends_before : (image : List ℕ) (space : FreeSectors) (ptr : Ptr) (bytes : List ℕ) → Has image space ptr bytes → 0 < length bytes → 512 * ptr.sector + ptr.length ≤ 512 * space.end
ends_before image space ptr bytes has some =
    let place = 512 * ptr.sector in
    let count = ptr.length in
    let long : length bytes ≡ count = ap length (sym has.block.bytes_are) ∙ length-bytes_at image place count has.block.placed.inside in
    let last = place + count - 1 in
    elim (cases_lt (last / 512) space.end) [
      | inl below ↦ omega arith
      | inr past ↦ absurd (has.taken last (omega arith) (omega arith) (inr past))
    ]

pub Has-stands : (image : List ℕ) (space : FreeSectors) (ptr : Ptr) (bytes : List ℕ) → Has image space ptr bytes → length bytes ≡ 8192 → StandsBefore space.end ptr
Has-stands image space ptr bytes has long = record { behind = has.behind; inside = ends_before image space ptr bytes has (omega arith) }

-- where all sectors before the end are taken, a block before it is there
pub Has-before : (image : List ℕ) (space : FreeSectors) → space.free ≡ [] → (ptr : Ptr) (bytes : List ℕ) → BlocksBefore space.end image ptr bytes → Has image space ptr bytes
Has-before image space none ptr bytes is = record {
  block = is.0;
  behind = is.1.behind;
  taken = λ byte starts ends free. ⊎_elim
      (λ some. let nowhere = subst (λ (l : List Extent). IsInSome l (byte / 512)) none some in absurd nowhere)
      (λ past. omega (arith, ends, past, is.1.inside)) free;
}
