-- What a part that wrote into free sectors alone leaves of sectors 0 to 7.
use Rattle.std.proofs.Common.{◌≡◌, ℕ, ◌+◌, ◌≤◌, List, sym, ◌∙◌, arith}
use Rattle.zst_outside.specs.Images.{DiskState}
use Rattle.zst_outside.specs.Ranges.{bytes_at}
use Rattle.zst_space.specs.FreeSectors.{FreeSectors}
use Rattle.zst_block.specs.Blocks.{FillsFree, IsTaken, SparesTaken}
use Rattle.zst_uber.specs.Commit.{LabelSettled}
use Rattle.zst_uber.specs.Slots.{latest}
use Rattle.zst_uber.proofs.SlotsLaws.{latest-label}

-- where sectors 0 to 7 aren't free, what is spared has them as they were
pub label-spared : (space : FreeSectors) (d c : List ℕ) → IsTaken space 0 4096 → SparesTaken space d c → (p n : ℕ) → p + n ≤ 4096 → bytes_at c p n ≡ bytes_at d p n
label-spared space d c label spares = λ p n le. spares.ranges p n (λ byte starts ends. label byte (omega arith) (omega (arith, le, ends)))

pub latest-spared : (space : FreeSectors) (d c : List ℕ) → IsTaken space 0 4096 → SparesTaken space d c → latest c ≡ latest d
latest-spared space d c label spares = latest-label d c (label-spared space d c label spares)

pub LabelSettled-fills : (old new : DiskState) (space less : FreeSectors) → IsTaken space 0 4096 → FillsFree old space new less → LabelSettled old → LabelSettled new
LabelSettled-fills old new space less label fills settled = λ c now p n le.
    let was = fills.crash c now in
    label-spared space was.0 c label was.2 p n le ∙ settled was.0 was.1 p n le ∙ sym (label-spared space old.seen new.seen label fills.seen p n le)
