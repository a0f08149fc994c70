-- What was written stands over fewer free sectors too.
use Rattle.std.proofs.Common.{◌≡◌, ℕ, ◌*◌, List, [], ◌∷◌, length, ◌∙◌, ap, arith}
use Rattle.std.proofs.lemmas.List.{length-append}
use Rattle.zst_outside.specs.Images.{DiskState}
use Rattle.zst_space.specs.FreeSectors.{FreeSectors, IsFree}
use Rattle.zst_space.specs.declared.space.Extent.{Extent}
use Rattle.zst_bytes.specs.Words.{word}
use Rattle.zst_bytes.proofs.BytesLaws.{length-number_bytes}
use Rattle.zst_block.specs.Blocks.{FillsFree, Has}
use Rattle.zst_block.specs.declared.ptr.Ptr.{Ptr}
use Rattle.zst_block.proofs.BlocksLaws.{Has-fewer}
use Rattle.zst_leaves.specs.Leaves.{Laid}
use Rattle.zst_extents.specs.StoredExtents.{HasExtents, extent_bytes}
use Rattle.zst_extents.proofs.ExtentGrowth.{HasExtents-grows}
use Rattle.zst_extents.proofs.Spelled.{bytes_cons, bytes_none}

word_length : (n : ℕ) → length (word n) ≡ 8
word_length n = length-number_bytes 8 n

pub spelled_length : (extents : List Extent) → length (extent_bytes extents) ≡ 16 * length extents
spelled_length [] = ap length bytes_none
spelled_length (e ∷ es) =
    let one = word_length e.first in
    let two = word_length e.count in
    ap length (bytes_cons e es) ∙ length-append (word e.first) _ ∙ omega (arith, one, length-append (word e.count) (extent_bytes es), two, spelled_length es)

pub FillsFree-less : (old new : DiskState) (space mid less : FreeSectors) → ((sector : ℕ) → IsFree less sector → IsFree mid sector) → FillsFree old space new mid → FillsFree old space new less
FillsFree-less old new space mid less fewer fills = record {
  size = fills.size;
  fewer = λ sector free. fills.fewer sector (fewer sector free);
  seen = fills.seen;
  honest = fills.honest;
  crash = fills.crash;
  time = fills.time;
  kept = fills.kept;
}

pub HasExtents-less : (number : ℕ) (space : FreeSectors) (image : List ℕ) (mid less : FreeSectors) → ((sector : ℕ) → IsFree less sector → IsFree mid sector) → (levels : ℕ) (root : Ptr) (count : ℕ) (extents : List Extent)
    → HasExtents (Laid number space (Has image mid)) levels root count extents → HasExtents (Laid number space (Has image less)) levels root count extents
HasExtents-less number space image mid less fewer levels root count extents is =
    HasExtents-grows (Laid number space (Has image mid)) (Laid number space (Has image less)) (λ ptr bytes laid. (Has-fewer image mid less ptr bytes fewer laid.0, laid.1, laid.2)) levels root count extents is
