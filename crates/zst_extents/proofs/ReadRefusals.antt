-- What a refusal of reading extents tells.
use Rattle.std.specs.Prelude.{Result, Ok, Err}
use Rattle.std.proofs.Common.{◌≡◌, inl, inr, ℕ, zero, suc, ◌*◌, ◌<◌, ◌≤◌, List, All, length, refl, sym, subst, arith}
use Rattle.std.specs.Result.{IsErrAnd}
use Rattle.zst_fletcher.specs.WeightSum.{parts_of}
use Rattle.zst_space.specs.declared.space.Extent.{Extent}
use Rattle.zst_marks.specs.Marks.{Apart}
use Rattle.zst_block.specs.declared.fault.BlockFault.{BlockFault}
use Rattle.zst_block.specs.declared.fault.BlockFault.TheVariants.{Damaged}
use Rattle.zst_block.specs.declared.ptr.Ptr.{Ptr}
use Rattle.zst_tree.specs.Indices.{Blocks}
use Rattle.zst_tree.specs.declared.or_memory.OrMemory.{OrMemory}
use Rattle.zst_tree.specs.declared.or_memory.OrMemory.TheVariants.{Fault, Memory}
use Rattle.zst_leaves.specs.Damage.{TellsText}
use Rattle.zst_leaves.specs.Leaves.{BlocksBefore, GivesText, HasLeaves, IsLeast}
use Rattle.zst_leaves.proofs.DamageLemmas.{alike_told}
use Rattle.zst_leaves.proofs.LevelCounts.{span_le, span_three}
use Rattle.zst_extents.specs.ExtentReads.{FitsWords, GivesExtents, TellsExtents}
use Rattle.zst_extents.specs.StoredExtents.{HasExtents, extent_bytes}
use Rattle.zst_extents.proofs.ApartExtents.{Apart-fits}
use Rattle.zst_extents.proofs.OneSet.{bytes_tell}
use Rattle.zst_extents.proofs.Stored.{spelled_length}

-- where the text is there, no damage is told of the extents
pub none_told : (extents : List Extent) (text : List ℕ) (S T : Type 0) (items : T → List ℕ) (read : S → List Extent) (result : Result S (OrMemory BlockFault)) (fault : OrMemory BlockFault) → IsErrAnd result (λ made. made ≡ fault)
    → GivesText text items (Err fault) → GivesExtents extents read result
none_told extents text S T items read (Ok value) fault is given = absurd is
none_told extents text S T items read (Err made) (Fault fault) is given = rw is given
none_told extents text S T items read (Err made) Memory is given = rw is tt

-- and where they were read none is told
pub passed_on : (extents : List Extent) (S T : Type 0) (items : T → List Extent) (read : S → List Extent) (result : Result S (OrMemory BlockFault)) (fault : OrMemory BlockFault) → IsErrAnd result (λ made. made ≡ fault)
    → GivesExtents extents items (Err fault) → GivesExtents extents read result
passed_on extents S T items read (Ok value) fault is given = absurd is
passed_on extents S T items read (Err made) (Fault fault) is given = rw is given
passed_on extents S T items read (Err made) Memory is given = rw is tt

-- what the read of the leaves tells
pub leaves_told : (before : ℕ) (image : List ℕ) (size levels : ℕ) (root : Ptr) (long : ℕ) (S T : Type 0) (result : Result S (OrMemory BlockFault)) (fault : OrMemory BlockFault) → IsErrAnd result (λ made. made ≡ fault)
    → TellsText {T = T} before image size levels root long (Err fault) → TellsText {T = S} before image size levels root long result
leaves_told before image size levels root long S T (Ok value) fault is told = absurd is
leaves_told before image size levels root long S T (Err made) (Fault fault) is told = rw is told
leaves_told before image size levels root long S T (Err made) Memory is told = rw is tt

-- is told of the extents
pub extents_told : (before : ℕ) (image : List ℕ) (size levels : ℕ) (root : Ptr) (count end : ℕ) (S T : Type 0) (result : Result S (OrMemory BlockFault)) (fault : OrMemory BlockFault) → IsErrAnd result (λ made. made ≡ fault)
    → TellsText {T = T} before image size levels root (16 * count) (Err fault) → TellsExtents {T = S} before image size levels root count end result
extents_told before image size levels root count end S T (Ok value) fault is told = absurd is
extents_told before image size levels root count end S T (Err made) (Fault fault) is told = rw is (inl told)
extents_told before image size levels root count end S T (Err made) Memory is told = rw is tt

-- a root over which no such text has room is told, whatever it leads to
pub alike : (before : ℕ) (image : List ℕ) (size levels : ℕ) (root : Ptr) (long : ℕ) (S : Type 0) (fault : OrMemory BlockFault) → ¬ ((0 < long) × IsLeast levels long) → fault ≡ Fault (Damaged root.sector (parts_of root.sum) (parts_of root.sum))
    → TellsText {T = S} before image size levels root long (Err fault)
alike before image size levels root long S fault nowhere is = rw is (inl (alike_told image size _ root _ refl nowhere))

-- more extents than fit leaves have room below no levels
pub too_long : (levels count : ℕ) → 1073741824 < count → ¬ ((0 < 16 * count) × IsLeast levels (16 * count))
too_long levels count many both = omega (arith, many, both.1.enough, span_le levels 3 both.1.few, span_three)

-- extents in leaves are no more than fit them
pub few_extents : (has : Blocks) (levels : ℕ) (root : Ptr) (extents : List Extent) → HasLeaves has levels root (extent_bytes extents) → length extents ≤ 1073741824
few_extents has levels root extents is = omega (arith, spelled_length extents, is.least.enough, span_le levels 3 is.least.few, span_three)

-- where extents that aren't apart were read, the root is told
pub root_told : (before : ℕ) (image : List ℕ) (size levels : ℕ) (root : Ptr) (count end : ℕ) (extents : List Extent) (S : Type 0) (fault : OrMemory BlockFault) → end < 18446744073709551616 → All FitsWords extents → ¬ Apart 8 extents end
    → HasExtents (BlocksBefore before image) levels root count extents → fault ≡ Fault (Damaged root.sector (parts_of root.sum) (parts_of root.sum)) → TellsExtents {T = S} before image size levels root count end (Err fault)
root_told before image size levels root count end extents S fault small fit not is told = go count is
  where
    go : (n : ℕ) → HasExtents (BlocksBefore before image) levels root n extents → TellsExtents {T = S} before image size levels root n end (Err fault)
    go zero has = rw told (inl (inl (alike_told image size _ root _ refl (λ some. omega (arith, some.0)))))
    go (suc n) has = rw told (inr (
      record {
        text = extent_bytes extents;
        leaves = has.leaves (omega arith);
        long = omega (arith, spelled_length extents, has.count_is);
        none_apart = λ others apart same. not (subst (λ (l : List Extent). Apart 8 l end) (sym (bytes_tell extents others fit (Apart-fits others end small apart) same)) apart);
      },
      (refl, refl, refl),
    ))
