-- What is reached on an image is reached on another one that has the bytes of these sectors.
use Rattle.std.proofs.Common.{◌≡◌, inl, inr, ℕ, zero, suc, ◌+◌, ◌*◌, ◌/◌, ◌<◌, ◌≤◌, List, ◌++◌, false, length, take, drop, refl, sym, ◌∙◌, ap, subst, arith}
use Rattle.std.specs.Prelude.{◌↔◌}
use Rattle.std.proofs.Math.Seq.{take-add}
use Rattle.std.proofs.lemmas.List.{drop-drop}
use Rattle.zst_outside.specs.Ranges.{bytes_at}
use Rattle.zst_block.specs.Blocks.{IsBlock}
use Rattle.zst_block.specs.Ptr.{is_flat}
use Rattle.zst_block.specs.declared.ptr.Ptr.{Ptr}
use Rattle.zst_dnode.specs.declared.slot.Slot.{Slot}
use Rattle.zst_dnode.specs.declared.slot.Slot.TheVariants.{Absent, There}
use Rattle.zst_tree.specs.Indices.{Blocks, child, span}
use Rattle.zst_tree.specs.declared.tree.ObjSet.{ObjSet}
use Rattle.zst_reach.specs.Reached.{IsOf, ReachesBlock, ReachesSector, SparesReached}
use Rattle.zst_reach.specs.ReachedSets.{ReachesInSet, ReachesInSlot, ReachesInTree, StandsAt}
use Rattle.zst_reach.proofs.ReachedLaws.{reach_here, reach_suc}
use Rattle.zst_reach.proofs.SetWalks.{leaf_slot}

-- a range is one and then the next
bytes_at-add : (bytes : List ℕ) (place a b : ℕ) → bytes_at bytes place (a + b) ≡ bytes_at bytes place a ++ bytes_at bytes (place + a) b
unfolding bytes_at
bytes_at-add bytes place a b = take-add a b (drop place bytes) ∙ ap (λ (l : List ℕ). take a (drop place bytes) ++ take b l) (drop-drop a place bytes)

no_bytes : (old new : List ℕ) (place : ℕ) → bytes_at new place 0 ≡ bytes_at old place 0
unfolding bytes_at
no_bytes old new place = refl

module _ (old new : List ℕ) where
  -- each sector that is reached so has the same bytes in both images
  abbrev Same : (ℕ → Type 0) → Type 0
  Same reached = (sector : ℕ) → reached sector → bytes_at new (512 * sector) 512 ≡ bytes_at old (512 * sector) 512

  -- so do that many sectors in a row
  row_same : (sector count : ℕ) → Same (λ s. (sector ≤ s) × (s < sector + count)) → bytes_at new (512 * sector) (512 * count) ≡ bytes_at old (512 * sector) (512 * count)
  row_same sector zero same = no_bytes old new (512 * sector)
  row_same sector (suc count) same =
      let more : 512 * suc count ≡ 512 * count + 512 = omega arith in
      let next : 512 * sector + 512 * count ≡ 512 * (sector + count) = omega arith in
      let parts : (bytes : List ℕ) → bytes_at bytes (512 * sector) (512 * suc count) ≡ bytes_at bytes (512 * sector) (512 * count) ++ bytes_at bytes (512 * (sector + count)) 512 = λ bytes.
      ap (λ (n : ℕ). bytes_at bytes (512 * sector) n) more ∙ bytes_at-add bytes (512 * sector) (512 * count) 512 ∙ ap (λ (p : ℕ). bytes_at bytes (512 * sector) (512 * count) ++ bytes_at bytes p 512) next in
      parts new
      ∙ ap (λ (l : List ℕ). l ++ bytes_at new (512 * (sector + count)) 512) (row_same sector count (λ s is. same s (is.0, omega (arith, is.1))))
      ∙ ap (λ (l : List ℕ). bytes_at old (512 * sector) (512 * count) ++ l) (same (sector + count) (omega arith, omega arith))
      ∙ sym (parts old)

  -- and so a block stands in both
  block_same : (ptr : Ptr) (bytes : List ℕ) → length new ≡ length old → Same (IsOf ptr) → IsBlock old ptr bytes → IsBlock new ptr bytes
  block_same ptr bytes size same block =
      let count = ptr.length / 512 in
      let whole : ptr.length ≡ 512 * count = omega (arith, block.placed.whole) in
      record {
        placed = record { whole = block.placed.whole; inside = omega (arith, size, block.placed.inside) };
        bytes_are =
            ap (λ (n : ℕ). bytes_at new (512 * ptr.sector) n) whole ∙ row_same ptr.sector count (λ s is. same s (is.0, omega (arith, is.1, whole)))
            ∙ ap (λ (n : ℕ). bytes_at old (512 * ptr.sector) n) (sym whole) ∙ block.bytes_are;
        sum_is = block.sum_is;
      }

  -- A block of one image is one of the other and of the old one, where its sectors have the same bytes in both.
  record Crosses (from to : Blocks) : Type 0 where
    pub over : (ptr : Ptr) (bytes : List ℕ) → Same (IsOf ptr) → from ptr bytes → to ptr bytes
    pub back : (ptr : Ptr) (bytes : List ℕ) → Same (IsOf ptr) → from ptr bytes → IsBlock old ptr bytes

  to_old : (from to : Blocks) → Crosses from to → Crosses from (IsBlock old)
  to_old from to crosses = record { over = crosses.back; back = crosses.back }

  -- the pointer's own sectors are the same, and those below a child of its block
  own_same : (level : ℕ) (ptr : Ptr) → is_flat ptr ≡ false → Same (ReachesSector (IsBlock old) level ptr) → Same (IsOf ptr)
  own_same level ptr inner same = λ sector of. same sector (reach_here (IsBlock old) level ptr sector inner of)

  child_same : (level : ℕ) (ptr : Ptr) (bytes : List ℕ) (k : ℕ) → is_flat ptr ≡ false → IsBlock old ptr bytes → k < 128 → Same (ReachesSector (IsBlock old) (suc level) ptr) → Same (ReachesSector (IsBlock old) level (child bytes k))
  child_same level ptr bytes k inner block less same = λ sector reached. same sector (reach_suc (IsBlock old) level ptr bytes k sector inner block less reached)

  -- a leaf that stands is reached
  stands_reached : (has : Blocks) (level : ℕ) (ptr : Ptr) (first index : ℕ) (leaf : Ptr) → is_flat leaf ≡ false → StandsAt has level ptr first index leaf → ReachesBlock has level ptr leaf
  unfolding ReachesBlock StandsAt
  stands_reached has zero ptr first index leaf some stands = (subst (λ (p : Ptr). is_flat p ≡ false) stands.1 some, stands.1)
  stands_reached has (suc level) ptr first index leaf some (inner, (bytes, there, k, less, lower)) =
      (inner, inr (bytes, there, k, less, stands_reached has level (child bytes k) (first + k * span level) index leaf some lower))

  module _ (from to : Blocks) (crosses : Crosses from to) where
    block_over : (level : ℕ) (ptr found : Ptr) → Same (ReachesSector (IsBlock old) level ptr) → ReachesBlock from level ptr found → ReachesBlock to level ptr found
    unfolding ReachesBlock
    block_over zero ptr found same reached = reached
    block_over (suc level) ptr found same (inner, inl here) = (inner, inl here)
    block_over (suc level) ptr found same (inner, inr (bytes, there, k, less, lower)) =
        let own = own_same (suc level) ptr inner same in
        (inner, inr (bytes, crosses.over ptr bytes own there, k, less, block_over level (child bytes k) found (child_same level ptr bytes k inner (crosses.back ptr bytes own there) less same) lower))

    sector_over : (level : ℕ) (ptr : Ptr) → Same (ReachesSector (IsBlock old) level ptr) → (sector : ℕ) → ReachesSector from level ptr sector → ReachesSector to level ptr sector
    sector_over level ptr same sector is = record { found = is.found; reached = block_over level ptr is.found same is.reached; is_of = is.is_of }

    stands_over : (level : ℕ) (ptr : Ptr) (first index : ℕ) (leaf : Ptr) → Same (ReachesSector (IsBlock old) level ptr) → StandsAt from level ptr first index leaf → StandsAt to level ptr first index leaf
    unfolding StandsAt
    stands_over zero ptr first index leaf same stands = stands
    stands_over (suc level) ptr first index leaf same (inner, (bytes, there, k, less, lower)) =
        let own = own_same (suc level) ptr inner same in (
          inner,
          (
            bytes,
            crosses.over ptr bytes own there,
            k,
            less,
            stands_over level (child bytes k) (first + k * span level) index leaf (child_same level ptr bytes k inner (crosses.back ptr bytes own there) less same) lower,
          ),
        )

    slot_over : (slot : Slot) → Same (ReachesInSlot (IsBlock old) slot) → (sector : ℕ) → ReachesInSlot from slot sector → ReachesInSlot to slot sector
    slot_over (Absent date) same sector reached = reached
    slot_over (There dnode) same sector (inl reached) = inl (sector_over dnode.levels dnode.root (λ s is. same s (inl is)) sector reached)
    slot_over (There dnode) same sector (inr reached) = inr (sector_over 0 dnode.spill (λ s is. same s (inr is)) sector reached)

  tree_over : (from to : Blocks) → Crosses from to → (level : ℕ) (ptr : Ptr) (first : ℕ) → Same (ReachesInTree (IsBlock old) level ptr first) → (sector : ℕ) → ReachesInTree from level ptr first sector → ReachesInTree to level ptr first sector
  tree_over from to crosses level ptr first same sector (inl reached) = inl (sector_over from to crosses level ptr (λ s is. same s (inl is)) sector reached)
  tree_over from to crosses level ptr first same sector (inr by) =
      let nodes : Same (ReachesSector (IsBlock old) level ptr) = λ s is. same s (inl is) in
      let stood = stands_over from (IsBlock old) (to_old from to crosses) level ptr first by.index by.leaf nodes by.stands in
      let own : Same (IsOf by.leaf) = λ s of. nodes s (record { found = by.leaf; reached = stands_reached (IsBlock old) level ptr first by.index by.leaf by.some stood; is_of = of }) in
      let block = crosses.back by.leaf by.inside.bytes own by.inside.there in
      inr (record {
        leaf = by.leaf;
        index = by.index;
        small = by.small;
        stands = stands_over from to crosses level ptr first by.index by.leaf nodes by.stands;
        some = by.some;
        inside = record {
          bytes = by.inside.bytes;
          there = crosses.over by.leaf by.inside.bytes own by.inside.there;
          place = by.inside.place;
          under = by.inside.under;
          slot = by.inside.slot;
          stands = by.inside.stands;
          reached = slot_over from to crosses by.inside.slot
              (λ s is. same s (inr (record {
                leaf = by.leaf;
                index = by.index;
                small = by.small;
                stands = stood;
                some = by.some;
                inside = leaf_slot old by.leaf by.inside.bytes by.inside.place s by.inside.slot block by.inside.under by.inside.stands is;
              }))) sector by.inside.reached;
        };
      })

  -- images of one length cross both ways
  forth : length new ≡ length old → Crosses (IsBlock old) (IsBlock new)
  forth size = record { over = λ ptr bytes same block. block_same ptr bytes size same block; back = λ ptr bytes same block. block }

back : (old new : List ℕ) → length new ≡ length old → Crosses old new (IsBlock new) (IsBlock old)
back old new size =
    let over : (ptr : Ptr) (bytes : List ℕ) → Same old new (IsOf ptr) → IsBlock new ptr bytes → IsBlock old ptr bytes = λ ptr bytes same block. block_same new old ptr bytes (sym size) (λ s of. sym (same s of)) block in
    record { over = over; back = over }

pub ReachesSector-spared : (old new : List ℕ) (level : ℕ) (ptr : Ptr) → SparesReached (ReachesSector (IsBlock old) level ptr) old new → (sector : ℕ) → ReachesSector (IsBlock old) level ptr sector ↔ ReachesSector (IsBlock new) level ptr sector
ReachesSector-spared old new level ptr spares sector =
    (sector_over old new (IsBlock old) (IsBlock new) (forth old new spares.size) level ptr spares.sectors sector, sector_over old new (IsBlock new) (IsBlock old) (back old new spares.size) level ptr spares.sectors sector)

pub ReachesInSet-spared : (old new : List ℕ) (set : ObjSet) → SparesReached (ReachesInSet (IsBlock old) set) old new → (sector : ℕ) → ReachesInSet (IsBlock old) set sector ↔ ReachesInSet (IsBlock new) set sector
ReachesInSet-spared old new set spares sector = (
  tree_over old new (IsBlock old) (IsBlock new) (forth old new spares.size) set.tree.levels set.tree.root 0 spares.sectors sector,
  tree_over old new (IsBlock new) (IsBlock old) (back old new spares.size) set.tree.levels set.tree.root 0 spares.sectors sector,
)
