-- What is met and read of the objects in a leaf, taken apart and put together.
use Rattle.std.proofs.Common.{◌≡◌, inl, inr, ⊎_elim, ℕ, ◌<◌, List, refl, sym, subst}
use Rattle.std.specs.Prelude.{Option, Some, None, IfSome}
use Rattle.zst_block.specs.Blocks.{IsBlock}
use Rattle.zst_block.specs.declared.ptr.Ptr.{Ptr}
use Rattle.zst_dnode.specs.declared.dnode.Dnode.{Dnode}
use Rattle.zst_dnode.specs.declared.slot.Slot.{Slot}
use Rattle.zst_dnode.specs.declared.slot.Slot.TheVariants.{There}
use Rattle.zst_objset.specs.Damage.{HasSlot}
use Rattle.zst_reach.proofs.ReachedLaws.{one_block}
use Rattle.zst_count.specs.FirstSectors.{IsFirstInLeaf, IsFirstInSlot}
use Rattle.zst_count.specs.MetBlocks.{AreMet, AreMetBeside, AreMetInDnode, AreMetInLeaf, AreMetInSlot, AreRead, AreReadBeside, AreReadInDnode, AreReadInLeaf, AreReadInSlot, IsSpillOf, IsTreeOf, MetMore, StandsBeside}
use Rattle.zst_count.specs.declared.met_blocks.MetBlocks.{MetBlocks}
use Rattle.zst_count.proofs.MetLaws.{AllMet-more, AreMet-flat, AreRead-flat, AreRead-told}

module _ (image : List ℕ) where
  -- of what is met of an object are its tree and its spill
  met_tree : (end : ℕ) (marks : List ℕ) (dnode : Dnode) → AreMetInDnode image end marks dnode → AreMet image end marks dnode.levels dnode.root
  met_tree end marks dnode are = λ sector is under. are sector (inl is) under

  met_spill : (end : ℕ) (marks : List ℕ) (dnode : Dnode) → AreMetInDnode image end marks dnode → AreMet image end marks 0 dnode.spill
  met_spill end marks dnode are = λ sector is under. are sector (inr is) under

  -- what stands beside an object's tree was met where that object was
  pub met_tree_of : (end : ℕ) (marks : List ℕ) (known : Option Dnode) (level : ℕ) (root : Ptr) → IsTreeOf known level root → IfSome known (AreMetInDnode image end marks) → AreMet image end marks level root
  met_tree_of end marks None level root flat are = AreMet-flat image end marks level root flat
  met_tree_of end marks (Some dnode) level root (inl flat) are = AreMet-flat image end marks level root flat
  met_tree_of end marks (Some dnode) level root (inr same) are = rw (same.0, same.1) (met_tree end marks dnode are)

  pub met_spill_of : (end : ℕ) (marks : List ℕ) (known : Option Dnode) (spill : Ptr) → IsSpillOf known spill → IfSome known (AreMetInDnode image end marks) → AreMet image end marks 0 spill
  met_spill_of end marks None spill flat are = AreMet-flat image end marks 0 spill flat
  met_spill_of end marks (Some dnode) spill same are = rw same (met_spill end marks dnode are)

  -- and so it is with what was read, whatever lengths were told
  pub read_tree_of : (count : ℕ) (known : Option Dnode) (level : ℕ) (root : Ptr) → IsTreeOf known level root → IfSome known (AreReadInDnode image) → AreRead image (Some count) level root
  read_tree_of count None level root flat are = AreRead-flat image (Some count) level root flat
  read_tree_of count (Some dnode) level root (inl flat) are = AreRead-flat image (Some count) level root flat
  read_tree_of count (Some dnode) level root (inr same) are = rw (same.0, same.1) (AreRead-told image (Some dnode.block_size) (Some count) dnode.levels dnode.root (λ is. refl) are.0)

  pub read_spill_of : (count : ℕ) (known : Option Dnode) (spill : Ptr) → IsSpillOf known spill → IfSome known (AreReadInDnode image) → AreRead image (Some count) 0 spill
  read_spill_of count None spill flat are = AreRead-flat image (Some count) 0 spill flat
  read_spill_of count (Some dnode) spill same are = rw same (AreRead-told image (Some dnode.spill.length) (Some count) 0 dnode.spill (λ is. refl) are.1)

  -- an object is met where its tree is, and then its spill
  pub both_met : (old new : MetBlocks) (dnode : Dnode) → MetMore old new → AreMet image old.end old.marks dnode.levels dnode.root → AreMet image new.end new.marks 0 dnode.spill → AreMetInDnode image new.end new.marks dnode
  both_met old new dnode more tree spill = λ sector is under. ⊎_elim (λ here. AllMet-more old new _ more tree sector here under) (λ here. spill sector here under) is

  -- the object that stands in a leaf that was walked was met, and read
  met_object : (end : ℕ) (marks : List ℕ) (level : ℕ) (known : Ptr) (place : ℕ) (dnode : Dnode) → AreMetBeside image end marks level known → StandsBeside image level known place dnode → AreMetInDnode image end marks dnode
  met_object end marks level known place dnode are stands = λ sector is under.
      are stands.bottom stands.some sector (record { bytes = stands.bytes; there = stands.there; place = place; under = stands.under; slot = There dnode; stands = stands.slot; begins = is }) under

  pub met_beside : (end : ℕ) (marks : List ℕ) (level : ℕ) (known : Ptr) (place : ℕ) (object : Option Dnode) → AreMetBeside image end marks level known → IfSome object (StandsBeside image level known place)
      → IfSome object (AreMetInDnode image end marks)
  met_beside end marks level known place None are stands = tt
  met_beside end marks level known place (Some dnode) are stands = met_object end marks level known place dnode are stands

  read_object : (level : ℕ) (known : Ptr) (place : ℕ) (dnode : Dnode) → AreReadBeside image level known → StandsBeside image level known place dnode → AreReadInDnode image dnode
  read_object level known place dnode are stands =
      let leaf = are stands.bottom stands.some in
      leaf.slots place stands.under (There dnode) (subst (λ (b : List ℕ). HasSlot b place (There dnode)) (one_block image known stands.bytes leaf.bytes stands.there leaf.there) stands.slot)

  pub read_beside : (level : ℕ) (known : Ptr) (place : ℕ) (object : Option Dnode) → AreReadBeside image level known → IfSome object (StandsBeside image level known place) → IfSome object (AreReadInDnode image)
  read_beside level known place None are stands = tt
  read_beside level known place (Some dnode) are stands = read_object level known place dnode are stands

  -- all that is first in a place is met
  abbrev pub PlaceMet : ℕ → List ℕ → List ℕ → ℕ → Type 0
  PlaceMet end marks bytes place = (slot : Slot) → HasSlot bytes place slot → AreMetInSlot image end marks slot

  -- and all in it is read
  abbrev pub PlaceRead : List ℕ → ℕ → Type 0
  PlaceRead bytes place = (slot : Slot) → HasSlot bytes place slot → AreReadInSlot image slot

  -- so it is with each place
  pub leaf_met_all : (end : ℕ) (marks : List ℕ) (leaf : Ptr) (bytes : List ℕ) → IsBlock image leaf bytes → ((place : ℕ) → place < 16 → PlaceMet end marks bytes place) → AreMetInLeaf image end marks leaf
  leaf_met_all end marks leaf bytes block all = λ sector is under.
      let same : is.bytes ≡ bytes = one_block image leaf is.bytes bytes is.there block in
      all is.place is.under is.slot (subst (λ (b : List ℕ). HasSlot b is.place is.slot) same is.stands) sector is.begins under

  pub leaf_read_all : (leaf : Ptr) (bytes : List ℕ) → IsBlock image leaf bytes → ((place : ℕ) → place < 16 → PlaceRead bytes place) → AreReadInLeaf image leaf
  leaf_read_all leaf bytes block all = record { bytes = bytes; there = block; slots = λ place under slot stands. all place under slot stands }

-- the same over an image that is the same
pub met_beside_on : (image other : List ℕ) (old new : MetBlocks) (level : ℕ) (known : Ptr) → other ≡ image → MetMore old new → AreMetBeside image old.end old.marks level known → AreMetBeside other new.end new.marks level known
met_beside_on image other old new level known same more are = λ bottom inner.
    subst (λ (i : List ℕ). AreMetInLeaf i new.end new.marks known) (sym same) (AllMet-more old new _ more (are bottom inner))

pub read_beside_on : (image other : List ℕ) (level : ℕ) (known : Ptr) → other ≡ image → AreReadBeside image level known → AreReadBeside other level known
read_beside_on image other level known same are = λ bottom inner. subst (λ (i : List ℕ). AreReadInLeaf i known) (sym same) (are bottom inner)

pub met_slot_on : (image other : List ℕ) (end : ℕ) (marks : List ℕ) (slot read : Slot) → other ≡ image → read ≡ slot → AreMetInSlot other end marks read → AreMetInSlot image end marks slot
met_slot_on image other end marks slot read same slot_is are =
    subst (λ (s : Slot). AreMetInSlot image end marks s) slot_is (subst (λ (i : List ℕ). AreMetInSlot i end marks read) same are)

pub read_slot_on : (image other : List ℕ) (slot read : Slot) → other ≡ image → read ≡ slot → AreReadInSlot other read → AreReadInSlot image slot
read_slot_on image other slot read same slot_is are = subst (λ (s : Slot). AreReadInSlot image s) slot_is (subst (λ (i : List ℕ). AreReadInSlot i read) same are)

-- what is first in a slot that was read is first in its leaf
pub up_slot : (image other before : List ℕ) (leaf : Ptr) (bytes loaded : List ℕ) (place sector : ℕ) (slot : Slot) → image ≡ before → other ≡ image → IsBlock before leaf loaded → bytes ≡ loaded → place < 16 → HasSlot bytes place slot
    → IsFirstInSlot (IsBlock other) slot sector → IsFirstInLeaf (IsBlock image) leaf sector
up_slot image other before leaf bytes loaded place sector slot earlier same block is under stands first = record {
  bytes = bytes;
  there = subst (λ (i : List ℕ). IsBlock i leaf bytes) (sym earlier) (subst (λ (b : List ℕ). IsBlock before leaf b) (sym is) block);
  place = place;
  under = under;
  slot = slot;
  stands = stands;
  begins = subst (λ (i : List ℕ). IsFirstInSlot (IsBlock i) slot sector) same first;
}

-- so a leaf is met where each of its places is, and read
pub over_leaf : (image other : List ℕ) (end : ℕ) (marks : List ℕ) (leaf : Ptr) (bytes loaded : List ℕ) → other ≡ image → bytes ≡ loaded → IsBlock image leaf loaded → ((place : ℕ) → place < 16 → PlaceMet other end marks bytes place)
    → AreMetInLeaf image end marks leaf
over_leaf image other end marks leaf bytes loaded same is block all =
    subst (λ (i : List ℕ). AreMetInLeaf i end marks leaf) same
    (leaf_met_all other end marks leaf bytes (subst (λ (i : List ℕ). IsBlock i leaf bytes) (sym same) (subst (λ (b : List ℕ). IsBlock image leaf b) (sym is) block)) all)

pub over_read : (image other : List ℕ) (leaf : Ptr) (bytes loaded : List ℕ) → other ≡ image → bytes ≡ loaded → IsBlock image leaf loaded → ((place : ℕ) → place < 16 → PlaceRead other bytes place) → AreReadInLeaf image leaf
over_read image other leaf bytes loaded same is block all =
    subst (λ (i : List ℕ). AreReadInLeaf i leaf) same
    (leaf_read_all other leaf bytes (subst (λ (i : List ℕ). IsBlock i leaf bytes) (sym same) (subst (λ (b : List ℕ). IsBlock image leaf b) (sym is) block)) all)
