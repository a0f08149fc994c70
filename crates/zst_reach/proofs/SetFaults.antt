-- What a walk of a set tells as damaged, from a slot up to the set.
use Rattle.std.proofs.Common.{◌≡◌, ◌≢◌, inl, inr, ⊎_elim, ℕ, ◌-◌, ◌<◌, List, false, refl, subst, sym, arith}
use Rattle.std.specs.Prelude.{Option, Result, Ok, Err}
use Rattle.std.proofs.lemmas.Bool.{cases_order}
use Rattle.zst_fletcher.specs.WeightSum.{parts_of}
use Rattle.zst_block.specs.Blocks.{IsBlock}
use Rattle.zst_block.specs.Ptr.{is_flat}
use Rattle.zst_block.specs.ReadAnswers.{ReadAnswers}
use Rattle.zst_block.specs.IoStates.{IoState}
use Rattle.zst_block.specs.IoCalls.{Looks, TellsDamage}
use Rattle.zst_block.specs.declared.fault.BlockFault.{BlockFault}
use Rattle.zst_block.specs.declared.fault.BlockFault.TheVariants.{Full, Damaged, DiskFault}
use Rattle.zst_block.specs.declared.ptr.Ptr.{Ptr}
use Rattle.zst_dnode.specs.declared.slot.Slot.{Slot}
use Rattle.zst_dnode.specs.declared.slot.Slot.TheVariants.{Absent, There}
use Rattle.zst_objset.specs.Damage.{HasSlot, IfDamage, IfDamaged, IsDamagedObject, IsDamagedSet, LacksSlot}
use Rattle.zst_objset.proofs.DamageLaws.{IfDamage-weaker, tall_told}
use Rattle.zst_tree.specs.Damage.{HangsBelow, IsDamagedNode, IsSeen, MayHave, NamesDamage, NamesNode, Reaches, TellsNode}
use Rattle.zst_tree.specs.Indices.{Delivers, IsNoDamage, child}
use Rattle.zst_tree.specs.declared.tree.ObjSet.{ObjSet}
use Rattle.zst_tree.proofs.Damage.{IsBelow-child, hangs_child, hangs_leaf, seen_before}
use Rattle.zst_reach.proofs.ReachedLaws.{no_damage_told}
use Rattle.zst_reach.specs.SetDamage.{IsDamagedInLeaf, IsDamagedInSlot, IsDamagedInTree}

-- below a pointer at level 0 there is no node
no_node : (images : List ℕ → Type 0) (ptr : Ptr) (at : ℕ) (found : Ptr) → Reaches (MayHave images) 0 ptr at found → ⊥
unfolding Reaches
no_node images ptr at found reached = reached

pub leaf_undamaged : (images : List ℕ → Type 0) (size : ℕ) (right : ℕ → Ptr → Type 0) (ptr : Ptr) (fault : BlockFault) → TellsNode images size right 0 ptr fault → IsNoDamage fault
leaf_undamaged images size right ptr (Full need largest) told = tt
leaf_undamaged images size right ptr (Damaged sector stated found) told = no_node images ptr told.at told.ptr told.reached
leaf_undamaged images size right ptr DiskFault told = tt

-- a pointer with a block is no hole
pub some_kind : (ptr : Ptr) → is_flat ptr ≡ false → ptr.kind ≢ 0
some_kind ptr inner = λ hole. absurd (cc)

module _ (images : List ℕ → Type 0) (size : ℕ) where
  -- a node of an object's tree is told of its slot
  pub object_told : {T : Type 0} → (slot : Slot) (levels : ℕ) (root : Ptr) (result : Result T BlockFault) → NamesDamage images size NamesNode levels root result
      → ((sector : ℕ) (stated found : List ℕ) → IsDamagedNode images size NamesNode levels root sector stated found → IsDamagedInSlot images size slot sector stated found) → IfDamaged result (IsDamagedInSlot images size slot)
  object_told slot levels root (Ok value) told up = tt
  object_told slot levels root (Err (Full need largest)) told up = tt
  object_told slot levels root (Err (Damaged sector stated found)) told up = up sector stated found told
  object_told slot levels root (Err DiskFault) told up = tt

  -- a node of the set's tree is told below the pointer
  pub node_told : (level : ℕ) (ptr : Ptr) (fault : BlockFault) → TellsNode images size NamesNode level ptr fault → IfDamage fault (IsDamagedInTree images size level ptr)
  node_told level ptr (Full need largest) told = tt
  node_told level ptr (Damaged sector stated found) told = inl told
  node_told level ptr DiskFault told = tt

  pub nodes_told : {T : Type 0} → (level : ℕ) (ptr : Ptr) (result : Result T BlockFault) → NamesDamage images size NamesNode level ptr result → IfDamaged result (IsDamagedInTree images size level ptr)
  nodes_told level ptr (Ok value) told = tt
  nodes_told level ptr (Err fault) told = node_told level ptr fault told

  -- what is told of a leaf is told below a pointer to it
  pub leaf_told : {T : Type 0} → (level : ℕ) (ptr : Ptr) (result : Result T BlockFault) → level ≡ 0 → is_flat ptr ≡ false → IfDamaged result (IsDamagedInLeaf images size ptr) → IfDamaged result (IsDamagedInTree images size level ptr)
  leaf_told level ptr (Ok value) bottom inner told = tt
  leaf_told level ptr (Err fault) bottom inner told =
      IfDamage-weaker (IsDamagedInLeaf images size ptr) (IsDamagedInTree images size level ptr)
      (λ sector stated found damaged. inr (record { leaf = ptr; some = some_kind ptr inner; hangs = hangs_leaf (MayHave images) level ptr bottom; damaged = damaged })) fault told

  -- what is told of a slot of a block that may stand at a leaf is told of the leaf
  pub slot_in_leaf : (leaf : Ptr) (bytes : List ℕ) (place : ℕ) (slot : Slot) → MayHave images leaf bytes → place < 16 → HasSlot bytes place slot → (fault : BlockFault)
      → IfDamage fault (IsDamagedInSlot images size slot) → IfDamage fault (IsDamagedInLeaf images size leaf)
  slot_in_leaf leaf bytes place slot there under stands fault told =
      IfDamage-weaker (IsDamagedInSlot images size slot) (IsDamagedInLeaf images size leaf)
      (λ sector stated found damaged. inr (record { bytes = bytes; there = there; place = place; under = under; slot = slot; stands = stands; damaged = damaged })) fault told

  -- what is told below a child is told below the node
  child_up : (level : ℕ) (ptr : Ptr) (node : List ℕ) (k : ℕ) → 0 < level → is_flat ptr ≡ false → MayHave images ptr node → k < 128 → (sector : ℕ) (stated found : List ℕ)
      → IsDamagedInTree images size (level - 1) (child node k) sector stated found → IsDamagedInTree images size level ptr sector stated found
  child_up level ptr node k some inner there less sector stated found (inl damaged) = inl (IsBelow-child images size NamesNode level ptr node k some inner there less sector stated found damaged)
  child_up level ptr node k some inner there less sector stated found (inr has) = inr (record {
    leaf = has.leaf;
    some = has.some;
    hangs = hangs_child (MayHave images) level ptr node k has.leaf some inner there less has.hangs;
    damaged = has.damaged;
  })

  pub child_told : (level : ℕ) (ptr : Ptr) (node : List ℕ) (k : ℕ) → 0 < level → is_flat ptr ≡ false → MayHave images ptr node → k < 128 → (fault : BlockFault)
      → IfDamage fault (IsDamagedInTree images size (level - 1) (child node k)) → IfDamage fault (IsDamagedInTree images size level ptr)
  child_told level ptr node k some inner there less fault told =
      IfDamage-weaker (IsDamagedInTree images size (level - 1) (child node k)) (IsDamagedInTree images size level ptr) (child_up level ptr node k some inner there less) fault told

  -- what is told below the root of a set is told of the set
  dnode_of_set : (set : ObjSet) (leaf : Ptr) (some : leaf.kind ≢ 0) (hangs : HangsBelow (MayHave images) set.tree.levels set.tree.root leaf) (bytes : List ℕ) (there : MayHave images leaf bytes) (place : ℕ) (under : place < 16) (slot : Slot)
      → HasSlot bytes place slot → (sector : ℕ) (stated found : List ℕ) → IsDamagedInSlot images size slot sector stated found → IsDamagedObject images size NamesNode set sector stated found
  dnode_of_set set leaf some hangs bytes there place under (Absent date) stands sector stated found damaged = absurd damaged
  dnode_of_set set leaf some hangs bytes there place under (There dnode) stands sector stated found damaged =
      inr (record { dnode = dnode; stands = record { leaf = leaf; some = some; hangs = hangs; bytes = bytes; there = there; place = place; under = under; slot = stands }; damaged = damaged })

  leaf_of_set : (set : ObjSet) (leaf : Ptr) (some : leaf.kind ≢ 0) (hangs : HangsBelow (MayHave images) set.tree.levels set.tree.root leaf) (sector : ℕ) (stated found : List ℕ) → IsDamagedInLeaf images size leaf sector stated found → IsDamagedObject images size NamesNode set sector stated found
  leaf_of_set set leaf some hangs sector stated found (inl damaged) = inl (inr (inr (record { leaf = leaf; hangs = hangs; damaged = damaged })))
  leaf_of_set set leaf some hangs sector stated found (inr has) =
      dnode_of_set set leaf some hangs has.bytes has.there has.place has.under has.slot has.stands sector stated found has.damaged

  set_up : (set : ObjSet) (sector : ℕ) (stated found : List ℕ) → IsDamagedInTree images size set.tree.levels set.tree.root sector stated found → IsDamagedObject images size NamesNode set sector stated found
  set_up set sector stated found (inl damaged) = inl (inr (inl damaged))
  set_up set sector stated found (inr has) = leaf_of_set set has.leaf has.some has.hangs sector stated found has.damaged

  pub set_told : {T : Type 0} → (set : ObjSet) (result : Result T BlockFault) → IfDamaged result (IsDamagedInTree images size set.tree.levels set.tree.root) → IfDamaged result (IsDamagedObject images size NamesNode set)
  set_told set (Ok value) told = tt
  set_told set (Err fault) told = IfDamage-weaker (IsDamagedInTree images size set.tree.levels set.tree.root) (IsDamagedObject images size NamesNode set) (set_up set) fault told

  -- so is a set of too many levels
  pub tall_set : (set : ObjSet) (fault : BlockFault) → fault ≡ Damaged set.tree.root.sector (parts_of set.tree.root.sum) (parts_of set.tree.root.sum) → 7 < set.tree.levels → IfDamage fault (IsDamagedObject images size NamesNode set)
  tall_set set fault is tall = IfDamage-weaker (IsDamagedSet images size set) (IsDamagedObject images size NamesNode set) (λ sector stated found damaged. inl damaged) fault (tall_told images size set fault is tall)

-- a leaf that can't be read is damaged
pub leaf_read : (image : List ℕ) (size : ℕ) (ptr : Ptr) (node : List ℕ) (fault : BlockFault) → is_flat ptr ≡ false → TellsDamage {T = Unit {0}} image size ptr (Err fault) → (ptr.length ≡ 8192 → ReadAnswers image size ptr node (Err fault))
    → IfDamage fault (IsDamagedInLeaf (IsSeen image) size ptr)
leaf_read image size ptr node (Full need largest) inner told answers = tt
leaf_read image size ptr node DiskFault inner told answers = tt
leaf_read image size ptr node (Damaged sector stated found) inner told answers = inl (record {
  some = some_kind ptr inner;
  told = record {
    sector_is = told.0;
    stated_is = told.1;
    found_is = elim (cases_order ptr.length 8192) [
      | inl long ↦ inl (image, refl, (answers long).2)
      | inr other ↦ ⊎_elim (λ sums. inl (image, refl, sums)) (λ alike. inr (alike, inl (λ is. ⊎_elim (λ less. absurd (omega arith)) (λ more. absurd (omega arith)) other))) told.2
    ];
  };
})

-- one that lacks a slot is, with both sums alike
pub leaf_lacks : (images : List ℕ → Type 0) (size : ℕ) (ptr : Ptr) (bytes : List ℕ) (fault : BlockFault) → is_flat ptr ≡ false → fault ≡ Damaged ptr.sector (parts_of ptr.sum) (parts_of ptr.sum) → MayHave images ptr bytes → LacksSlot bytes
    → IfDamage fault (IsDamagedInLeaf images size ptr)
leaf_lacks images size ptr bytes fault inner is there lacks =
    rw is (inl (record { some = some_kind ptr inner; told = record { sector_is = refl; stated_is = refl; found_is = inr (refl, inr (bytes, there, lacks)) } }))

-- a call that tells no node below a pointer at level 0 finds no damage
pub leaf_delivers : (images : List ℕ → Type 0) (size : ℕ) (right : ℕ → Ptr → Type 0) (ptr : Ptr) (result : Result (Unit {0}) BlockFault) → NamesDamage images size right 0 ptr result → Delivers (λ (done : Unit {0}). Unit {0}) result
leaf_delivers images size right ptr (Ok done) told = tt
leaf_delivers images size right ptr (Err fault) told = leaf_undamaged images size right ptr fault told

pub leaf_names : (images : List ℕ → Type 0) (size : ℕ) (right : ℕ → Ptr → Type 0) (ptr : Ptr) (more : List ℕ → Type 0) (other level : ℕ) (root : Ptr) (result : Result (Unit {0}) BlockFault) → NamesDamage images size right 0 ptr result → NamesDamage more other right level root result
leaf_names images size right ptr more other level root (Ok done) told = tt
leaf_names images size right ptr more other level root (Err fault) told = no_damage_told more other right level root fault (leaf_undamaged images size right ptr fault told)

-- what is told below a child of a node that was read is told below the node
pub tree_fault : {old new : IoState} {stop : Option BlockFault} → Looks old new stop → (level : ℕ) (ptr : Ptr) (node loaded : List ℕ) (k : ℕ) (p : Ptr) → 0 < level → is_flat ptr ≡ false → IsBlock old.disk.seen ptr loaded → node ≡ loaded → k < 128 → p ≡ child node k
    → (fault : BlockFault) → IfDamage fault (IsDamagedInTree (IsSeen new.disk.seen) new.disk.size (level - 1) p) → IfDamage fault (IsDamagedInTree (IsSeen old.disk.seen) old.disk.size level ptr)
tree_fault {old} {new} looks level ptr node loaded k p some inner block is less child_is fault told =
    child_told (IsSeen old.disk.seen) old.disk.size level ptr node k some inner (record { image = old.disk.seen; among = refl; block = subst (λ (b : List ℕ). IsBlock old.disk.seen ptr b) (sym is) block }) less fault
    (seen_before looks (λ (seen : List ℕ) (size : ℕ). IfDamage fault (IsDamagedInTree (IsSeen seen) size (level - 1) (child node k)))
    (subst (λ (q : Ptr). IfDamage fault (IsDamagedInTree (IsSeen new.disk.seen) new.disk.size (level - 1) q)) child_is told))
