-- What a walk that reads data tells as damaged, from the block up.
use Rattle.std.proofs.Common.{◌≡◌, inl, inr, ℕ, ◌-◌, ◌<◌, List, Bool, true, false, if◌then◌else◌, refl, subst, sym}
use Rattle.std.specs.Prelude.{Option, None, Some, Result, Ok, Err, OnOk}
use Rattle.zst_fletcher.specs.WeightSum.{parts_of}
use Rattle.zst_block.specs.Blocks.{IsBlock}
use Rattle.zst_block.specs.Ptr.{is_flat}
use Rattle.zst_block.specs.ReadAnswers.{ReadAnswers}
use Rattle.zst_block.specs.IoStates.{IoState}
use Rattle.zst_block.specs.IoCalls.{Looks}
use Rattle.zst_block.specs.declared.fault.BlockFault.{BlockFault}
use Rattle.zst_block.specs.declared.fault.BlockFault.TheVariants.{Full, Damaged, DiskFault}
use Rattle.zst_block.specs.declared.ptr.Ptr.{Ptr}
use Rattle.zst_dnode.specs.declared.dnode.Dnode.{Dnode}
use Rattle.zst_objset.specs.Damage.{DamageFact, IfDamage, IfDamaged, IsDamagedData, IsNoData}
use Rattle.zst_objset.proofs.DamageLaws.{IfDamage-weaker}
use Rattle.zst_tree.specs.Damage.{HangsBelow, IsSeen, MayHave, NamesNode, Reaches, TellsNode}
use Rattle.zst_tree.specs.Indices.{Blocks, IsNoDamage, child}
use Rattle.zst_tree.proofs.Damage.{IsBelow-child, hangs_child, hangs_leaf, seen_before}
use Rattle.zst_count.specs.PastLeaves.{is_past, told_below}
use Rattle.zst_count.specs.DataDamage.{IsDamagedBelow, IsDamagedBeneath, IsDamagedInDnode}

-- a fault that is no damage tells none
pub none_told : (P : DamageFact) (fault : BlockFault) → IsNoDamage fault → IfDamage fault P
none_told P (Full need largest) none = tt
none_told P (Damaged sector stated found) none = absurd none
none_told P DiskFault none = tt

-- what a call tells that another may tell
pub told_more : {T : Type 0} → (P Q : DamageFact) → ((sector : ℕ) (stated found : List ℕ) → P sector stated found → Q sector stated found) → (result : Result T BlockFault) → IfDamaged result P → IfDamaged result Q
told_more P Q up (Ok value) told = tt
told_more P Q up (Err fault) told = IfDamage-weaker P Q up fault told

-- what is read is the block
pub answer_block : (image : List ℕ) (size : ℕ) (ptr : Ptr) (read : List ℕ) (result : Result (Unit {0}) BlockFault) → ReadAnswers image size ptr read result → OnOk result ((bytes : List ℕ) × IsBlock image ptr bytes)
answer_block image size ptr read (Ok done) block = (read, block)
answer_block image size ptr read (Err fault) answers = tt

-- a read tells the damage of the block itself
pub read_told : (image : List ℕ) (size count : ℕ) (ptr : Ptr) (read : List ℕ) (result : Result (Unit {0}) BlockFault) → is_flat ptr ≡ false → ReadAnswers image size ptr read result
    → IfDamaged result (IsDamagedData (IsSeen image) size count ptr)
read_told image size count ptr read (Ok done) inner answers = tt
read_told image size count ptr read (Err (Full need largest)) inner answers = tt
read_told image size count ptr read (Err DiskFault) inner answers = tt
read_told image size count ptr read (Err (Damaged sector stated found)) inner answers =
    record { some = inner; told = record { sector_is = answers.0; stated_is = answers.1; found_is = inl (image, refl, answers.2) } }

-- a pointer that is wrong for data tells both sums alike
pub wrong_told : (images : List ℕ → Type 0) (size count : ℕ) (ptr : Ptr) (fault : BlockFault) → is_flat ptr ≡ false → fault ≡ Damaged ptr.sector (parts_of ptr.sum) (parts_of ptr.sum) → IsNoData count ptr
    → IfDamage fault (IsDamagedData images size count ptr)
wrong_told images size count ptr fault inner is wrong = rw is (record { some = inner; told = record { sector_is = refl; stated_is = refl; found_is = inr (refl, wrong) } })

module _ (images : List ℕ → Type 0) (size : ℕ) where
  -- a node is told below the pointer
  pub node_told : (told : Option ℕ) (level : ℕ) (ptr : Ptr) (fault : BlockFault) → TellsNode images size NamesNode level ptr fault → IfDamage fault (IsDamagedBelow images size told level ptr)
  node_told told level ptr (Full need largest) is = tt
  node_told told level ptr (Damaged sector stated found) is = inl is
  node_told told level ptr DiskFault is = tt

  leaf_up : (count : ℕ) (ptr : Ptr) (sector : ℕ) (stated found : List ℕ) → IsDamagedData images size count ptr sector stated found → IsDamagedBelow images size (Some count) 0 ptr sector stated found
  leaf_up count ptr sector stated found is = inr (record { leaf = ptr; hangs = hangs_leaf (MayHave images) 0 ptr refl; damaged = is })

  -- so is a leaf that is read
  pub leaf_told : {T : Type 0} → (told : Option ℕ) (count level : ℕ) (ptr : Ptr) (result : Result T BlockFault) → told ≡ Some count → level ≡ 0 → IfDamaged result (IsDamagedData images size count ptr)
      → IfDamaged result (IsDamagedBelow images size told level ptr)
  leaf_told told count level ptr result told_is bottom is =
      subst (λ (n : ℕ). IfDamaged result (IsDamagedBelow images size told n ptr)) (sym bottom)
      (subst (λ (o : Option ℕ). IfDamaged result (IsDamagedBelow images size o 0 ptr)) (sym told_is)
      (told_more (IsDamagedData images size count ptr) (IsDamagedBelow images size (Some count) 0 ptr) (leaf_up count ptr) result is))

  beneath_up : (told : Option ℕ) (level : ℕ) (ptr : Ptr) (node : List ℕ) (k : ℕ) → 0 < level → is_flat ptr ≡ false → MayHave images ptr node → k < 128 → (sector : ℕ) (stated found : List ℕ)
      → IsDamagedBeneath images size told (level - 1) (child node k) sector stated found → IsDamagedBeneath images size told level ptr sector stated found
  beneath_up None level ptr node k some inner there less sector stated found is = absurd is
  beneath_up (Some count) level ptr node k some inner there less sector stated found is = record { leaf = is.leaf; hangs = hangs_child (MayHave images) level ptr node k is.leaf some inner there less is.hangs; damaged = is.damaged }

  -- what is told where leaves past the bound aren't read is told where they are
  past_up : (told : Option ℕ) (past : Bool) (level : ℕ) (ptr : Ptr) (sector : ℕ) (stated found : List ℕ) → IsDamagedBelow images size (if past then None else told) level ptr sector stated found → IsDamagedBelow images size told level ptr sector stated found
  past_up told true level ptr sector stated found (inl is) = inl is
  past_up told true level ptr sector stated found (inr is) = absurd is
  past_up told false level ptr sector stated found is = is

  -- what is told below a child is told below the node
  child_up : (told : Option ℕ) (level : ℕ) (ptr : Ptr) (node : List ℕ) (k : ℕ) → 0 < level → is_flat ptr ≡ false → MayHave images ptr node → k < 128 → (sector : ℕ) (stated found : List ℕ)
      → IsDamagedBelow images size told (level - 1) (child node k) sector stated found → IsDamagedBelow images size told level ptr sector stated found
  child_up told level ptr node k some inner there less sector stated found (inl is) = inl (IsBelow-child images size NamesNode level ptr node k some inner there less sector stated found is)
  child_up told level ptr node k some inner there less sector stated found (inr is) = inr (beneath_up told level ptr node k some inner there less sector stated found is)

  pub child_told : (told : Option ℕ) (level : ℕ) (ptr : Ptr) (node : List ℕ) (k : ℕ) → 0 < level → is_flat ptr ≡ false → MayHave images ptr node → k < 128 → (fault : BlockFault)
      → IfDamage fault (IsDamagedBelow images size (told_below told level k) (level - 1) (child node k)) → IfDamage fault (IsDamagedBelow images size told level ptr)
  child_told told level ptr node k some inner there less fault is =
      IfDamage-weaker (IsDamagedBelow images size (told_below told level k) (level - 1) (child node k)) (IsDamagedBelow images size told level ptr)
      (λ sector stated found lower. child_up told level ptr node k some inner there less sector stated found (past_up told (is_past level k) (level - 1) (child node k) sector stated found lower)) fault is

-- what is told below a child of a node that was read is told below the node
pub below_fault : {old new : IoState} {stop : Option BlockFault} → Looks old new stop → (told lower : Option ℕ) (level : ℕ) (ptr : Ptr) (node loaded : List ℕ) (k : ℕ) (p : Ptr) → 0 < level → is_flat ptr ≡ false
    → IsBlock old.disk.seen ptr loaded → node ≡ loaded → k < 128
    → p ≡ child node k → lower ≡ told_below told level k → (fault : BlockFault) → IfDamage fault (IsDamagedBelow (IsSeen new.disk.seen) new.disk.size lower (level - 1) p) → IfDamage fault (IsDamagedBelow (IsSeen old.disk.seen) old.disk.size told level ptr)
below_fault {old} {new} looks told lower level ptr node loaded k p some inner block is less child_is lower_is fault tells =
    child_told (IsSeen old.disk.seen) old.disk.size told level ptr node k some inner (record { image = old.disk.seen; among = refl; block = subst (λ (b : List ℕ). IsBlock old.disk.seen ptr b) (sym is) block }) less fault
    (seen_before looks (λ (seen : List ℕ) (size : ℕ). IfDamage fault (IsDamagedBelow (IsSeen seen) size (told_below told level k) (level - 1) (child node k)))
    (subst (λ (o : Option ℕ). IfDamage fault (IsDamagedBelow (IsSeen new.disk.seen) new.disk.size o (level - 1) (child node k))) lower_is
    (subst (λ (q : Ptr). IfDamage fault (IsDamagedBelow (IsSeen new.disk.seen) new.disk.size lower (level - 1) q)) child_is tells)))

-- nothing stands below a pointer at level 0 but itself
no_node : (has : Blocks) (ptr : Ptr) (at : ℕ) (found : Ptr) → Reaches has 0 ptr at found → ⊥
unfolding Reaches
no_node has ptr at found reached = reached

hangs_itself : (has : Blocks) (ptr found : Ptr) → HangsBelow has 0 ptr found → found ≡ ptr
unfolding HangsBelow
hangs_itself has ptr found hangs = hangs

module _ (images : List ℕ → Type 0) (size : ℕ) where
  -- what is told of an object's tree is told of the object
  pub tree_told : (dnode : Dnode) (fault : BlockFault) → IfDamage fault (IsDamagedBelow images size (Some dnode.block_size) dnode.levels dnode.root) → IfDamage fault (IsDamagedInDnode images size dnode)
  tree_told dnode fault told = IfDamage-weaker (IsDamagedBelow images size (Some dnode.block_size) dnode.levels dnode.root) (IsDamagedInDnode images size dnode) (λ sector stated found is. inl is) fault told

  spill_up : (dnode : Dnode) (sector : ℕ) (stated found : List ℕ) → IsDamagedBelow images size (Some dnode.spill.length) 0 dnode.spill sector stated found → IsDamagedInDnode images size dnode sector stated found
  spill_up dnode sector stated found (inl is) = absurd (no_node (MayHave images) dnode.spill is.at is.ptr is.reached)
  spill_up dnode sector stated found (inr is) =
      inr (subst (λ (p : Ptr). IsDamagedData images size dnode.spill.length p sector stated found) (hangs_itself (MayHave images) dnode.spill is.leaf is.hangs) is.damaged)

  -- and what is told of its spill
  pub spill_told : {T : Type 0} → (dnode : Dnode) (result : Result T BlockFault) → IfDamaged result (IsDamagedBelow images size (Some dnode.spill.length) 0 dnode.spill) → IfDamaged result (IsDamagedInDnode images size dnode)
  spill_told dnode result told = told_more (IsDamagedBelow images size (Some dnode.spill.length) 0 dnode.spill) (IsDamagedInDnode images size dnode) (spill_up dnode) result told
