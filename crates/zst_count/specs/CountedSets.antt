-- Which blocks of an object set a walk has met and read, which sets it walks, and what it tells as damaged.
use Rattle.std.specs.Prelude.{◌≡◌, ◌⊎◌, ℕ, zero, suc, ◌+◌, ◌*◌, ◌^◌, ◌<◌, ◌≤◌, List, true, false}
use Rattle.zst_block.specs.Blocks.{IsBlock}
use Rattle.zst_block.specs.Ptr.{is_flat}
use Rattle.zst_block.specs.declared.ptr.Ptr.{Ptr}
use Rattle.zst_objset.specs.Damage.{DamageFact, IsTooTall}
use Rattle.zst_tree.specs.Damage.{HangsBelow, IsDamagedNode, MayHave, NamesNode}
use Rattle.zst_tree.specs.Indices.{Blocks, child, span}
use Rattle.zst_tree.specs.declared.tree.ObjSet.{ObjSet}
use Rattle.zst_count.specs.DataDamage.{IsDamagedInLeaf}
use Rattle.zst_count.specs.FirstSectors.{IsFirstBelow, IsFirstByLeaf, IsFirstInSet}
use Rattle.zst_count.specs.MetBlocks.{AllMet, AreReadInLeaf}
use Rattle.zst_count.specs.StandingData.{DataStandInLeaf}

module _ (has : Blocks) where
  -- below a pointer of a set's tree, whose first index is this one, a node or a leaf begins with this sector, or a block of an object in a leaf
  abbrev pub IsFirstInTree : ℕ → Ptr → ℕ → ℕ → Type 0
  IsFirstInTree level ptr first sector = IsFirstBelow has level ptr sector ⊎ IsFirstByLeaf has level ptr first sector

  -- below it each node is there, as its pointer names it, and each leaf of an index that a set may have, with the data of its objects
  unfoldable pub DataStandInTree : ℕ → Ptr → ℕ → Type 0
  DataStandInTree zero ptr first = first < 2 ^ 44 → (is_flat ptr ≡ true) ⊎ DataStandInLeaf has ptr
  DataStandInTree (suc level) ptr first = (is_flat ptr ≡ true)
      ⊎ (NamesNode (suc level) ptr × ((bytes : List ℕ) × has ptr bytes × ((k : ℕ) → k < 128 → DataStandInTree level (child bytes k) (first + k * span level))))

  -- so it is with a set of at most 7 levels
  pub record DataStandInSet (set : ObjSet) : Type 0 where
    pub levels : set.tree.levels ≤ 7
    pub below : DataStandInTree set.tree.levels set.tree.root 0

module _ (image : List ℕ) where
  -- each block below an end that is reached below a pointer of a set's tree, whose first index is this one, was met
  abbrev pub AreMetInTree : (end : ℕ) → (marks : List ℕ) → ℕ → Ptr → ℕ → Type 0
  AreMetInTree end marks level ptr first = AllMet end marks (IsFirstInTree (IsBlock image) level ptr first)

  -- each that the set reaches was
  abbrev pub AreMetInSet : (end : ℕ) → (marks : List ℕ) → ObjSet → Type 0
  AreMetInSet end marks set = AllMet end marks (IsFirstInSet (IsBlock image) set)

  -- below the pointer each node and each leaf is there before the last index that a set may have, and so are the blocks of the objects in the leaves: those past it are of no set, and aren't read
  unfoldable pub AreReadInTree : ℕ → Ptr → ℕ → Type 0
  AreReadInTree zero ptr first = first < 2 ^ 44 → (is_flat ptr ≡ true) ⊎ AreReadInLeaf image ptr
  AreReadInTree (suc level) ptr first =
      first < 2 ^ 44 → (is_flat ptr ≡ true) ⊎ ((bytes : List ℕ) × IsBlock image ptr bytes × ((k : ℕ) → k < 128 → AreReadInTree level (child bytes k) (first + k * span level)))

  -- so it is with a set
  abbrev pub AreReadInSet : ObjSet → Type 0
  AreReadInSet set = AreReadInTree set.tree.levels set.tree.root 0

module _ (images : List ℕ → Type 0) (size : ℕ) where
  -- of a leaf that hangs below a pointer at a level: its own block, or one of an object in it
  pub record HasDamageInLeaf (level : ℕ) (ptr : Ptr) (sector : ℕ) (stated found : List ℕ) : Type 0 where
    pub leaf : Ptr
    pub some : is_flat leaf ≡ false
    pub hangs : HangsBelow (MayHave images) level ptr leaf
    pub damaged : IsDamagedInLeaf images size leaf sector stated found

  -- below a pointer of a set's tree: a node, or that of a leaf
  abbrev pub IsDamagedInTree : ℕ → Ptr → DamageFact
  IsDamagedInTree level ptr sector stated found = IsDamagedNode images size NamesNode level ptr sector stated found ⊎ HasDamageInLeaf level ptr sector stated found

  -- of a set: too many levels, or that of its tree
  abbrev pub IsDamagedInSet : ObjSet → DamageFact
  IsDamagedInSet set sector stated found = IsTooTall set sector stated found ⊎ IsDamagedInTree set.tree.levels set.tree.root sector stated found
