-- Which block a walk tells as damaged.
use Rattle.std.specs.Prelude.{◌≡◌, ◌≢◌, ◌⊎◌, ℕ, List}
use Rattle.zst_fletcher.specs.WeightSum.{parts_of}
use Rattle.zst_block.specs.declared.ptr.Ptr.{Ptr}
use Rattle.zst_dnode.specs.declared.dnode.Dnode.{Dnode}
use Rattle.zst_tree.specs.Damage.{HangsBelow, IsDamagedNode, MayHave, SumsUp}
use Rattle.zst_tree.specs.declared.tree.ObjSet.{ObjSet}
use Rattle.zst_objset.specs.Damage.{DamageFact, IsDamagedObject, IsNoData, StandsIn}

-- a pointer stands for an index of an object that may stand in the set, and is neither a hole nor redacted nor data as long as the object's blocks: both sums of it are told alike
pub record HasNoCell (images : List ℕ → Type 0) (set : ObjSet) (sector : ℕ) (stated found : List ℕ) : Type 0 where
  pub dnode : Dnode
  pub stands : StandsIn images set dnode
  pub ptr : Ptr
  pub hangs : HangsBelow (MayHave images) dnode.levels dnode.root ptr
  pub no_hole : ptr.kind ≢ 0
  pub no_data : IsNoData dnode.block_size ptr
  pub unredacted : ptr.kind ≢ 2
  pub sector_is : sector ≡ ptr.sector
  pub stated_is : stated ≡ parts_of ptr.sum
  pub found_is : found ≡ stated

-- what a walk may tell: of the set's slots, of a node of the set's tree or of an object's that doesn't sum up what stands below it, or of an index's pointer
abbrev pub IsDamagedCell : (List ℕ → Type 0) → ℕ → ObjSet → DamageFact
IsDamagedCell images size set sector stated found =
    IsDamagedObject images size (SumsUp images) set sector stated found
    ⊎ (IsDamagedNode images size (SumsUp images) set.tree.levels set.tree.root sector stated found
    ⊎ HasNoCell images set sector stated found)
