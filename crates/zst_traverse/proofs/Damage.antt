-- What may be told as damaged of a walk.
use Rattle.std.proofs.Common.{◌≢◌, inl, inr, ℕ, ◌<◌, List, refl, ap}
use Rattle.zst_fletcher.specs.WeightSum.{parts_of}
use Rattle.zst_block.specs.declared.fault.BlockFault.{BlockFault}
use Rattle.zst_block.specs.declared.fault.BlockFault.TheVariants.{Full, Damaged, DiskFault}
use Rattle.zst_block.specs.declared.ptr.Ptr.{Ptr}
use Rattle.zst_dnode.specs.declared.dnode.Dnode.{Dnode}
use Rattle.zst_tree.proofs.Damage.{TellsNode-sums}
use Rattle.zst_tree.specs.Damage.{HangsIn, MayHave, NamesNode, SumsUp, TellsNode}
use Rattle.zst_tree.specs.declared.tree.ObjSet.{ObjSet}
use Rattle.zst_dnode.specs.declared.slot.Slot.TheVariants as slots
use Rattle.zst_objset.proofs.DamageLaws.{lacking_told}
use Rattle.zst_objset.specs.Damage.{IfDamage, IsDamagedLeaf, HasSlot, IsLoaded, IsNoData, LacksSlot, StandsIn}
use Rattle.zst_objset.specs.Dnodes.{tree_of}
use Rattle.zst_traverse.specs.Damage.{IsDamagedCell}

module _ (images : List ℕ → Type 0) (size : ℕ) (set : ObjSet) where
  -- a node of the set's tree
  pub node_told : (fault : BlockFault) → TellsNode images size (SumsUp images) set.tree.levels set.tree.root fault → IfDamage fault (IsDamagedCell images size set)
  node_told (Damaged sector stated found) told = inr (inl told)
  node_told (Full need largest) told = tt
  node_told DiskFault told = tt

  pub named_told : (fault : BlockFault) → TellsNode images size NamesNode set.tree.levels set.tree.root fault → IfDamage fault (IsDamagedCell images size set)
  named_told fault told = node_told fault (TellsNode-sums images size set.tree.levels set.tree.root fault told)

  -- a set of too many levels
  pub tall_told : 7 < set.tree.levels → IsDamagedCell images size set set.tree.root.sector (parts_of set.tree.root.sum) (parts_of set.tree.root.sum)
  tall_told tall = inl (inl (inl (record { tall = tall; sector_is = refl; stated_is = refl; found_is = refl })))

  -- a node of an object's tree
  pub tree_told : (dnode : Dnode) → StandsIn images set dnode → (fault : BlockFault) → TellsNode images size (SumsUp images) dnode.levels dnode.root fault → IfDamage fault (IsDamagedCell images size set)
  tree_told dnode stands (Damaged sector stated found) told = inl (inr (record { dnode = dnode; stands = stands; damaged = told }))
  tree_told dnode stands (Full need largest) told = tt
  tree_told dnode stands DiskFault told = tt

  pub tree_named_told : (dnode : Dnode) → StandsIn images set dnode → (fault : BlockFault) → TellsNode images size NamesNode dnode.levels dnode.root fault → IfDamage fault (IsDamagedCell images size set)
  tree_named_told dnode stands fault told = tree_told dnode stands fault (TellsNode-sums images size dnode.levels dnode.root fault told)

  -- a leaf of the set
  pub leaf_told : (leaf : Ptr) → HangsIn (MayHave images) set.tree leaf → (fault : BlockFault) → IfDamage fault (IsDamagedLeaf images size leaf) → IfDamage fault (IsDamagedCell images size set)
  leaf_told leaf (inl hangs) (Damaged sector stated found) told = inl (inl (inr (inr (record { leaf = leaf; hangs = hangs; damaged = told }))))
  leaf_told leaf (inr past) (Damaged sector stated found) told = absurd (told.some (ap (λ (p : Ptr). p.kind) past))
  leaf_told leaf hangs (Full need largest) told = tt
  leaf_told leaf hangs DiskFault told = tt

  pub lacking_cell : (leaf : Ptr) (bytes : List ℕ) → HangsIn (MayHave images) set.tree leaf → IsLoaded images leaf bytes → LacksSlot bytes → IsDamagedCell images size set leaf.sector (parts_of leaf.sum) (parts_of leaf.sum)
  lacking_cell leaf bytes hangs loaded lacks = inl (inl (lacking_told images size set leaf bytes hangs loaded lacks))

  -- a pointer of no cell
  pub no_cell_told : (dnode : Dnode) → StandsIn images set dnode → (ptr : Ptr) → HangsIn (MayHave images) (tree_of dnode) ptr → (ptr.kind ≢ 0) × IsNoData dnode.block_size ptr × (ptr.kind ≢ 2) → IsDamagedCell images size set ptr.sector (parts_of ptr.sum) (parts_of ptr.sum)
  no_cell_told dnode stands ptr (inl hangs) (no_hole, no_data, unredacted) = inr (inr (record {
    dnode = dnode;
    stands = stands;
    ptr = ptr;
    hangs = hangs;
    no_hole = no_hole;
    no_data = no_data;
    unredacted = unredacted;
    sector_is = refl;
    stated_is = refl;
    found_is = refl;
  }))
  no_cell_told dnode stands ptr (inr past) (no_hole, no_data, unredacted) = absurd (no_hole (ap (λ (p : Ptr). p.kind) past))

-- a dnode that is read in a leaf of the set stands in it
pub dnode_stands : (images : List ℕ → Type 0) (set : ObjSet) (leaf : Ptr) (bytes : List ℕ) (place : ℕ) (dnode : Dnode) → HangsIn (MayHave images) set.tree leaf → IsLoaded images leaf bytes → leaf.kind ≢ 0 → place < 16 → HasSlot bytes place (slots.There dnode) → StandsIn images set dnode
dnode_stands images set leaf bytes place dnode hangs (inl hole) isnt under has = absurd (isnt hole.0)
dnode_stands images set leaf bytes place dnode (inr past) loaded isnt under has = absurd (isnt (ap (λ (p : Ptr). p.kind) past))
dnode_stands images set leaf bytes place dnode (inl hangs) (inr (some, there)) isnt under has = record { leaf = leaf; some = some; hangs = hangs; bytes = bytes; there = there; place = place; under = under; slot = has }
