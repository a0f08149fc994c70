-- What a call that gives one leaf to a range of indices does to a tree.
use Rattle.std.specs.Prelude.{◌≡◌, ℕ, ◌≤◌, OnErr, OnOk, Result}
use Rattle.zst_outside.specs.declared.disk.Disk.{Ghosts}
use Rattle.zst_block.specs.IoStates.{IsHonest, IsSparedBy, blocks_of, disk_of, io_of}
use Rattle.zst_block.specs.IoCalls.{Works, stop_of}
use Rattle.zst_block.specs.declared.fault.BlockFault.{BlockFault}
use Rattle.zst_block.specs.declared.io.Io.{Io}
use Rattle.zst_block.specs.declared.ptr.Ptr.{Ptr}
use Rattle.zst_tree.specs.Changes.{PutsRoot}
use Rattle.zst_tree.specs.Damage.{IsWithin, NamesDamage, NamesNode}
use Rattle.zst_tree.specs.Indices.{Delivers, Map, Puts, TreeIs}
use Rattle.zst_tree.specs.declared.tree.Tree.{Tree}

module _ {D : Type 0} {g : Ghosts D} where
  -- the indices from one on and below another get a leaf, and the call takes so many sectors at most
  pub record PutsRange (before after : Io D g) (old new : Tree) (first below : ℕ) (leaf : Ptr) (most : ℕ) (result : Result (Unit {0}) BlockFault) : Type 0 where
    -- the tree that held a map holds each one that has the leaf in the range and is else the same
    pub puts : (map put : Map) → IsHonest after → TreeIs (blocks_of before) old map → Puts map put first below leaf → Delivers (λ done. TreeIs (blocks_of after) new put) result
    -- damage is told of a node below the root alone, and afterwards no more may be
    pub damaged : IsHonest after → NamesDamage (IsSparedBy before) (disk_of before).size NamesNode old.levels old.root result
    pub within : IsHonest after → OnOk result (IsWithin (IsSparedBy before) (disk_of before).size old.levels old.root leaf (IsSparedBy after) new.levels new.root)
    -- after a refusal the tree is as it was
    pub kept : OnErr result (new ≡ old)
    pub levels : new.levels ≤ 7
    pub root : PutsRoot old leaf new
    pub works : Works most 16 (io_of before) (io_of after) (stop_of result)
