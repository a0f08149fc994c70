-- What a change of a range does to a tree, from what its parts do: the tree is grown, and then what is below its root is changed.
use Rattle.std.proofs.Common.{◌≡◌, ◌⊎◌, inl, inr, ℕ, ◌+◌, ◌<◌, ◌≤◌, refl, ◌∙◌, subst, sym}
use Rattle.std.specs.Prelude.{Result, Some, None, Ok, Err}
use Rattle.zst_outside.specs.declared.disk.Disk.{Ghosts}
use Rattle.zst_block.specs.IoStates.{IsHonest, IsSparedBy, blocks_of, disk_of, io_of}
use Rattle.zst_block.specs.IoCalls.{Works, stop_of}
use Rattle.zst_block.specs.declared.fault.BlockFault.{BlockFault}
use Rattle.zst_block.specs.declared.io.Io.{Io}
use Rattle.zst_block.specs.declared.ptr.Ptr.{Ptr}
use Rattle.zst_block.proofs.IoCallLemmas.{Looks-none, Works-looks, Works-more, Works-then}
use Rattle.zst_tree.specs.Changes.{IsPutRoot}
use Rattle.zst_tree.specs.Damage.{IsWithin, NamesNode, TellsNode}
use Rattle.zst_tree.specs.Indices.{IsNoDamage, Map, Puts, Stands, TreeIs}
use Rattle.zst_tree.specs.RangeChanges.{PutsRange}
use Rattle.zst_tree.specs.declared.tree.Tree.{Tree}
use Rattle.zst_tree.proofs.ChangedTrees.{IsWithin-self, IsWithin-size, IsWithin-then}
use Rattle.zst_tree.proofs.LaterDamage.{fault_after}
use Rattle.zst_tree.proofs.TreeMaps.{none_put}

-- the root and the levels of a tree that was grown, and then changed below its root
put_root : (levels : ℕ) (root : Ptr) (tree : Tree) (leaf made : Ptr) → ((levels ≡ tree.levels) × (root ≡ tree.root)) ⊎ ((0 < levels) × NamesNode levels root)
    → (made ≡ root) ⊎ IsPutRoot levels leaf made → ((levels ≡ tree.levels) × (made ≡ tree.root)) ⊎ IsPutRoot levels leaf made
put_root levels root tree leaf made (inl same) (inl kept) = inl (same.0, kept ∙ same.1)
put_root levels root tree leaf made (inr node) (inl kept) = inr (inr (node.0, subst (λ (p : Ptr). NamesNode levels p) (sym kept) node.1))
put_root levels root tree leaf made (inl same) (inr put) = inr put
put_root levels root tree leaf made (inr node) (inr put) = inr put

module _ {D : Type 0} {g : Ghosts D} {before after : Io D g} {first below : ℕ} {leaf : Ptr} {most : ℕ} where
  -- the change is refused
  pub PutsRange-refused : (tree : Tree) (fault : BlockFault) → tree.levels ≤ 7
      → ((whole : Map) → IsHonest after → Stands (blocks_of before) tree whole → IsNoDamage fault)
      → (IsHonest after → TellsNode (IsSparedBy before) (disk_of before).size NamesNode tree.levels tree.root fault)
      → Works most 16 (io_of before) (io_of after) (Some fault)
      → PutsRange before after tree tree first below leaf most (Err fault)
  PutsRange-refused tree fault low none told works = record {
    puts = λ map put honest holds puts. none holds.whole honest holds.stands;
    damaged = told;
    within = λ honest. tt;
    kept = refl;
    levels = low;
    root = inl (refl, refl);
    works = works;
  }

  -- a change that takes fewer sectors
  pub PutsRange-fewer : {other : ℕ} (old new : Tree) (result : Result (Unit {0}) BlockFault) → Works most 16 (io_of before) (io_of after) (stop_of result)
      → PutsRange before after old new first below leaf other result → PutsRange before after old new first below leaf most result
  PutsRange-fewer old new result works changes = record {
    puts = changes.puts;
    damaged = changes.damaged;
    within = changes.within;
    kept = changes.kept;
    levels = changes.levels;
    root = changes.root;
    works = works;
  }

  -- the tree was grown
  module _ (mid : Io D g) (tree grown : Tree) (low : tree.levels ≤ 7) {few more : ℕ} (le : few + more ≤ most) (works : Works few 16 (io_of before) (io_of mid) None)
      (within : IsWithin (IsSparedBy before) (disk_of before).size tree.levels tree.root leaf (IsSparedBy mid) grown.levels grown.root) where
    -- and what is below its root isn't changed
    pub PutsRange-only_grown : (fault : BlockFault) → ((whole : Map) → IsHonest after → Stands (blocks_of before) tree whole → IsNoDamage fault)
        → (IsHonest after → TellsNode (IsSparedBy mid) (disk_of mid).size NamesNode grown.levels grown.root fault)
        → Works more 16 (io_of mid) (io_of after) (Some fault)
        → PutsRange before after tree tree first below leaf most (Err fault)
    PutsRange-only_grown fault none told changed = PutsRange-refused tree fault low none
        (λ honest. fault_after _ _ _ _ works.fills NamesNode tree.levels tree.root grown.levels grown.root within.below fault (told honest))
        (Works-more le (Works-then works changed))

    -- and what is below its root is changed
    pub PutsRange-done : (past : ℕ) (made : Ptr) → grown.levels ≤ 7
        → ((grown.levels ≡ tree.levels) × (grown.root ≡ tree.root)) ⊎ ((0 < grown.levels) × NamesNode grown.levels grown.root)
        → (made ≡ grown.root) ⊎ IsPutRoot grown.levels leaf made
        → ((map put : Map) → IsHonest after → TreeIs (blocks_of before) tree map → Puts map put first below leaf → TreeIs (blocks_of after) (record { levels = grown.levels; past = past; root = made }) put)
        → (IsHonest after → IsWithin (IsSparedBy mid) (disk_of mid).size grown.levels grown.root leaf (IsSparedBy after) grown.levels made)
        → Works more 16 (io_of mid) (io_of after) None
        → PutsRange before after tree (record { levels = grown.levels; past = past; root = made }) first below leaf most (Ok tt)
    PutsRange-done past made least grew put puts inside changed = record {
      puts = puts;
      damaged = λ honest. tt;
      within = λ honest. IsWithin-then _ _ _ _ _ _ _ _ within _ _ _ (IsWithin-size _ _ _ _ _ _ works.fills.size _ _ _ (inside honest));
      kept = tt;
      levels = least;
      root = put_root grown.levels grown.root tree leaf made grew put;
      works = Works-more le (Works-then works changed);
    }

-- nothing is changed where a range has no indices
pub PutsRange-none : {D : Type 0} {g : Ghosts D} {io : Io D g} {most : ℕ} (tree : Tree) (first count : ℕ) (leaf : Ptr) → tree.levels ≤ 7 → count ≡ 0
    → PutsRange io io tree tree first (first + count) leaf most (Ok tt)
PutsRange-none tree first count leaf low none = record {
  puts = λ map put honest holds puts. none_put _ tree map put first leaf (subst (λ (n : ℕ). Puts map put first (first + n) leaf) none puts) holds;
  damaged = λ honest. tt;
  within = λ honest. IsWithin-self _ _ tree.levels tree.root leaf;
  kept = tt;
  levels = low;
  root = inl (refl, refl);
  works = Works-looks (Looks-none _);
}
