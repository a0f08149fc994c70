-- How the nodes of a tree are changed, and what that costs.
use Rattle.std.specs.Prelude.{◌≡◌, ◌≢◌, ◌⊎◌, ℕ, ◌+◌, ◌-◌, ◌*◌, ◌<◌, ◌≤◌, ◌==◌, ◌&&◌, ◌||◌, if◌then◌else◌, List, length, true}
use Rattle.zst_block.specs.Ptr.{is_flat}
use Rattle.zst_block.specs.declared.ptr.Ptr.{Ptr}
use Rattle.zst_tree.specs.Damage.{NamesNode}
use Rattle.zst_tree.specs.Indices.{Blocks, Map, HasPointers, IsSpelled, Subtree, child, span}
use Rattle.zst_tree.specs.declared.puts.Ends.{Ends}
use Rattle.zst_tree.specs.declared.tree.Tree.{Tree}

-- at this place the block has this pointer
pub record HasChild (bytes : List ℕ) (k : ℕ) (ptr : Ptr) : Type 0 where
  pub child_is : child bytes k ≡ ptr
  pub spelled : IsSpelled bytes k

-- at this place the block has the pointer that it had
pub record KeepsChild (old new : List ℕ) (k : ℕ) : Type 0 where
  pub child_is : child new k ≡ child old k
  pub spelled : IsSpelled old k → IsSpelled new k

-- the block has this pointer at one place, and is else as it was
pub record PutsChild (old new : List ℕ) (place : ℕ) (ptr : Ptr) : Type 0 where
  pub long : length new ≡ 8192
  pub here : HasChild new place ptr
  pub others : (k : ℕ) → k < 128 → k ≢ place → KeepsChild old new k

-- the block has this pointer at each place of a range, and is else as it was
pub record FillsChildren (old new : List ℕ) (from below : ℕ) (ptr : Ptr) : Type 0 where
  pub inside : (k : ℕ) → from ≤ k → k < below → HasChild new k ptr
  pub before : (k : ℕ) → k < from → KeepsChild old new k
  pub behind : (k : ℕ) → below ≤ k → k < 128 → KeepsChild old new k

-- the block has 128 pointers, and below them stands this map
pub record Parts (has : Blocks) (level : ℕ) (bytes : List ℕ) (base : ℕ) (map : Map) : Type 0 where
  pub pointers : HasPointers bytes
  pub below : (k : ℕ) → k < 128 → Subtree has level (child bytes k) (base + k * span level) map

-- how many nodes a change of a range writes at most: none for a whole subtree, one path to one end or to one index, else two paths that share their first node
unfoldable pub most : ℕ → ℕ → ℕ → ℕ
most level first below = if (first == 0) && (below == span level) then 0
    else if ((first == 0) || (below == span level)) || (below == first + 1) then level
    else 2 * level - 1

-- a range below a pointer, by the children in which it begins and ends and the offsets below these: to change both ends writes no more nodes than to change the range
pub record SplitsRange (level from until : ℕ) (ends : Ends) : Type 0 where
  pub order : (ends.low ≤ ends.high) × (ends.high < 128)
  pub first : (ends.low * span (level - 1) + ends.first ≡ from) × (ends.first < span (level - 1))
  pub below : (ends.high * span (level - 1) + ends.below ≡ until) × (0 < ends.below) × (ends.below ≤ span (level - 1))
  pub single : until ≡ from + 1 → (ends.low ≡ ends.high) × (ends.below ≡ ends.first + 1)
  pub one : ends.low ≡ ends.high → (ends.first < ends.below) × (1 + most (level - 1) ends.first ends.below ≤ most level from until)
  pub two : ends.low < ends.high → 1 + (most (level - 1) ends.first (span (level - 1)) + most (level - 1) 0 ends.below) ≤ most level from until

-- what stands in place of a pointer where a range below it gets this leaf: the leaf, where it stands for all, or a node
abbrev pub IsPutRoot : ℕ → Ptr → Ptr → Type 0
IsPutRoot level leaf made = ((made ≡ leaf) × ((level ≡ 0) ⊎ (is_flat leaf ≡ true))) ⊎ ((0 < level) × NamesNode level made)

-- a tree has the root and the levels that it had, or such a one
abbrev pub PutsRoot : Tree → Ptr → Tree → Type 0
PutsRoot old leaf new = ((new.levels ≡ old.levels) × (new.root ≡ old.root)) ⊎ IsPutRoot new.levels leaf new.root

-- no date of a tree is above a number: neither that past its span, nor its root's, the latest below it
abbrev pub TreeDatedUpTo : ℕ → Tree → Type 0
TreeDatedUpTo number tree = (tree.past ≤ number) × (tree.root.number ≤ number)
