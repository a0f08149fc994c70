-- A list of redacted blocks in the leaves of a tree.
use Rattle.std.specs.Prelude.{◌≡◌, ◌⊎◌, ℕ, ◌+◌, ◌*◌, ◌/◌, ◌<◌, List, length, Result, Err}
use Rattle.zst_fletcher.specs.WeightSum.{parts_of}
use Rattle.zst_block.specs.Ptr.{hole_of}
use Rattle.zst_block.specs.declared.fault.BlockFault.{BlockFault}
use Rattle.zst_block.specs.declared.fault.BlockFault.TheVariants.{Full, Damaged, DiskFault}
use Rattle.zst_block.specs.declared.ptr.Ptr.{Ptr}
use Rattle.zst_model.specs.fields.Lists.{Runs, IsRunList}
use Rattle.zst_tree.specs.Indices.{Blocks, IsNoDamage}
use Rattle.zst_leaves.specs.Damage.{TellsText}
use Rattle.zst_leaves.specs.Leaves.{BlocksBefore, HasLeaves, leaves_for}
use Rattle.zst_tree.specs.Faults.{GivesOrTells, IfFault}
use Rattle.zst_tree.specs.declared.or_memory.OrMemory.{OrMemory}
use Rattle.zst_tree.specs.declared.or_memory.OrMemory.TheVariants.{Fault}
use Rattle.zst_tree.specs.declared.tree.Tree.{Tree}
use Rattle.zst_list.specs.Spelling.{IsList, list_bytes}

-- how many bytes a list of so many runs has
abbrev pub list_length : ℕ → ℕ
list_length count = 24 * count + 8 * (count / 341)

-- so many sectors a list of so many runs takes at most: 16 for each leaf, and for each of the nodes above
abbrev pub list_sectors : ℕ → ℕ
list_sectors count = 16 * (leaves_for (list_length count) + leaves_for (list_length count) / 128 + 3)

-- this list of so many runs stands in the leaves of a tree; one of none stands nowhere
pub record HasList (has : Blocks) (levels : ℕ) (root : Ptr) (count : ℕ) (runs : Runs) : Type 0 where
  pub lawful : IsRunList runs
  pub count_is : length runs ≡ count
  pub leaves : 0 < count → HasLeaves has levels root (list_bytes runs)

-- a tree without leaves
pub record StandsNowhere (tree : Tree) : Type 0 where
  pub levels : tree.levels ≡ 0
  pub root : tree.root ≡ hole_of 0

-- what was read is the list, and no block is told as damaged
abbrev pub GivesList : Runs → {T : Type 0} → (T → Runs) → Result T (OrMemory BlockFault) → Type 0
GivesList runs read result = GivesOrTells (λ value. read value ≡ runs) IsNoDamage result

-- every block below the root is there, with the sum that its pointer states, and the text of the leaves, as long as one of so many runs, is the text of none
pub record HasNoList (has : Blocks) (levels : ℕ) (root : Ptr) (count : ℕ) : Type 0 where
  pub text : List ℕ
  pub leaves : HasLeaves has levels root text
  pub long : length text ≡ list_length count
  pub no_list : (runs : Runs) → ¬ IsList count runs text

-- the root is told as damaged, with both sums alike
abbrev pub TellsRoot : Ptr → BlockFault → Type 0
TellsRoot root (Damaged sector stated found) = (sector ≡ root.sector) × (stated ≡ parts_of root.sum) × (found ≡ stated)
TellsRoot root (Full need largest) = ⊥
TellsRoot root DiskFault = ⊥

-- a refusal tells a block of the list as the read of its leaves tells it, or, only where these all were read and are the text of no list, its root
abbrev pub TellsList : {T : Type 0} → ℕ → List ℕ → ℕ → ℕ → Ptr → ℕ → Result T (OrMemory BlockFault) → Type 0
TellsList end image size levels root count result =
    IfFault result (λ fault. TellsText {T = Unit {0}} end image size levels root (list_length count) (Err (Fault fault)) ⊎ (HasNoList (BlocksBefore end image) levels root count × TellsRoot root fault))
