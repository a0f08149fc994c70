-- The map that a tree holds: below 2^44 each index has a pointer, whose number is its date.
use Rattle.std.specs.Prelude.{◌≡◌, ◌⊎◌, ℕ, zero, suc, ◌+◌, ◌*◌, ◌^◌, ◌<◌, ◌≤◌, ◌||◌, max, Bool, true, false, if◌then◌else◌, List, length, Result, Ok, Err}
use Rattle.zst_bytes.specs.Bytes.{bytes_at}
use Rattle.zst_block.specs.Ptr.{hole_of, is_flat, is_lawful, is_present, ptr_at, ptr_bytes}
use Rattle.zst_block.specs.declared.ptr.Ptr.{Ptr}
use Rattle.zst_block.specs.declared.fault.BlockFault.{BlockFault}
use Rattle.zst_block.specs.declared.fault.BlockFault.TheVariants.{Full, Damaged, DiskFault}
use Rattle.zst_tree.specs.declared.tree.Tree.{Tree}

-- which bytes a pointer names, among the blocks that are there
abbrev pub Blocks : Type 1
Blocks = Ptr → List ℕ → Type 0

abbrev pub Map : Type 0
Map = ℕ → Ptr

-- how many indices stand below a pointer at this level
unfoldable pub span : ℕ → ℕ
span zero = 1
span (suc level) = 128 * span level

-- one of the 128 pointers of a block
unfoldable pub child : List ℕ → ℕ → Ptr
child bytes k = ptr_at bytes (64 * k)

-- the greatest number of the first pointers of a block
unfoldable pub greatest : List ℕ → ℕ → ℕ
greatest bytes zero = 0
greatest bytes (suc count) = max (child bytes count).number (greatest bytes count)

-- whether anything but holes is below one of the first pointers of a block
unfoldable pub any_present : List ℕ → ℕ → Bool
any_present bytes zero = false
any_present bytes (suc count) = is_present (child bytes count) || any_present bytes count

-- 3 over anything but holes, else 4
abbrev pub kind_over : List ℕ → ℕ
kind_over bytes = if any_present bytes 128 then 3 else 4

-- the bytes of a pointer are those of the table
abbrev pub IsSpelled : List ℕ → ℕ → Type 0
IsSpelled bytes k = bytes_at bytes (64 * k) 64 ≡ ptr_bytes (child bytes k)

-- the block has 128 pointers
pub record HasPointers (bytes : List ℕ) : Type 0 where
  pub long : length bytes ≡ 8192
  pub spelled : (k : ℕ) → k < 128 → IsSpelled bytes k

-- the pointer names a block of 128, by its level, and sums them up
pub record IsNode (has : Blocks) (level : ℕ) (ptr : Ptr) (bytes : List ℕ) : Type 0 where
  pub there : has ptr bytes
  pub pointers : HasPointers bytes
  pub level_is : ptr.level ≡ level
  pub kind_is : ptr.kind ≡ kind_over bytes
  pub number_is : ptr.number ≡ greatest bytes 128

-- from here to there each index has this leaf
pub record Same (map : Map) (from below : ℕ) (leaf : Ptr) : Type 0 where
  pub is : (index : ℕ) → from ≤ index → index < below → map index ≡ leaf

-- below a lawful pointer at this level stands this map, from the base on: one leaf throughout, or 128 subtrees
unfoldable pub Subtree : Blocks → ℕ → Ptr → ℕ → Map → Type 0
Subtree has zero ptr base map = (is_lawful ptr ≡ true) × (map base ≡ ptr)
Subtree has (suc level) ptr base map =
    ((is_lawful ptr ≡ true) × (is_flat ptr ≡ true) × Same map base (base + span (suc level)) ptr)
    ⊎ ((bytes : List ℕ) × IsNode has (suc level) ptr bytes
    × ((k : ℕ) → k < 128 → Subtree has level (child bytes k) (base + k * span level) map))

-- the tree stands for this map of all indices: below its root, and past its span holes of one date
pub record Stands (has : Blocks) (tree : Tree) (whole : Map) : Type 0 where
  pub below : Subtree has tree.levels tree.root 0 whole
  pub past : (index : ℕ) → span tree.levels ≤ index → whole index ≡ hole_of tree.past

-- the tree holds this map of the indices below 2^44
pub record TreeIs (has : Blocks) (tree : Tree) (map : Map) : Type 0 where
  pub whole : Map
  pub stands : Stands has tree whole
  pub agrees : (index : ℕ) → index < 2 ^ 44 → map index ≡ whole index

-- from a base to what is above it, each index outside the range is as it was
pub record SameBeside (old new : Map) (base from below above : ℕ) : Type 0 where
  pub before : (index : ℕ) → base ≤ index → index < from → new index ≡ old index
  pub behind : (index : ℕ) → below ≤ index → index < above → new index ≡ old index

-- the range has this leaf, and each other index from the base to what is above it is as it was
pub record Changed (old new : Map) (base from below above : ℕ) (leaf : Ptr) : Type 0 where
  pub inside : Same new from below leaf
  pub beside : SameBeside old new base from below above

-- a range below 2^44 has this leaf, and each other index there is as it was
abbrev pub Puts : Map → Map → ℕ → ℕ → Ptr → Type 0
Puts old new from below leaf = Changed old new 0 from below (2 ^ 44) leaf

-- no block is told as damaged
abbrev pub IsNoDamage : BlockFault → Type 0
IsNoDamage (Damaged sector stated found) = ⊥
IsNoDamage (Full need largest) = Unit {0}
IsNoDamage DiskFault = Unit {0}

-- what a call gives is so, and it finds no damage
abbrev pub Delivers : {T : Type 0} → (T → Type 0) → Result T BlockFault → Type 0
Delivers P (Ok value) = P value
Delivers P (Err fault) = IsNoDamage fault
