-- A text in leaves of 8,192 bytes below a pointer: each leaf is full but the last, which is filled with zeros.
use Rattle.std.specs.Prelude.{◌≡◌, ◌⊎◌, ℕ, zero, suc, ◌+◌, ◌-◌, ◌*◌, ◌/◌, ◌<◌, ◌≤◌, min, List, [], ◌++◌, length, Result}
use Rattle.zst_bytes.specs.Bytes.{bytes_at}
use Rattle.zst_bytes.specs.Fields.{zeros}
use Rattle.zst_space.specs.FreeSectors.{FreeSectors, IsFree}
use Rattle.zst_block.specs.Blocks.{IsBlock}
use Rattle.zst_block.specs.Ptr.{hole_of}
use Rattle.zst_block.specs.declared.fault.BlockFault.{BlockFault}
use Rattle.zst_block.specs.declared.ptr.Ptr.{Ptr}
use Rattle.zst_tree.specs.Indices.{Blocks, IsNoDamage, child, span}
use Rattle.zst_tree.specs.Faults.{GivesOrTells, IfFault}
use Rattle.zst_tree.specs.declared.or_memory.OrMemory.{OrMemory}

-- how many bytes have room in the leaves below a pointer at this level
abbrev pub bytes_below : ℕ → ℕ
bytes_below level = 8192 * span level

-- one of the parts of a text, of so many bytes each: the last that has any may have fewer, and those behind it have none
unfoldable pub part : ℕ → List ℕ → ℕ → List ℕ
part size text k = bytes_at text (k * size) size

-- the pointer names a leaf with this text, and zeros behind it up to the end
pub record IsLeaf (has : Blocks) (ptr : Ptr) (text : List ℕ) : Type 0 where
  pub there : has ptr (text ++ zeros (8192 - length text))
  pub kind_is : ptr.kind ≡ 1
  pub level_is : ptr.level ≡ 0

-- the pointer names a node of this level with something below it
pub record IsOver (has : Blocks) (level : ℕ) (ptr : Ptr) (node : List ℕ) : Type 0 where
  pub there : has ptr node
  pub long : length node ≡ 8192
  pub kind_is : ptr.kind ≡ 3
  pub level_is : ptr.level ≡ level

-- where there is no text the pointer is a hole, which nothing dates, and else this is so
abbrev pub HoleOr : Ptr → List ℕ → Type 0 → Type 0
HoleOr ptr text P = ((text ≡ []) × (ptr ≡ hole_of 0)) ⊎ ((0 < length text) × P)

-- below a pointer at this level stands this text: a leaf has it, or a node has its 128 parts below its pointers; below a hole stands none
unfoldable pub LeavesBelow : Blocks → ℕ → Ptr → List ℕ → Type 0
LeavesBelow has zero ptr text = HoleOr ptr text (IsLeaf has ptr text)
LeavesBelow has (suc level) ptr text = HoleOr ptr text
    ((node : List ℕ) × IsOver has (suc level) ptr node
    × ((k : ℕ) → k < 128 → LeavesBelow has level (child node k) (part (bytes_below level) text k)))

-- so few levels as have room for so many bytes, and 3 at most
pub record IsLeast (levels size : ℕ) : Type 0 where
  pub few : levels ≤ 3
  pub enough : size ≤ bytes_below levels
  pub no_fewer : 0 < levels → bytes_below (levels - 1) < size

-- this text stands in the leaves of a tree: it isn't empty, and no tree with fewer levels has room for it
pub record HasLeaves (has : Blocks) (levels : ℕ) (root : Ptr) (text : List ℕ) : Type 0 where
  pub some : 0 < length text
  pub least : IsLeast levels (length text)
  pub below : LeavesBelow has levels root text

-- every byte of the range is in a free sector
abbrev pub AllFree : FreeSectors → ℕ → ℕ → Type 0
AllFree space place count = (byte : ℕ) → place ≤ byte → byte < place + count → IsFree space (byte / 512)

-- the block is there, its pointer has this number, and it stands in sectors that were free before
abbrev pub Laid : ℕ → FreeSectors → Blocks → Blocks
Laid number space has = λ ptr bytes. has ptr bytes × (ptr.number ≡ number) × AllFree space (512 * ptr.sector) ptr.length

-- what a pointer names stands behind sectors 0 to 7, and before this sector
pub record StandsBefore (end : ℕ) (ptr : Ptr) : Type 0 where
  pub behind : 8 ≤ ptr.sector
  pub inside : 512 * ptr.sector + ptr.length ≤ 512 * end

-- the block is there, where blocks may stand as long as all sectors before this one are taken
abbrev pub BlocksBefore : ℕ → List ℕ → Blocks
BlocksBefore end image = λ ptr bytes. IsBlock image ptr bytes × StandsBefore end ptr

-- the sum of the first values
unfoldable pub sum_below : (ℕ → ℕ) → ℕ → ℕ
sum_below value zero = 0
sum_below value (suc count) = sum_below value count + value count

-- how many bytes a part has of a text with so many
abbrev pub part_length : ℕ → ℕ → ℕ → ℕ
part_length size long k = min (long - k * size) size

-- how many blocks a text of so many bytes takes below a pointer at this level
unfoldable pub blocks_for : ℕ → ℕ → ℕ
blocks_for level zero = 0
blocks_for zero (suc long) = 1
blocks_for (suc level) (suc long) = sum_below (λ k. blocks_for level (part_length (bytes_below level) (suc long) k)) 128 + 1

-- how many leaves so many bytes take
abbrev pub leaves_for : ℕ → ℕ
leaves_for long = (long + 8191) / 8192

-- no block is told as damaged
abbrev pub TellsNone : {T : Type 0} → Result T (OrMemory BlockFault) → Type 0
TellsNone result = IfFault result IsNoDamage

-- a text of so many bytes that stands below the pointer was appended
pub record Appends (has : Blocks) (level : ℕ) (ptr : Ptr) (long : ℕ) (old new : List ℕ) : Type 0 where
  pub text : List ℕ
  pub long_is : length text ≡ long
  pub new_is : new ≡ old ++ text
  pub below : LeavesBelow has level ptr text

-- what was read is the text, and no block is told as damaged
abbrev pub GivesText : List ℕ → {T : Type 0} → (T → List ℕ) → Result T (OrMemory BlockFault) → Type 0
GivesText text items result = GivesOrTells (λ value. items value ≡ text) IsNoDamage result
