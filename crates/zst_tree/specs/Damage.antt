-- Which block of a tree a call tells as damaged.
use Rattle.std.specs.Prelude.{◌≡◌, ◌⊎◌, ℕ, zero, suc, ◌<◌, List, true, false, Result, Ok, Err}
use Rattle.zst_fletcher.specs.WeightSum.{parts_of}
use Rattle.zst_block.specs.Blocks.{IsBlock}
use Rattle.zst_block.specs.Ptr.{hole_of, is_flat}
use Rattle.zst_block.specs.ReadAnswers.{IsDamage}
use Rattle.zst_block.specs.declared.ptr.Ptr.{Ptr}
use Rattle.zst_block.specs.declared.fault.BlockFault.{BlockFault}
use Rattle.zst_block.specs.declared.fault.BlockFault.TheVariants.{Full, Damaged, DiskFault}
use Rattle.zst_tree.specs.Indices.{Blocks, child, greatest, kind_over}
use Rattle.zst_tree.specs.declared.tree.Tree.{Tree}

-- the image is what a read gives
abbrev pub IsSeen : List ℕ → List ℕ → Type 0
IsSeen seen image = image ≡ seen

-- some image among these has this block at the pointer
pub record MayHave (images : List ℕ → Type 0) (ptr : Ptr) (bytes : List ℕ) : Type 0 where
  pub image : List ℕ
  pub among : images image
  pub block : IsBlock image ptr bytes

-- a pointer names a node of a level: by its kind, its level and its length
pub record NamesNode (level : ℕ) (ptr : Ptr) : Type 0 where
  pub kind : (ptr.kind ≡ 3) ⊎ (ptr.kind ≡ 4)
  pub level_is : ptr.level ≡ level
  pub length_is : ptr.length ≡ 8192

-- it also sums up what may stand there: by its kind and its number
pub record SumsUp (images : List ℕ → Type 0) (level : ℕ) (ptr : Ptr) : Type 0 where
  pub names : NamesNode level ptr
  pub kind_is : (bytes : List ℕ) → MayHave images ptr bytes → ptr.kind ≡ kind_over bytes
  pub number_is : (bytes : List ℕ) → MayHave images ptr bytes → ptr.number ≡ greatest bytes 128

-- below a pointer at a level, where a node of the level `at` must stand, this pointer is reached: the pointer itself, unless it stands for all below it, or one reached below a child of its block
unfoldable pub Reaches : Blocks → ℕ → Ptr → ℕ → Ptr → Type 0
Reaches has zero ptr at found = ⊥
Reaches has (suc level) ptr at found = (is_flat ptr ≡ false)
    × (((at ≡ suc level) × (found ≡ ptr))
    ⊎ ((bytes : List ℕ) × has ptr bytes × (k : ℕ) × (k < 128) × Reaches has level (child bytes k) at found))

-- below a pointer at a level this one hangs, as a look-up gives it: the pointer itself, at level 0 or where it stands for all below it, and else one that hangs so below a child of its block
unfoldable pub HangsBelow : Blocks → ℕ → Ptr → Ptr → Type 0
HangsBelow has zero ptr found = found ≡ ptr
HangsBelow has (suc level) ptr found =
    ((is_flat ptr ≡ true) × (found ≡ ptr))
    ⊎ ((is_flat ptr ≡ false) × (bytes : List ℕ) × has ptr bytes × (k : ℕ) × (k < 128) × HangsBelow has level (child bytes k) found)

-- in a tree it hangs below the root, or is the hole that stands for all past its span
abbrev pub HangsIn : Blocks → Tree → Ptr → Type 0
HangsIn has tree found = HangsBelow has tree.levels tree.root found ⊎ (found ≡ hole_of tree.past)

-- damage is told of a node that is reached: what stands there in one of these images has other sums, or the pointer isn't right for a node of its level, and then both sums are told alike
pub record IsDamagedNode (images : List ℕ → Type 0) (size : ℕ) (right : ℕ → Ptr → Type 0) (level : ℕ) (root : Ptr) (sector : ℕ) (stated found : List ℕ) : Type 0 where
  pub at : ℕ
  pub ptr : Ptr
  pub reached : Reaches (MayHave images) level root at ptr
  pub sector_is : sector ≡ ptr.sector
  pub stated_is : stated ≡ parts_of ptr.sum
  pub found_is : ((image : List ℕ) × images image × IsDamage image size ptr found) ⊎ ((found ≡ stated) × (¬ right at ptr))

-- a fault tells no damage, or that of a node that is reached from the root
abbrev pub TellsNode : (List ℕ → Type 0) → ℕ → (ℕ → Ptr → Type 0) → ℕ → Ptr → BlockFault → Type 0
TellsNode images size right level root (Damaged sector stated found) = IsDamagedNode images size right level root sector stated found
TellsNode images size right level root (Full need largest) = Unit {0}
TellsNode images size right level root DiskFault = Unit {0}

-- so does a refusal
abbrev pub NamesDamage : {T : Type 0} → (List ℕ → Type 0) → ℕ → (ℕ → Ptr → Type 0) → ℕ → Ptr → Result T BlockFault → Type 0
NamesDamage images size right level root (Ok value) = Unit {0}
NamesDamage images size right level root (Err fault) = TellsNode images size right level root fault

-- each damage that may be told below the second root, among the second images, may be told below the first
abbrev pub IsBelow : (List ℕ → Type 0) → ℕ → (ℕ → Ptr → Type 0) → ℕ → Ptr → (List ℕ → Type 0) → ℕ → Ptr → Type 0
IsBelow images size right level root fewer lower under = (sector : ℕ) (stated found : List ℕ) → IsDamagedNode fewer size right lower under sector stated found → IsDamagedNode images size right level root sector stated found

-- so is each of a node that may not sum up what stands below it
abbrev pub IsSummedBelow : (List ℕ → Type 0) → ℕ → ℕ → Ptr → (List ℕ → Type 0) → ℕ → Ptr → Type 0
IsSummedBelow images size level root fewer lower under = (sector : ℕ) (stated found : List ℕ) → IsDamagedNode fewer size (SumsUp fewer) lower under sector stated found → IsDamagedNode images size (SumsUp images) level root sector stated found

-- a pointer that hangs below the second root, among the second images, hangs below the first, or is this leaf, or a hole
abbrev pub HangsWithin : (List ℕ → Type 0) → ℕ → Ptr → Ptr → (List ℕ → Type 0) → ℕ → Ptr → Type 0
HangsWithin images level root leaf fewer lower under = (found : Ptr) → HangsBelow (MayHave fewer) lower under found → HangsBelow (MayHave images) level root found ⊎ ((found ≡ leaf) ⊎ (found.kind ≡ 0))

-- what is below the second root, among the second images, is below the first, but for this leaf and holes: what may be told as damaged, and what hangs there
pub record IsWithin (images : List ℕ → Type 0) (size level : ℕ) (root leaf : Ptr) (fewer : List ℕ → Type 0) (lower : ℕ) (under : Ptr) : Type 0 where
  pub below : IsBelow images size NamesNode level root fewer lower under
  pub sums : IsSummedBelow images size level root fewer lower under
  pub hangs : HangsWithin images level root leaf fewer lower under
