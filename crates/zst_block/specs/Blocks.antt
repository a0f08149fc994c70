-- Blocks in an image, and what a write into free sectors leaves of them.
use Rattle.std.specs.Prelude.{◌≡◌, ℕ, ◌+◌, ◌*◌, ◌/◌, ◌%◌, ◌<◌, ◌≤◌, List, [], ◌∷◌, length}
use Rattle.zst_fletcher.specs.WeightSum.{weight_sum}
use Rattle.zst_outside.specs.Images.{DiskState, Leaves, Keeps}
use Rattle.zst_outside.specs.Ranges.{bytes_at}
use Rattle.zst_space.specs.FreeSectors.{FreeSectors, IsSpaceFrom, Rise, IsFree}
use Rattle.zst_block.specs.declared.ptr.Ptr.{Ptr}
use Rattle.zst_space.specs.declared.space.Extent.{Extent}
use denote.Struct.Props as logic

-- the bytes that a pointer names
abbrev pub named : List ℕ → Ptr → List ℕ
named image ptr = bytes_at image (512 * ptr.sector) ptr.length

-- a pointer names whole sectors of a disk of so many bytes
pub record IsPlaced (size : ℕ) (ptr : Ptr) : Type 0 where
  pub whole : ptr.length % 512 ≡ 0
  pub inside : 512 * ptr.sector + ptr.length ≤ size

-- these bytes are the block that the pointer names in the image, by its length and its sum
pub record IsBlock (image : List ℕ) (ptr : Ptr) (bytes : List ℕ) : Type 0 where
  pub placed : IsPlaced (length image) ptr
  pub bytes_are : named image ptr ≡ bytes
  pub sum_is : weight_sum bytes ≡ ptr.sum

-- no byte of the range is in a free sector
abbrev pub IsTaken : FreeSectors → ℕ → ℕ → Type 0
IsTaken space place count = (byte : ℕ) → place ≤ byte → byte < place + count → ¬ (IsFree space (byte / 512))

-- the image has this block behind sectors 0 to 7, in sectors that aren't free
pub record Has (image : List ℕ) (space : FreeSectors) (ptr : Ptr) (bytes : List ℕ) : Type 0 where
  pub block : IsBlock image ptr bytes
  pub behind : 8 ≤ ptr.sector
  pub taken : IsTaken space (512 * ptr.sector) ptr.length

-- a space fits a disk of so many bytes, and sectors 0 to 7 are never free
pub record FitsDisk (size : ℕ) (space : FreeSectors) : Type 0 where
  pub extents : IsSpaceFrom 8 space
  pub sectors : 512 * space.sectors ≤ size

-- it is a proposition, so that an Io can keep it

Rise-prop : (from : ℕ) (extents : List Extent) (end : ℕ) → IsProp (Rise from extents end)
Rise-prop from [] end = Prim.hlevel logic.props
Rise-prop from (e ∷ es) end = Prim.hlevel (Rise-prop (e.first + e.count) es end, logic.props)

IsSpaceFrom-prop : (from : ℕ) (space : FreeSectors) → IsProp (IsSpaceFrom from space)
IsSpaceFrom-prop from space = Prim.hlevel (Rise-prop from space.free space.end, logic.props)

pub FitsDisk-prop : (size : ℕ) (space : FreeSectors) → IsProp (FitsDisk size space)
FitsDisk-prop size space = Prim.hlevel (IsSpaceFrom-prop 8 space, logic.props)

-- every range without a free sector is as before
pub record SparesTaken (space : FreeSectors) (old new : List ℕ) : Type 0 where
  pub size : length new ≡ length old
  pub ranges : (place count : ℕ) → IsTaken space place count → bytes_at new place count ≡ bytes_at old place count

-- an image that stood before, but for free sectors
abbrev pub Spared : FreeSectors → DiskState → List ℕ → Type 0
Spared space old c = (d : List ℕ) × old.images d × SparesTaken space d c

-- A part of a run that wrote into free sectors alone, and took them: outside them a read gives what it gave, and a crash leaves what it left.
pub record FillsFree (old : DiskState) (old_space : FreeSectors) (new : DiskState) (new_space : FreeSectors) : Type 0 where
  pub size : new.size ≡ old.size
  pub fewer : (sector : ℕ) → IsFree new_space sector → IsFree old_space sector
  pub seen : SparesTaken old_space old.seen new.seen
  pub honest : new.honest → old.honest
  pub crash : (c : List ℕ) → new.images c → Spared old_space old c
  pub time : Leaves old new (Spared old_space old)
  pub kept : Keeps old new

-- every block that was there still is
abbrev pub KeepsBlocks : List ℕ → FreeSectors → List ℕ → FreeSectors → Type 0
KeepsBlocks old old_space new new_space = (ptr : Ptr) (bytes : List ℕ) → Has old old_space ptr bytes → Has new new_space ptr bytes

-- each image now comes from one before, and has all blocks that that one had
abbrev pub Follows : (List ℕ → Type 0) → FreeSectors → (List ℕ → Type 0) → FreeSectors → Type 0
Follows old old_space new new_space = (c : List ℕ) → new c → (d : List ℕ) × old d × KeepsBlocks d old_space c new_space
