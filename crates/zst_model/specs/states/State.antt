-- What a snapshot, a head or a partial state has, without any date.
use Rattle.std.specs.Prelude.{◌≡◌, ℕ, zero, suc, ◌^◌, ◌%◌, ◌≤◌, ◌<◌, Bool, true, false, not, List, length, All, count_ones, Option, Some, None, IfSome, if◌then◌else◌, nat_lt, nat_le, ◌==◌, ◌||◌, ◌&&◌}
use Rattle.zst_model.specs.declared.states.attr.Attr.{Attr}
use Rattle.zst_model.specs.declared.states.attr.ObjectHead.{ObjectHead}

-- what stands at an index of an object: a hole, a redacted block, or data
pub data Block : Type 0 where
  Hole : Block
  Redacted : Block
  Data : List ℕ → Block

-- an object: its attributes with its spill, and what stands at each index
pub record Object : Type 0 where
  pub attr : Attr
  pub blocks : ℕ → Block

-- a state: the object of each number, where it has one
abbrev pub State : Type 0
State = ℕ → Option Object

-- the state of no objects
abbrev pub no_objects : State
no_objects k = None

-- object numbers stand below this (DN_MAX_OBJECT of dnode.h)
unfoldable pub number_bound : ℕ
number_bound = 2 ^ 48

-- indices stand below this, a limit of this project: an object of blocks of 131,072 bytes has at most 2^60 bytes
unfoldable pub index_bound : ℕ
index_bound = 2 ^ 43

-- a number that an object may have: object 0 is the table of the objects itself
abbrev pub is_number : ℕ → Bool
is_number k = nat_lt 0 k && nat_lt k number_bound

-- whether a block is a hole
abbrev pub is_hole : Block → Bool
is_hole Hole = true
is_hole Redacted = false
is_hole (Data bytes) = false

-- one more than the greatest index below the bound that isn't a hole, and 0 where each is
unfoldable pub past_last : (ℕ → Block) → ℕ → ℕ
past_last blocks zero = 0
past_last blocks (suc bound) = if is_hole (blocks bound) then past_last blocks bound else suc bound

-- the end of an object: one more than its greatest index that isn't a hole, or 0
abbrev pub end_of : Object → ℕ
end_of object = past_last object.blocks index_bound

-- the end of what stands at a number: an absent number has the end 0
abbrev pub end_at : Option Object → ℕ
end_at None = 0
end_at (Some object) = end_of object

-- the content of an index: a hole, data with its bytes, or redacted with its object's block size
pub data Content : Type 0 where
  Empty : Content
  BytesOf : List ℕ → Content
  RedactedOf : ℕ → Content

-- the content that a block has in an object with this block size
abbrev pub block_content : ℕ → Block → Content
block_content size Hole = Empty
block_content size Redacted = RedactedOf size
block_content size (Data bytes) = BytesOf bytes

-- the content of an index of what stands at a number
abbrev pub content_at : Option Object → ℕ → Content
content_at None i = Empty
content_at (Some object) i = block_content object.attr.block_size (object.blocks i)

-- the content of a number: its attributes with its spill, or that it is absent
abbrev pub attr_at : Option Object → Option Attr
attr_at None = None
attr_at (Some object) = Some object.attr

-- user data: the contents of files (type 19) and of volumes (type 23) alone are ever redacted
abbrev pub is_user_data : Attr → Bool
is_user_data attr = attr.type_ == 19 || attr.type_ == 23

-- a block size that is no power of two: such an object has index 0 alone
abbrev pub is_odd_size : ℕ → Bool
is_odd_size size = not (count_ones size == 1)

-- the bytes of the smallest block (SPA_MINBLOCKSIZE of spa.h), of which each block has a multiple
abbrev pub smallest_block : ℕ
smallest_block = 512

-- the bytes of the largest block (SPA_OLD_MAXBLOCKSIZE of spa.h)
unfoldable pub largest_block : ℕ
largest_block = 131072

-- the bytes of the largest spill block (SPA_OLD_MAXBLOCKSIZE of spa.h), which larger blocks don't raise
abbrev pub largest_spill : ℕ
largest_spill = 131072

-- the bytes of the largest bonus (DN_OLD_MAX_BONUSLEN of dnode.h)
abbrev pub largest_bonus : ℕ
largest_bonus = 320

-- a block size: a multiple of that of the smallest block, to that of the largest
unfoldable pub is_block_size : ℕ → Bool
is_block_size size = nat_le smallest_block size && nat_le size largest_block && (size % smallest_block == 0)

-- a spill size: a multiple of the smallest block's, to that of the largest spill block
unfoldable pub is_spill_size : ℕ → Bool
is_spill_size size = nat_le smallest_block size && nat_le size largest_spill && (size % smallest_block == 0)

-- a head that an object may have: its type isn't 0, both types are numbers of 32 bits, and it has a block size
pub record IsHead (head : ObjectHead) : Type 0 where
  pub some_type : 0 < head.type_
  pub type_fits : head.type_ < 2 ^ 32
  pub bonus_type_fits : head.bonus_type < 2 ^ 32
  pub size : is_block_size head.block_size ≡ true

-- numbers that are bytes
abbrev pub AreBytes : List ℕ → Type 0
AreBytes bytes = All (λ byte. byte < 2 ^ 8) bytes

-- a bonus that an object may have
abbrev pub IsBonus : List ℕ → Type 0
IsBonus bytes = (length bytes ≤ largest_bonus) × AreBytes bytes

-- a spill block that an object may have
abbrev pub IsSpill : List ℕ → Type 0
IsSpill bytes = (is_spill_size (length bytes) ≡ true) × AreBytes bytes

-- attributes that an object may have
pub record IsAttr (attr : Attr) : Type 0 where
  pub head : IsHead (record { type_ = attr.type_; bonus_type = attr.bonus_type; block_size = attr.block_size })
  pub bonus : IsBonus attr.bonus
  pub spill : IfSome attr.spill IsSpill

-- data is bytes that fill their block
abbrev pub BlockFits : ℕ → Block → Type 0
BlockFits size Hole = Unit {0}
BlockFits size Redacted = Unit {0}
BlockFits size (Data bytes) = (length bytes ≡ size) × AreBytes bytes

-- a lawful object: its attributes are ones that it may have, its data fills its blocks, an odd size has index 0 alone, and each index is below the bound
pub record IsObject (object : Object) : Type 0 where
  pub attr : IsAttr object.attr
  pub fits : (i : ℕ) → BlockFits object.attr.block_size (object.blocks i)
  pub odd : (i : ℕ) → 0 < i → is_odd_size object.attr.block_size ≡ true → object.blocks i ≡ Hole
  pub bounded : (i : ℕ) → index_bound ≤ i → object.blocks i ≡ Hole

-- nothing, or a lawful object
abbrev pub IsObjectOrNone : Option Object → Type 0
IsObjectOrNone None = Unit {0}
IsObjectOrNone (Some object) = IsObject object

-- a lawful state: its objects are lawful, and have numbers from 1 to 2^48 - 1
pub record IsState (state : State) : Type 0 where
  pub zero : state 0 ≡ None
  pub bounded : (k : ℕ) → number_bound ≤ k → state k ≡ None
  pub objects : (k : ℕ) → IsObjectOrNone (state k)
