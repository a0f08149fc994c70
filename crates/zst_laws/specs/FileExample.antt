-- Snapshots of one object, and the items of their views.
use Rattle.std.specs.Prelude.{◌≡◌, ℕ, false, List, [], ◌∷◌, Some, None, replicate, if◌then◌else◌, ◌==◌, nat_lt}
use Rattle.zst_model.specs.declared.states.attr.Attr.{Attr}
use Rattle.zst_model.specs.declared.sends.header.Header.{Header}
use Rattle.zst_model.specs.declared.states.item.Change.TheVariants.{Put, FreeFrom, Free, Write}
use Rattle.zst_model.specs.declared.states.item.Item.{Item}
use Rattle.zst_model.specs.declared.states.item.Item.TheVariants.{FreeObjects, At}
use Rattle.zst_model.specs.states.State.{Block, Hole, Data, Object, State, index_bound}
use Rattle.zst_model.specs.states.DatedState.{DatedState}
use Rattle.zst_model.specs.sends.Inclusion.{Choice, no_pairs}
use Rattle.zst_model.specs.sends.View.{view_of}
use Rattle.zst_model.specs.sends.Items.{items, origin}
use Rattle.zst_model.specs.sends.Points.{point_of}
use Rattle.zst_laws.specs.ExactSends.{full}

-- a file with blocks of 512 bytes, without a bonus or a spill
abbrev pub file : Attr
file = record { type_ = 19; bonus_type = 0; block_size = 512; bonus = []; spill = None }

-- a block of 512 bytes: this one, and zeros
unfoldable pub padded : ℕ → List ℕ
padded byte = byte ∷ replicate 511 0

-- the file with these blocks
abbrev pub file_of : (ℕ → Block) → Object
file_of blocks = record { attr = file; blocks = blocks }

-- a state with one file, which has the number 1
abbrev pub one_file : (ℕ → Block) → State
one_file blocks k = if k == 1 then Some (file_of blocks) else None

-- dates of the indices of the file alone, which stand below the bound
abbrev pub file_dates : (ℕ → ℕ) → ℕ → ℕ → ℕ
file_dates dates k i = if k == 1 then (if nat_lt i index_bound then dates i else 0) else 0

-- its record OBJECT, with the greatest index that it states
abbrev pub file_put : ℕ → Item
file_put max_block = At 1 (Put (record { type_ = 19; bonus_type = 0; block_size = 512 }) [] false max_block)

-- FREEOBJECTS of all numbers behind it: 2 to 2^48 - 1
abbrev pub rest_gone : Item
rest_gone = FreeObjects 2 281474976710654

-- data in block 0 alone
abbrev pub first_block : ℕ → Block
first_block i = if i == 0 then Data (padded 170) else Hole

-- the file was made by commit 3, its block 0 was written by commit 4
abbrev pub small : DatedState
small = record {
  state = one_file first_block;
  number_date = λ k. if k == 1 then 3 else 0;
  index_date = file_dates (λ i. if i == 0 then 4 else 3);
}

-- its full stream, whole, and resumed in the file before and after its block
abbrev pub SmallItems : Type 0
SmallItems =
    (header : Header)
    → let view = view_of header small (full no_pairs) in
    (items view origin ≡ file_put 0 ∷ At 1 (FreeFrom 512) ∷ At 1 (Write 0 19 (padded 170)) ∷ rest_gone ∷ [])
    × (items view (record { object = 1; offset = 0 }) ≡ file_put 0 ∷ At 1 (FreeFrom 512) ∷ At 1 (Write 0 19 (padded 170)) ∷ rest_gone ∷ [])
    × (items view (record { object = 1; offset = 512 }) ≡ file_put 0 ∷ At 1 (FreeFrom 512) ∷ rest_gone ∷ [])

-- the points to which its items lead, one after another, and the point at which the rest of them was sent again from behind the block
abbrev pub SmallPoints : Type 0
SmallPoints =
    (point_of origin (file_put 0 ∷ []) ≡ record { object = 1; offset = 0 })
    × (point_of origin (file_put 0 ∷ At 1 (FreeFrom 512) ∷ []) ≡ record { object = 1; offset = 0 })
    × (point_of origin (file_put 0 ∷ At 1 (FreeFrom 512) ∷ At 1 (Write 0 19 (padded 170)) ∷ []) ≡ record { object = 1; offset = 512 })
    × (point_of origin (file_put 0 ∷ At 1 (FreeFrom 512) ∷ At 1 (Write 0 19 (padded 170)) ∷ rest_gone ∷ []) ≡ record { object = 281474976710656; offset = 0 })
    × (point_of (record { object = 1; offset = 512 }) (file_put 0 ∷ At 1 (FreeFrom 512) ∷ []) ≡ record { object = 1; offset = 512 })

-- the same after commit 6 wrote equal bytes into block 0
abbrev pub rewritten : DatedState
rewritten = record small { index_date = file_dates (λ i. if i == 0 then 6 else 3) }

-- the increment from the snapshot with this number
abbrev pub since : ℕ → Choice
since number = record { from = Some number; source = no_pairs; redact = no_pairs }

-- a block that was written with equal bytes after the source is sent
abbrev pub RewrittenItems : Type 0
RewrittenItems =
    (header : Header)
    → items (view_of header rewritten (since 5)) origin ≡ file_put 0 ∷ At 1 (FreeFrom 512) ∷ At 1 (Write 0 19 (padded 170)) ∷ []

-- the file after commit 6 punched a block 1 that a snapshot with the number 5 had
abbrev pub shortened : DatedState
shortened = record small { index_date = file_dates (λ i. if i == 0 then 4 else (if i == 1 then 6 else 3)) }

-- what was punched at or past the end is cleared by the FREE behind the end
abbrev pub ShortenedItems : Type 0
ShortenedItems = (header : Header) → items (view_of header shortened (since 5)) origin ≡ file_put 0 ∷ At 1 (FreeFrom 512) ∷ []

-- data in block 1 alone
abbrev pub second_block : ℕ → Block
second_block i = if i == 1 then Data (padded 187) else Hole

-- a file that was freed and made again by commit 10, after a snapshot with the number 8, and whose block 1 commit 11 wrote
abbrev pub reallocated : DatedState
reallocated = record {
  state = one_file second_block;
  number_date = λ k. if k == 1 then 10 else 0;
  index_date = file_dates (λ i. if i == 1 then 11 else 10);
}

-- the holes of an object that was made again are sent: block 0, and all behind the end
abbrev pub ReallocatedItems : Type 0
ReallocatedItems =
    (header : Header)
    → items (view_of header reallocated (since 8)) origin
    ≡ file_put 1 ∷ At 1 (FreeFrom 1024) ∷ At 1 (Free 0 512) ∷ At 1 (Write 512 19 (padded 187)) ∷ []

-- data in block 0 and far behind it
abbrev pub distant_blocks : ℕ → Block
distant_blocks i = if i == 0 then Data (padded 170) else (if i == 1073741825 then Data (padded 187) else Hole)

-- a file with a long hole
abbrev pub distant : DatedState
distant = record {
  state = one_file distant_blocks;
  number_date = λ k. if k == 1 then 3 else 0;
  index_date = file_dates (λ i. if i == 0 then 4 else (if i == 1073741825 then 5 else 3));
}

-- a hole of 2^30 blocks is one item
abbrev pub DistantItems : Type 0
DistantItems =
    (header : Header)
    → items (view_of header distant (full no_pairs)) origin
    ≡ file_put 1073741825 ∷ At 1 (FreeFrom 549755814912) ∷ At 1 (Write 0 19 (padded 170))
    ∷ At 1 (Free 512 549755813888) ∷ At 1 (Write 549755814400 19 (padded 187)) ∷ rest_gone ∷ []
