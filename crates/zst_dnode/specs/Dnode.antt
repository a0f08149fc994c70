-- The table of a dnode: 512 bytes.
use Rattle.std.specs.Prelude.{◌≡◌, ℕ, ◌^◌, ◌<◌, ◌≤◌, ◌==◌, ◌&&◌, ◌||◌, Bool, true, if◌then◌else◌, List, [], ◌∷◌, ◌++◌, length, drop, All, IsTrue}
use Rattle.zst_bytes.specs.Bytes.{bytes_at, number_at}
use Rattle.zst_bytes.specs.Fields.{Field, number, text}
use Rattle.zst_block.specs.Ptr.{ptr_bytes, ptr_at, PtrFits, is_flat, is_lawful}
use Rattle.zst_block.specs.declared.ptr.Ptr.{Ptr}
use Rattle.zst_model.specs.states.State.{index_bound, is_odd_size, is_spill_size, largest_bonus, IsHead}
use Rattle.zst_dnode.specs.declared.dnode.Dnode.{Dnode}

-- the fields of a dnode, one a line: place, width, value
abbrev pub head_fields : Dnode → List Field
head_fields dnode =
    number 0 4 dnode.type_
    ∷ number 4 4 dnode.bonus_type
    ∷ number 8 4 dnode.block_size
    ∷ number 12 4 dnode.bonus_len
    ∷ number 16 8 dnode.date
    ∷ []

-- those of the tree of its blocks
abbrev pub tree_fields : Dnode → List Field
tree_fields dnode =
    number 24 1 dnode.levels
    ∷ number 32 8 dnode.past
    ∷ number 40 8 dnode.end
    ∷ []

-- its pointers and its bonus
abbrev pub text_fields : Dnode → List Field
text_fields dnode =
    text 48 64 (ptr_bytes dnode.root)
    ∷ text 112 64 (ptr_bytes dnode.spill)
    ∷ text 192 320 dnode.bonus
    ∷ []

-- all fields
abbrev pub dnode_fields : Dnode → List Field
dnode_fields dnode = head_fields dnode ++ tree_fields dnode ++ text_fields dnode

-- what the fields of 512 bytes say
abbrev pub dnode_at : List ℕ → Dnode
dnode_at bytes = record {
  type_ = number_at bytes 0 4;
  bonus_type = number_at bytes 4 4;
  block_size = number_at bytes 8 4;
  bonus_len = number_at bytes 12 4;
  date = number_at bytes 16 8;
  levels = number_at bytes 24 1;
  past = number_at bytes 32 8;
  end = number_at bytes 40 8;
  root = ptr_at bytes 48;
  spill = ptr_at bytes 112;
  bonus = bytes_at bytes 192 320;
}

-- the field of a bonus of so many bytes: at most 320 of them, and zeros behind them
pub record IsBonusField (count : ℕ) (field : List ℕ) : Type 0 where
  pub size : length field ≡ 320
  pub inside : count ≤ largest_bonus
  pub behind : All (λ byte. byte ≡ 0) (drop count field)

-- what a tree of so many levels over blocks of this size may have as its root: a hole or a redacted pointer; or, without levels, data of that size, and with them a block of pointers
abbrev pub is_root : ℕ → ℕ → Ptr → Bool
is_root levels size root = is_flat root || (if levels == 0 then root.kind == 1 && root.length == size else root.kind == 3 || root.kind == 4)

-- a hole, or data whose length is a spill size
abbrev pub is_spill : Ptr → Bool
is_spill spill = spill.kind == 0 || (spill.kind == 1 && is_spill_size spill.length)

-- each value of a dnode is in its range
pub record DnodeFits (dnode : Dnode) : Type 0 where
  pub head : IsHead (record { type_ = dnode.type_; bonus_type = dnode.bonus_type; block_size = dnode.block_size })
  pub bonus : IsBonusField dnode.bonus_len dnode.bonus
  pub date : dnode.date < 2 ^ 64
  pub levels : dnode.levels ≤ 7
  pub past : dnode.past < 2 ^ 64
  pub end : dnode.end ≤ index_bound
  pub odd : is_odd_size dnode.block_size ≡ true → dnode.end ≤ 1
  pub root_fits : PtrFits dnode.root
  pub root_lawful : IsTrue (is_lawful dnode.root)
  pub root : IsTrue (is_root dnode.levels dnode.block_size dnode.root)
  pub spill_fits : PtrFits dnode.spill
  pub spill_lawful : IsTrue (is_lawful dnode.spill)
  pub spill : IsTrue (is_spill dnode.spill)
