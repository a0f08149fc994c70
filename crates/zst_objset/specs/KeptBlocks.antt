-- What an OBJECT leaves of what stood at its number.
use Rattle.std.specs.Prelude.{◌≡◌, ◌⊎◌, ℕ, ◌==◌, Bool, Option, Some, None, if◌then◌else◌}
use Rattle.zst_block.specs.Ptr.{hole_of}
use Rattle.zst_block.specs.declared.ptr.Ptr.{Ptr}
use Rattle.zst_dnode.specs.declared.dnode.Dnode.{Dnode}
use Rattle.zst_objset.specs.Dnodes.{tree_of}
use Rattle.zst_objset.specs.declared.allocation.BlockTree.{BlockTree}

-- no block: each index is a hole of this date
abbrev pub no_blocks : ℕ → BlockTree
no_blocks number = record { tree = record { levels = 0; past = number; root = hole_of number }; end = 0 }

-- the blocks stay where an object with this block size stood there
abbrev pub kept_blocks : ℕ → ℕ → Option Dnode → BlockTree
kept_blocks size number None = no_blocks number
kept_blocks size number (Some dnode) = if dnode.block_size == size then record { tree = tree_of dnode; end = dnode.end } else no_blocks number

-- so its tree is the one that stood there, or has no node
abbrev pub KeepsTree : Option Dnode → Dnode → Type 0
KeepsTree None made = made.levels ≡ 0
KeepsTree (Some dnode) made = (made.levels ≡ 0) ⊎ ((made.levels ≡ dnode.levels) × (made.root ≡ dnode.root))

-- the spill block stays where it is to be kept, and otherwise there is none
abbrev pub kept_spill : Bool → ℕ → Option Dnode → Ptr
kept_spill keep_spill number None = hole_of number
kept_spill keep_spill number (Some dnode) = if keep_spill then dnode.spill else hole_of number
