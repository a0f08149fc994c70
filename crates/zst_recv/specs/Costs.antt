-- What a piece of a stream costs of the free sectors, and where it finds no room.
use Rattle.std.specs.Prelude.{◌≡◌, ◌⊎◌, ◌+◌, ◌<◌, ◌≤◌, ℕ, List, [], ◌∷◌, drop, length, sum_by, Option, Some, Result, Err, OnOk}
use Rattle.zst_space.specs.FreeSectors.{FreeSectors, largest_of}
use Rattle.zst_block.specs.IoCalls.{TakesAtMost}
use Rattle.zst_block.specs.declared.fault.BlockFault.{BlockFault}
use Rattle.zst_block.specs.declared.fault.BlockFault.TheVariants.{Full}
use Rattle.zst_dir.specs.Spelling.{dir_bytes}
use Rattle.zst_image.specs.Bodies.{free_by}
use Rattle.zst_image.specs.Commits.{commit_sectors}
use Rattle.zst_image.specs.declared.pool_state.PoolState.{PoolState}
use Rattle.zst_record.specs.Heads.{Covered}
use Rattle.zst_stream.specs.Reading.{reading}
use Rattle.zst_apply.specs.Costs.{record_block, record_cost}
use Rattle.zst_pool.specs.declared.fault.PoolFault.TheVariants as pools
use Rattle.zst_recv.specs.declared.fault.RecvFault.{RecvFault}
use Rattle.zst_recv.specs.declared.fault.RecvFault.TheVariants as faults

-- the records that a text covers behind those that were handed out
abbrev pub records_behind : List Covered → List ℕ → List Covered
records_behind handed text = drop (length handed) (reading text).covered

-- so many sectors these records take at most
abbrev pub records_cost : List Covered → ℕ
records_cost records = sum_by (λ c. record_cost c.head) records

-- So many sectors a piece takes at most that covers these records, in a pool of which this is kept: what the records take, and what is committed: the
-- directory, which with a partial state, or with a new head and a snapshot, has at most 2,048 bytes more than the one before, and free extents, no more than before.
abbrev pub piece_cost : List Covered → PoolState → ℕ
piece_cost records kept = records_cost records + commit_sectors (length (dir_bytes kept.dir) + 2048) (length kept.body.free)

-- what is to be written is a block of a tree, of 16 sectors, or the block of one of these records
abbrev pub IsNeeded : (need : ℕ) → List Covered → Type 0
IsNeeded need [] = need ≡ 16
IsNeeded need (c ∷ rest) = (need ≡ record_block c.head) ⊎ IsNeeded need rest

-- These records took no more sectors than they cost. One found no room only where before them no free extent had as many sectors.
pub record Spends (records : List Covered) (old new : FreeSectors) (stop : Option BlockFault) : Type 0 where
  pub takes : TakesAtMost (records_cost records) (λ count. IsNeeded count records) old new
  pub before : (need largest : ℕ) → stop ≡ Some (Full need largest) → largest_of old < records_cost records
  pub needed : (need largest : ℕ) → stop ≡ Some (Full need largest) → IsNeeded need records

-- E24 of a piece that covers these records, in a pool of this body and directory: what is to be written is longer than the longest extent of the sectors
-- that are left then, which are those that the body leaves free less the blocks that the piece wrote; and before the piece, no free extent had as many as it costs
pub record PieceIsShort (records : List Covered) (kept : PoolState) (left : FreeSectors) (need largest : ℕ) : Type 0 where
  pub taken : TakesAtMost (piece_cost records kept) (λ count. IsNeeded count records) (free_by kept.body) left
  pub shorter : largest < need
  pub needed : IsNeeded need records
  pub is_longest : largest ≡ largest_of left
  pub room : largest_of (free_by kept.body) < piece_cost records kept

-- what a piece that covers these records made of what the pool keeps: the directory has at most 2,048 bytes more, and of the sectors that were free no more are taken than the piece costs
pub record PieceGrows (records : List Covered) (before after : PoolState) : Type 0 where
  pub directory : length (dir_bytes after.dir) ≤ length (dir_bytes before.dir) + 2048
  pub takes : TakesAtMost (piece_cost records before) (λ count. IsNeeded count records) (free_by before.body) (free_by after.body)

-- A piece that covers these records, in a pool whose body and directory were these and that then keeps those, with so many sectors left: E24 comes only where it is short of them, and where it is taken no more are taken than it costs.
pub record CostsPiece {A : Type 0} (records : List Covered) (before after : PoolState) (left : FreeSectors) (result : Result A RecvFault) : Type 0 where
  pub short : (need largest : ℕ) → result ≡ Err (faults.Pool (pools.Full need largest)) → PieceIsShort records before left need largest
  pub grows : OnOk result (PieceGrows records before after)
