-- What a command costs of the free sectors, and where it finds no room.
use Rattle.std.specs.Prelude.{◌≡◌, ◌⊎◌, ◌+◌, ◌*◌, ◌/◌, ◌<◌, ◌≤◌, ℕ, List, length, Option, Some, None, Result, Ok, Err, IfErr, IfOk}
use Rattle.zst_space.specs.FreeSectors.{FreeSectors, largest_of}
use Rattle.zst_image.specs.Bodies.{Body, free_by}
use Rattle.zst_model.specs.declared.pools.command.Command.{Command}
use Rattle.zst_model.specs.declared.pools.command.Command.TheVariants as commands
use Rattle.zst_model.specs.states.DatedState.{size_at}
use Rattle.zst_model.specs.pools.Limits.{most_runs}
use Rattle.zst_model.specs.pools.Pool.{Pool, dataset_named, snapshot_named}
use Rattle.zst_model.specs.pools.Pool as plain
use Rattle.zst_model.specs.pools.Step.{Stepped, find_each}
use Rattle.zst_model.specs.declared.refusals.refusal.Refusal.{Refusal}
use Rattle.zst_dir.specs.RowNames.{AreNamed}
use Rattle.zst_dir.specs.Rows.{Rows}
use Rattle.zst_dir.specs.Spelling.{dir_bytes}
use Rattle.zst_block.specs.IoCalls.{IsBlockLength, TakesAtMost}
use Rattle.zst_list.specs.StoredLists.{list_sectors}
use Rattle.zst_image.specs.Commits.{commit_sectors}
use Rattle.zst_pool.specs.Redactions.{left_of}
use Rattle.zst_pool.specs.declared.fault.PoolFault.{PoolFault}
use Rattle.zst_pool.specs.declared.fault.PoolFault.TheVariants.{Full}
use Rattle.zst_image.specs.declared.pool_state.PoolState.{PoolState}

-- what a command costs: so many cells that it touches, so many sectors of data or of a spill block, which stand in one extent, and so many of a list, which stand in blocks of a tree: in a pool, and at most whatever is there
pub record Cost : Type 0 where
  pub cells : ℕ
  pub block : Pool → ℕ
  pub list : Pool → ℕ
  pub most : ℕ
  pub most_list : ℕ

-- a change that writes data in no list, of a block that has so many sectors at most
abbrev pub data_cost : ℕ → (Pool → ℕ) → ℕ → Cost
data_cost cells block most = record { cells = cells; block = block; list = λ pool. 0; most = most; most_list = 0 }

-- a change that writes no data
abbrev pub cells_only : ℕ → Cost
cells_only cells = data_cost cells (λ pool. 0) 0

-- an object is one cell, and its spill block another
abbrev pub object_cells : Option (List ℕ) → ℕ
object_cells None = 1
object_cells (Some spill) = 2

abbrev pub spill_sectors : Option (List ℕ) → ℕ
spill_sectors None = 0
spill_sectors (Some spill) = length spill / 512

abbrev pub object_cost : Option (List ℕ) → Cost
object_cost spill = data_cost (object_cells spill) (λ pool. spill_sectors spill) (spill_sectors spill)

-- the sectors of a block of an object of a dataset's head
abbrev pub block_sectors : ℕ → Option plain.Dataset → ℕ
block_sectors k None = 0
block_sectors k (Some dataset) = size_at (dataset.head.state k) / 512

-- a written block is one cell; it has 256 sectors at most
abbrev pub write_cost : List ℕ → ℕ → Cost
write_cost name k = data_cost 1 (λ pool. block_sectors k (dataset_named name pool)) 256

-- the sectors of the list of a redaction, of what is found of its snapshot and of what that is redacted by
abbrev pub redaction_sectors : Option plain.Snapshot → Result (List plain.Snapshot) Refusal → ℕ
redaction_sectors None found = 0
redaction_sectors (Some snapshot) (Err refusal) = 0
redaction_sectors (Some snapshot) (Ok redactions) = list_sectors (length (left_of snapshot redactions))

-- a redaction touches no cell, and writes its list
abbrev pub redact_cost : List ℕ → List (List ℕ) → Cost
redact_cost of redactions = record {
  cells = 0;
  block = λ pool. 0;
  list = λ pool. redaction_sectors (snapshot_named of pool) (find_each redactions pool);
  most = 0;
  most_list = list_sectors most_runs;
}

-- what a command costs; a range is 2 cells
abbrev pub cost_of : Command → Cost
cost_of (commands.Fs dataset) = cells_only 0
cost_of (commands.Volume dataset) = cells_only 0
cost_of (commands.Object dataset k head bonus spill) = object_cost spill
cost_of (commands.Write dataset k i bytes) = write_cost dataset k
cost_of (commands.Punch dataset k first count) = cells_only 2
cost_of (commands.Free dataset first count) = cells_only 2
cost_of (commands.Snapshot name) = cells_only 0
cost_of (commands.Clone origin dataset) = cells_only 0
cost_of (commands.Bookmark snapshot bookmark) = cells_only 0
cost_of (commands.Redact snapshot bookmark redactions) = redact_cost snapshot redactions
cost_of (commands.Rollback destroys snapshot) = cells_only 0
cost_of (commands.Destroy name) = cells_only 0
cost_of (commands.Abort dataset) = cells_only 0
cost_of commands.Reclaim = cells_only 0
cost_of (commands.Read name k i) = cells_only 0
cost_of commands.List = cells_only 0
cost_of (commands.ListObjects name) = cells_only 0

-- so many sectors an event takes at most that touches so many cells and writes so many sectors of data and of a list: for each cell 640, and those of the commit of a directory that has 1,024 bytes more than this one, beside so many free extents
abbrev pub most_sectors : (cells block list : ℕ) → Rows → (extents : ℕ) → ℕ
most_sectors cells block list rows extents = block + list + 640 * cells + commit_sectors (length (dir_bytes rows) + 1024) extents

-- E24: what is to be written, a block of a tree or of a list, or the data, is longer than the longest extent of the sectors that are left then, which are those that were free before less the blocks that the event wrote; and before, no free extent had as many sectors as the event takes at most
pub record HasNoRoom (cells block list : ℕ) (body : Body) (rows : Rows) (left : FreeSectors) (need largest : ℕ) : Type 0 where
  pub taken : TakesAtMost (most_sectors cells block list rows (length body.free)) (IsBlockLength block) (free_by body) left
  pub shorter : largest < need
  pub needed : IsBlockLength block need
  pub is_longest : largest ≡ largest_of left
  pub was_free : largest ≤ largest_of (free_by body)
  pub room : largest_of (free_by body) < most_sectors cells block list rows (length body.free)

-- E24 comes only so
abbrev pub FindsNoRoom : (cells block list : ℕ) → PoolState → FreeSectors → PoolFault → Type 0
FindsNoRoom cells block list kept left fault = (need largest : ℕ) → fault ≡ Full need largest → HasNoRoom cells block list kept.body kept.dir left need largest

-- these rows name the pool that a definition makes
pub record MakesNamed (definition : Result Stepped Refusal) (rows : Rows) : Type 0 where
  pub done : Stepped
  pub made : definition ≡ Ok done
  pub named : AreNamed rows done.pool

-- the longest extent that is free by a body has fewer sectors than an event takes: those for its cells, its data and its list alone, or with them those of the commit of rows that name the pool that the definition makes, beside the body's free extents
abbrev pub CostsMore : (cells block list : ℕ) → Body → Result Stepped Refusal → Type 0
CostsMore cells block list body definition =
    (largest_of (free_by body) < block + list + 640 * cells)
    ⊎ ((rows : Rows) × MakesNamed definition rows × (largest_of (free_by body) < block + list + 640 * cells + commit_sectors (length (dir_bytes rows)) (length body.free)))

-- E24 comes only so
abbrev pub FindsLess : (cells block list : ℕ) → Body → Result Stepped Refusal → PoolFault → Type 0
FindsLess cells block list body definition fault = (need largest : ℕ) → fault ≡ Full need largest → CostsMore cells block list body definition

-- a later body leaves free what this one does, less so many sectors at most
abbrev pub Grows : (most block : ℕ) → (before after : Body) → Type 0
Grows most block before after = TakesAtMost most (IsBlockLength block) (free_by before) (free_by after)

-- what an event takes of the sectors, at Ok and where it finds no room; and at Ok the directory has at most 1,024 bytes more
pub record Spends {T : Type 0} (cells block list : ℕ) (kept : PoolState) (left : FreeSectors) (after : T → PoolState) (result : Result T PoolFault) : Type 0 where
  pub full : IfErr result (FindsNoRoom cells block list kept left)
  pub grows : IfOk result (λ value. let next = after value in Grows (most_sectors cells block list kept.dir (length kept.body.free)) block kept.body next.body)
  pub directory : IfOk result (λ value. let next = after value in length (dir_bytes next.dir) ≤ length (dir_bytes kept.dir) + 1024)
