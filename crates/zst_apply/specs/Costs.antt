-- What a record of a stream costs of the free sectors.
use Rattle.std.specs.Prelude.{ℕ, ◌+◌, ◌*◌, ◌/◌}
use Rattle.zst_record.specs.declared.head.Head.{Head}
use Rattle.zst_record.specs.declared.head.Head.TheVariants as heads

-- the cells that it changes: an object, an index or a spill block is one, and a range is two
abbrev pub record_cells : Head → ℕ
record_cells (heads.Begin header len) = 0
record_cells (heads.Object object kind bonus_kind block_size bonus_len max_block to) = 1
record_cells (heads.FreeObjects first count to) = 2
record_cells (heads.Write object kind offset size to) = 1
record_cells (heads.Free object offset size to) = 2
record_cells (heads.End sums to) = 0
record_cells (heads.Spill object size to) = 1
record_cells (heads.Redact object offset size to) = 2

-- the sectors of its block of data, or of its spill block
abbrev pub record_block : Head → ℕ
record_block (heads.Begin header len) = 0
record_block (heads.Object object kind bonus_kind block_size bonus_len max_block to) = 0
record_block (heads.FreeObjects first count to) = 0
record_block (heads.Write object kind offset size to) = size / 512
record_block (heads.Free object offset size to) = 0
record_block (heads.End sums to) = 0
record_block (heads.Spill object size to) = size / 512
record_block (heads.Redact object offset size to) = 0

-- so many sectors it takes at most: those of its block, and 640 for each cell
abbrev pub record_cost : Head → ℕ
record_cost head = record_block head + 640 * record_cells head
