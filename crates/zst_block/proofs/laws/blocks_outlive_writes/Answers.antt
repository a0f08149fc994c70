use Rattle.zst_block.proofs.BlocksLaws.{KeepsBlocks-fills, Follows-fills}
use Rattle.zst_block.proofs.laws.blocks_outlive_writes.Goals as goal

pub returns-clause-read : goal.returns-clause-read
returns-clause-read g c = λ old new. KeepsBlocks-fills (g.D.Disk.state old) (g.D.Disk.state new)

pub returns-clause-crash : goal.returns-clause-crash
returns-clause-crash g c = λ old new. Follows-fills (g.D.Disk.state old) (g.D.Disk.state new)
