use Rattle.std.proofs.Common.{arith}
use Rattle.zst_block.proofs.BlocksLaws.{IsBlock-length}
use Rattle.zst_objset.proofs.answers.read_data.Goals as goal

pub returns-then-ptr-into-clause-read : goal.returns-then-ptr-into-clause-read
returns-then-ptr-into-clause-read g c = λ bytes honest has long. absurd (omega (arith, IsBlock-length _ c.args.ptr bytes has.block, long))
