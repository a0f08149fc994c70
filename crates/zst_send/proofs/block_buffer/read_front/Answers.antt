use Rattle.zst_send.proofs.BlockDamage.{read_told}
use Rattle.zst_send.proofs.block_buffer.read_front.Goals as goal

pub returns-clause-damaged : goal.returns-clause-damaged
returns-clause-damaged g c = λ honest. read_told _ _ _ _ c.read.result (c.read.ensures.answer honest)

pub returns-clause-looks : goal.returns-clause-looks
returns-clause-looks g c = record { looks = c.read.ensures.looks; calls = c.read.ensures.calls }
