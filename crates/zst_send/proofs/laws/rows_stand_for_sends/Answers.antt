use Rattle.zst_block.specs.Blocks.{Has}
use Rattle.zst_send.proofs.StandingRows.{stands_sent}
use Rattle.zst_send.proofs.laws.rows_stand_for_sends.Goals as goal

pub returns : goal.returns
returns c = λ image space rows pool sent runs. stands_sent (Has image space) rows pool sent runs
