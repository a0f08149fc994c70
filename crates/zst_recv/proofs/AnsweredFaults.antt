-- Answers of a feed, of reading and of a commit.
use Rattle.std.proofs.Common.{◌≡◌, ap, Err, false, true, ◌∙◌}
use Rattle.std.specs.Prelude.{Result}
use Rattle.zst_pool.specs.declared.fault.PoolFault.{PoolFault}
use Rattle.zst_recv.specs.Stages.{waits_at}
use Rattle.zst_recv.specs.declared.batch.Batch as batches
use Rattle.zst_recv.specs.declared.fault.RecvFault.{RecvFault}
use Rattle.zst_recv.specs.declared.recv.FeedReport as coded_recv

abbrev pub feed_answer : RecvFault → Result coded_recv.FeedReport RecvFault
feed_answer fault = Err fault

abbrev pub read_answer : RecvFault → Result (Unit {0}) RecvFault
read_answer fault = Err fault

abbrev pub put_answer : PoolFault → Result (Unit {0}) PoolFault
put_answer fault = Err fault

pub put_told : (one other : PoolFault) → put_answer one ≡ put_answer other → one ≡ other
put_told one other is = cc

-- nothing was taken where it still waits
pub still_idle : (batch before : batches.Batch) → (waits_at batch.stage ≡ true → batch ≡ before) → before.taken ≡ false → waits_at batch.stage ≡ true → batch.taken ≡ false
still_idle batch before same none waits = ap (λ (b : batches.Batch). b.taken) (same waits) ∙ none
