use Rattle.zst_fletcher.proofs.PairSums.{sums_of-parted}
use Rattle.zst_fletcher.proofs.sum.Sum.part.Goals as goal

pub returns : goal.returns
returns c = λ words whole is js. sums_of-parted words c.args.self.now c.args.seconds.now whole is js
