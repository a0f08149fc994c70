use Rattle.std.proofs.Common.{arith}
use Rattle.zst_fletcher.proofs.JoinedLanes.{weigh-sums}
use Rattle.zst_fletcher.proofs.lanes.weigh.Goals as goal

pub returns : goal.returns
returns c = λ p q r s is. rw is (weigh-sums c.args.weights p q r s (omega arith))
