use Rattle.std.proofs.Common.{sym, arith}
use Rattle.zst_uber.proofs.LatestLemmas.{short_slot}
use Rattle.zst_uber.proofs.body_slot.body_in.Goals as goal

pub returns-then-front-place : goal.returns-then-front-place
returns-then-front-place c = sym (short_slot c.args.slot c.args.front.now (omega (arith, c.if-front-place.true)))
