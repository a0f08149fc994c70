use Rattle.std.proofs.Common.{◌≡◌, ◌%◌, ap, arith, length}
use Rattle.zst_fletcher.specs.Pairs.{totals_of, seconds_of}
use Rattle.zst_fletcher.proofs.Pairs.{length-totals, length-seconds}
use Rattle.zst_fletcher.proofs.lanes.Pairs.join.Goals as goal

pub returns : goal.returns
returns c = λ words whole is.
    let even : length words % 2 ≡ 0 = omega arith in
    let totals = c.join.ensures (totals_of words) (omega (arith, length-totals words even)) (ap (λ p. p.totals) is) in
    let seconds = c.join-2.ensures (seconds_of words) (omega (arith, length-seconds words even)) (ap (λ p. p.seconds) is) in
    c.part.ensures words even totals seconds
