use Rattle.std.proofs.Common.{◌≡◌, ◌∙◌, ◌%◌, ap, arith, sym, length, take, drop}
use Rattle.zst_fletcher.specs.WeightSum.{words}
use Rattle.zst_fletcher.specs.Lanes.{lanes_of}
use Rattle.zst_fletcher.specs.Pairs.{totals_of, seconds_of}
use Rattle.zst_fletcher.proofs.Pairs.{length-totals, length-seconds, totals-append, seconds-append}
use Rattle.zst_fletcher.proofs.lanes.Pairs.add_row.Goals as goal

pub returns : goal.returns
returns c = λ before whole is.
    let row = words (take 32 (drop c.args.at c.args.bytes.now)) in
    let even : length before % 2 ≡ 0 = omega arith in
    let totals = c.add_row.ensures (totals_of before) (omega (arith, length-totals before even)) (ap (λ p. p.totals) is) in
    let seconds = c.add_row-2.ensures (seconds_of before) (omega (arith, length-seconds before even)) (ap (λ p. p.seconds) is) in
    let both = rw c.row_at.ensures.totals at totals ∙ ap lanes_of (sym (totals-append before row even)) in
    let second = rw c.row_at.ensures.seconds at seconds ∙ ap lanes_of (sym (seconds-append before row even)) in
    λ i. record { totals = both i; seconds = second i }
