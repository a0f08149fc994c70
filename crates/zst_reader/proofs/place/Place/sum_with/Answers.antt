use Rattle.std.proofs.Common.{◌++◌, take, ap, ◌∙◌, arith}
use Rattle.zst_fletcher.specs.WeightSum.{weight_sum}
use Rattle.zst_reader.proofs.VerdictLemmas.{two-parts, whole-part}
use Rattle.zst_reader.proofs.place.Place.sum_with.Goals as goal

pub returns : goal.returns
returns c = λ before is.
    let held = c.args.held.now in
    let ahead = c.args.self.now.ahead in
    c.add.ensures (before ++ take ahead.count held) (whole-part before held ahead.count is.words ahead.words is.ahead.there) is.ahead.sum
    ∙ ap weight_sum (two-parts before held ahead.count c.args.size (omega arith))
