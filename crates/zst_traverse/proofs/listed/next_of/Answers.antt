use Rattle.std.proofs.Common.{◌≡◌, min}
use Rattle.zst_traverse.specs.ListedNumbers.{or_below}
use Rattle.zst_traverse.proofs.ListedNumbers.{first_listed}
use Rattle.zst_traverse.proofs.listed.next_of.Goals as goal

pub returns-then-first-below : goal.returns-then-first-below
returns-then-first-below c =
    let one = c.or_below.ensures in
    let other = c.or_below-2.ensures in
    let least = c.min-first.ensures in
    let is : c.min-first.result ≡ min (or_below c.args.below c.first_of-one.result) (or_below c.args.below c.first_of-other.result) = cc in
    record {
      first = first_listed c.args.listed.now c.args.withheld.now c.args.from c.args.below c.first_of-one.result c.first_of-other.result c.first_of-one.ensures.first c.first_of-other.ensures.first c.min-first.result is c.if-first-below.true;
    }
