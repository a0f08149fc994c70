use Rattle.std.proofs.Common.{◌≡◌, ◌+◌, ◌-◌, ◌*◌, ◌<◌, ap, arith}
use Rattle.zst_tree.specs.Indices.{span}
use Rattle.zst_tree.proofs.WriteCounts.{most-one, most-both, digits_order, digits_same}
use Rattle.zst_tree.proofs.puts.ends_of.Goals as goal

pub returns : goal.returns
returns c = record {
  order = (digits_order (span (c.args.level - 1)) _ c.place_of-left.result.rest _ c.place_of-right.result.rest c.place_of-right.ensures.rest (omega arith), c.place_of-right.ensures.child);
  first = (c.place_of-left.ensures.sum, c.place_of-left.ensures.rest);
  below = (omega arith, omega arith, omega arith);
  single = λ e.
      let d : (c.place_of-left.result.child ≡ c.place_of-right.result.child) × (c.place_of-left.result.rest ≡ c.place_of-right.result.rest) =
      digits_same (span (c.args.level - 1)) _ _ _ _ c.place_of-left.ensures.rest c.place_of-right.ensures.rest (omega arith) in
      (d.0, omega arith);
  one = λ e.
      let m : c.place_of-left.result.child * span (c.args.level - 1) ≡ c.place_of-right.result.child * span (c.args.level - 1) = ap (λ n. n * span (c.args.level - 1)) e in
      let order : c.place_of-left.result.rest < c.place_of-right.result.rest + 1 = omega arith in
      (order, most-one _ _ _ c.place_of-left.result.child _ _ c.requires.inner c.requires.part (omega arith) order (omega arith) c.place_of-left.ensures.sum (omega arith));
  two = λ lt. most-both _ _ _ c.place_of-left.result.child c.place_of-right.result.child _ _ c.requires.inner c.requires.part lt (omega arith) c.place_of-left.ensures.rest (omega arith) (omega arith) c.place_of-left.ensures.sum (omega arith);
}
