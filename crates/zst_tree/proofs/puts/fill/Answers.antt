use Rattle.std.proofs.Common.{arith}
use Rattle.zst_tree.proofs.Children.{fills_none, fills_more}
use Rattle.zst_tree.proofs.puts.fill.Goals as goal

pub loop-k-init : goal.loop-k-init
loop-k-init c = record { fills = fills_none _ _ _; long = λ some. absurd (omega arith); still_long = λ long. long }

pub loop-k-preserved : goal.loop-k-preserved
loop-k-preserved c = record {
  fills = fills_more _ _ _ _ _ _ c.loop-k.auto.k (omega arith) c.loop-k.invariant.fills c.put_child.ensures.puts;
  long = λ some. c.put_child.ensures.puts.long;
  still_long = λ long. c.put_child.ensures.puts.long;
}
