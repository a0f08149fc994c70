use Rattle.std.proofs.Common.{sym}
use Rattle.zst_tree.proofs.Summaries.{greatest_none, present_none, greatest_more, present_more}
use Rattle.zst_tree.proofs.puts.summary_of.Goals as goal

pub loop-k-init : goal.loop-k-init
loop-k-init c = record { number = sym (greatest_none _); some = sym (present_none _) }

pub loop-k-preserved : goal.loop-k-preserved
loop-k-preserved c = record {
  number = rw (c.max-number.ensures, c.child_at-child.ensures.child, c.loop-k.invariant.number) (sym (greatest_more _ _));
  some = rw (c.is_present-present.ensures, c.child_at-child.ensures.child, c.loop-k.invariant.some) (sym (present_more _ _));
}
