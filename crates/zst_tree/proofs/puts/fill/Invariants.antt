use Rattle.std.proofs.Common.{◌≡◌, ◌<◌, length}
use Rattle.zst_tree.specs.Changes.{FillsChildren}
use Rattle.zst_tree.proofs.puts.fill.Given as goal

abbrev pub invariant-loop-k : goal.invariant-loop-k
invariant-loop-k l = record {
  fills : FillsChildren l.initial.node l.node l.fn.from l.k l.ptr;
  long : l.fn.from < l.k → length l.node ≡ 8192;
  still_long : length l.initial.node ≡ 8192 → length l.node ≡ 8192;
}
