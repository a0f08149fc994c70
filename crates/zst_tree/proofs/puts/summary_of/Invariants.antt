use Rattle.std.proofs.Common.{◌≡◌}
use Rattle.zst_tree.specs.Indices.{greatest, any_present}
use Rattle.zst_tree.proofs.puts.summary_of.Given as goal

abbrev pub invariant-loop-k : goal.invariant-loop-k
invariant-loop-k l = record {
  number : l.number ≡ greatest l.node l.k;
  some : l.some ≡ any_present l.node l.k;
}
