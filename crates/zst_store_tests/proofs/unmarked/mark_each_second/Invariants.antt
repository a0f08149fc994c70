use Rattle.std.proofs.Common.{◌≡◌, length}
use Rattle.zst_store_tests.proofs.unmarked.mark_each_second.Given as goal

abbrev pub invariant-loop-k : goal.invariant-loop-k
invariant-loop-k l = length l.marks ≡ length l.initial.marks
