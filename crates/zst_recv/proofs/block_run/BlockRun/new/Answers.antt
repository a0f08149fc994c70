use Rattle.std.proofs.Common.{◌≡◌, true, false, refl, arith}
use Rattle.zst_model.specs.states.State.{is_block_size, is_odd_size, largest_block}
use Rattle.zst_recv.specs.WriteRuns.{MayRun}
use Rattle.zst_recv.proofs.block_run.BlockRun.new.Goals as goal

small_size : is_block_size 512 ≡ true
unfolding is_block_size largest_block
small_size = refl

even_size : is_odd_size 512 ≡ false
unfolding lib.Count.ones
even_size = refl

may_none : MayRun 1 0 512 0 0
may_none = record {
  some = omega arith;
  number = omega arith;
  size_is = small_size;
  even = even_size;
  run = record { group = omega arith; inside = omega arith; long_is = omega arith };
}

pub invariant_of-result : goal.invariant_of-result
invariant_of-result c = record { room = c.in_ok-vec.ensures.len; inside = omega arith; may = may_none }
