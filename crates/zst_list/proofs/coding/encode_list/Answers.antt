use Rattle.std.proofs.Common.{rules}
use Rattle.zst_list.specs.Spelling.{runs_bytes}
use Rattle.zst_list.proofs.ListBytes.{spelled-more}
use Rattle.zst_list.proofs.coding.encode_list.Goals as goal

pub loop-place-init : goal.loop-place-init
unfolding runs_bytes
loop-place-init c = c.new-bytes.ensures.items

pub loop-place-preserved : goal.loop-place-preserved
loop-place-preserved c =
    spelled-more c.args.runs.now c.loop-place.place _ c.loop-place.bytes.items c.push_run.new.out.items c.loop-place-test.true (search rules) c.loop-place.invariant c.in_ok-push_run.ensures
