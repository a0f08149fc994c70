use Rattle.std.proofs.Common.{◌≡◌}
use Rattle.zst_record.specs.Payload.{numbers_in}
use Rattle.zst_record.proofs.payload.numbers_in.Given as goal

abbrev pub invariant-loop-place : goal.invariant-loop-place
invariant-loop-place l = l.numbers.items ≡ numbers_in l.place l.bytes
