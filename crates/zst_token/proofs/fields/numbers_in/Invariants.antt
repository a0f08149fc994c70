use Rattle.std.proofs.Common.{◌≡◌}
use Rattle.zst_token.specs.Parser.{numbers_in}
use Rattle.zst_token.proofs.fields.numbers_in.Given as goal

abbrev pub invariant-loop-place : goal.invariant-loop-place
invariant-loop-place l = l.numbers.items ≡ numbers_in l.place l.digits
