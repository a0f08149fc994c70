use Rattle.std.proofs.Common.{refl}
use Rattle.zst_store_tests.proofs.apply.runs.a_run_is_read_as_its_blocks.Goals as goal

pub write_run-answer-requires-clause-even : goal.write_run-answer-requires-clause-even
unfolding lib.Count.ones
write_run-answer-requires-clause-even c = λ c'. refl
