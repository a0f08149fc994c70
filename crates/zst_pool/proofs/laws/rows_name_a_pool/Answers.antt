use Rattle.zst_pool.proofs.NamedPools.{bare_is_named}
use Rattle.zst_pool.proofs.laws.rows_name_a_pool.Goals as goal

pub returns : goal.returns
returns c = bare_is_named
