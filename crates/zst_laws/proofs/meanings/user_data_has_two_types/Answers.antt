use Rattle.zst_laws.proofs.examples.Meanings.{user_data_types}
use Rattle.zst_laws.proofs.meanings.user_data_has_two_types.Goals as goal

pub returns : goal.returns
returns c = user_data_types
