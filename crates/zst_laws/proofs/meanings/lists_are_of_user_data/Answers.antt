use Rattle.zst_laws.proofs.examples.Meanings.{lists_user_data}
use Rattle.zst_laws.proofs.meanings.lists_are_of_user_data.Goals as goal

pub returns : goal.returns
returns c = lists_user_data
