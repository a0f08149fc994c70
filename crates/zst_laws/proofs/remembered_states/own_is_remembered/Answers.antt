use Rattle.zst_laws.proofs.pools.SourceBases.{own_remembered, taken_remembers}
use Rattle.zst_laws.proofs.remembered_states.own_is_remembered.Goals as goal

pub returns : goal.returns
returns c = record { own = own_remembered; taken = taken_remembers }
