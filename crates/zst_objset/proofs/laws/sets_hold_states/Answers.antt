use Rattle.zst_objset.proofs.SetLaws.{only}
use Rattle.zst_objset.proofs.TightLaws.{tight_empty, tight_grows}
use Rattle.zst_objset.proofs.laws.sets_hold_states.Goals as goal

pub returns-clause-only : goal.returns-clause-only
returns-clause-only c = only

pub returns-clause-tight_grows : goal.returns-clause-tight_grows
returns-clause-tight_grows c = tight_grows

pub returns-clause-tight_empty : goal.returns-clause-tight_empty
returns-clause-tight_empty c = tight_empty
