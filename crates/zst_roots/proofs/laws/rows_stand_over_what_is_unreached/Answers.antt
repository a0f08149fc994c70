use Rattle.zst_roots.proofs.KeptRows.{RunsBy-kept}
use Rattle.zst_roots.proofs.laws.rows_stand_over_what_is_unreached.Goals as goal

pub returns : goal.returns
returns c = λ bound image space more rows running is before. RunsBy-kept image space more bound rows running is before
