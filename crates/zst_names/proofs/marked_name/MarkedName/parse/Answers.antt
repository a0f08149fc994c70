use Rattle.std.proofs.Common.{◌≢◌, sym, subst}
use Rattle.zst_names.proofs.MarkedNames.{mark_is_no_digit}
use Rattle.zst_names.proofs.marked_name.MarkedName.parse.Goals as goal

pub scan-requires : goal.scan-requires
scan-requires g c = subst (λ mark. mark ≢ 48) (sym c.byte.ensures) (mark_is_no_digit g.M.Mark.byte g.met.M.Mark.is_mark)
