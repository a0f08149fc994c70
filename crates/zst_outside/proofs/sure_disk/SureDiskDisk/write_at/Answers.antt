use Rattle.std.proofs.Common.{◌∙◌, ap, sym, subst, List, ℕ, length, inl, arith}
use Rattle.zst_outside.specs.Ranges.{Torn, bytes_at}
use Rattle.zst_outside.specs.Ranges.{bytes_at-overwritten, Torn-overwritten}
use Rattle.zst_outside.proofs.sure_disk.SureDiskDisk.write_at.Goals as goal

pub returns-clause-written : goal.returns-clause-written
returns-clause-written c = ap (λ (l : List ℕ). bytes_at l c.args.place (length c.args.from.now)) c.overwrite.ensures.bytes ∙ bytes_at-overwritten _ _ _ c.requires

pub returns-clause-writes : goal.returns-clause-writes
returns-clause-writes c = record {
  size = c.overwrite.ensures.size;
  seen = subst (λ (l : List ℕ). Torn c.args.place (length c.args.from.now) c.args.self.now.bytes.items l) (sym c.overwrite.ensures.bytes) (Torn-overwritten _ _ _ c.requires);
  honest = λ is. is;
  crash = λ image left. absurd left;
  time = record { later = omega arith; adds = λ t image le left. inl left };
  kept = λ t image le left. left;
}
