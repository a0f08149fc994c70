use Rattle.std.proofs.Common.{rules, subst, append_assoc}
use Rattle.std.proofs.lemmas.Result.{IfOk-equal}
use Rattle.zst_dir.specs.Rows.{IsLawful}
use Rattle.zst_dir.specs.Spelling.{dir_bytes}
use Rattle.zst_dir.proofs.dir.Dir.encode.Goals as goal

pub returns : goal.returns
unfolding dir_bytes
returns c = record {
  lawful = subst IsLawful c.self.view_is c.self.invariant;
  spelled = search (rules, IfOk-equal, append_assoc);
}
