use Rattle.std.proofs.Common.{subst, sym}
use Rattle.std.proofs.lemmas.Str.{IsUtf8-from_ascii}
use Rattle.std.specs.Str.{IsUtf8}
use Rattle.zst_dir.proofs.Texts.{plain_component}
use Rattle.zst_dir.proofs.rows.Partial.snapshot_name.Goals as goal

pub unreachable-requires : goal.unreachable-requires
unreachable-requires c =
    let component = c.args.self.now.snapshot in
    c.in-Err.ensures.cases.0 (subst IsUtf8 (sym c.as_bytes.ensures.same) (IsUtf8-from_ascii component (plain_component component c.requires).ascii))
