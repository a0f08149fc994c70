use Rattle.std.proofs.Common.{◌∙◌, subst, sym}
use Rattle.zst_names.specs.Names.{IsDataset}
use Rattle.zst_gen.proofs.NamesFit.{fs_fits}
use Rattle.zst_gen.proofs.commands.file_system.Goals as goal

pub unwrap-requires : goal.unwrap-requires
unwrap-requires c = c.parse.ensures.exact (subst IsDataset (sym (c.as_str.ensures.value ∙ c.in_ok-text.ensures.ok)) (fs_fits c.args.steps c.requires.0 c.requires.1))
