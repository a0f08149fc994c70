use Rattle.std.proofs.Common.{arith, lit<}
use Rattle.std.proofs.lemmas.Grind.{common_steps}
use Rattle.zst_line.specs.declared.kind.Kind.TheVariants as kinds
use Rattle.zst_line.specs.Grammar.{front}
use Rattle.zst_line.proofs.Numbers.{takes_at}
use Rattle.zst_line.proofs.commands.volume.Goals as goal

pub dataset-requires : goal.dataset-requires
dataset-requires c =
    takes_at (front kinds.Volume 0) c.args.words.now 1 c.name-item.result c.as_str-2.result.now c.requires (lit< tt) c.name-item.is c.as_str-2.ensures.value

pub returns : goal.returns
returns c = (grind (arith, common_steps), c.dataset.ensures.name, tt)
