use Rattle.std.proofs.Common.{arith, lit<, refl}
use Rattle.std.proofs.lemmas.Grind.{common_steps}
use Rattle.zst_line.specs.declared.kind.Kind.TheVariants as kinds
use Rattle.zst_line.specs.Grammar.{front}
use Rattle.zst_line.proofs.Numbers.{number_at}
use Rattle.zst_line.proofs.tools.gen_line.Goals as goal

pub returns : goal.returns
returns c =
    let steps = number_at (front kinds.Gen 0) c.args.words.now 1 1 (64) c.number.result c.steps-item.result c.as_str-2.result.now c.requires (lit< tt) refl (lit< tt) c.steps-item.is c.as_str-2.ensures.value c.number.ensures c.number.type_inv in
    (grind (arith, common_steps), steps.0, steps.1)
