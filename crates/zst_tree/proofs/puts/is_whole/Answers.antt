use Rattle.std.proofs.Common.{◌≡◌, ◌<◌, arith}
use Rattle.std.proofs.lemmas.Bool.Decides.{nat_tests}
use Rattle.zst_tree.specs.Indices.{span}
use Rattle.zst_tree.proofs.WriteCounts.{part_level}
use Rattle.zst_tree.proofs.puts.is_whole.Goals as goal

pub returns-then-first-eq0-clause-part : goal.returns-then-first-eq0-clause-part
returns-then-first-eq0-clause-part c = λ e. let p : c.args.first ≡ 0 → c.args.below < span c.args.level = λ z. grind (arith, nat_tests) in (part_level _ _ _ c.requires.some c.requires.below p, p)

pub returns-else-first-eq0-clause-part : goal.returns-else-first-eq0-clause-part
returns-else-first-eq0-clause-part c = λ e. let p : c.args.first ≡ 0 → c.args.below < span c.args.level = λ z. absurd (omega arith) in (part_level _ _ _ c.requires.some c.requires.below p, p)
