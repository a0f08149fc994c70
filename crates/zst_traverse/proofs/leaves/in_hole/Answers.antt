use Rattle.std.proofs.Common.{refl, sym, ◌∙◌, arith}
use Rattle.zst_block.specs.Blocks.{Has}
use Rattle.zst_traverse.proofs.Numbers.{hole_early, hole_late}
use Rattle.zst_traverse.proofs.leaves.in_hole.Goals as goal
use Rattle.zst_traverse.proofs.leaves.in_hole.Goals.{else-from-below-via-then-from-below+else-is_after, else-from-below-via-else-from-below}
use Rattle.zst_objset.specs.Dnodes.{outside}

pub returns-then-is_after-clause-shows : goal.returns-then-is_after-clause-shows
returns-then-is_after-clause-shows c = λ snap pairs image space hole stands.
    hole_late (Has image space) (outside pairs (Has image space)) snap c.args.source c.args.leaf.now hole stands c.args.from c.min-below.result c.requires.leaf.from.0 c.requires.leaf.from.1 c.if-from-below.true (omega arith) (omega arith) (sym c.is_after.ensures ∙ c.if-is_after.true) _ refl

pub returns-else-from-below-clause-shows : goal.returns-else-from-below-clause-shows
returns-else-from-below-clause-shows c = λ snap pairs image space hole stands k over under.
    elim c.else-from-below.branch [
      | else-from-below-via-then-from-below+else-is_after w ↦ hole_early (Has image space) (outside pairs (Has image space)) snap c.args.source c.args.leaf.now hole stands c.args.from c.min-below.result c.requires.leaf.from.0 c.requires.leaf.from.1 (omega arith) (omega arith) (sym w.is_after.ensures ∙ w.if-is_after.false) k over under
      | else-from-below-via-else-from-below w ↦ absurd (omega (arith, w.if-from-below.false))
    ]
