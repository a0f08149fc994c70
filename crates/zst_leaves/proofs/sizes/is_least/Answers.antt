use Rattle.std.proofs.Common.{◌≡◌, sym, subst, ℕ, arith}
use Rattle.std.proofs.lemmas.Bool.{false≢true}
use Rattle.std.proofs.lemmas.Bool.Decides.{nat_tests}
use Rattle.zst_leaves.specs.Leaves.{IsLeast}
use Rattle.zst_leaves.proofs.LevelCounts.{IsLeast-only, span_le, span_three}
use Rattle.zst_leaves.proofs.sizes.is_least.Goals as goal

pub returns-in-1-to-17179869184 : goal.returns-in-1-to-17179869184
returns-in-1-to-17179869184 c = (
  λ is.
      let same : c.args.levels ≡ c.levels_for.result = grind (arith, nat_tests) in
      (omega arith, subst (λ (n : ℕ). IsLeast n c.args.count) (sym same) c.levels_for.ensures),
  λ least. let same : c.args.levels ≡ c.levels_for.result = IsLeast-only c.args.count c.args.levels c.levels_for.result least.1 c.levels_for.ensures in grind (arith, nat_tests),
)

pub returns-in_default-2 : goal.returns-in_default-2
returns-in_default-2 c = (
  λ is. absurd (false≢true is),
  λ least. absurd (omega (arith, least.0, least.1.few, least.1.enough, span_le c.args.levels 3 least.1.few, span_three)),
)
