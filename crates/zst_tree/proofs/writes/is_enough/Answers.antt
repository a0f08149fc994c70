use Rattle.std.proofs.Common.{◌≡◌, ⊎_elim, arith, ap, ◌∙◌}
use Rattle.std.proofs.lemmas.Bool.{cases_lt}
use Rattle.std.proofs.lemmas.Bool.Decides.{nat_tests}
use Rattle.zst_tree.specs.Indices.{span}
use Rattle.zst_tree.proofs.Span.{span_seven}
use Rattle.zst_tree.proofs.writes.is_enough.Goals as goal

pub returns-clause-short : goal.returns-clause-short
returns-clause-short c = λ e. ⊎_elim (λ h. h)
    (λ h. let seven : c.args.levels ≡ 7 = omega arith in
    let s : span c.args.levels ≡ 562949953421312 = ap span seven ∙ span_seven in
    absurd (grind (arith, nat_tests))) (cases_lt c.args.levels 7)
