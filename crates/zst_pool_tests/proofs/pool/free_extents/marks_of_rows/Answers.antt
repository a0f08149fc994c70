use Rattle.std.proofs.Common.{⊎_elim, arith}
use Rattle.zst_pool_tests.proofs.pool.free_extents.marks_of_rows.Goals as goal

pub returns-clause-before : goal.returns-clause-before
returns-clause-before c = λ sector from under marked.
    ⊎_elim (λ here. omega (arith, here.0, under)) (λ was. ⊎_elim (λ first. omega (arith, first.1, from)) (c.in_ok-marks.ensures.none sector) ((c.mark.ensures.marked sector).0 was)) ((c.mark-2.ensures.marked sector).0 marked)

pub returns-clause-behind : goal.returns-clause-behind
returns-clause-behind c = λ sector from marked.
    ⊎_elim (λ here. omega (arith, here.1, from)) (λ was. ⊎_elim (λ first. omega (arith, first.1, from)) (c.in_ok-marks.ensures.none sector) ((c.mark.ensures.marked sector).0 was)) ((c.mark-2.ensures.marked sector).0 marked)
