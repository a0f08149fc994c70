use Rattle.std.proofs.Common.{inl, ⊎_elim, arith}
use Rattle.zst_roots.proofs.unreached.first_marks.Goals as goal

pub returns-clause-marked : goal.returns-clause-marked
returns-clause-marked c = λ sector.
    let now = c.mark.ensures.marked sector in (
      (λ marked. ⊎_elim (λ inside. inside.1) (λ was. absurd (c.in_ok-marks.ensures.none sector was)) (now.0 marked)),
      (λ less. now.1 (inl (omega arith, less))),
    )
