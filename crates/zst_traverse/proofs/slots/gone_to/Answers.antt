use Rattle.std.proofs.Common.{⊎_elim}
use Rattle.std.proofs.lemmas.Bool.{cases_lt}
use Rattle.zst_traverse.proofs.slots.gone_to.Goals as goal

pub loop-place-preserved : goal.loop-place-preserved
loop-place-preserved c = λ held spells place over under.
    ⊎_elim (λ before. c.loop-place.invariant held spells place over before) (λ behind. c.is_gone.ensures held spells c.if-not-is_gone.false place behind under) (cases_lt place c.loop-place.place)
