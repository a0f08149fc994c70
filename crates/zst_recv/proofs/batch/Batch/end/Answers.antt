use Rattle.std.proofs.Common.{◌≡◌, ◌∙◌, Ok, false, sym, ap, subst, refl}
use Rattle.zst_block.specs.Blocks.{Has}
use Rattle.zst_record.specs.declared.head.Head.TheVariants as heads
use Rattle.zst_recv.specs.Batches.{Moves}
use Rattle.zst_recv.specs.Stages.{has_partial}
use Rattle.zst_recv.specs.declared.batch.Batch as batches
use Rattle.zst_recv.specs.declared.stage.Stage as coded
use Rattle.zst_recv.proofs.BatchMoves.{moves_ended, moves_passed, not_lives}
use Rattle.zst_recv.proofs.RecordEffects.{ended_is}
use Rattle.zst_recv.proofs.batch.Batch.end.Goals as goal

pub returns-in-Lives-clause-ended : goal.returns-in-Lives-clause-ended
returns-in-Lives-clause-ended c = λ bound image space running ask plain covered sums to end is.
    ended_is bound (Has image space) ask running covered plain c.args.self.now c.in-Lives.flags c.in-Lives.partial sums to (sym c.replace.ensures.value ∙ c.in-Lives.is) end is

pub returns-in-Lives-clause-moves : goal.returns-in-Lives-clause-moves
returns-in-Lives-clause-moves c = λ rows target sums to.
    moves_ended rows target sums to c.args.self.now _ tt c.in-Lives.flags c.in-Lives.partial (sym c.replace.ensures.value ∙ c.in-Lives.is) refl refl

pub returns-in_default-clause-moves : goal.returns-in_default-clause-moves
returns-in_default-clause-moves c = λ rows target sums to.
    let old = c.args.self.now in
    let head = heads.End sums to in
    let none : has_partial old.stage ≡ false = ap has_partial (sym c.replace.ensures.value) ∙ not_lives c.replace.result (λ flags row is. c.in_default.not-Lives flags row is) in
    let same : old ≡ record old { stage = c.replace.result } = ap (λ (s : coded.Stage). record old { stage = s }) (sym c.replace.ensures.value) in
    subst (λ (b : batches.Batch). Moves {A = Unit {0}} rows target head old b (Ok tt)) same (moves_passed rows target head old tt (λ begin. absurd (cc begin)) (λ end. none))
