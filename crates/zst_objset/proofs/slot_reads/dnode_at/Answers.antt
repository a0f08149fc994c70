use Rattle.zst_tree.proofs.StepLooks.{AtMost-none}
use Rattle.std.proofs.Common.{arith}
use Rattle.std.proofs.lemmas.Result.{err_from_is_err_and}
use Rattle.zst_model.specs.states.State.{number_bound}
use Rattle.zst_objset.proofs.LeafLaws.{absent_found, none_found, there_found}
use Rattle.std.proofs.Common.{subst}
use Rattle.zst_objset.specs.TightSets.{IsTightSlot}
use Rattle.zst_objset.proofs.slot_reads.dnode_at.Goals as goal

pub returns-then-object-ge-NUMBER_BOUND-clause-found : goal.returns-then-object-ge-NUMBER_BOUND-clause-found
unfolding number_bound
returns-then-object-ge-NUMBER_BOUND-clause-found g c = λ snap honest holds. none_found _ snap c.args.object (holds.lawful.bounded c.args.object (omega arith))

pub returns-in_err-slot_at-clause-found : goal.returns-in_err-slot_at-clause-found
returns-in_err-slot_at-clause-found g c = λ snap honest holds.
    let p = err_from_is_err_and c.from_residual.result c.from_residual.ensures.1 in
    rw (p.1, p.2) (c.in_err-slot_at.ensures.found snap honest holds)

pub returns-in-Absent-clause-found : goal.returns-in-Absent-clause-found
returns-in-Absent-clause-found g c = λ snap honest holds. absent_found _ snap c.args.object c.in-Absent.date c.in_ok-slot_at.field-0 c.in-Absent.is (c.in_ok-slot_at.ensures.found snap honest holds)

pub returns-in-There-clause-found : goal.returns-in-There-clause-found
returns-in-There-clause-found g c = λ snap honest holds. there_found _ snap c.args.object c.in-There.dnode c.in_ok-slot_at.field-0 c.in-There.is (c.in_ok-slot_at.ensures.found snap honest holds)

pub returns-in-There-clause-tight : goal.returns-in-There-clause-tight
returns-in-There-clause-tight g c = λ snap honest tight. subst (IsTightSlot snap c.args.object) c.in-There.is (c.in_ok-slot_at.ensures.tight snap honest tight)

pub returns-then-object-ge-NUMBER_BOUND-clause-tight : goal.returns-then-object-ge-NUMBER_BOUND-clause-tight
returns-then-object-ge-NUMBER_BOUND-clause-tight g c = λ state honest tight. tt

pub returns-then-object-ge-NUMBER_BOUND-clause-ranges : goal.returns-then-object-ge-NUMBER_BOUND-clause-ranges
returns-then-object-ge-NUMBER_BOUND-clause-ranges g c = tt

pub returns-then-object-ge-NUMBER_BOUND-clause-bound : goal.returns-then-object-ge-NUMBER_BOUND-clause-bound
returns-then-object-ge-NUMBER_BOUND-clause-bound g c = tt

pub returns-then-object-ge-NUMBER_BOUND-clause-stands : goal.returns-then-object-ge-NUMBER_BOUND-clause-stands
returns-then-object-ge-NUMBER_BOUND-clause-stands g c = λ honest. tt

pub returns-then-object-ge-NUMBER_BOUND-clause-damaged : goal.returns-then-object-ge-NUMBER_BOUND-clause-damaged
returns-then-object-ge-NUMBER_BOUND-clause-damaged g c = λ honest. tt

pub returns-then-object-ge-NUMBER_BOUND-clause-looks : goal.returns-then-object-ge-NUMBER_BOUND-clause-looks
returns-then-object-ge-NUMBER_BOUND-clause-looks g c = AtMost-none _

pub returns-in_err-slot_at-clause-tight : goal.returns-in_err-slot_at-clause-tight
returns-in_err-slot_at-clause-tight g c = λ snap honest tight.
    let p = err_from_is_err_and c.from_residual.result c.from_residual.ensures.1 in
    rw p.1 tt

pub returns-in_err-slot_at-clause-ranges : goal.returns-in_err-slot_at-clause-ranges
returns-in_err-slot_at-clause-ranges g c =
    let p = err_from_is_err_and c.from_residual.result c.from_residual.ensures.1 in
    rw p.1 tt

pub returns-in_err-slot_at-clause-bound : goal.returns-in_err-slot_at-clause-bound
returns-in_err-slot_at-clause-bound g c =
    let p = err_from_is_err_and c.from_residual.result c.from_residual.ensures.1 in
    rw p.1 tt

pub returns-in_err-slot_at-clause-stands : goal.returns-in_err-slot_at-clause-stands
returns-in_err-slot_at-clause-stands g c = λ honest.
    let p = err_from_is_err_and c.from_residual.result c.from_residual.ensures.1 in
    rw p.1 tt

pub returns-in_err-slot_at-clause-damaged : goal.returns-in_err-slot_at-clause-damaged
returns-in_err-slot_at-clause-damaged g c = λ honest.
    let p = err_from_is_err_and c.from_residual.result c.from_residual.ensures.1 in
    rw (p.1, p.2) (c.in_err-slot_at.ensures.damaged honest)

pub returns-in_err-slot_at-clause-looks : goal.returns-in_err-slot_at-clause-looks
returns-in_err-slot_at-clause-looks g c =
    let p = err_from_is_err_and c.from_residual.result c.from_residual.ensures.1 in
    rw (p.1, p.2) c.in_err-slot_at.ensures.looks

pub returns-in-Absent-clause-damaged : goal.returns-in-Absent-clause-damaged
returns-in-Absent-clause-damaged g c = λ honest. tt

pub returns-in-Absent-clause-looks : goal.returns-in-Absent-clause-looks
returns-in-Absent-clause-looks g c = c.in_ok-slot_at.ensures.looks

pub returns-in-There-clause-damaged : goal.returns-in-There-clause-damaged
returns-in-There-clause-damaged g c = λ honest. tt

pub returns-in-There-clause-looks : goal.returns-in-There-clause-looks
returns-in-There-clause-looks g c = c.in_ok-slot_at.ensures.looks

pub returns-in-Absent-clause-tight : goal.returns-in-Absent-clause-tight
returns-in-Absent-clause-tight g c = λ state honest tight. tt

pub returns-in-Absent-clause-ranges : goal.returns-in-Absent-clause-ranges
returns-in-Absent-clause-ranges g c = tt

pub returns-in-Absent-clause-bound : goal.returns-in-Absent-clause-bound
returns-in-Absent-clause-bound g c = tt

pub returns-in-Absent-clause-stands : goal.returns-in-Absent-clause-stands
returns-in-Absent-clause-stands g c = λ honest. tt
