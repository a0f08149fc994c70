use Rattle.std.proofs.Common.{arith, refl, sym, ◌%◌, ℕ, List}
use Rattle.std.proofs.lemmas.Result.{err_from_is_err_and}
use Rattle.zst_space.specs.FreeSectors.{FreeSectors}
use Rattle.zst_block.specs.Blocks.{Has}
use Rattle.zst_objset.specs.Dnodes.{SlotIs}
use Rattle.zst_objset.proofs.DamageLaws.{lacking_told, slot_stands}
use Rattle.zst_objset.proofs.LeafLaws.{look_on, slot_found, slot_there}
use Rattle.zst_objset.proofs.TightLaws.{slot_tight}
use Rattle.zst_objset.proofs.SetChangeLaws.{most_told}
use Rattle.zst_objset.proofs.slot_reads.slot_at.Goals as goal

pub returns-in-None-clause-looks : goal.returns-in-None-clause-looks
returns-in-None-clause-looks g c = most_told _ c.of_layout.ensures c.in_ok-was.ensures.looks

pub returns-in_err-was-clause-found : goal.returns-in_err-was-clause-found
returns-in_err-was-clause-found g c = λ snap honest holds.
    let p = err_from_is_err_and c.from_residual.result c.from_residual.ensures.1 in
    rw (p.1, p.2) (c.in_err-was.ensures.slots snap honest holds)

pub returns-in-Some-clause-found : goal.returns-in-Some-clause-found
returns-in-Some-clause-found g c = λ snap honest holds.
    let found = c.in_ok-was.ensures in
    look_on (λ (seen : List ℕ) (space : FreeSectors). SlotIs (Has seen space) snap c.args.object c.in-Some.slot) found.looks.looks
    (slot_found _ snap c.args.object _ _ c.in-Some.slot (omega arith) (omega arith) (found.slots snap honest holds) c.as_slice.ensures.bytes c.in-Some.ensures.back)

pub returns-in-None-clause-found : goal.returns-in-None-clause-found
returns-in-None-clause-found g c = λ snap honest holds.
    absurd (slot_there _ snap c.args.object _ _ (c.in_ok-was.ensures.slots snap honest holds) c.as_slice.ensures.bytes (c.in-None.ensures.none refl))

pub returns-in-Some-clause-stands : goal.returns-in-Some-clause-stands
returns-in-Some-clause-stands g c = λ honest.
    let found = c.in_ok-was.ensures in
    let read = c.in-Some.ensures in
    slot_stands _ c.args.set.now c.in_ok-was.was' c.find_slots.new.io.node (c.args.object % 16) c.in-Some.slot (found.hangs honest) (found.loaded honest) (omega arith)
    (record { fits = read.spelled.0; spelled = rw (sym c.as_slice.ensures.bytes) read.spelled.1 }) (λ other fits is. read.back other fits (rw c.as_slice.ensures.bytes is))

pub returns-in-None-clause-damaged : goal.returns-in-None-clause-damaged
returns-in-None-clause-damaged g c = λ honest.
    let found = c.in_ok-was.ensures in
    rw c.of_layout.ensures (lacking_told _ _ c.args.set.now c.in_ok-was.was' c.find_slots.new.io.node (found.hangs honest) (found.loaded honest)
    (record { place = c.args.object % 16; under = omega arith; none = λ slot has. c.in-None.ensures.none refl slot has.fits (rw c.as_slice.ensures.bytes has.spelled) }))

pub returns-in-Some-clause-tight : goal.returns-in-Some-clause-tight
returns-in-Some-clause-tight g c = λ snap honest tight.
    let found = c.in_ok-was.ensures in
    slot_tight _ snap c.args.object _ _ c.in-Some.slot (found.slots snap honest tight.holds) (found.tight snap honest tight) c.as_slice.ensures.bytes c.in-Some.ensures.back

pub returns-in_err-was-clause-tight : goal.returns-in_err-was-clause-tight
returns-in_err-was-clause-tight g c = λ snap honest tight.
    let p = err_from_is_err_and c.from_residual.result c.from_residual.ensures.1 in
    rw p.1 tt

pub returns-in_err-was-clause-ranges : goal.returns-in_err-was-clause-ranges
returns-in_err-was-clause-ranges g c =
    let p = err_from_is_err_and c.from_residual.result c.from_residual.ensures.1 in
    rw p.1 tt

pub returns-in_err-was-clause-stands : goal.returns-in_err-was-clause-stands
returns-in_err-was-clause-stands g c = λ honest.
    let p = err_from_is_err_and c.from_residual.result c.from_residual.ensures.1 in
    rw p.1 tt

pub returns-in_err-was-clause-damaged : goal.returns-in_err-was-clause-damaged
returns-in_err-was-clause-damaged g c = λ honest.
    let p = err_from_is_err_and c.from_residual.result c.from_residual.ensures.1 in
    rw (p.1, p.2) (c.in_err-was.ensures.damaged honest)

pub returns-in_err-was-clause-looks : goal.returns-in_err-was-clause-looks
returns-in_err-was-clause-looks g c =
    let p = err_from_is_err_and c.from_residual.result c.from_residual.ensures.1 in
    rw (p.1, p.2) c.in_err-was.ensures.looks

pub returns-in-Some-clause-damaged : goal.returns-in-Some-clause-damaged
returns-in-Some-clause-damaged g c = λ honest. tt

pub returns-in-Some-clause-looks : goal.returns-in-Some-clause-looks
returns-in-Some-clause-looks g c = c.in_ok-was.ensures.looks

pub returns-in-None-clause-tight : goal.returns-in-None-clause-tight
returns-in-None-clause-tight g c = λ state honest tight. tt

pub returns-in-None-clause-ranges : goal.returns-in-None-clause-ranges
returns-in-None-clause-ranges g c = tt

pub returns-in-None-clause-stands : goal.returns-in-None-clause-stands
returns-in-None-clause-stands g c = λ honest. tt
