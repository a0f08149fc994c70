use Rattle.std.proofs.lemmas.Result.{err_from_is_err_and}
use Rattle.zst_objset.proofs.leaves.save_slots.Goals as goal

pub returns-in-None-clause-names : goal.returns-in-None-clause-names
returns-in-None-clause-names g c = λ slots spells. let told = c.in-None.ensures.told slots spells in absurd (cc)

pub returns-in_err-ptr-in-Some-clause-lawful : goal.returns-in_err-ptr-in-Some-clause-lawful
returns-in_err-ptr-in-Some-clause-lawful g c =
    let p = err_from_is_err_and c.from_residual.result c.from_residual.ensures.1 in
    rw p.1 tt

pub returns-in_err-ptr-in-Some-clause-wrote : goal.returns-in_err-ptr-in-Some-clause-wrote
returns-in_err-ptr-in-Some-clause-wrote g c =
    let p = err_from_is_err_and c.from_residual.result c.from_residual.ensures.1 in
    rw p.1 tt

pub returns-in_err-ptr-in-Some-clause-some : goal.returns-in_err-ptr-in-Some-clause-some
returns-in_err-ptr-in-Some-clause-some g c =
    let p = err_from_is_err_and c.from_residual.result c.from_residual.ensures.1 in
    rw p.1 tt

pub returns-in-None-clause-lawful : goal.returns-in-None-clause-lawful
returns-in-None-clause-lawful g c = tt

pub returns-in-None-clause-wrote : goal.returns-in-None-clause-wrote
returns-in-None-clause-wrote g c = tt

pub returns-in-None-clause-some : goal.returns-in-None-clause-some
returns-in-None-clause-some g c = tt

pub returns-in_ok-ptr-in-Some-clause-damaged : goal.returns-in_ok-ptr-in-Some-clause-damaged
returns-in_ok-ptr-in-Some-clause-damaged g c = tt

pub returns-in_err-ptr-in-Some-clause-works : goal.returns-in_err-ptr-in-Some-clause-works
returns-in_err-ptr-in-Some-clause-works g c =
    let p = err_from_is_err_and c.from_residual.result c.from_residual.ensures.1 in
    rw (p.1, p.2) c.in_err-ptr-in-Some.ensures.works

pub returns-in_ok-ptr-in-Some-clause-works : goal.returns-in_ok-ptr-in-Some-clause-works
returns-in_ok-ptr-in-Some-clause-works g c = c.in_ok-ptr-in-Some.ensures.works
