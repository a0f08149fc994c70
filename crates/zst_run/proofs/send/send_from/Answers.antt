use Rattle.std.proofs.Common.{◌≡◌, ◌∙◌, ℕ, List, [], ◌∷◌, Bool, ◌||◌, false, Result, Ok, Err, ap, arith, refl, rules, sym, subst}
use Rattle.std.proofs.lemmas.Result.{err_from_is_err_and}
use Rattle.std.specs.Prelude.{Contains, OnOk}
use Rattle.zst_outside.specs.Images.{OnlyReads-then}
use Rattle.zst_block.specs.IoStates.{blocks_of, io_of}
use Rattle.zst_model.specs.declared.refusals.refusal.Refusal.{Refusal}
use Rattle.zst_model.specs.declared.refusals.refusal.Refusal.TheVariants as refusals
use Rattle.zst_pool.specs.Faults.{pool_refusal}
use Rattle.zst_pool.specs.Queries.{stop_of}
use Rattle.zst_pool.specs.declared.fault.PoolFault.{PoolFault}
use Rattle.zst_run.specs.Sends.{TellsOf, start_of, to_give, to_send}
use Rattle.zst_send.specs.Damage.{IsDamagedSend}
use Rattle.zst_send.specs.KnownPointers.{IsAmong}
use Rattle.zst_send.specs.Sends.{sent_set}
use Rattle.zst_send.specs.declared.send.Send.{Send}
use Rattle.zst_run.proofs.LaterDisks.{later_looked, later_then}
use Rattle.zst_run.proofs.SendLemmas.{among_one, memory_refused, no_memory, open_refused, opened_planned, refused_earlier, sends_from, set_damage, unopened_because, unopened_by, unopened_damage, unopened_long, unopened_planned}
use Rattle.zst_run.proofs.send.send_from.Goals as goal

pub returns-in_err-send-clause-sends : goal.returns-in_err-send-clause-sends
returns-in_err-send-clause-sends g c = λ running told named stands.
    let p = err_from_is_err_and c.from_residual.result c.from_residual.ensures.1 in
    let o = c.in_err-send.ensures in
    let opens = o.opens running told named stands in
    rw (p.1, p.2) (unopened_by (blocks_of c.open.new.pool.io) (start_of c.args.request.now) (to_give c.args.request.now running) _ _ _ c.in_err-send.field-0.0 opens
    (λ is. o.reads.looks.cause.fault (ap (λ (f : PoolFault). stop_of {T = Send} (Err f)) is)))

pub returns-in_err-send-clause-refused : goal.returns-in_err-send-clause-refused
returns-in_err-send-clause-refused g c =
    let p = err_from_is_err_and c.from_residual.result c.from_residual.ensures.1 in
    let o = c.in_err-send.ensures in
    rw (p.1, p.2) (open_refused _ _ _ _ c.in_err-send.field-0.0 o.reads.looks (λ is. o.reads.open_still c.requires.works (ap (λ f. Err f) is)))

pub returns-in_default-clause-sends : goal.returns-in_default-clause-sends
returns-in_default-clause-sends g c = λ running told named stands. no_memory (start_of c.args.request.now) (to_give c.args.request.now running) _ _ _

pub returns-in_default-clause-refused : goal.returns-in_default-clause-refused
returns-in_default-clause-refused g c = memory_refused _ _ _ _

pub returns-clause-sends : goal.returns-clause-sends
returns-clause-sends g c = λ running told named stands.
    let o = c.in_ok-send.ensures in
    let e = c.pass_all.ensures in
    sends_from _ (start_of c.args.request.now) (to_give c.args.request.now running) c.in_ok-send.send _ _ _ _ _ _ o.reads.looks.cause.later
    (o.opens running (e.reads.honest told) named stands) (λ sent begun. e.sends (start_of c.args.request.now) sent told begun)

pub returns-in_err-send-clause-planned : goal.returns-in_err-send-clause-planned
returns-in_err-send-clause-planned g c = λ running named.
    let p = err_from_is_err_and c.from_residual.result c.from_residual.ensures.1 in
    rw (p.1, p.2) (unopened_planned (to_send c.args.request.now running) _ c.in_err-send.field-0.0 (c.in_err-send.ensures.planned running named))

pub returns-in_default-clause-planned : goal.returns-in_default-clause-planned
returns-in_default-clause-planned g c = λ running named.
    opened_planned (to_send c.args.request.now running) c.in_ok-send.send _ _ _ (c.in_ok-send.ensures.planned running named)

pub returns-clause-planned : goal.returns-clause-planned
returns-clause-planned g c = λ running named.
    opened_planned (to_send c.args.request.now running) c.in_ok-send.send _ _ _ (c.in_ok-send.ensures.planned running named)

pub returns-in_err-send-clause-because : goal.returns-in_err-send-clause-because
returns-in_err-send-clause-because g c = λ running fault named is.
    let p = err_from_is_err_and c.from_residual.result c.from_residual.ensures.1 in
    let same : pool_refusal c.in_err-send.field-0.0 ≡ refusals.Plan fault = cc (p.1, p.2, is) in
    unopened_because (to_send c.args.request.now running) c.in_err-send.field-0.0 (c.in_err-send.ensures.planned running named) fault same

pub returns-in_default-clause-because : goal.returns-in_default-clause-because
returns-in_default-clause-because g c = λ running fault named is. absurd (cc is)

pub returns-clause-because : goal.returns-clause-because
returns-clause-because g c = λ running fault named is. absurd (c.pass_all.ensures.why.unplanned fault is)

pub returns-in_err-send-clause-long : goal.returns-in_err-send-clause-long
returns-in_err-send-clause-long g c = λ running named.
    let p = err_from_is_err_and c.from_residual.result c.from_residual.ensures.1 in
    rw (p.1, p.2) (unopened_long c.args.request.now running _ c.in_err-send.field-0.0 (c.in_err-send.ensures.planned running named))

pub returns-in_default-clause-long : goal.returns-in_default-clause-long
returns-in_default-clause-long g c = λ running named number is. absurd (cc is)

pub returns-clause-long : goal.returns-clause-long
returns-clause-long g c = λ running named number is. absurd (c.pass_all.ensures.why.listed number is)

pub returns-in_err-send-clause-damaged : goal.returns-in_err-send-clause-damaged
returns-in_err-send-clause-damaged g c = λ honest.
    let p = err_from_is_err_and c.from_residual.result c.from_residual.ensures.1 in
    rw (p.1, p.2) (unopened_damage c.args.request.now c.args.pool.now.kept.dir (io_of c.args.pool.now.io) c.in_err-send.field-0.0 (c.in_err-send.ensures.damaged honest))

pub returns-in_default-clause-damaged : goal.returns-in_default-clause-damaged
returns-in_default-clause-damaged g c = λ honest sector stated found is. absurd (cc is)

pub returns-clause-damaged : goal.returns-clause-damaged
returns-clause-damaged g c = λ honest.
    let o = c.in_ok-send.ensures in
    let disk = g.D.Disk.state c.args.pool.now.io.disk.now in
    let opened = g.D.Disk.state c.open.new.pool.io.disk.now in
    let alone : List (List ℕ) = disk.seen ∷ [] in
    let here : Contains alone opened.seen = subst (λ (seen : List ℕ). Contains alone seen) (sym o.reads.looks.reads.seen) (among_one disk.seen) in
    let damaged : TellsOf (IsDamagedSend (IsAmong alone) opened.size (sent_set c.in_ok-send.send)) c.pass_all.result =
    c.pass_all.ensures.why.damaged alone here honest (o.opened.knows alone) in
    let told = subst (λ (size : ℕ). TellsOf (IsDamagedSend (IsAmong alone) size (sent_set c.in_ok-send.send)) c.pass_all.result) o.reads.looks.reads.size damaged in
    set_damage c.args.pool.now.kept.dir c.args.request.now c.args.pool.now.io.space.end disk _ c.pass_all.result o.opened.set told

pub returns-clause-refused : goal.returns-clause-refused
returns-clause-refused g c =
    refused_earlier _ _ _ _ _ _ c.pass_all.result c.in_ok-send.ensures.reads.looks.cause.later (omega arith) c.pass_all.ensures.why.refused

pub returns-in_err-send-clause-reads : goal.returns-in_err-send-clause-reads
returns-in_err-send-clause-reads g c = c.in_err-send.ensures.reads.looks.reads

pub returns-in_default-clause-reads : goal.returns-in_default-clause-reads
returns-in_default-clause-reads g c = c.in_ok-send.ensures.reads.looks.reads

pub returns-clause-reads : goal.returns-clause-reads
returns-clause-reads g c = OnlyReads-then _ _ _ c.in_ok-send.ensures.reads.looks.reads c.pass_all.ensures.reads

pub returns-in_err-send-clause-later : goal.returns-in_err-send-clause-later
returns-in_err-send-clause-later g c = later_looked _ _ _ c.in_err-send.ensures.reads.looks

pub returns-in_default-clause-later : goal.returns-in_default-clause-later
returns-in_default-clause-later g c = later_looked _ _ _ c.in_ok-send.ensures.reads.looks

pub returns-clause-later : goal.returns-clause-later
returns-clause-later g c = later_then _ _ _ (later_looked _ _ _ c.in_ok-send.ensures.reads.looks) c.pass_all.ensures.later

pub pass_all-requires : goal.pass_all-requires
pass_all-requires g c =
    let o = c.in_ok-send.ensures in
    record { room = first_of (omega arith, search rules); fits = o.opened.fits; works = o.reads.looks.failed ∙ ap (λ (b : Bool). b || false) c.requires.works }

-- one that ended well has met no damaged block
on_ok : (Is : Type 0) (result : Result (Unit {0}) Refusal) → ((done : Unit {0}) → result ≡ Ok done → Is) → OnOk result Is
on_ok Is (Ok done) is = is done refl
on_ok Is (Err refusal) is = tt

pub returns-in_err-send-clause-told : goal.returns-in_err-send-clause-told
returns-in_err-send-clause-told g c =
    let p = err_from_is_err_and c.from_residual.result c.from_residual.ensures.1 in
    rw (p.1) tt

pub returns-in_default-clause-told : goal.returns-in_default-clause-told
returns-in_default-clause-told g c = tt

pub returns-clause-told : goal.returns-clause-told
returns-clause-told g c = on_ok _ c.pass_all.result (λ done is. c.pass_all.ensures.why.told done is ∙ c.in_ok-send.ensures.reads.looks.told refl)
