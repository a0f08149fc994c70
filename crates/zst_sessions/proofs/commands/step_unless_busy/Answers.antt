use Rattle.std.specs.Prelude.{Err, List}
use Rattle.std.proofs.Common.{sym, subst, ◌∙◌}
use Rattle.zst_model.specs.declared.refusals.refusal.Refusal.{Refusal}
use Rattle.zst_model.specs.pools.Step.{stepped}
use Rattle.zst_pool.specs.Events.{StepDid}
use Rattle.zst_pool.specs.Faults.{is_disk_fault}
use Rattle.zst_roots.specs.declared.held.HeldBlocks.{HeldBlocks}
use Rattle.zst_sessions.proofs.SparedBlocks.{still_works}
use Rattle.zst_sessions.proofs.SteppedPools.{busy_stepped, fell_told, stays_held, step_full, step_held, step_keeps, step_stepped}
use Rattle.zst_sessions.specs.CommandSteps.{StepsPool}
use Rattle.zst_sessions.specs.EngineSteps.{held_blocks, kept_pool}
use Rattle.zst_sessions.specs.FullPools.{StepIsShort}
use Rattle.zst_sessions.specs.Moves.{Answer}
use Rattle.zst_sessions.proofs.commands.step_unless_busy.Goals as goal

-- a session is in its way
pub returns-in-Some-clause-steps : goal.returns-in-Some-clause-steps
returns-in-Some-clause-steps g c = λ held opened honest tells stands stand found.
    let kept = kept_pool {g = g.D.Disk} c.args.pool.now in
    let is_open = sym stands.mark ∙ c.if-pool.false in
    subst (λ (refusal : Refusal). StepsPool c.args.command (stepped held c.args.now c.args.command opened.pool) opened kept kept (Err refusal)) (sym c.busy.ensures)
    (busy_stepped c.sessions_come_first.ensures c.args.now c.args.command held opened kept c.in-Some.session is_open stands (sym c.in-Some.is ∙ found is_open))

pub returns-clause-steps : goal.returns-clause-steps
returns-clause-steps g c = λ held opened honest tells stands stand found.
    let old = c.args.pool.now in
    let new = c.step-answer.new.self in
    let did = c.step-answer.ensures in
    let so = subst (λ (blocks : List HeldBlocks). StepDid c.args.now c.args.command blocks old new c.step-answer.result) (c.as_slice.ensures.value ∙ c.in-Ok.ensures) did.did in
    subst (λ (answer : Answer). StepsPool c.args.command (stepped held c.args.now c.args.command opened.pool) opened (kept_pool {g = g.D.Disk} old) (kept_pool {g = g.D.Disk} new) answer) (sym c.told.ensures)
    (step_stepped old new c.sessions_come_first.ensures c.lost_disks_read.ensures c.args.now c.args.command (held_blocks c.args.side c.args.sends.now) c.step-answer.result so did.settles did.room c.if-pool.false
    (stand c.if-pool.false) held opened honest tells stands (sym c.in_default.is ∙ found (sym stands.mark ∙ c.if-pool.false)))

pub returns-in-Some-clause-held : goal.returns-in-Some-clause-held
returns-in-Some-clause-held g c = stays_held _ (kept_pool {g = g.D.Disk} c.args.pool.now) c.requires.ready c.datasets-lawful.ensures.lawful _

-- and where no memory was left for what is held
pub returns-in_default-held_blocks-clause-held : goal.returns-in_default-held_blocks-clause-held
returns-in_default-held_blocks-clause-held g c = stays_held _ (kept_pool {g = g.D.Disk} c.args.pool.now) c.requires.ready c.datasets-lawful.ensures.lawful _

pub returns-clause-held : goal.returns-clause-held
returns-clause-held g c =
    let old = c.args.pool.now in
    let new = c.step-answer.new.self in
    let did = c.step-answer.ensures in
    let so = subst (λ (blocks : List HeldBlocks). StepDid c.args.now c.args.command blocks old new c.step-answer.result) (c.as_slice.ensures.value ∙ c.in-Ok.ensures) did.did in
    step_held old new c.args.now c.args.command (held_blocks c.args.side c.args.sends.now) c.args.holder c.step-answer.result so did.settles c.in_default.is c.datasets-lawful_still.ensures.lawful did.partials

pub returns-clause-keeps : goal.returns-clause-keeps
returns-clause-keeps g c =
    let did = c.step-answer.ensures in
    step_keeps c.args.pool.now c.step-answer.new.self c.args.now c.args.command c.as_slice.result.now c.args.holder c.step-answer.result did.did did.settles c.in_default.is c.datasets-lawful_still.ensures.lawful did.partials

pub returns-clause-works : goal.returns-clause-works
returns-clause-works g c = λ alive works.
    let told = c.step-answer.result in
    still_works c.args.pool.now.io.failed (is_disk_fault told) c.step-answer.new.self.io.failed c.step-answer.ensures.settles.failed (λ fell. alive (c.told.ensures ∙ fell_told told fell)) works

pub returns-clause-full : goal.returns-clause-full
returns-clause-full g c = λ need largest is.
    let did = c.step-answer.ensures in
    let new = c.step-answer.new.self in
    subst (λ (blocks : List HeldBlocks). StepIsShort c.args.command blocks (kept_pool {g = g.D.Disk} c.args.pool.now) (kept_pool {g = g.D.Disk} new) new.io.space need largest) (c.as_slice.ensures.value ∙ c.in-Ok.ensures)
    (step_full c.args.pool.now new c.args.now c.args.command c.as_slice.result.now c.step-answer.result did.did did.room c.if-pool.false need largest (sym c.told.ensures ∙ is))
