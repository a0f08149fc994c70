use Rattle.std.specs.Prelude.{Option, Some, None, Result, Ok, Err}
use Rattle.std.proofs.Common.{◌≡◌, ℕ, ◌+◌, ◌*◌, ◌/◌, ◌≤◌, List, false, length, sym, ap, ◌∙◌, subst, arith, Bool}
use Rattle.zst_block.specs.Blocks.{Has, SparesTaken}
use Rattle.zst_block.specs.IoCalls as blocks
use Rattle.zst_block.specs.IoStates.{io_of}
use Rattle.zst_block.proofs.IoCallLemmas.{Works-block, Works-more, Works-then}
use Rattle.zst_model.specs.declared.refusals.refusal.Refusal.{Refusal}
use Rattle.zst_model.specs.pools.Pool.{Pool}
use Rattle.zst_model.specs.states.DatedState.{DatedState}
use Rattle.zst_model.proofs.Results.{err_is}
use Rattle.zst_objset.specs.Changes.{object_made, object_put, spill_put}
use Rattle.zst_objset.specs.Damage.{IsDamagedSet, IsSetWithin}
use Rattle.zst_tree.specs.Sets.{SetFits}
use Rattle.zst_pool.specs.Damage.{slots_damage}
use Rattle.zst_pool.proofs.DamageLemmas.{damaged_call, damaged_err}
use Rattle.zst_pool.specs.Checks.{put_in}
use Rattle.zst_pool.specs.Heads.{ChangesHead, Works, of_change}
use Rattle.zst_objset.specs.OrMemory.{IfTold, stop_of}
use Rattle.zst_tree.specs.declared.or_memory.OrMemory.{OrMemory}
use Rattle.zst_objset.specs.declared.fault.ObjFault.{ObjFault}
use Rattle.zst_pool.specs.Cost.{object_cells, spill_sectors}
use Rattle.zst_pool.proofs.HeadChanges.{put_fault, then_spilled}
use Rattle.zst_image.specs.Reads.{SetIs, bound_of}
use Rattle.zst_pool.proofs.ChangeDates.{changes_known, put_dated, spill_dated}
use Rattle.zst_pool.proofs.SetCalls.{call_changes, call_ok, call_works, went_well}
use Rattle.zst_pool.proofs.changes.change_object.Given.{Over}
use Rattle.zst_pool.proofs.PlanLemmas.{no_plan, past_numbers}
use Rattle.zst_pool.proofs.changes.change_object.Goals as goal
use Rattle.zst_pool.proofs.changes.change_object.Goals.{After-answer}

-- what the object alone makes of the set
put : (g : Over) (c : After-answer g) (tight : Bool) (old : DatedState) → (g.D.Disk.state c.put_object.new.io.disk.now).honest → SetIs (bound_of tight c.args.number) (Has (g.D.Disk.state c.args.io.now.disk.now).seen c.args.io.now.space) c.args.set.now old
    → ChangesHead (bound_of tight c.args.number) (Has (g.D.Disk.state c.put_object.new.io.disk.now).seen c.put_object.new.io.space) c.put_object.new.self (object_put c.args.number c.args.object c.args.head c.as_slice.result.now false old) c.answer.result
put g c tight old told holds =
    let before = Has (g.D.Disk.state c.args.io.now.disk.now).seen c.args.io.now.space in
    let has = Has (g.D.Disk.state c.put_object.new.io.disk.now).seen c.put_object.new.io.space in
    let set = c.put_object.new.self in
    let made = object_put c.args.number c.args.object c.args.head c.as_slice.result.now false old in
    call_changes c.put_object.result c.answer.result c.answer.ensures (bound_of tight c.args.number) has set made
    (changes_known tight c.args.number before has c.args.set.now set old made c.put_object.result (c.put_object.ensures.changes.set.changed old told) (c.put_object.ensures.changes.tight old told)
    (put_dated c.args.number c.args.object c.args.head c.as_slice.result.now false old) holds)

-- and takes of the free sectors
takes : (g : Over) (c : After-answer g) (block : ℕ) (answer : Result (Unit {0}) (OrMemory ObjFault)) → c.answer.result ≡ answer → blocks.Works 640 block (io_of c.args.io.now) (io_of c.put_object.new.io) (stop_of answer)
takes g c block answer was =
    subst (λ (r : Result (Unit {0}) (OrMemory ObjFault)). blocks.Works 640 block (io_of c.args.io.now) (io_of c.put_object.new.io) (stop_of r)) was
    (Works-block (call_works c.put_object.result c.answer.result c.answer.ensures c.put_object.ensures.changes.set.keeps.works))

-- the definition of the command
made : (g : Over) (c : After-answer g) (pool : Pool) (old : DatedState) → pool.number + 1 ≡ c.args.number
    → object_made c.args.number c.args.object c.args.head c.as_slice.result.now c.args.spill old ≡ put_in pool c.args.object c.args.head c.args.bonus c.args.spill old
made g c pool old number =
    ap (λ (n : ℕ). object_made n c.args.object c.args.head c.as_slice.result.now c.args.spill old) (sym number)
    ∙ c.changes_are_commands.ensures.object pool c.args.object c.args.head c.as_slice.result.now c.args.spill old
    ∙ ap (λ (b : List ℕ). put_in pool c.args.object c.args.head b c.args.spill old) c.as_slice.ensures

-- and as many at least are what the object costs with its spill
with_spill : (spill : Option (List ℕ)) → 640 ≤ spill_sectors spill + 640 * object_cells spill
with_spill None = omega arith
with_spill (Some bytes) = omega arith

pub returns-in_err-answer-clause-changed : goal.returns-in_err-answer-clause-changed
returns-in_err-answer-clause-changed g c = λ tight pool old told number holds.
    let at = (goal.at.returns-in_err-answer-clause-changed g c).After-answer in
    let has = Has (g.D.Disk.state c.put_object.new.io.disk.now).seen c.put_object.new.io.space in
    let set = c.put_object.new.self in
    let bonus = c.as_slice.result.now in
    let fault = c.in_err-answer.field-0.0 in
    let fell = subst (ChangesHead (bound_of tight c.args.number) has set (object_put c.args.number c.args.object c.args.head bonus false old)) c.in_err-answer.was (put g at tight old told holds) in
    subst (ChangesHead (bound_of tight c.args.number) has set (put_in pool c.args.object c.args.head c.args.bonus c.args.spill old)) (sym (err_is c.from_residual.result fault c.from_residual.ensures.1))
    (subst (λ (r : Result DatedState Refusal). ChangesHead (bound_of tight c.args.number) has set r (Err fault)) (made g at pool old number) (put_fault c.args.number c.args.object c.args.head bonus c.args.spill old fault fell))

pub returns-in_err-answer-clause-works : goal.returns-in_err-answer-clause-works
returns-in_err-answer-clause-works g c =
    let at = (goal.at.returns-in_err-answer-clause-works g c).After-answer in
    let spill = c.args.spill in
    let fault = c.in_err-answer.field-0.0 in
    let block = spill_sectors spill in
    subst (λ (r : Result (Unit {0}) (OrMemory ObjFault)). Works (object_cells spill) block (io_of c.args.io.now) (io_of c.put_object.new.io) (stop_of r))
    (sym (err_is c.from_residual.result fault c.from_residual.ensures.1))
    (Works-more (with_spill spill) (takes g at block (Err fault) c.in_err-answer.was))

pub returns-in-None-clause-changed : goal.returns-in-None-clause-changed
returns-in-None-clause-changed g c = λ tight pool old told number holds.
    let at = (goal.at.returns-in-None-clause-changed g c).After-answer in
    let has = Has (g.D.Disk.state c.put_object.new.io.disk.now).seen c.put_object.new.io.space in
    let set = c.put_object.new.self in
    let done = Ok c.in_ok-answer.field-0 in
    let bonus = c.as_slice.result.now in
    let one = subst (ChangesHead (bound_of tight c.args.number) has set (object_put c.args.number c.args.object c.args.head bonus false old)) c.in_ok-answer.was (put g at tight old told holds) in
    let all = subst (λ (s : Option (List ℕ)). ChangesHead (bound_of tight c.args.number) has set (object_made c.args.number c.args.object c.args.head bonus s old) done) (sym c.in-None.is) one in
    subst (λ (r : Result DatedState Refusal). ChangesHead (bound_of tight c.args.number) has set r done) (made g at pool old number) all

pub returns-in-None-clause-works : goal.returns-in-None-clause-works
returns-in-None-clause-works g c =
    let at = (goal.at.returns-in-None-clause-works g c).After-answer in
    let spill = c.args.spill in
    let block = spill_sectors spill in
    Works-more (with_spill spill) (takes g at block (Ok c.in_ok-answer.field-0) c.in_ok-answer.was)

pub returns-clause-changed : goal.returns-clause-changed
returns-clause-changed g c = λ tight pool old told number holds.
    let at = (goal.at.returns-clause-changed g c).After-answer in
    let bonus = c.as_slice.result.now in
    let block = c.as_slice-in-Some.result.now in
    let answered = c.answer-in-Some.result in
    let mid = g.D.Disk.state c.put_object.new.io.disk.now in
    let has = Has (g.D.Disk.state c.put_spill.new.io.disk.now).seen c.put_spill.new.io.space in
    let set = c.put_spill.new.self in
    let one = subst (ChangesHead (bound_of tight c.args.number) (Has mid.seen c.put_object.new.io.space) c.put_object.new.self (object_put c.args.number c.args.object c.args.head bonus false old)) c.in_ok-answer.was
    (put g at tight old (c.put_spill.ensures.changes.set.keeps.works.fills.honest told) holds) in
    let spilled = spill_put c.args.number c.args.object block one.0 in
    let two = call_changes c.put_spill.result answered c.answer-in-Some.ensures (bound_of tight c.args.number) has set spilled
    (changes_known tight c.args.number (Has mid.seen c.put_object.new.io.space) has c.put_object.new.self set one.0 spilled c.put_spill.result (c.put_spill.ensures.changes.set.changed one.0 told) (c.put_spill.ensures.changes.tight one.0 told)
    (spill_dated c.args.number c.args.object block one.0) one.2) in
    let both = then_spilled (bound_of tight c.args.number) has set c.args.number c.args.object c.args.head bonus block old one.0 answered one.1 two in
    let is : Some block ≡ c.args.spill = ap (λ (b : List ℕ). Some b) c.as_slice-in-Some.ensures ∙ sym c.in-Some.is in
    let all = subst (λ (s : Option (List ℕ)). ChangesHead (bound_of tight c.args.number) has set (object_made c.args.number c.args.object c.args.head bonus s old) answered) is both in
    subst (λ (r : Result DatedState Refusal). ChangesHead (bound_of tight c.args.number) has set r answered) (made g at pool old number) all

pub returns-clause-works : goal.returns-clause-works
returns-clause-works g c =
    let at = (goal.at.returns-clause-works g c).After-answer in
    let answered = c.answer-in-Some.result in
    let bytes = c.as_slice-in-Some.result.now in
    let block = length bytes / 512 in
    let first = takes g at block (Ok c.in_ok-answer.field-0) c.in_ok-answer.was in
    let second = call_works c.put_spill.result answered c.answer-in-Some.ensures c.put_spill.ensures.changes.set.keeps.works in
    let is : Some bytes ≡ c.args.spill = ap (λ (b : List ℕ). Some b) c.as_slice-in-Some.ensures ∙ sym c.in-Some.is in
    subst (λ (s : Option (List ℕ)). Works (object_cells s) (spill_sectors s) (io_of c.args.io.now) (io_of c.put_spill.new.io) (stop_of answered)) is
    (Works-more (omega arith) (Works-then first second))

-- what it tells as damaged is told of the set as it was
tells : (g : Over) (c : After-answer g) → (g.D.Disk.state c.put_object.new.io.disk.now).honest → IfTold c.answer.result (slots_damage (g.D.Disk.state c.args.io.now.disk.now) c.args.io.now.space c.args.set.now)
tells g c told =
    let Is = slots_damage (g.D.Disk.state c.args.io.now.disk.now) c.args.io.now.space c.args.set.now in
    damaged_call Is Is (λ sector stated found is. is) c.put_object.result c.answer.result c.answer.ensures (c.put_object.ensures.changes.set.keeps.damaged told)

pub returns-in_err-answer-clause-damaged : goal.returns-in_err-answer-clause-damaged
returns-in_err-answer-clause-damaged g c = λ told.
    let at = (goal.at.returns-in_err-answer-clause-damaged g c).After-answer in
    let fault = c.in_err-answer.field-0.0 in
    let Is = slots_damage (g.D.Disk.state c.args.io.now.disk.now) c.args.io.now.space c.args.set.now in
    damaged_err Is Is (λ sector stated found is. is) (Unit {0}) fault c.from_residual.result (err_is c.from_residual.result fault c.from_residual.ensures.1)
    (subst (λ (r : Result (Unit {0}) (OrMemory ObjFault)). IfTold r Is) c.in_err-answer.was (tells g at told))

pub returns-clause-damaged : goal.returns-clause-damaged
returns-clause-damaged g c = λ told.
    let old = g.D.Disk.state c.args.io.now.disk.now in
    let mid = g.D.Disk.state c.put_object.new.io.disk.now in
    let less = c.put_object.new.io.space in
    let was = c.put_object.new.self in
    let first = c.put_object.ensures.changes.set.keeps.works in
    let within = went_well c.put_object.result c.answer.result c.answer.ensures (IsSetWithin (SparesTaken c.args.io.now.space old.seen) old.size c.args.set.now (SparesTaken less mid.seen) was) c.in_ok-answer.field-0 c.in_ok-answer.was
    (c.put_object.ensures.within (c.put_spill.ensures.changes.set.keeps.works.fills.honest told)) in
    damaged_call (IsDamagedSet (SparesTaken less mid.seen) mid.size was) (slots_damage old c.args.io.now.space c.args.set.now)
    (λ sector stated found is. within sector stated found (subst (λ (size : ℕ). IsDamagedSet (SparesTaken less mid.seen) size was sector stated found) first.fills.size is))
    c.put_spill.result c.answer-in-Some.result c.answer-in-Some.ensures (c.put_spill.ensures.changes.set.keeps.damaged told)

pub returns-in-None-clause-levels : goal.returns-in-None-clause-levels
returns-in-None-clause-levels g c = went_well c.put_object.result c.answer.result c.answer.ensures (SetFits c.put_object.new.self) c.in_ok-answer.field-0 c.in_ok-answer.was c.put_object.ensures.changes.levels

pub returns-clause-levels : goal.returns-clause-levels
returns-clause-levels g c = call_ok c.put_spill.result c.answer-in-Some.result c.answer-in-Some.ensures (SetFits c.put_spill.new.self) c.put_spill.ensures.changes.levels

pub returns-in_err-answer-clause-limits : goal.returns-in_err-answer-clause-limits
returns-in_err-answer-clause-limits g c = λ fault is.
    past_numbers (c.args.object + 1) c.put_object.result c.answer.ensures c.put_object.ensures.changes.set.keeps.limits fault
    (ap of_change (c.in_err-answer.was ∙ sym (err_is c.from_residual.result c.in_err-answer.field-0.0 c.from_residual.ensures.1)) ∙ is)

pub returns-clause-limits : goal.returns-clause-limits
returns-clause-limits g c = λ fault is. absurd (no_plan c.put_spill.result c.answer-in-Some.ensures c.put_spill.ensures.changes.set.keeps.limits fault is)
