use Rattle.std.proofs.Common.{ℕ, sym, ap, ◌∙◌, subst, ◌+◌}
use Rattle.std.specs.Prelude.{Result}
use Rattle.zst_block.specs.Blocks.{Has}
use Rattle.zst_block.proofs.IoCallLemmas.{Works-block}
use Rattle.zst_model.specs.declared.refusals.refusal.Refusal.{Refusal}
use Rattle.zst_model.specs.states.DatedState.{DatedState}
use Rattle.zst_objset.specs.Answers.{Changes}
use Rattle.zst_objset.specs.Changes.{objects_freed}
use Rattle.zst_image.specs.Reads.{SetIs, bound_of}
use Rattle.zst_pool.proofs.ChangeDates.{changes_known, freed_dated}
use Rattle.zst_pool.specs.Damage.{slots_damage}
use Rattle.zst_pool.proofs.DamageLemmas.{damaged_call}
use Rattle.zst_pool.proofs.SetCalls.{call_changes, call_works}
use Rattle.zst_pool.proofs.PlanLemmas.{past_numbers}
use Rattle.zst_pool.proofs.changes.change_numbers.Goals as goal

pub returns-clause-changed : goal.returns-clause-changed
returns-clause-changed g c = λ tight pool head told number holds.
    let has = Has (g.D.Disk.state c.free_objects.new.io.disk.now).seen c.free_objects.new.io.space in
    let set = c.free_objects.new.self in
    let same = ap (λ (n : ℕ). objects_freed n c.args.first c.args.count head) (sym number) ∙ c.changes_are_commands.ensures.free pool c.args.first c.args.count head in
    let old = Has (g.D.Disk.state c.args.io.now.disk.now).seen c.args.io.now.space in
    let known = changes_known tight c.args.number old has c.args.set.now set head (objects_freed c.args.number c.args.first c.args.count head) c.free_objects.result
    (c.free_objects.ensures.changes.changed head told) (λ is dated. c.free_objects.ensures.tight head told is dated) (freed_dated c.args.number c.args.first c.args.count head) holds in
    let is = subst (λ (r : Result DatedState Refusal). Changes (SetIs (bound_of tight c.args.number) has set) r c.free_objects.result) same known in
    call_changes c.free_objects.result c.answer.result c.answer.ensures (bound_of tight c.args.number) has set _ is

pub returns-clause-works : goal.returns-clause-works
returns-clause-works g c = Works-block (call_works c.free_objects.result c.answer.result c.answer.ensures c.free_objects.ensures.changes.keeps.works)

pub returns-clause-damaged : goal.returns-clause-damaged
returns-clause-damaged g c = λ told.
    let Is = slots_damage (g.D.Disk.state c.args.io.now.disk.now) c.args.io.now.space c.args.set.now in
    damaged_call Is Is (λ sector stated found is. is) c.free_objects.result c.answer.result c.answer.ensures (c.free_objects.ensures.changes.keeps.damaged told)

pub returns-clause-limits : goal.returns-clause-limits
returns-clause-limits g c = past_numbers (c.args.first + c.args.count) c.free_objects.result c.answer.ensures c.free_objects.ensures.changes.keeps.limits
