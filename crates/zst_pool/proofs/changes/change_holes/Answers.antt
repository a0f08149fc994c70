use Rattle.std.proofs.Common.{ℕ, sym, ap, ◌∙◌, subst, ◌+◌}
use Rattle.std.specs.Prelude.{Result}
use Rattle.zst_block.specs.Blocks.{Has}
use Rattle.zst_block.proofs.IoCallLemmas.{Works-block}
use Rattle.zst_model.specs.declared.refusals.refusal.Refusal.{Refusal}
use Rattle.zst_model.specs.states.DatedState.{DatedState}
use Rattle.zst_objset.specs.Answers.{Changes}
use Rattle.zst_objset.specs.Changes.{holes_made}
use Rattle.zst_tree.specs.Sets.{SetFits}
use Rattle.zst_image.specs.Reads.{SetIs, bound_of}
use Rattle.zst_pool.proofs.ChangeDates.{changes_known, punched_dated}
use Rattle.zst_pool.specs.Damage.{range_damage}
use Rattle.zst_pool.proofs.DamageLemmas.{damaged_call}
use Rattle.zst_pool.proofs.SetCalls.{call_changes, call_works, call_ok}
use Rattle.zst_pool.proofs.PlanLemmas.{past_indices}
use Rattle.zst_pool.proofs.changes.change_holes.Goals as goal

pub returns-clause-changed : goal.returns-clause-changed
returns-clause-changed g c = λ tight pool head told number holds.
    let has = Has (g.D.Disk.state c.punch.new.io.disk.now).seen c.punch.new.io.space in
    let set = c.punch.new.self in
    let same = ap (λ (n : ℕ). holes_made n c.args.object c.args.first c.args.count head) (sym number) ∙ c.changes_are_commands.ensures.punch pool c.args.object c.args.first c.args.count head in
    let old = Has (g.D.Disk.state c.args.io.now.disk.now).seen c.args.io.now.space in
    let known = changes_known tight c.args.number old has c.args.set.now set head (holes_made c.args.number c.args.object c.args.first c.args.count head) c.punch.result
    (c.punch.ensures.changes.set.changed head told) (c.punch.ensures.changes.tight head told) (punched_dated c.args.number c.args.object c.args.first c.args.count head) holds in
    let is = subst (λ (r : Result DatedState Refusal). Changes (SetIs (bound_of tight c.args.number) has set) r c.punch.result) same known in
    call_changes c.punch.result c.answer.result c.answer.ensures (bound_of tight c.args.number) has set _ is

pub returns-clause-works : goal.returns-clause-works
returns-clause-works g c = Works-block (call_works c.punch.result c.answer.result c.answer.ensures c.punch.ensures.changes.set.keeps.works)

pub returns-clause-damaged : goal.returns-clause-damaged
returns-clause-damaged g c = λ told.
    let Is = range_damage (g.D.Disk.state c.args.io.now.disk.now) c.args.io.now.space c.args.set.now in
    damaged_call Is Is (λ sector stated found is. is) c.punch.result c.answer.result c.answer.ensures (c.punch.ensures.changes.set.keeps.damaged told)

pub returns-clause-levels : goal.returns-clause-levels
returns-clause-levels g c = call_ok c.punch.result c.answer.result c.answer.ensures (SetFits c.punch.new.self) c.punch.ensures.changes.levels

pub returns-clause-limits : goal.returns-clause-limits
returns-clause-limits g c = past_indices (c.args.first + c.args.count) c.punch.result c.answer.ensures c.punch.ensures.changes.set.keeps.limits
