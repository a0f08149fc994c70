use Rattle.std.proofs.Common.{ℕ, List, sym, subst}
use Rattle.std.proofs.lemmas.Result.{err_from_is_err_and}
use Rattle.zst_space.specs.FreeSectors.{FreeSectors}
use Rattle.zst_block.specs.IoStates.{blocks_of, disk_of}
use Rattle.zst_block.proofs.IoCallLemmas.{Looks-then}
use Rattle.zst_tree.specs.Damage.{IsSeen, NamesDamage, SumsUp}
use Rattle.zst_tree.specs.Indices.{TreeIs}
use Rattle.zst_tree.specs.declared.tree.Tree.{Tree}
use Rattle.zst_tree.proofs.Damage.{seen_before}
use Rattle.zst_objset.specs.Damage.{IfDamaged, SlotStands, StandsIn}
use Rattle.zst_objset.specs.Dnodes.{SlotIs}
use Rattle.zst_objset.proofs.LeafLaws.{look_on}
use Rattle.zst_traverse.specs.Damage.{IsDamagedCell}
use Rattle.zst_redact.proofs.Damage.{set_told, tree_damaged}
use Rattle.zst_redact.proofs.LateIndices.{absent_late, there_late}
use Rattle.zst_redact.proofs.late.late_in.Goals as goal

pub returns-in_err-slot-clause-found : goal.returns-in_err-slot-clause-found
returns-in_err-slot-clause-found g c = λ kept honest holds.
    let p = err_from_is_err_and c.from_residual.result c.from_residual.ensures.1 in
    rw (p.1, p.2) (c.in_err-slot.ensures.found kept honest holds)

pub returns-in_err-slot-clause-range : goal.returns-in_err-slot-clause-range
returns-in_err-slot-clause-range g c =
    let p = err_from_is_err_and c.from_residual.result c.from_residual.ensures.1 in
    rw p.1 tt

pub returns-in_err-slot-clause-damaged : goal.returns-in_err-slot-clause-damaged
returns-in_err-slot-clause-damaged g c = λ honest.
    let p = err_from_is_err_and c.from_residual.result c.from_residual.ensures.1 in
    let disk = disk_of c.args.io.now in
    rw (p.1, p.2) (set_told (IsSeen disk.seen) disk.size c.args.set.now c.in_err-slot.field-0.0 (c.in_err-slot.ensures.damaged honest))

pub returns-in_err-slot-clause-looks : goal.returns-in_err-slot-clause-looks
returns-in_err-slot-clause-looks g c =
    let p = err_from_is_err_and c.from_residual.result c.from_residual.ensures.1 in
    rw (p.1, p.2) c.in_err-slot.ensures.looks.looks

pub returns-in-Absent-clause-found : goal.returns-in-Absent-clause-found
returns-in-Absent-clause-found g c = λ kept honest holds.
    absent_late c.args.number c.args.object c.args.from kept c.in-Absent.date
    (subst (SlotIs (blocks_of c.slot_at.new.io) kept c.args.object) c.in-Absent.is (c.in_ok-slot.ensures.found kept honest holds))
    c.first_of_all.result c.first_of_all.ensures.found

pub returns-in-Absent-clause-damaged : goal.returns-in-Absent-clause-damaged
returns-in-Absent-clause-damaged g c = λ honest. tt

pub returns-in-Absent-clause-looks : goal.returns-in-Absent-clause-looks
returns-in-Absent-clause-looks g c = c.in_ok-slot.ensures.looks.looks

pub returns-in-There-clause-found : goal.returns-in-There-clause-found
returns-in-There-clause-found g c = λ kept honest holds.
    let was = c.next_after.ensures.looks.by_steps.looks.reads.honest honest in
    let has = blocks_of c.slot_at.new.io in
    let there = subst (SlotIs has kept c.args.object) c.in-There.is (c.in_ok-slot.ensures.found kept was holds) in
    there_late c.args.number c.args.object c.args.from has kept c.in-There.dnode there c.next_after.result
    (c.next_after.ensures.first there.map honest (subst (λ (t : Tree). TreeIs has t there.map) (sym c.tree_of.ensures) there.is.tree))

pub returns-in-There-clause-damaged : goal.returns-in-There-clause-damaged
returns-in-There-clause-damaged g c = λ honest.
    let was = c.next_after.ensures.looks.by_steps.looks.reads.honest honest in
    let looks = c.in_ok-slot.ensures.looks.looks in
    let disk = disk_of c.slot_at.new.io in
    let stands = look_on (λ (seen : List ℕ) (space : FreeSectors). StandsIn (IsSeen seen) c.args.set.now c.in-There.dnode) looks
    (subst (SlotStands (IsSeen (disk_of c.args.io.now).seen) c.args.set.now) c.in-There.is (c.in_ok-slot.ensures.stands was)) in
    seen_before looks (λ (seen : List ℕ) (size : ℕ). IfDamaged c.next_after.result (IsDamagedCell (IsSeen seen) size c.args.set.now))
    (tree_damaged (IsSeen disk.seen) disk.size c.args.set.now c.in-There.dnode stands c.next_after.result
    (subst (λ (t : Tree). NamesDamage (IsSeen disk.seen) disk.size (SumsUp (IsSeen disk.seen)) t.levels t.root c.next_after.result) c.tree_of.ensures (c.next_after.ensures.damaged honest)))

pub returns-in-There-clause-looks : goal.returns-in-There-clause-looks
returns-in-There-clause-looks g c = Looks-then c.in_ok-slot.ensures.looks.looks c.next_after.ensures.looks.by_steps.looks
