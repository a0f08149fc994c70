use Rattle.std.proofs.Common.{◌≡◌, ℕ, ◌+◌, ◌*◌, List, Err, inl, inr, subst, arith}
use Rattle.std.specs.Prelude.{None, Some}
use Rattle.std.proofs.lemmas.Result.{err_from_is_err_and}
use Rattle.zst_space.specs.FreeSectors.{FreeSectors}
use Rattle.zst_block.specs.Blocks.{Has}
use Rattle.zst_block.specs.IoStates.{disk_of}
use Rattle.zst_block.proofs.IoCallLemmas.{Looks-then}
use Rattle.zst_tree.proofs.Damage.{seen_before}
use Rattle.zst_tree.specs.Damage.{IsSeen}
use Rattle.zst_objset.proofs.LeafLaws.{look_on}
use Rattle.zst_objset.proofs.SetChangeLaws.{looks_told}
use Rattle.zst_objset.specs.Damage.{IfDamaged, IsLoaded, TellsLacking}
use Rattle.zst_objset.specs.Sets.{LeafIs}
use Rattle.zst_compare.specs.Agreement.{Compares}
use Rattle.zst_compare.specs.Damage.{IsDamagedInLeaf, IsDamagedInSlot, OfEither}
use Rattle.zst_compare.proofs.LeafSlots.{lacking_within, number_in, one_more, slot_read, slot_within}
use Rattle.zst_compare.proofs.Told.{damaged_up, either_up}
use Rattle.zst_compare.proofs.leaves.compare_leaves.Goals as goal

pub returns-in_err-load_slots-clause-compared : goal.returns-in_err-load_slots-clause-compared
returns-in_err-load_slots-clause-compared g c = λ was now honest lawful lawful_now later earlier.
    let p = err_from_is_err_and c.from_residual.result c.from_residual.ensures.1 in
    rw (p.1, p.2) (c.in_err-load_slots.ensures.slots now honest later)

pub returns-in_err-load_slots-2-clause-compared : goal.returns-in_err-load_slots-2-clause-compared
returns-in_err-load_slots-2-clause-compared g c = λ was now honest lawful lawful_now later earlier.
    let p = err_from_is_err_and c.from_residual-in_err-load_slots-2.result c.from_residual-in_err-load_slots-2.ensures.1 in
    let at = look_on {stop = None} (λ (seen : List ℕ) (space : FreeSectors). LeafIs (Has seen space) was c.args.leaf c.args.earlier) c.in_ok-load_slots.ensures.looks earlier in
    rw (p.1, p.2) (c.in_err-load_slots-2.ensures.slots was honest at)

pub returns-in_err-slot-clause-compared : goal.returns-in_err-slot-clause-compared
returns-in_err-slot-clause-compared g c = λ was now honest lawful lawful_now later earlier.
    let p = err_from_is_err_and c.from_residual-in_err-slot.result c.from_residual-in_err-slot.ensures.1 in
    let first = c.in_ok-load_slots-2.ensures.looks.reads.honest (c.loop-place.invariant.looks.reads.honest honest) in
    let held = c.in_ok-load_slots.ensures.slots now first later in
    rw (p.1, p.2) (c.in_err-slot.ensures.stands held.slots (rw c.replace-now.ensures.value held.spells))

pub returns-in_err-slot-clause-damaged : goal.returns-in_err-slot-clause-damaged
returns-in_err-slot-clause-damaged g c = λ honest.
    let p = err_from_is_err_and c.from_residual-in_err-slot.result c.from_residual-in_err-slot.ensures.1 in
    let first = c.in_ok-load_slots-2.ensures.looks.reads.honest (c.loop-place.invariant.looks.reads.honest honest) in
    let images = IsSeen (disk_of c.args.io.now).seen in
    let size = (disk_of c.args.io.now).size in
    let node = c.replace-now.result in
    let loaded : IsLoaded images c.args.later node = rw c.replace-now.ensures.value (c.in_ok-load_slots.ensures.loaded first) in
    let told = damaged_up {T = Unit {0}} (TellsLacking node c.args.later) (OfEither (IsDamagedInLeaf images size c.args.later) (IsDamagedInLeaf images size c.args.earlier)) (Err c.in_err-slot.field-0.0)
    (λ sector stated found lacks. inl (lacking_within images size c.args.later node loaded sector stated found lacks)) c.in_err-slot.ensures.damaged in
    rw (p.1, p.2) told

pub returns-in_err-slot-clause-looks : goal.returns-in_err-slot-clause-looks
returns-in_err-slot-clause-looks g c =
    let p = err_from_is_err_and c.from_residual-in_err-slot.result c.from_residual-in_err-slot.ensures.1 in
    rw (p.1, p.2) (looks_told c.in_err-slot.field-0.0 c.in_err-slot.ensures.told (Looks-then c.in_ok-load_slots.ensures.looks (Looks-then c.in_ok-load_slots-2.ensures.looks c.loop-place.invariant.looks)))

pub returns-in_err-other-clause-compared : goal.returns-in_err-other-clause-compared
returns-in_err-other-clause-compared g c = λ was now honest lawful lawful_now later earlier.
    let p = err_from_is_err_and c.from_residual-in_err-other.result c.from_residual-in_err-other.ensures.1 in
    let at = look_on {stop = None} (λ (seen : List ℕ) (space : FreeSectors). LeafIs (Has seen space) was c.args.leaf c.args.earlier) c.in_ok-load_slots.ensures.looks earlier in
    let held = c.in_ok-load_slots-2.ensures.slots was (c.loop-place.invariant.looks.reads.honest honest) at in
    rw (p.1, p.2) (c.in_err-other.ensures.stands held.slots (rw c.replace-was.ensures.value held.spells))

pub returns-in_err-other-clause-damaged : goal.returns-in_err-other-clause-damaged
returns-in_err-other-clause-damaged g c = λ honest.
    let p = err_from_is_err_and c.from_residual-in_err-other.result c.from_residual-in_err-other.ensures.1 in
    let images = IsSeen (disk_of c.args.io.now).seen in
    let size = (disk_of c.args.io.now).size in
    let node = c.replace-was.result in
    let read = seen_before {stop = None} c.in_ok-load_slots.ensures.looks (λ (seen : List ℕ) (size : ℕ). IsLoaded (IsSeen seen) c.args.earlier c.load_slots-2.new.io.node)
    (c.in_ok-load_slots-2.ensures.loaded (c.loop-place.invariant.looks.reads.honest honest)) in
    let loaded : IsLoaded images c.args.earlier node = rw c.replace-was.ensures.value read in
    let told = damaged_up {T = Unit {0}} (TellsLacking node c.args.earlier) (OfEither (IsDamagedInLeaf images size c.args.later) (IsDamagedInLeaf images size c.args.earlier)) (Err c.in_err-other.field-0.0)
    (λ sector stated found lacks. inr (lacking_within images size c.args.earlier node loaded sector stated found lacks)) c.in_err-other.ensures.damaged in
    rw (p.1, p.2) told

pub returns-in_err-other-clause-looks : goal.returns-in_err-other-clause-looks
returns-in_err-other-clause-looks g c =
    let p = err_from_is_err_and c.from_residual-in_err-other.result c.from_residual-in_err-other.ensures.1 in
    rw (p.1, p.2) (looks_told c.in_err-other.field-0.0 c.in_err-other.ensures.told (Looks-then c.in_ok-load_slots.ensures.looks (Looks-then c.in_ok-load_slots-2.ensures.looks c.loop-place.invariant.looks)))

pub returns-in_err-block-clause-compared : goal.returns-in_err-block-clause-compared
returns-in_err-block-clause-compared g c = λ was now honest lawful lawful_now later earlier.
    let p = err_from_is_err_and c.from_residual-in_err-block.result c.from_residual-in_err-block.ensures.1 in
    let second = c.in_ok-load_slots-2.ensures.looks in
    let read = c.loop-place.invariant.looks in
    let at_second = read.reads.honest (c.in_err-block.ensures.looks.reads.honest honest) in
    let number = number_in c.args.leaf c.loop-place.place c.first_place-place.result c.requires.leaf c.first_place-place.ensures.first (omega arith) (omega arith) in
    let held = c.in_ok-load_slots.ensures.slots now (second.reads.honest at_second) later in
    let had = c.in_ok-load_slots-2.ensures.slots was at_second (look_on {stop = None} (λ (seen : List ℕ) (space : FreeSectors). LeafIs (Has seen space) was c.args.leaf c.args.earlier) c.in_ok-load_slots.ensures.looks earlier) in
    let slot = slot_read (Looks-then c.in_ok-load_slots.ensures.looks (Looks-then second read)) now c.args.leaf c.loop-place.place c.load_slots.new.io.node c.replace-now.result c.in_ok-slot.slot
    held c.replace-now.ensures.value (omega arith) number c.in_ok-slot.ensures.stands in
    let other = slot_read (Looks-then second read) was c.args.leaf c.loop-place.place c.load_slots-2.new.io.node c.replace-was.result c.in_ok-other.other had c.replace-was.ensures.value (omega arith) number c.in_ok-other.ensures.stands in
    rw (p.1, p.2) (c.in_err-block.ensures.compared was now (16 * c.args.leaf + c.loop-place.place) honest lawful lawful_now slot other)

pub returns-in_err-block-clause-damaged : goal.returns-in_err-block-clause-damaged
returns-in_err-block-clause-damaged g c = λ honest.
    let p = err_from_is_err_and c.from_residual-in_err-block.result c.from_residual-in_err-block.ensures.1 in
    let first = c.in_ok-load_slots.ensures.looks in
    let second = c.in_ok-load_slots-2.ensures.looks in
    let read = c.loop-place.invariant.looks in
    let at_second = read.reads.honest (c.in_err-block.ensures.looks.reads.honest honest) in
    let images = IsSeen (disk_of c.args.io.now).seen in
    let size = (disk_of c.args.io.now).size in
    let slot = c.in_ok-slot.slot in
    let other = c.in_ok-other.other in
    let held : IsLoaded images c.args.later c.replace-now.result = rw c.replace-now.ensures.value (c.in_ok-load_slots.ensures.loaded (second.reads.honest at_second)) in
    let seen = seen_before {stop = None} first (λ (seen : List ℕ) (size : ℕ). IsLoaded (IsSeen seen) c.args.earlier c.load_slots-2.new.io.node) (c.in_ok-load_slots-2.ensures.loaded at_second) in
    let had : IsLoaded images c.args.earlier c.replace-was.result = rw c.replace-was.ensures.value seen in
    let told = seen_before {stop = None} (Looks-then first (Looks-then second read))
    (λ (seen : List ℕ) (size : ℕ). IfDamaged {T = Unit {0}} (Err c.in_err-block.field-0.0) (OfEither (IsDamagedInSlot (IsSeen seen) size slot) (IsDamagedInSlot (IsSeen seen) size other)))
    (c.in_err-block.ensures.damaged honest) in
    let up = either_up (IsDamagedInSlot images size slot) (IsDamagedInSlot images size other) (IsDamagedInLeaf images size c.args.later) (IsDamagedInLeaf images size c.args.earlier)
    (slot_within images size c.args.later c.replace-now.result c.loop-place.place slot held (omega arith) c.in_ok-slot.ensures.there)
    (slot_within images size c.args.earlier c.replace-was.result c.loop-place.place other had (omega arith) c.in_ok-other.ensures.there) in
    rw (p.1, p.2) (damaged_up {T = Unit {0}} (OfEither (IsDamagedInSlot images size slot) (IsDamagedInSlot images size other)) (OfEither (IsDamagedInLeaf images size c.args.later) (IsDamagedInLeaf images size c.args.earlier))
    (Err c.in_err-block.field-0.0) up told)

pub returns-in-Some-clause-compared : goal.returns-in-Some-clause-compared
returns-in-Some-clause-compared g c = λ was now honest lawful lawful_now later earlier.
    let second = c.in_ok-load_slots-2.ensures.looks in
    let read = c.loop-place.invariant.looks in
    let at_second = read.reads.honest (c.in_ok-block.ensures.looks.reads.honest honest) in
    let number = number_in c.args.leaf c.loop-place.place c.first_place-place.result c.requires.leaf c.first_place-place.ensures.first (omega arith) (omega arith) in
    let held = c.in_ok-load_slots.ensures.slots now (second.reads.honest at_second) later in
    let had = c.in_ok-load_slots-2.ensures.slots was at_second (look_on {stop = None} (λ (seen : List ℕ) (space : FreeSectors). LeafIs (Has seen space) was c.args.leaf c.args.earlier) c.in_ok-load_slots.ensures.looks earlier) in
    let slot = slot_read (Looks-then c.in_ok-load_slots.ensures.looks (Looks-then second read)) now c.args.leaf c.loop-place.place c.load_slots.new.io.node c.replace-now.result c.in_ok-slot.slot
    held c.replace-now.ensures.value (omega arith) number c.in_ok-slot.ensures.stands in
    let other = slot_read (Looks-then second read) was c.args.leaf c.loop-place.place c.load_slots-2.new.io.node c.replace-was.result c.in_ok-other.other had c.replace-was.ensures.value (omega arith) number c.in_ok-other.ensures.stands in
    let at = 16 * c.args.leaf + c.loop-place.place in
    let is : c.in_ok-block.field-0 ≡ Some c.in-Some.block = c.in-Some.is in
    (number, subst (Compares c.args.number was now at) is (c.in_ok-block.ensures.compared was now at honest lawful lawful_now slot other))

pub loop-place-preserved : goal.loop-place-preserved
loop-place-preserved g c = record {
  agree = λ was now honest lawful lawful_now later earlier.
      let second = c.in_ok-load_slots-2.ensures.looks in
      let read = c.loop-place.invariant.looks in
      let at_second = read.reads.honest (c.in_ok-block.ensures.looks.reads.honest honest) in
      let number = number_in c.args.leaf c.loop-place.place c.first_place-place.result c.requires.leaf c.first_place-place.ensures.first (omega arith) (omega arith) in
      let held = c.in_ok-load_slots.ensures.slots now (second.reads.honest at_second) later in
      let had = c.in_ok-load_slots-2.ensures.slots was at_second (look_on {stop = None} (λ (seen : List ℕ) (space : FreeSectors). LeafIs (Has seen space) was c.args.leaf c.args.earlier) c.in_ok-load_slots.ensures.looks earlier) in
      let slot = slot_read (Looks-then c.in_ok-load_slots.ensures.looks (Looks-then second read)) now c.args.leaf c.loop-place.place c.load_slots.new.io.node c.replace-now.result c.in_ok-slot.slot
      held c.replace-now.ensures.value (omega arith) number c.in_ok-slot.ensures.stands in
      let other = slot_read (Looks-then second read) was c.args.leaf c.loop-place.place c.load_slots-2.new.io.node c.replace-was.result c.in_ok-other.other
      had c.replace-was.ensures.value (omega arith) number c.in_ok-other.ensures.stands in
      let at = 16 * c.args.leaf + c.loop-place.place in
      one_more c.args.number was now c.args.leaf c.loop-place.place (c.loop-place.invariant.agree was now (c.in_ok-block.ensures.looks.reads.honest honest) lawful lawful_now later earlier)
      (λ is. subst (Compares c.args.number was now at) c.in_default.is (c.in_ok-block.ensures.compared was now at honest lawful lawful_now slot other));
  looks = Looks-then c.loop-place.invariant.looks c.in_ok-block.ensures.looks;
}

pub returns-clause-compared : goal.returns-clause-compared
returns-clause-compared g c = λ was now honest lawful lawful_now later earlier k is start under. c.loop-place.invariant.agree was now honest lawful lawful_now later earlier k is start (omega (arith, under))
