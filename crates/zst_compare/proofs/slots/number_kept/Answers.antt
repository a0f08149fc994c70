use Rattle.std.proofs.Common.{◌≡◌, Bool, subst}
use Rattle.std.specs.Prelude.{◌↔◌, IsTrue}
use Rattle.zst_block.specs.IoStates.{blocks_of, disk_of}
use Rattle.zst_dnode.specs.declared.slot.Slot.{Slot}
use Rattle.zst_dnode.specs.declared.slot.Slot.TheVariants.{There}
use Rattle.zst_model.specs.states.State.{attr_at}
use Rattle.zst_objset.specs.Dnodes.{SlotIs}
use Rattle.zst_tree.proofs.Results.{delivers_if}
use Rattle.zst_tree.specs.Damage.{IsSeen}
use Rattle.zst_compare.specs.Agreement.{NumberKept, NumberOther}
use Rattle.zst_compare.specs.Damage.{IsDamagedInSlot, IsDamagedSpill, OfEither}
use Rattle.zst_compare.proofs.ComparedSlots.{same_date, spill_up}
use Rattle.zst_compare.proofs.Told.{damaged_up, either_up}
use Rattle.zst_compare.proofs.slots.number_kept.Goals as goal

pub returns-else-was-later-clause-kept : goal.returns-else-was-later-clause-kept
returns-else-was-later-clause-kept g c = λ was now k honest first stands.
    let has = blocks_of c.args.io.now in
    let second = subst (λ (slot : Slot). SlotIs has was k slot) c.in-There.is stands in
    delivers_if (λ (same : Bool). IsTrue same ↔ (attr_at (was.state k) ≡ attr_at (now.state k)))
    (λ (kept : Bool). (IsTrue kept → NumberKept c.args.number was now k) × ((IsTrue kept → ⊥) → NumberOther c.args.number was now k)) c.same_attributes.result
    (λ same is. same_date has c.args.number was now k c.args.later.now c.in-There.was first second c.if-later-number.false c.if-was-later.false same is)
    (c.same_attributes.ensures.same now was k honest first second)

pub returns-else-was-later-clause-damaged : goal.returns-else-was-later-clause-damaged
returns-else-was-later-clause-damaged g c = λ honest.
    let images = IsSeen (disk_of c.args.io.now).seen in
    let size = (disk_of c.args.io.now).size in
    let one = IsDamagedSpill images size c.args.later.now.spill in
    let other = IsDamagedSpill images size c.in-There.was.spill in
    let more = IsDamagedInSlot images size (There c.args.later.now) in
    let further = IsDamagedInSlot images size (There c.in-There.was) in
    rw c.in-There.is (damaged_up (OfEither one other) (OfEither more further) c.same_attributes.result
    (either_up one other more further (spill_up images size c.args.later.now) (spill_up images size c.in-There.was))
    (c.same_attributes.ensures.damaged honest))
