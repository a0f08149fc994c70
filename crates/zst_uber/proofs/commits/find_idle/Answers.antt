use Rattle.std.proofs.Common.{◌≡◌, List, ℕ, slice_index, refl, sym, ◌∙◌, ap, subst}
use Rattle.std.specs.Prelude.{◌↔◌, IsTrue}
use Rattle.zst_uber.specs.Slots.{gate_of, latest_slot, other}
use Rattle.zst_uber.specs.declared.body_slot.BodySlot.{BodySlot}
use Rattle.zst_uber.specs.declared.body_slot.BodySlot.TheVariants.{First, Second}
use Rattle.zst_uber.proofs.SlotsLaws.{gate_in_front, latest_slot_in_front}
use Rattle.zst_uber.proofs.commits.find_idle.Goals as goal

other_twice : (t : BodySlot) → other (other t) ≡ t
other_twice First = refl
other_twice Second = refl

pub returns-clause-idle : goal.returns-clause-idle
returns-clause-idle g c = λ told.
    let seen = (g.D.Disk.state c.args.disk.now).seen in
    sym (latest_slot_in_front seen)
    ∙ sym (ap (λ (front : List ℕ). latest_slot front) (c.in_ok-count.ensures.bytes told))
    ∙ sym c.latest_in-slot.ensures.slot
    ∙ sym (other_twice _)
    ∙ ap (λ (t : BodySlot). other t) (sym c.other-idle.ensures)

pub returns-clause-gate : goal.returns-clause-gate
returns-clause-gate g c = λ told.
    let seen = (g.D.Disk.state c.args.disk.now).seen in
    let same = sym (gate_in_front c.other-idle.result seen) ∙ sym (ap (λ (front : List ℕ). gate_of front c.other-idle.result) (c.in_ok-count.ensures.bytes told)) in
    subst (λ (gate : List ℕ). IsTrue c.is_open.result ↔ (slice_index gate 0 ≡ 165)) (sym same) c.is_open.ensures
