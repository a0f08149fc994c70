use Rattle.std.proofs.Common.{ℕ, refl, subst}
use Rattle.std.specs.Prelude.{Option}
use Rattle.zst_dnode.specs.declared.slot.Slot.{Slot}
use Rattle.zst_traverse.specs.Slots.{FindsSlot, IsFirstSlot}
use Rattle.zst_traverse.proofs.Glances.{absent_shown}
use Rattle.zst_traverse.proofs.slots.glance_at.Goals as goal

pub returns-in-None-clause-shows : goal.returns-in-None-clause-shows
returns-in-None-clause-shows c = λ held spells.
    subst (λ (found : Option (ℕ × Slot)). FindsSlot held c.args.source c.args.from found) c.in-None.is (c.in_ok-late_slot.ensures.found held spells)

pub returns-in-Some-default-There-clause-shows : goal.returns-in-Some-default-There-clause-shows
returns-in-Some-default-There-clause-shows c = λ held spells.
    subst (λ (slot : Slot). IsFirstSlot held c.args.source c.args.from (c.in-Some-default-There.place, slot)) c.in-Some-default-There.field-0-1-is
    (subst (λ (found : Option (ℕ × Slot)). FindsSlot held c.args.source c.args.from found) c.in-Some-default-There.is (c.in_ok-late_slot.ensures.found held spells))

pub returns-in-Some-default-Absent-clause-shows : goal.returns-in-Some-default-Absent-clause-shows
returns-in-Some-default-Absent-clause-shows c = λ held spells.
    absent_shown held c.args.source c.args.leaf c.args.from c.in-Some-default-Absent.place c.gone_to.result _ _ c.in-Some-default-Absent.field-0-1-0
    (subst (λ (slot : Slot). IsFirstSlot held c.args.source c.args.from (c.in-Some-default-Absent.place, slot)) c.in-Some-default-Absent.field-0-1-is
    (subst (λ (found : Option (ℕ × Slot)). FindsSlot held c.args.source c.args.from found) c.in-Some-default-Absent.is (c.in_ok-late_slot.ensures.found held spells)))
    (c.gone_to.ensures.gone held spells) c.gone_to.ensures.range.0 c.gone_to.ensures.range.1 refl refl
