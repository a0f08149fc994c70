-- The absent numbers that a glance shows.
use Rattle.std.proofs.Common.{◌≡◌, ⊎_elim, ℕ, ◌+◌, ◌-◌, ◌*◌, ◌<◌, ◌≤◌, ◌∙◌, ap, arith}
use Rattle.std.specs.Prelude.{Option}
use Rattle.std.proofs.lemmas.Bool.{cases_lt}
use Rattle.zst_dnode.specs.declared.slot.Slot.{Slot}
use Rattle.zst_dnode.specs.declared.slot.Slot.TheVariants as slots
use Rattle.zst_traverse.specs.Slots.{AreGone, IsFirstSlot, ShowsAbsent}

pub absent_shown : (held : ℕ → Slot) (source : Option ℕ) (leaf from place below first count date : ℕ) → IsFirstSlot held source from (place, slots.Absent date) → AreGone held source (place + 1) below → place < below → below ≤ 16
    → first ≡ 16 * leaf + place → count ≡ below - place → ShowsAbsent held source leaf from first count
absent_shown held source leaf from place below first count date found gone order most first_is count_is = record {
  place = place;
  first_is = first_is;
  from_on = found.from_on;
  some = omega arith;
  under = omega arith;
  none_before = found.none_before;
  gone = λ p over under. ⊎_elim
      (λ here. let same : p ≡ place = omega arith in (date, ap held same ∙ found.is, found.late))
      (λ behind. gone p behind (omega arith))
      (cases_lt p (place + 1));
}
