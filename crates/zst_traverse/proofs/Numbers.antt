-- What leaves show of the numbers in them.
use Rattle.std.proofs.Common.{◌≡◌, inl, inr, ⊎_elim, ℕ, ◌+◌, ◌-◌, ◌*◌, ◌/◌, ◌%◌, ◌^◌, ◌<◌, ◌≤◌, true, false, refl, sym, subst, arith}
use Rattle.std.specs.Prelude.{Option, None}
use Rattle.std.proofs.lemmas.Bool.{cases_lt}
use Rattle.std.proofs.lemmas.Bool.Decides.{nat_tests}
use Rattle.zst_block.specs.declared.ptr.Ptr.{Ptr}
use Rattle.zst_dnode.specs.declared.dnode.Dnode.{Dnode}
use Rattle.zst_dnode.specs.declared.slot.Slot.{Slot}
use Rattle.zst_dnode.specs.declared.slot.Slot.TheVariants as slots
use Rattle.zst_model.specs.sends.Inclusion.{includes_number, is_after}
use Rattle.zst_model.specs.states.DatedState.{DatedState}
use Rattle.zst_model.specs.states.State.{number_bound}
use Rattle.zst_tree.specs.Indices.{Blocks}
use Rattle.zst_tree.specs.declared.tree.ObjSet.{ObjSet}
use Rattle.zst_objset.proofs.LeafLaws.{hole_in, is_number_at}
use Rattle.zst_objset.specs.Dnodes.{IsAbsent, IsThereIn, SlotIn}
use Rattle.zst_objset.specs.Sets.{AreSlotsIn, IsLeafIn, LeafIn, SetIn}
use Rattle.zst_traverse.specs.Cells.{choice_after, IsNextGone, NoNumber}
use Rattle.zst_traverse.specs.Dates.{NoneLate}
use Rattle.zst_traverse.specs.Leaves.{ShowsAhead, StandsFor}
use Rattle.zst_traverse.specs.Slots.{AreEarly, AreGone, IsFirstSlot, ShowsAbsent}
use Rattle.zst_traverse.specs.declared.walk_entry.WalkEntry.TheVariants as found
use Rattle.zst_traverse.specs.declared.leaves.WalkStep.{WalkStep}
use Rattle.zst_traverse.specs.declared.leaves.WalkStep.TheVariants as ahead
use Rattle.zst_traverse.specs.declared.leaves.Leaf.{Leaf}
use Rattle.zst_traverse.proofs.Inclusion.{early_before, no_number}
use Rattle.zst_traverse.proofs.SlotDates.{absent_late, latest-bounds, latest_late, slot_early}

-- where no number before one is included, what is shown from that one on is shown from the first on
pub ahead_behind : (has : Blocks) (reads : ℕ → ℕ → Blocks) (snap : DatedState) (source : Option ℕ) (from number : ℕ) (shown : WalkStep) → from ≤ number → NoNumber snap (choice_after source) from number
    → ShowsAhead has reads snap (choice_after source) number shown → ShowsAhead has reads snap (choice_after source) from shown
ahead_behind has reads snap source from number (ahead.Next (found.Object at dnode)) over none next = record {
  from_on = let on = next.from_on in omega arith;
  none_before = λ k u l. ⊎_elim (λ before. none k u before) (λ behind. next.none_before k behind l) (cases_lt k number);
  included = next.included;
  is = next.is;
}
ahead_behind has reads snap source from number (ahead.Next (found.Gone first count)) over none next = record {
  from_on = let on = next.from_on in omega arith;
  some = next.some;
  under = next.under;
  none_before = λ k u l. ⊎_elim (λ before. none k u before) (λ behind. next.none_before k behind l) (cases_lt k number);
  included = next.included;
  absent = next.absent;
}
ahead_behind has reads snap source from number (ahead.Next (found.Pairs object first count what ptr)) over none next = next
ahead_behind has reads snap source from number (ahead.Nothing below) over none next = λ k u l. ⊎_elim (λ before. none k u before) (λ behind. next k behind l) (cases_lt k number)

module _ (has : Blocks) (reads : ℕ → ℕ → Blocks) (snap : DatedState) (source : Option ℕ) where
  -- the slots of a leaf
  module _ (leaf : ℕ) (held : ℕ → Slot) (are : AreSlotsIn has reads snap leaf held) (less : leaf < 2 ^ 44) where
    slot_is : (place : ℕ) → place < 16 → 0 < 16 * leaf + place → SlotIn has reads snap (16 * leaf + place) (held place)
    slot_is place under some = are.numbers place under (is_number_at (16 * leaf + place) some (omega arith))

    -- where no slot tells a late date, no number is included
    pub early_in : (place below : ℕ) → below ≤ 16 → 0 < 16 * leaf + place → AreEarly held source place below → NoNumber snap (choice_after source) (16 * leaf + place) (16 * leaf + below)
    early_in place below most some early k over under =
        let at = k - 16 * leaf in
        let split : 16 * leaf + at ≡ k = omega arith in
        subst (λ (n : ℕ). includes_number snap (choice_after source) n ≡ false) split
        (slot_early has reads snap source (16 * leaf + at) (held at) (slot_is at (omega arith) (omega arith)) (early at (omega arith) (omega arith)))

    -- an object that a glance shows
    pub there_in : (from place : ℕ) (dnode : Dnode) → 0 < 16 * leaf + from → IsFirstSlot held source from (place, slots.There dnode) → IsThereIn has reads snap (16 * leaf + place) dnode
    there_in from place dnode some first = subst (SlotIn has reads snap (16 * leaf + place)) first.is (slot_is place first.under (let over = first.from_on in omega arith))

    -- absent numbers that it shows
    gone_at : (place below k : ℕ) → below ≤ 16 → 0 < 16 * leaf + place → AreGone held source place below → 16 * leaf + place ≤ k → k < 16 * leaf + below → (includes_number snap (choice_after source) k ≡ true) × (snap.state k ≡ None)
    gone_at place below k most some gone over under =
        let at = k - 16 * leaf in
        let split : 16 * leaf + at ≡ k = omega arith in
        let one = gone at (omega arith) (omega arith) in
        let is : IsAbsent snap (16 * leaf + at) one.0 = subst (SlotIn has reads snap (16 * leaf + at)) one.1 (slot_is at (omega arith) (omega arith)) in
        let number = is_number_at (16 * leaf + at) (omega arith) (omega arith) in
        subst (λ (n : ℕ). (includes_number snap (choice_after source) n ≡ true) × (snap.state n ≡ None)) split
        (absent_late has reads snap source (16 * leaf + at) one.0 number is one.2, is.none)

    pub gone_in : (from first count : ℕ) → 0 < 16 * leaf + from → ShowsAbsent held source leaf from first count → IsNextGone snap (choice_after source) (16 * leaf + from) first count
    unfolding number_bound
    gone_in from first count some shows =
        let over = shows.from_on in
        let under = shows.under in
        subst (λ (n : ℕ). IsNextGone snap (choice_after source) (16 * leaf + from) n count) (sym shows.first_is) (record {
          from_on = omega arith;
          some = shows.some;
          under = omega arith;
          none_before = early_in from shows.place (omega arith) some shows.none_before;
          included = λ k u l. (gone_at shows.place (shows.place + count) k under (omega arith) shows.gone u (omega arith)).0;
          absent = λ k u l. (gone_at shows.place (shows.place + count) k under (omega arith) shows.gone u (omega arith)).1;
        })

  -- in leaves that a hole stands for each number is absent since its date
  module _ (leaf : Leaf) (hole : leaf.ptr.kind ≡ 0) (stands : StandsFor has reads snap leaf) where
    absent_at : (k : ℕ) → 0 < k → 16 * leaf.index ≤ k → k < 16 * (leaf.index + leaf.count) → k < 2 ^ 48 → IsAbsent snap k leaf.ptr.number
    absent_at k some over under less =
        let j = k / 16 in
        let place = k % 16 in
        let split : 16 * j + place ≡ k = omega arith in
        let is = hole_in has reads snap j leaf.ptr (stands j (omega arith) (omega arith) (omega arith)) hole in
        subst (λ (n : ℕ). IsAbsent snap n leaf.ptr.number) split (is.absent place (omega arith) (is_number_at (16 * j + place) (omega arith) (omega arith)))

    pub hole_late : (from below : ℕ) → 0 < from → 16 * leaf.index ≤ from → from < below → below ≤ 16 * (leaf.index + leaf.count) → below ≤ 2 ^ 48 → is_after source leaf.ptr.number ≡ true
        → (count : ℕ) → count ≡ below - from → IsNextGone snap (choice_after source) from from count
    unfolding number_bound
    hole_late from below some over order under less late count is = record {
      from_on = omega arith;
      some = omega arith;
      under = omega arith;
      none_before = λ k u l. absurd (omega arith);
      included = λ k u l. absent_late has reads snap source k leaf.ptr.number (is_number_at k (omega arith) (omega arith)) (absent_at k (omega arith) (omega arith) (omega arith) (omega arith)) late;
      absent = λ k u l. (absent_at k (omega arith) (omega arith) (omega arith) (omega arith)).none;
    }

    pub hole_early : (from below : ℕ) → 0 < from → 16 * leaf.index ≤ from → below ≤ 16 * (leaf.index + leaf.count) → below ≤ 2 ^ 48 → is_after source leaf.ptr.number ≡ false → NoNumber snap (choice_after source) from below
    hole_early from below some over under less early k u l =
        slot_early has reads snap source k (slots.Absent leaf.ptr.number) (absent_at k (omega arith) (omega arith) (omega arith) (omega arith)) early

  -- where a leaf's pointer isn't late, none of its numbers is included
  leaf_early : (j : ℕ) (ptr : Ptr) → j < 2 ^ 44 → LeafIn has reads snap j ptr → is_after source ptr.number ≡ false → (s : ℕ) → s < 16 → 0 < 16 * j + s → includes_number snap (choice_after source) (16 * j + s) ≡ false
  leaf_early j ptr less (inl hole) early s under some =
      slot_early has reads snap source (16 * j + s) (slots.Absent ptr.number) (hole.absent s under (is_number_at (16 * j + s) some (omega arith))) early
  leaf_early j ptr less (inr leaf) early s under some =
      slot_early has reads snap source (16 * j + s) (leaf.slots s) (leaf.slots_are.numbers s under (is_number_at (16 * j + s) some (omega arith)))
      (early_before source _ ptr.number (omega (arith, latest-bounds leaf.slots 16 s under, leaf.names.number)) early)

  -- a leaf of a late pointer has a late slot
  pub leaf_late : (j : ℕ) (ptr : Ptr) (is : IsLeafIn has reads snap j ptr) → is_after source ptr.number ≡ true → AreEarly is.slots source 0 16 → ⊥
  leaf_late j ptr is late early = latest_late is.slots source (subst (λ (n : ℕ). is_after source n ≡ true) is.names.number late) early

  -- no number is included below the first leaf of a late pointer
  pub leaves_early : (set : ObjSet) (holds : SetIn has reads set snap) (from below : ℕ) → 0 < from → below ≤ 2 ^ 44 → NoneLate holds.map source (from / 16) below → NoNumber snap (choice_after source) from (16 * below)
  leaves_early set holds from below some less none k over under =
      let j = k / 16 in
      let s = k % 16 in
      let split : 16 * j + s ≡ k = omega arith in
      subst (λ (n : ℕ). includes_number snap (choice_after source) n ≡ false) split
      (leaf_early j (holds.map j) (omega arith) (holds.leaves j (omega arith)) (none j (omega arith) (omega arith)) s (omega arith) (omega arith))

  -- past the last number none is
  pub none_past : (k : ℕ) → 2 ^ 48 ≤ k → includes_number snap (choice_after source) k ≡ false
  unfolding number_bound
  none_past k over = no_number snap source k (grind (arith, nat_tests))

  pub none_at_zero : includes_number snap (choice_after source) 0 ≡ false
  none_at_zero = no_number snap source 0 refl

-- a number in a leaf that is a hole is absent
pub hole_none : (has : Blocks) (reads : ℕ → ℕ → Blocks) (snap : DatedState) (leaf : ℕ) (ptr : Ptr) (k : ℕ) → leaf ≡ k / 16 → 0 < k → k < 2 ^ 48 → LeafIn has reads snap leaf ptr → ptr.kind ≡ 0 → snap.state k ≡ None
hole_none has reads snap leaf ptr k at some less is hole =
    let place = k % 16 in
    let split : 16 * leaf + place ≡ k = omega arith in
    subst (λ (n : ℕ). snap.state n ≡ None) split ((hole_in has reads snap leaf ptr is hole).absent place (omega arith) (is_number_at (16 * leaf + place) (omega arith) (omega arith))).none
