-- What a look ahead in a set shows of its numbers.
use Rattle.std.proofs.Common.{◌≡◌, ℕ, ◌+◌, ◌*◌, ◌/◌, ◌%◌, ◌-◌, ◌^◌, ◌<◌, ◌≤◌, false, List, sym, subst, arith, ⊎_elim}
use Rattle.std.specs.Prelude.{None}
use Rattle.std.proofs.lemmas.Bool.{cases_lt, false≢true}
use Rattle.zst_block.specs.declared.ptr.Ptr.{Ptr}
use Rattle.zst_dnode.specs.declared.slot.Slot.{Slot}
use Rattle.zst_dnode.specs.declared.slot.Slot.TheVariants.{Absent, There}
use Rattle.zst_model.specs.states.DatedState.{DatedState}
use Rattle.zst_model.specs.states.State.{number_bound}
use Rattle.zst_tree.specs.Lookups.{Shows}
use Rattle.zst_tree.specs.Indices.{Blocks}
use Rattle.zst_tree.specs.declared.tree.ObjSet.{ObjSet}
use Rattle.zst_objset.specs.Damage.{LacksSlot}
use Rattle.zst_objset.specs.Dnodes.{SlotIs}
use Rattle.zst_objset.specs.Searches.{AreEmpty, HasNone, ShowsAhead, ShowsSlots}
use Rattle.zst_objset.specs.Sets.{is_there, HasSlots, LeafIs, SetHolds, Spells}
use Rattle.zst_objset.specs.declared.searches.SearchStep.{SearchStep}
use Rattle.zst_objset.specs.declared.searches.SearchStep.TheVariants.{Object, Nothing}
use Rattle.zst_objset.proofs.LeafLaws.{hole_of_leaf, is_number_at}

-- a slot without an object stands for none
none_of : (has : Blocks) (state : DatedState) (k : ℕ) (slot : Slot) → is_there slot ≡ false → SlotIs has state k slot → state.state k ≡ None
none_of has state k (Absent date) empty is = is.none
none_of has state k (There dnode) empty is = absurd (false≢true (sym empty))

module _ (has : Blocks) (state : DatedState) (leaf : ℕ) (bytes : List ℕ) (slots : HasSlots has state leaf bytes) (less : leaf < 2 ^ 44) where
  slot_is : (place : ℕ) → place < 16 → 0 < 16 * leaf + place → SlotIs has state (16 * leaf + place) (slots.slots place)
  slot_is place under some = slots.slots_are.numbers place under (is_number_at (16 * leaf + place) some (omega arith))

  -- where the slots of a leaf are empty, its numbers have no object
  none_in : (from below : ℕ) → below ≤ 16 → 0 < 16 * leaf + from → AreEmpty slots.slots from below → HasNone state (16 * leaf + from) (16 * leaf + below)
  none_in from below most some empty k from_on under =
      let place = k - 16 * leaf in
      let split : 16 * leaf + place ≡ k = omega arith in
      subst (λ (n : ℕ). state.state n ≡ None) split
      (none_of has state (16 * leaf + place) (slots.slots place) (empty place (omega arith) (omega arith)) (slot_is place (omega arith) (omega arith)))

  -- what the slots show is so of the numbers
  slots_shown : (from : ℕ) (ahead : SearchStep) → from < 16 → 0 < 16 * leaf + from → ShowsSlots slots.slots leaf from ahead → ShowsAhead has state (16 * leaf + from) ahead
  slots_shown from (Object number dnode) inside some first = subst (λ (n : ℕ). ShowsAhead has state (16 * leaf + from) (Object n dnode)) (sym first.number_is) (record {
    from_on = let over = first.from_on in omega arith;
    none_before = none_in from first.place (let under = first.under in omega arith) some first.none_before;
    is = subst (SlotIs has state (16 * leaf + first.place)) first.there (slot_is first.place first.under (let over = first.from_on in omega arith));
  })
  slots_shown from (Nothing below) inside some empty = subst (λ (n : ℕ). HasNone state (16 * leaf + from) n) (sym empty.0) (none_in from 16 (omega arith) some empty.1)

-- and so from each of its numbers on
pub from_shown : (has : Blocks) (state : DatedState) (from : ℕ) (bytes : List ℕ) (slots : HasSlots has state (from / 16) bytes) (ahead : SearchStep) → 0 < from → from < 2 ^ 48 → ShowsSlots slots.slots (from / 16) (from % 16) ahead → ShowsAhead has state from ahead
from_shown has state from bytes slots ahead some less shows =
    let split : 16 * (from / 16) + from % 16 ≡ from = omega arith in
    subst (λ (n : ℕ). ShowsAhead has state n ahead) split (slots_shown has state (from / 16) bytes slots (omega arith) (from % 16) ahead (omega arith) (omega arith) shows)

-- slots that are spelled aren't lacking
pub lacks_none : (bytes : List ℕ) (slots : ℕ → Slot) → Spells bytes slots → LacksSlot bytes → ⊥
lacks_none bytes slots spells lacks = lacks.none (slots lacks.place) (record { fits = spells.fits lacks.place lacks.under; spelled = spells.spelled lacks.place lacks.under })

-- what is shown of a leaf is a leaf of the set
pub leaf_shown : (has : Blocks) (set : ObjSet) (state : DatedState) (holds : SetHolds has set state) (leaf count : ℕ) (ptr : Ptr) → leaf < 2 ^ 44 → Shows holds.map leaf (ptr, count) → LeafIs has state leaf ptr
leaf_shown has set state holds leaf count ptr less shows =
    let some = shows.some in
    subst (λ (p : Ptr). LeafIs has state leaf p) (shows.same leaf (omega arith) (omega arith) less) (holds.leaves leaf less)

-- in a run of holes no number has an object, and past the last number there is none
pub hole_shown : (has : Blocks) (set : ObjSet) (state : DatedState) (holds : SetHolds has set state) (from count : ℕ) (ptr : Ptr) → 0 < from → from < 2 ^ 48 → ptr.kind ≡ 0 → Shows holds.map (from / 16) (ptr, count) → HasNone state from (16 * (from / 16 + count))
unfolding number_bound
hole_shown has set state holds from count ptr some less hole shows k from_on under = ⊎_elim inside past (cases_lt k (2 ^ 48))
  where
    inside : k < 2 ^ 48 → state.state k ≡ None
    inside small =
        let leaf = k / 16 in
        let place = k % 16 in
        let split : 16 * leaf + place ≡ k = omega arith in
        let same = shows.same leaf (omega arith) (omega arith) (omega arith) in
        let is = hole_of_leaf has state leaf ptr (subst (λ (p : Ptr). LeafIs has state leaf p) same (holds.leaves leaf (omega arith))) hole in
        subst (λ (n : ℕ). state.state n ≡ None) split (is.absent place (omega arith) (is_number_at (16 * leaf + place) (omega arith) (omega arith))).none

    past : 2 ^ 48 ≤ k → state.state k ≡ None
    past over = holds.lawful.bounded k (omega arith)
