-- The tests of dating decide which numbers and indices an item dates.
use Rattle.std.proofs.Common.{◌≡◌, ℕ, ◌+◌, ◌*◌, ◌<◌, ◌≤◌, Bool, true, false, Option, Some, None, Ok, refl, inl, inr, ◌==◌, nat_lt, nat_le, ◌&&◌, if◌then◌else◌}
use Rattle.std.specs.Bool.{Decides}
use Rattle.std.proofs.lemmas.Bool.{false≢true, and_parts, leb-true, le-leb}
use Rattle.std.proofs.lemmas.Bool.Decides.{Decides-eqb, Decides-ltb, Decides-and, Decides-not}
use Rattle.zst_model.specs.declared.states.item.Change.{Change}
use Rattle.zst_model.specs.declared.states.item.Change.TheVariants.{Put, Spill, FreeFrom, Free, Redact, Write}
use Rattle.zst_model.specs.declared.states.item.Item.{Item}
use Rattle.zst_model.specs.declared.states.item.Item.TheVariants.{FreeObjects, At}
use Rattle.zst_model.specs.states.State.{State, Object, is_number, number_bound, index_bound}
use Rattle.zst_model.specs.states.AppliedItems.{apply, apply_change, within}
use Rattle.zst_model.specs.states.DatedState.{dates_index, touches_number, touches_index}
use Rattle.zst_model.proofs.Results.{bind_ok}
use Rattle.zst_laws.specs.Dates.{IsInRange, DatesNumber, DatesPlace, DatesIndex, DateIs, DatesAreExact}
use Rattle.zst_laws.proofs.histories.Dates.{dates_exact, dated_parts}

Decides-leb : (a b : ℕ) → Decides (nat_le a b) (a ≤ b)
Decides-leb a b = (leb-true a b, le-leb a b)

-- ranges and numbers
decides_within : (first count n : ℕ) → Decides (within first count n) (IsInRange first count n)
decides_within first count n = Decides-and (nat_le first n) (nat_lt n (first + count)) (Decides-leb first n) (Decides-ltb n (first + count))

decides_numbers : (first count k : ℕ) → Decides (within first count k && is_number k) (IsInRange first count k × ((0 < k) × (k < number_bound)))
decides_numbers first count k =
    Decides-and (within first count k) (is_number k) (decides_within first count k)
    (Decides-and (nat_lt 0 k) (nat_lt k number_bound) (Decides-ltb 0 k) (Decides-ltb k number_bound))

-- a test beside one that always passes, or never
own_number : (k j : ℕ) → Decides ((k == j) && true) (k ≡ j)
own_number k j =
    let same = Decides-eqb k j in
    (λ both. same.0 (and_parts (k == j) true both).0, λ e. rw (same.1 e) refl)

no_number : (k j : ℕ) → Decides ((k == j) && false) ⊥
no_number k j = (λ both. false≢true (and_parts (k == j) false both).1, λ never. absurd never)

decides_number : (item : Item) (k : ℕ) → Decides (touches_number item k) (DatesNumber item k)
decides_number (FreeObjects first count) k = decides_numbers first count k
decides_number (At j (Put head bonus keep_spill max_block)) k = own_number k j
decides_number (At j (Spill bytes)) k = own_number k j
decides_number (At j (FreeFrom offset)) k = no_number k j
decides_number (At j (Free offset length)) k = no_number k j
decides_number (At j (Redact offset length)) k = no_number k j
decides_number (At j (Write offset type bytes)) k = no_number k j

-- a change that applies dates these places of what stands there
decides_place : (change : Change) (object made : Option Object) (i : ℕ) → apply_change change object ≡ Ok made → Decides (dates_index change object i) (DatesPlace change object i)
unfolding apply_change
decides_place (Put head bonus keep_spill max_block) None made i h = (λ e. tt, λ e. refl)
decides_place (Put head bonus keep_spill max_block) (Some object) made i h = Decides-not (object.attr.block_size == head.block_size) (Decides-eqb object.attr.block_size head.block_size)
decides_place (Spill bytes) object made i h = (λ e. false≢true e, λ e. absurd e)
decides_place (FreeFrom offset) None made i h = absurd (cc)
decides_place (FreeFrom offset) (Some object) made i h = Decides-leb offset (i * object.attr.block_size)
decides_place (Free offset length) None made i h = absurd (cc)
decides_place (Free offset length) (Some object) made i h = decides_within offset length (i * object.attr.block_size)
decides_place (Redact offset length) None made i h = absurd (cc)
decides_place (Redact offset length) (Some object) made i h = decides_within offset length (i * object.attr.block_size)
decides_place (Write offset type bytes) None made i h = absurd (cc)
decides_place (Write offset type bytes) (Some object) made i h = Decides-eqb (i * object.attr.block_size) offset

decides_index : (item : Item) (state after : State) (k i : ℕ) → apply item state ≡ Ok after → Decides (touches_index item state k i) (DatesIndex item state k i)
unfolding apply
decides_index (FreeObjects first count) state after k i h =
    Decides-and (within first count k && is_number k) (nat_lt i index_bound) (decides_numbers first count k) (Decides-ltb i index_bound)
decides_index (At j change) state after k i h =
    let made = bind_ok (apply_change change (state j)) _ after h in
    Decides-and ((k == j) && dates_index change (state j) i) (nat_lt i index_bound)
    (Decides-and (k == j) (dates_index change (state j) i) (Decides-eqb k j) (decides_place change (state j) made.0 i made.1)) (Decides-ltb i index_bound)

date_is : (t : Bool) (Dated : Type 0) (number old new : ℕ) → Decides t Dated → new ≡ (if t then number else old) → DateIs Dated number old new
date_is true Dated number old new decides e = inl (decides.0 refl, e)
date_is false Dated number old new decides e = inr (λ dated. false≢true (decides.1 dated), e)

pub dates_are_exact : DatesAreExact
dates_are_exact number item snap after h =
    let dates = dates_exact number item snap after h in
    let applied = (dated_parts number item snap after h).0 in (
      λ k. date_is (touches_number item k) (DatesNumber item k) number (snap.number_date k) (after.number_date k) (decides_number item k) (dates.0 k),
      λ k i.
          date_is (touches_index item snap.state k i) (DatesIndex item snap.state k i) number (snap.index_date k i) (after.index_date k i)
          (decides_index item snap.state after.state k i applied) (dates.1 k i),
    )
