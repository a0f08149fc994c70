-- What is next at a point, from what is found of its object and of the numbers behind it.
use Rattle.std.proofs.Common.{◌≡◌, ◌⊎◌, inl, inr, ℕ, ◌+◌, ◌^◌, ◌≤◌, max, Bool, true, false, refl, sym, ◌∙◌, ap, subst, arith, List, ◌*◌, ◌/◌, ◌%◌, ◌<◌, nat_lt, ⊎_elim, ◌||◌}
use Rattle.std.specs.Prelude.{Option, Some, None, Result, Ok, Err, IfOk, IfSome}
use Rattle.std.proofs.lemmas.Bool.{false≢true, and_left, le-ltb, cases_lt}
use Rattle.zst_block.specs.declared.fault.BlockFault.{BlockFault}
use Rattle.zst_dnode.specs.declared.dnode.Dnode.{Dnode}
use Rattle.zst_model.specs.declared.sends.header.Point.{Point}
use Rattle.zst_model.specs.sends.Inclusion.{includes_number, Choice, includes_pair, any_below, is_after, is_late_pair}
use Rattle.zst_model.specs.states.DatedState.{DatedState}
use Rattle.zst_model.specs.states.State.{IsState, Object, end_at, number_bound, is_number, index_bound}
use Rattle.zst_tree.specs.Indices.{Blocks}
use Rattle.zst_objset.specs.Dnodes.{DnodeAtIn, DnodeIn, IsThereIn, SlotIn}
use Rattle.zst_traverse.specs.Cells.{first_number, IsNextCellIn, NoneLeft, NoNumber}
use Rattle.zst_traverse.specs.Leaves.{FindsNumber}
use Rattle.zst_traverse.specs.Runs.{RunFits}
use Rattle.zst_traverse.specs.declared.walk_entry.WalkEntry.{WalkEntry}
use Rattle.zst_traverse.specs.declared.walk_entry.WalkEntry.TheVariants as found
use Rattle.zst_traverse.specs.declared.pairs.Run.{Run}
use Rattle.zst_objset.specs.Sets.{HasSlotsIn}
use Rattle.zst_dnode.specs.Slot.{slot_bytes, SlotFits}
use Rattle.zst_dnode.specs.declared.slot.Slot.{Slot}
use Rattle.zst_bytes.specs.Bytes.{bytes_at}
use Rattle.zst_objset.proofs.LeafLaws.{is_number_at}
use Rattle.zst_dnode.specs.declared.slot.Slot.TheVariants as slots

-- the slot of a number, in the leaf of its index
pub slot_at : (has : Blocks) (reads : ℕ → ℕ → Blocks) (snap : DatedState) (k : ℕ) (bytes found : List ℕ) (slot : Slot) → 0 < k → k < 2 ^ 48 → HasSlotsIn has reads snap (k / 16) bytes → found ≡ bytes
    → ((other : Slot) → SlotFits other → bytes_at found (512 * (k % 16)) 512 ≡ slot_bytes other → Some slot ≡ Some other) → SlotIn has reads snap k slot
slot_at has reads snap k bytes found slot some less slots same back =
    let split : 16 * (k / 16) + k % 16 ≡ k = omega arith in
    let small : k % 16 < 16 = omega arith in
    let is = back (slots.slots (k % 16)) (slots.spells.fits (k % 16) small) (ap (λ (b : List ℕ). bytes_at b (512 * (k % 16)) 512) same ∙ slots.spells.spelled (k % 16) small) in
    let slot_is : slots.slots (k % 16) ≡ slot = cc in
    subst (λ (n : ℕ). SlotIn has reads snap n slot) split
    (subst (SlotIn has reads snap (16 * (k / 16) + k % 16)) slot_is
    (slots.slots_are.numbers (k % 16) small (subst (λ (n : ℕ). is_number n ≡ true) (sym split) (is_number_at k some less))))

pub no_slot_at : (has : Blocks) (reads : ℕ → ℕ → Blocks) (snap : DatedState) (k : ℕ) (bytes found : List ℕ) → HasSlotsIn has reads snap (k / 16) bytes → found ≡ bytes
    → ((other : Slot) → SlotFits other → bytes_at found (512 * (k % 16)) 512 ≡ slot_bytes other → ⊥) → ⊥
no_slot_at has reads snap k bytes found slots same isnt =
    let small : k % 16 < 16 = omega arith in
    isnt (slots.slots (k % 16)) (slots.spells.fits (k % 16) small) (ap (λ (b : List ℕ). bytes_at b (512 * (k % 16)) 512) same ∙ slots.spells.spelled (k % 16) small)

pub none_at : (has : Blocks) (reads : ℕ → ℕ → Blocks) (snap : DatedState) (k : ℕ) → snap.state k ≡ None → DnodeIn has reads snap k None
none_at has reads snap k none = rw none tt

pub absent_in_slot : (has : Blocks) (reads : ℕ → ℕ → Blocks) (snap : DatedState) (k date : ℕ) (slot : Slot) → slot ≡ slots.Absent date → SlotIn has reads snap k slot → DnodeIn has reads snap k None
absent_in_slot has reads snap k date slot is found = none_at has reads snap k (subst (SlotIn has reads snap k) is found).none

pub there_in_slot : (has : Blocks) (reads : ℕ → ℕ → Blocks) (snap : DatedState) (k : ℕ) (dnode : Dnode) (slot : Slot) → slot ≡ slots.There dnode → SlotIn has reads snap k slot → DnodeIn has reads snap k (Some dnode)
there_in_slot has reads snap k dnode slot is found = let there = subst (SlotIn has reads snap k) is found in rw there.there (there.map, there.is)

-- a dnode that is found is that of an object that is there
pub there_of : (has : Blocks) (reads : ℕ → ℕ → Blocks) (snap : DatedState) (k : ℕ) (dnode : Dnode) → DnodeIn has reads snap k (Some dnode) → IsThereIn has reads snap k dnode
there_of has reads snap k dnode is = go (snap.state k) refl is
  where
    go : (object : Option Object) → snap.state k ≡ object → DnodeAtIn has (reads k) object (snap.number_date k) (snap.index_date k) (Some dnode) → IsThereIn has reads snap k dnode
    go None e at = absurd at
    go (Some object) e (map, is) = record { object = object; there = e; map = map; is = is }

-- nothing is at a number of which no dnode is found, and no pair of it is included
pub nothing_at : (has : Blocks) (reads : ℕ → ℕ → Blocks) (snap : DatedState) (k : ℕ) → DnodeIn has reads snap k None → snap.state k ≡ None
nothing_at has reads snap k is = go (snap.state k) refl is
  where
    go : (object : Option Object) → snap.state k ≡ object → DnodeAtIn has (reads k) object (snap.number_date k) (snap.index_date k) None → snap.state k ≡ None
    go None e at = e
    go (Some object) e at = absurd at

pub no_pair_of : (snap : DatedState) (choice : Choice) (k : ℕ) → snap.state k ≡ None → (i : ℕ) → includes_pair snap choice k i ≡ false
no_pair_of snap choice k none i = and_left (nat_lt i (end_at (snap.state k))) _ (le-ltb i (end_at (snap.state k)) (let zero : end_at (snap.state k) ≡ 0 = ap end_at none in omega arith))

-- a run below an end is below what bounds the end
pub runs_fit : (end bound : ℕ) → end ≤ bound → (result : Result (Option Run) BlockFault) → IfOk result (λ found. IfSome found (RunFits 0 end)) → IfOk result (λ found. IfSome found (RunFits 0 bound))
runs_fit end bound less (Ok None) fits = tt
runs_fit end bound less (Ok (Some run)) fits = (fits.0, fits.1, let under : run.first + run.count ≤ end = fits.2 in omega arith)
runs_fit end bound less (Err fault) fits = tt

-- no object has the number 0, and it isn't included
zero_passed : (snap : DatedState) (choice : Choice) → includes_number snap choice 0 ≡ false
unfolding includes_number
zero_passed snap choice = and_left (is_number 0) (is_after choice.from (snap.number_date 0) || any_below (λ i. includes_pair snap choice 0 i || is_late_pair snap choice 0 i) index_bound) refl

module _ (has : Blocks) (reads : ℕ → ℕ → Blocks) (snap : DatedState) (choice : Choice) (point : Point) where
  -- what is found of the numbers is next where no index of the point's object is left
  pub numbers_next : (slot : Bool) → NoneLeft snap choice point slot → (result : Option WalkEntry) → FindsNumber has reads snap choice (first_number point slot) result → IsNextCellIn has reads snap choice point slot result
  numbers_next slot left None next = (left, next)
  numbers_next slot left (Some (found.Object number dnode)) next = (left, next)
  numbers_next slot left (Some (found.Gone first count)) next = (left, next)
  numbers_next slot left (Some (found.Pairs object first count what ptr)) next = absurd next

  -- a number that isn't included is passed over
  numbers_from : (from number : ℕ) → from ≤ number → NoNumber snap choice from number → (result : Option WalkEntry) → FindsNumber has reads snap choice number result → FindsNumber has reads snap choice from result
  numbers_from from number over none None next = λ k u l. ⊎_elim (λ before. none k u before) (λ behind. next k behind l) (cases_lt k number)
  numbers_from from number over none (Some (found.Object at dnode)) next = record {
    from_on = let on = next.from_on in omega arith;
    none_before = λ k u l. ⊎_elim (λ before. none k u before) (λ behind. next.none_before k behind l) (cases_lt k number);
    included = next.included;
    is = next.is;
  }
  numbers_from from number over none (Some (found.Gone first count)) next = record {
    from_on = let on = next.from_on in omega arith;
    some = next.some;
    under = next.under;
    none_before = λ k u l. ⊎_elim (λ before. none k u before) (λ behind. next.none_before k behind l) (cases_lt k number);
    included = next.included;
    absent = next.absent;
  }
  numbers_from from number over none (Some (found.Pairs object first count what ptr)) next = next

  -- no index is left of a number that has no object
  none_left : (slot : Bool) → snap.state point.object ≡ None → NoneLeft snap choice point slot
  none_left slot none passed i past = no_pair_of snap choice point.object none i

  -- the search from the point's own number, where its slot is wanted, or where there is no such number
  pub slot_next : (slot : Bool) (number : ℕ) → IsState snap.state → number ≡ max point.object 1 → (slot ≡ true) ⊎ (point.object ≡ 0) → (result : Option WalkEntry) → FindsNumber has reads snap choice number result → IsNextCellIn has reads snap choice point slot result
  slot_next true number lawful is which result next =
      numbers_next true (λ passed. absurd (false≢true (sym passed))) result
      (numbers_from point.object number (omega arith) (λ k over under.
      let zero : 0 ≡ k = omega arith in subst (λ (n : ℕ). includes_number snap choice n ≡ false) zero (zero_passed snap choice)) result next)
  slot_next false number lawful is (inl wanted) result next = absurd (false≢true wanted)
  slot_next false number lawful is (inr zero) result next =
      let first : number ≡ point.object + 1 = omega arith in
      numbers_next false (none_left false (ap snap.state zero ∙ lawful.zero)) result (subst (λ (n : ℕ). FindsNumber has reads snap choice n result) first next)

  -- past the last number nothing is left
  pub past_next : (slot : Bool) → IsState snap.state → 2 ^ 48 ≤ point.object → IsNextCellIn has reads snap choice point slot None
  unfolding number_bound
  past_next true lawful past = (none_left true (lawful.bounded point.object past), λ k over under. absurd (omega arith))
  past_next false lawful past = (none_left false (lawful.bounded point.object past), λ k over under. absurd (omega arith))
