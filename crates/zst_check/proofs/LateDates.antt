-- What a walk by dates tells of the dates of a state: that none is above a number, or one that is.
use Rattle.std.proofs.Common.{◌≡◌, ◌⊎◌, inl, inr, ⊎_elim, ℕ, zero, suc, ◌+◌, ◌*◌, ◌/◌, ◌%◌, ◌^◌, ◌<◌, ◌≤◌, ◌||◌, nat_lt, nat_le, Bool, true, false, refl, sym, ◌∙◌, subst, arith}
use Rattle.std.specs.Prelude.{Option, Some, None}
use Rattle.std.specs.Option.{unwrap_or}
use Rattle.std.proofs.lemmas.Bool.{and_from, and_parts, cases_Bool, cases_lt, false≢true, le-leb, lt-ltb, ltb-true, or_cases, or_left, or_right}
use Rattle.zst_block.specs.declared.ptr.Ptr.{Ptr}
use Rattle.zst_dnode.specs.declared.dnode.Dnode.{Dnode}
use Rattle.zst_dnode.specs.declared.slot.Slot.{Slot}
use Rattle.zst_dnode.specs.declared.slot.Slot.TheVariants as slots
use Rattle.zst_model.specs.sends.Inclusion.{any_below, includes_number, includes_pair, is_after, is_late_pair}
use Rattle.zst_model.specs.states.DatedState.{DatedState}
use Rattle.zst_model.specs.states.State.{end_at, index_bound, is_number, number_bound}
use Rattle.zst_model.specs.pools.Soundness.{DatedUpTo}
use Rattle.zst_model.proofs.IndexTests.{any_passes}
use Rattle.zst_tree.specs.Indices.{Blocks}
use Rattle.zst_tree.specs.LateIndices.{FindsFirst}
use Rattle.zst_tree.specs.declared.tree.ObjSet.{ObjSet}
use Rattle.zst_objset.specs.Dnodes.{IsAbsent, IsThere, SlotIs}
use Rattle.zst_objset.specs.Sets.{LeafIs, SetHolds}
use Rattle.zst_traverse.specs.Cells.{choice_after, IsNextGone, NoNumber}
use Rattle.zst_check.specs.FailingPlaces.{number_itself}
use Rattle.zst_check.specs.Findings.{FindsLate}

-- where some index passes a test, there is one that does
some_passes : (test : ℕ → Bool) (bound : ℕ) → any_below test bound ≡ true → (i : ℕ) × (i < bound) × (test i ≡ true)
unfolding any_below
some_passes test zero some = absurd (false≢true some)
some_passes test (suc bound) some =
    ⊎_elim
    (λ here. (bound, omega arith, here))
    (λ below. let found = some_passes test bound below in let under = found.1 in (found.0, omega arith, found.2))
    (or_cases (test bound) (any_below test bound) some)

module _ (number : ℕ) (state : DatedState) where
  -- an index of a number is dated above the number
  record HasLateIndex (k : ℕ) : Type 0 where
    index : ℕ
    under : index < index_bound
    late : number < state.index_date k index

  abbrev is_touched : ℕ → ℕ → Bool
  is_touched k i = includes_pair state (choice_after (Some number)) k i || is_late_pair state (choice_after (Some number)) k i

  -- an index is touched where it is dated above, and nowhere else
  touched_late : (k i : ℕ) → is_touched k i ≡ true → number < state.index_date k i
  touched_late k i touched =
      ⊎_elim
      (λ pair.
      ⊎_elim
      (λ late. ltb-true number (state.index_date k i) late)
      (λ listed. absurd (false≢true listed))
      (or_cases (is_after (Some number) (state.index_date k i)) (false || false) (and_parts (nat_lt i (end_at (state.state k))) (is_after (Some number) (state.index_date k i) || (false || false)) pair).1))
      (λ past. ltb-true number (state.index_date k i) (and_parts (nat_le (end_at (state.state k)) i) (is_after (Some number) (state.index_date k i)) past).1)
      (or_cases (includes_pair state (choice_after (Some number)) k i) (is_late_pair state (choice_after (Some number)) k i) touched)

  late_touched : (k i : ℕ) → number < state.index_date k i → is_touched k i ≡ true
  late_touched k i late =
      ⊎_elim
      (λ below. or_left (includes_pair state (choice_after (Some number)) k i) (is_late_pair state (choice_after (Some number)) k i)
      (and_from (nat_lt i (end_at (state.state k))) (is_after (Some number) (state.index_date k i) || (false || false)) (lt-ltb i (end_at (state.state k)) below)
      (or_left (is_after (Some number) (state.index_date k i)) (false || false) (lt-ltb number (state.index_date k i) late))))
      (λ past. or_right (includes_pair state (choice_after (Some number)) k i) (is_late_pair state (choice_after (Some number)) k i)
      (and_from (nat_le (end_at (state.state k)) i) (is_after (Some number) (state.index_date k i)) (le-leb (end_at (state.state k)) i past) (lt-ltb number (state.index_date k i) late)))
      (cases_lt i (end_at (state.state k)))

  -- what is included is a number
  included_number : (k : ℕ) → includes_number state (choice_after (Some number)) k ≡ true → is_number k ≡ true
  unfolding includes_number
  included_number k included = (and_parts (is_number k) (is_after (Some number) (state.number_date k) || any_below (is_touched k) index_bound) included).0

  -- it is dated above itself, or by an index
  included_late : (k : ℕ) → includes_number state (choice_after (Some number)) k ≡ true → (number < state.number_date k) ⊎ HasLateIndex k
  unfolding includes_number
  included_late k included =
      ⊎_elim
      (λ own. inl (ltb-true number (state.number_date k) own))
      (λ some. let found = some_passes (is_touched k) index_bound some in inr (record { index = found.0; under = found.1; late = touched_late k found.0 found.2 }))
      (or_cases (is_after (Some number) (state.number_date k)) (any_below (is_touched k) index_bound)
      (and_parts (is_number k) (is_after (Some number) (state.number_date k) || any_below (is_touched k) index_bound) included).1)

  -- and a number that is dated so is included
  late_included : (k : ℕ) → is_number k ≡ true → (number < state.number_date k) ⊎ HasLateIndex k → includes_number state (choice_after (Some number)) k ≡ true
  unfolding includes_number
  late_included k is late =
      and_from (is_number k) (is_after (Some number) (state.number_date k) || any_below (is_touched k) index_bound) is
      (⊎_elim
      (λ own. or_left (is_after (Some number) (state.number_date k)) (any_below (is_touched k) index_bound) (lt-ltb number (state.number_date k) own))
      (λ some. or_right (is_after (Some number) (state.number_date k)) (any_below (is_touched k) index_bound) (any_passes (is_touched k) index_bound some.index some.under (late_touched k some.index some.late)))
      late)

  -- a number that isn't included has no late date
  no_date : (k : ℕ) → is_number k ≡ true → includes_number state (choice_after (Some number)) k ≡ false → state.number_date k ≤ number
  no_date k is none = ⊎_elim (λ late. absurd (false≢true (sym none ∙ late_included k is (inl late)))) (λ early. early) (cases_lt number (state.number_date k))

  no_index_date : (k i : ℕ) → is_number k ≡ true → i < index_bound → includes_number state (choice_after (Some number)) k ≡ false → state.index_date k i ≤ number
  no_index_date k i is under none =
      ⊎_elim
      (λ late. absurd (false≢true (sym none ∙ late_included k is (inr (record { index = i; under = under; late = late })))))
      (λ early. early)
      (cases_lt number (state.index_date k i))

  module _ (has : Blocks) (set : ObjSet) (holds : SetHolds has set state) where
    number_under : (k : ℕ) → is_number k ≡ true → k < number_bound
    number_under k is = ltb-true k number_bound (and_parts (nat_lt 0 k) (nat_lt k number_bound) is).1

    -- where no number is included, no date is above the number
    pub none_late : NoNumber state (choice_after (Some number)) 0 number_bound → DatedUpTo number state
    none_late none = record {
      numbers = λ k. ⊎_elim
          (λ is. no_date k is (none k (omega arith) (number_under k is)))
          (λ isnt. let zero_is = holds.bounded.no_number k isnt in omega arith)
          (cases_Bool (is_number k));
      indices = λ k i. ⊎_elim
          (λ is. ⊎_elim
          (λ under. no_index_date k i is under (none k (omega arith) (number_under k is)))
          (λ over. let zero_is = holds.bounded.no_index k i over in omega arith)
          (cases_lt i index_bound))
          (λ isnt. let zero_is = holds.bounded.no_numbers_index k i isnt in omega arith)
          (cases_Bool (is_number k));
    }

    -- all of a number that is absent has one date
    absent_slot : (k : ℕ) (slot : Slot) → state.state k ≡ None → SlotIs has state k slot → (date : ℕ) × IsAbsent state k date
    absent_slot k (slots.Absent date) none is = (date, is)
    absent_slot k (slots.There dnode) none is = absurd (let there = is.there in cc)

    absent_leaf : (k place : ℕ) (ptr : Ptr) → k ≡ 16 * (k / 16) + place → place < 16 → is_number k ≡ true → state.state k ≡ None → LeafIs has state (k / 16) ptr → (date : ℕ) × IsAbsent state k date
    absent_leaf k place ptr split small is none (inl hole) =
        (ptr.number, subst (λ (n : ℕ). IsAbsent state n ptr.number) (sym split) (hole.absent place small (subst (λ (n : ℕ). is_number n ≡ true) split is)))
    absent_leaf k place ptr split small is none (inr leaf) =
        absent_slot k (leaf.slots place) none (subst (λ (n : ℕ). SlotIs has state n (leaf.slots place)) (sym split) (leaf.slots_are.numbers place small (subst (λ (n : ℕ). is_number n ≡ true) split is)))

    absent_date : (k : ℕ) → is_number k ≡ true → state.state k ≡ None → (date : ℕ) × IsAbsent state k date
    unfolding number_bound
    absent_date k is none =
        let under = number_under k is in
        absent_leaf k (k % 16) (holds.map (k / 16)) (omega arith) (omega arith) is none (holds.leaves (k / 16) (omega arith))

    -- so where it is included, it is dated above itself
    absent_late : (k : ℕ) → includes_number state (choice_after (Some number)) k ≡ true → state.state k ≡ None → number < state.number_date k
    absent_late k included none =
        let found = absent_date k (included_number k included) none in
        let absent : IsAbsent state k found.0 = found.1 in
        ⊎_elim
        (λ own. own)
        (λ some. let index_is = absent.dates some.index some.under in let own_is = absent.date_is in let late = some.late in omega arith)
        (included_late k included)

    pub gone_late : (first count : ℕ) → IsNextGone state (choice_after (Some number)) 0 first count → FindsLate number state (Some (first, number_itself))
    gone_late first count gone =
        let some = gone.some in
        let included = gone.included first (omega arith) (omega arith) in
        (included_number first included, inl (refl, absent_late first included (gone.absent first (omega arith) (omega arith))))

  -- of an object that is included its own date is above the number
  pub date_late : (has : Blocks) (k : ℕ) (dnode : Dnode) → IsThere has state k dnode → includes_number state (choice_after (Some number)) k ≡ true → number < dnode.date → FindsLate number state (Some (k, number_itself))
  date_late has k dnode is included late = (included_number k included, inl (refl, subst (λ (n : ℕ). number < n) is.is.date_is late))

  -- or its tree has an index that is dated so
  index_late : (has : Blocks) (k : ℕ) (dnode : Dnode) (is : IsThere has state k dnode) → includes_number state (choice_after (Some number)) k ≡ true
      → (found : ℕ) → FindsFirst is.map 0 (2 ^ 43) number (Some found) → FindsLate number state (Some (k, found))
  unfolding index_bound
  index_late has k dnode is included found first = (included_number k included, inr (first.under, subst (λ (n : ℕ). number < n) (is.is.index_dates found first.under) first.late))

  no_index_late : (has : Blocks) (k : ℕ) (dnode : Dnode) (is : IsThere has state k dnode) → includes_number state (choice_after (Some number)) k ≡ true → dnode.date ≤ number → FindsFirst is.map 0 (2 ^ 43) number None → ⊥
  unfolding index_bound
  no_index_late has k dnode is included early none =
      ⊎_elim
      (λ own. let date_is = is.is.date_is in omega arith)
      (λ some.
      let date_is = is.is.index_dates some.index some.under in
      let quiet = none.early some.index (omega arith) some.under in
      let late = some.late in
      omega arith)
      (included_late k included)

  pub found_late : (has : Blocks) (k : ℕ) (dnode : Dnode) (is : IsThere has state k dnode) → includes_number state (choice_after (Some number)) k ≡ true → dnode.date ≤ number
      → (found : Option ℕ) → FindsFirst is.map 0 (2 ^ 43) number found → (block other : ℕ) → block ≡ unwrap_or found other → FindsLate number state (Some (k, block))
  found_late has k dnode is included early None none block other same = absurd (no_index_late has k dnode is included early none)
  found_late has k dnode is included early (Some index) first block other same = subst (λ (b : ℕ). FindsLate number state (Some (k, b))) (sym same) (index_late has k dnode is included index first)
