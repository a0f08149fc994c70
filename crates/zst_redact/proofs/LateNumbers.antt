-- Which numbers have indices that some states date after a number.
use Rattle.std.proofs.Common.{◌≡◌, ℕ, ◌^◌, ◌<◌, ◌≤◌, true, false, refl, sym, ◌∙◌, ⊎_elim, arith, List, [], ◌∷◌, nat_lt, nat_le, ◌||◌}
use Rattle.std.specs.Prelude.{Option, Some, None, Result}
use Rattle.std.specs.List.{AllZip}
use Rattle.std.proofs.lemmas.Bool.{and_from, and_left, and_right, cases_Bool, cases_lt, false≢true, false_from_ne_true, le-leb, le-ltb, lt-ltb, ltb-true, and_parts, or_left, or_right}
use Rattle.zst_block.specs.declared.fault.BlockFault.{BlockFault}
use Rattle.zst_model.specs.fields.Lists.{has_pair}
use Rattle.zst_model.specs.sends.Inclusion.{includes_number, includes_pair, is_after, is_late_pair}
use Rattle.zst_model.specs.states.DatedState.{DatedState}
use Rattle.zst_model.specs.states.State.{end_at, index_bound, is_number, number_bound}
use Rattle.zst_model.proofs.IndexTests.{any_passes}
use Rattle.zst_tree.specs.Indices.{Blocks, Delivers}
use Rattle.zst_tree.specs.declared.tree.ObjSet.{ObjSet}
use Rattle.zst_tree.proofs.Results.{delivers_if}
use Rattle.zst_objset.specs.Dnodes.{outside}
use Rattle.zst_objset.specs.Sets.{SetHolds}
use Rattle.zst_traverse.specs.Cells.{choice_with, FoundFits, IsNextCellIn, NoNumber}
use Rattle.zst_traverse.specs.ListedNumbers.{first_found}
use Rattle.zst_traverse.specs.declared.walk_entry.WalkEntry.{WalkEntry}
use Rattle.zst_traverse.specs.declared.walk_entry.WalkEntry.TheVariants as found
use Rattle.zst_redact.specs.Passes.{PassesNumbers, are_late, is_late}

module _ (number : ℕ) where
  -- a number that isn't included has no index of a late date
  not_late : (snap : DatedState) (k i : ℕ) → is_number k ≡ true → i < index_bound → includes_number snap (choice_with (Some number) [] []) k ≡ false → is_late number snap k i ≡ false
  unfolding includes_number
  not_late snap k i is under none = false_from_ne_true (is_late number snap k i) (λ late.
      false≢true (sym none ∙ and_from (is_number k) _ is (or_right (is_after (Some number) (snap.number_date k)) _ (any_passes _ index_bound i under (touched late)))))
    where
      touched : is_late number snap k i ≡ true → (includes_pair snap (choice_with (Some number) [] []) k i || is_late_pair snap (choice_with (Some number) [] []) k i) ≡ true
      touched late = ⊎_elim
          (λ below. or_left (includes_pair snap (choice_with (Some number) [] []) k i) _ (and_from (nat_lt i (end_at (snap.state k))) _ (lt-ltb i (end_at (snap.state k)) below) (or_left (nat_lt number (snap.index_date k i)) _ late)))
          (λ past. or_right (includes_pair snap (choice_with (Some number) [] []) k i) _ (and_from (nat_le (end_at (snap.state k)) i) _ (le-leb (end_at (snap.state k)) i past) late))
          (cases_lt i (end_at (snap.state k)))

  module _ (has : Blocks) (set : ObjSet) (kept : DatedState) (holds : SetHolds has set kept) where
    early_at : (k i date : ℕ) → kept.index_date k i ≡ date → date ≡ 0 → is_late number kept k i ≡ false
    early_at k i date is zero = le-ltb number (kept.index_date k i) (omega (arith, is, zero))

    -- nor has what is no number, or no index
    none_late : (k : ℕ) → (is_number k ≡ true → includes_number kept (choice_with (Some number) [] []) k ≡ false) → (i : ℕ) → is_late number kept k i ≡ false
    none_late k none i = ⊎_elim
        (λ is. ⊎_elim (λ under. not_late kept k i is under (none is)) (λ over. early_at k i 0 (holds.bounded.no_index k i over) refl) (cases_lt i index_bound))
        (λ isnt. early_at k i 0 (holds.bounded.no_numbers_index k i isnt) refl)
        (cases_Bool (is_number k))

    -- the numbers that a walk passes over have none
    passed_before : (from below k i : ℕ) → NoNumber kept (choice_with (Some number) [] []) from below → from ≤ k → k < below → is_late number kept k i ≡ false
    passed_before from below k i none on under = none_late k (λ is. none k on under) i

    numbers_under : (k : ℕ) → is_number k ≡ true → k < number_bound
    numbers_under k is = ltb-true k number_bound (and_parts (nat_lt 0 k) (nat_lt k number_bound) is).1

    pub walk_ends : (from offset : ℕ) → IsNextCellIn has (outside (has_pair []) has) kept (choice_with (Some number) [] []) (record { object = from; offset = offset }) true None → PassesNumbers (is_late number kept) from None
    walk_ends from offset next = λ k i on. none_late k (λ is. next.1 k on (numbers_under k is)) i

    pub walk_passes : (from offset : ℕ) (entry : WalkEntry) → IsNextCellIn has (outside (has_pair []) has) kept (choice_with (Some number) [] []) (record { object = from; offset = offset }) true (Some entry)
        → PassesNumbers (is_late number kept) from (Some (first_found (Some entry)))
    walk_passes from offset (found.Object at dnode) next = λ k i on under. passed_before from at k i next.1.none_before on under
    walk_passes from offset (found.Gone first count) next = λ k i on under. passed_before from first k i next.1.none_before on under
    walk_passes from offset (found.Pairs object first count what ptr) next = absurd (false≢true (sym next.0))

  -- of no sets no number is passed over
  pub none_passed : (from : ℕ) (kept : List DatedState) → PassesNumbers (are_late number kept) from (Some from)
  none_passed from kept = λ k i on under. absurd (omega (arith, on, under))

  module _ (has : Blocks) (set : ObjSet) (rest : List ObjSet) (from : ℕ) where
    -- where the first set passes over all, so do all of them
    pub first_none : (kept : List DatedState) → AllZip (SetHolds has) (set ∷ rest) kept → ((first : DatedState) → SetHolds has set first → PassesNumbers (is_late number first) from None)
        → PassesNumbers (are_late number kept) from None
    first_none [] each passes = absurd each
    first_none (first ∷ kept) each passes = λ k i on. and_left (is_late number first k i) (are_late number kept k i) (passes first each.0 k i on)

    -- else the others pass over more behind it
    passed_on : (first : DatedState) (kept : List DatedState) (at : ℕ) → PassesNumbers (is_late number first) from (Some at) → (passed : Option ℕ) → PassesNumbers (are_late number kept) at passed → PassesNumbers (are_late number (first ∷ kept)) from passed
    passed_on first kept at passes None none = λ k i on.
        ⊎_elim
        (λ before. and_left (is_late number first k i) (are_late number kept k i) (passes k i on before))
        (λ behind. and_right (is_late number first k i) (are_late number kept k i) (none k i behind))
        (cases_lt k at)
    passed_on first kept at passes (Some to) more = λ k i on under.
        ⊎_elim
        (λ before. and_left (is_late number first k i) (are_late number kept k i) (passes k i on before))
        (λ behind. and_right (is_late number first k i) (are_late number kept k i) (more k i behind under))
        (cases_lt k at)

    pub first_some : (at : ℕ) (result : Result (Option ℕ) BlockFault) → ((kept : List DatedState) → AllZip (SetHolds has) rest kept → Delivers (PassesNumbers (are_late number kept) at) result)
        → (kept : List DatedState) → AllZip (SetHolds has) (set ∷ rest) kept → ((first : DatedState) → SetHolds has set first → PassesNumbers (is_late number first) from (Some at))
        → Delivers (PassesNumbers (are_late number kept) from) result
    first_some at result others [] each passes = absurd each
    first_some at result others (first ∷ kept) each passes = delivers_if _ _ result (passed_on first kept at (passes first each.0)) (others kept each.1)

-- whatever the images, what a walk finds begins at or after its point, with a number
pub walk_range : (from offset : ℕ) (entry : WalkEntry) → FoundFits (record { object = from; offset = offset }) entry → (from ≤ first_found (Some entry)) × (first_found (Some entry) < 2 ^ 48)
walk_range from offset (found.Object at dnode) fits = (fits.1, fits.2)
walk_range from offset (found.Gone first count) fits = (fits.1, let some = fits.2 in let end = fits.3 in omega (arith, some, end))
walk_range from offset (found.Pairs object first count what ptr) fits = (let same = fits.2 in omega (arith, same), fits.1)
