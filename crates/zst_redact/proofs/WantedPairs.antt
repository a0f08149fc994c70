-- What the wanted pairs are of a number where an object stands, and of one where none does.
use Rattle.std.proofs.Common.{◌≡◌, ℕ, ◌≤◌, true, false, refl, sym, ◌∙◌, ap, ⊎_elim, List, ◌&&◌}
use Rattle.std.specs.Prelude.{Option, Some, None, Result}
use Rattle.std.proofs.lemmas.Bool.{and_left, and_right, cases_Bool, cases_lt, false≢true}
use Rattle.zst_block.specs.declared.fault.BlockFault.{BlockFault}
use Rattle.zst_model.specs.pools.RedSet.{is_data, is_redacted_block, is_unreadable, is_user_block, red_set}
use Rattle.zst_model.specs.sends.Inclusion.{Pairs}
use Rattle.zst_model.specs.states.DatedState.{DatedState}
use Rattle.zst_model.specs.states.State.{Hole, IsState, Object, index_bound, is_number, is_user_data}
use Rattle.zst_model.proofs.ObjectNumbers.{absent_outside}
use Rattle.zst_tree.specs.Indices.{Delivers}
use Rattle.zst_tree.proofs.Results.{delivers_if}
use Rattle.zst_redact.specs.Passes.{PassesNumbers, are_late}
use Rattle.zst_redact.specs.Wanted.{are_wanted, wanted_pairs}
use Rattle.zst_redact.specs.declared.wanted.Wanted.{Wanted}
use Rattle.zst_redact.specs.declared.wanted.Wanted.TheVariants as wants
use Rattle.zst_redact.proofs.LeastPairs.{AreBounded}
use Rattle.zst_redact.proofs.Sets.{lawful_at}

module _ (state : DatedState) (kept : List DatedState) (k i : ℕ) where
  -- nothing has none
  pub absent_unwanted : (wanted : Wanted) → state.state k ≡ None → wanted_pairs wanted state kept k i ≡ false
  absent_unwanted (wants.Unkept number redactions) none = and_left (is_user_block (state.state k) i) (are_late number kept k i) (ap (λ (o : Option Object). is_user_block o i) none)
  absent_unwanted wants.Redacted none = ap (λ (o : Option Object). is_unreadable o i) none

  module _ (own : Object) (there : state.state k ≡ Some own) where
    -- nor has an object of another type
    pub other_unwanted : (wanted : Wanted) → is_user_data own.attr ≡ false → wanted_pairs wanted state kept k i ≡ false
    other_unwanted (wants.Unkept number redactions) other =
        and_left (is_user_block (state.state k) i) (are_late number kept k i)
        (ap (λ (o : Option Object). is_user_block o i) there ∙ and_left (is_user_data own.attr) (is_data (own.blocks i)) other)
    other_unwanted wants.Redacted other = ap (λ (o : Option Object). is_unreadable o i) there ∙ and_left (is_user_data own.attr) (is_redacted_block (own.blocks i)) other

    -- of an object with user data they are its wanted blocks
    pub same_wanted : (wanted : Wanted) → is_user_data own.attr ≡ true → wanted_pairs wanted state kept k i ≡ are_wanted wanted own kept k i
    same_wanted (wants.Unkept number redactions) user =
        ap (λ t. t && are_late number kept k i) (ap (λ (o : Option Object). is_user_block o i) there ∙ ap (λ t. t && is_data (own.blocks i)) user)
    same_wanted wants.Redacted user = ap (λ (o : Option Object). is_unreadable o i) there ∙ ap (λ t. t && is_redacted_block (own.blocks i)) user

    -- a hole isn't one
    pub hole_unwanted : (wanted : Wanted) → own.blocks i ≡ Hole → wanted_pairs wanted state kept k i ≡ false
    hole_unwanted (wants.Unkept number redactions) hole =
        and_left (is_user_block (state.state k) i) (are_late number kept k i)
        (ap (λ (o : Option Object). is_user_block o i) there ∙ and_right (is_user_data own.attr) (is_data (own.blocks i)) (ap is_data hole))
    hole_unwanted wants.Redacted hole = ap (λ (o : Option Object). is_unreadable o i) there ∙ and_right (is_user_data own.attr) (is_redacted_block (own.blocks i)) (ap is_redacted_block hole)

-- a hole of an object isn't wanted
pub hole_apart : (wanted : Wanted) (own : Object) (kept : List DatedState) (k i : ℕ) → own.blocks i ≡ Hole → are_wanted wanted own kept k i ≡ false
hole_apart (wants.Unkept number redactions) own kept k i hole = and_left (is_data (own.blocks i)) (are_late number kept k i) (ap is_data hole)
hole_apart wants.Redacted own kept k i hole = ap is_redacted_block hole

-- the wanted pairs are pairs of numbers and indices alone
module _ (wanted : Wanted) (state : DatedState) (lawful : IsState state.state) (kept : List DatedState) where
  abbrev pairs : Pairs
  pairs k i = wanted_pairs wanted state kept k i

  past_index : (k i : ℕ) → index_bound ≤ i → (found : Option Object) → state.state k ≡ found → pairs k i ≡ false
  past_index k i over None there = absent_unwanted state kept k i wanted there
  past_index k i over (Some own) there = hole_unwanted state kept k i own there wanted ((lawful_at state.state lawful k own there).bounded i over)

  pub wanted_bounded : AreBounded (wanted_pairs wanted state kept)
  wanted_bounded = record {
    number = λ k i is. ⊎_elim
        (λ yes_it. yes_it)
        (λ isnt. absurd (false≢true (sym (absent_unwanted state kept k i wanted (absent_outside state.state lawful k isnt)) ∙ is)))
        (cases_Bool (is_number k));
    index = λ k i is. ⊎_elim
        (λ under. under)
        (λ over. absurd (false≢true (sym (past_index k i over (state.state k) refl) ∙ is)))
        (cases_lt i index_bound);
  }

-- a number at which no index is late has no unkept pair
module _ (state : DatedState) (number : ℕ) (kept : List DatedState) (from : ℕ) where
  none_of_numbers : (passed : Option ℕ) → PassesNumbers (are_late number kept) from passed → PassesNumbers (red_set state.state number kept) from passed
  none_of_numbers None none = λ k i on. and_right (is_user_block (state.state k) i) (are_late number kept k i) (none k i on)
  none_of_numbers (Some to) none = λ k i on under. and_right (is_user_block (state.state k) i) (are_late number kept k i) (none k i on under)

  pub numbers_passed : (result : Result (Option ℕ) BlockFault) → Delivers (PassesNumbers (are_late number kept) from) result → Delivers (PassesNumbers (red_set state.state number kept) from) result
  numbers_passed result passed = delivers_if _ _ result none_of_numbers passed
