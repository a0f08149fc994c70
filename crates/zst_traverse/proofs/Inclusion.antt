-- When a number is included, and when an index is.
use Rattle.std.proofs.Common.{◌≡◌, inl, inr, ℕ, ◌<◌, ◌≤◌, ◌||◌, nat_lt, nat_le, Bool, true, false, refl, arith}
use Rattle.std.specs.Prelude.{Option, Some, None}
use Rattle.std.proofs.lemmas.Bool.{and_from, and_left, and_right, cases_lt, le-leb, le-ltb, lt-ltb, ltb-false, or_from, or_left, or_right}
use Rattle.zst_model.specs.sends.Inclusion.{any_below, includes_number, includes_pair, is_after, is_late_pair}
use Rattle.zst_model.specs.states.DatedState.{DatedState}
use Rattle.zst_model.specs.states.State.{end_at, index_bound, is_number}
use Rattle.zst_model.proofs.IndexTests.{any_passes, none_pass}
use Rattle.zst_traverse.specs.Cells.{choice_after}

-- no date before one that isn't late is
pub early_before : (source : Option ℕ) (a b : ℕ) → a ≤ b → is_after source b ≡ false → is_after source a ≡ false
early_before None a b le early = early
early_before (Some number) a b le early = let bound = ltb-false number b early in le-ltb number a (omega (arith, bound))

module _ (snap : DatedState) (source : Option ℕ) (k : ℕ) where
  abbrev is_touched : ℕ → Bool
  is_touched i = includes_pair snap (choice_after source) k i || is_late_pair snap (choice_after source) k i

  touched : (i : ℕ) → is_after source (snap.index_date k i) ≡ true → is_touched i ≡ true
  touched i late = elim (cases_lt i (end_at (snap.state k))) [
    | inl below ↦ or_left (includes_pair snap (choice_after source) k i) (is_late_pair snap (choice_after source) k i)
        (and_from (nat_lt i (end_at (snap.state k))) (is_after source (snap.index_date k i) || (false || false)) (lt-ltb _ _ below) (or_left (is_after source (snap.index_date k i)) (false || false) late))
    | inr over ↦ or_right (includes_pair snap (choice_after source) k i) (is_late_pair snap (choice_after source) k i)
        (and_from (nat_le (end_at (snap.state k)) i) (is_after source (snap.index_date k i)) (le-leb _ _ over) late)
  ]

  -- an index that is dated after the source is included below the end, and no other is
  pub pair_included : (i : ℕ) → i < end_at (snap.state k) → is_after source (snap.index_date k i) ≡ true → includes_pair snap (choice_after source) k i ≡ true
  pair_included i below late = and_from (nat_lt i (end_at (snap.state k))) (is_after source (snap.index_date k i) || (false || false)) (lt-ltb _ _ below) (or_left (is_after source (snap.index_date k i)) (false || false) late)

  pub pair_early : (i : ℕ) → is_after source (snap.index_date k i) ≡ false → includes_pair snap (choice_after source) k i ≡ false
  pair_early i early = and_right (nat_lt i (end_at (snap.state k))) (is_after source (snap.index_date k i) || (false || false)) (or_from (is_after source (snap.index_date k i)) (false || false) early refl)

  pub pair_past : (i : ℕ) → end_at (snap.state k) ≤ i → includes_pair snap (choice_after source) k i ≡ false
  pair_past i over = and_left (nat_lt i (end_at (snap.state k))) (is_after source (snap.index_date k i) || (false || false)) (le-ltb _ _ over)

  untouched : (i : ℕ) → is_after source (snap.index_date k i) ≡ false → is_touched i ≡ false
  untouched i early = or_from (includes_pair snap (choice_after source) k i) (is_late_pair snap (choice_after source) k i) (pair_early i early) (and_right (nat_le (end_at (snap.state k)) i) (is_after source (snap.index_date k i)) early)

  -- a number is included by its own date, or by that of an index, and by nothing else
  pub included_by_date : is_number k ≡ true → is_after source (snap.number_date k) ≡ true → includes_number snap (choice_after source) k ≡ true
  unfolding includes_number
  included_by_date number late = and_from (is_number k) (is_after source (snap.number_date k) || any_below is_touched index_bound) number (or_left (is_after source (snap.number_date k)) (any_below is_touched index_bound) late)

  pub included_by_index : is_number k ≡ true → (i : ℕ) → i < index_bound → is_after source (snap.index_date k i) ≡ true → includes_number snap (choice_after source) k ≡ true
  unfolding includes_number
  included_by_index number i less late =
      and_from (is_number k) (is_after source (snap.number_date k) || any_below is_touched index_bound) number
      (or_right (is_after source (snap.number_date k)) (any_below is_touched index_bound) (any_passes is_touched index_bound i less (touched i late)))

  pub not_included : is_after source (snap.number_date k) ≡ false → ((i : ℕ) → i < index_bound → is_after source (snap.index_date k i) ≡ false) → includes_number snap (choice_after source) k ≡ false
  unfolding includes_number
  not_included early earlies =
      and_right (is_number k) (is_after source (snap.number_date k) || any_below is_touched index_bound)
      (or_from (is_after source (snap.number_date k)) (any_below is_touched index_bound) early (none_pass is_touched index_bound (λ i less. untouched i (earlies i less))))

  pub no_number : is_number k ≡ false → includes_number snap (choice_after source) k ≡ false
  unfolding includes_number
  no_number none = and_left (is_number k) (is_after source (snap.number_date k) || any_below is_touched index_bound) none
