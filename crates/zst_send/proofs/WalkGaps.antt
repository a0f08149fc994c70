-- What a walk passes over without an item.
use Rattle.std.proofs.Common.{inl, inr, ◌≡◌, ℕ, ◌*◌, ◌<◌, ◌≤◌, Bool, true, false, [], map, Option, Some, None, refl, sym, ap, ◌∙◌, arith, subst, nat_lt, nat_le, ◌||◌, if◌then◌else◌}
use Rattle.std.proofs.lemmas.Bool.{cases_eq, cases_order, cases_lt, cond-true, cond-false, lt-ltb, le-leb, lt-leb, and_from, and_parts, or_left, or_right}
use Rattle.zst_model.specs.declared.sends.header.Header.{Header}
use Rattle.zst_model.specs.declared.sends.header.Point.{Point}
use Rattle.zst_model.specs.declared.states.item.Item.TheVariants.{At}
use Rattle.zst_model.specs.sends.Inclusion.{Choice, any_below, includes_number, includes_pair, is_after, is_late_pair}
use Rattle.zst_model.specs.sends.Items.{block_change, change_at, number_items}
use Rattle.zst_model.specs.sends.View.{View, Left, Gone, There, object_view, shown_object, view_of}
use Rattle.zst_model.specs.states.DatedState.{DatedState, size_at}
use Rattle.zst_model.specs.states.State.{Object, IsState, end_of, index_bound, is_number, number_bound}
use Rattle.zst_model.proofs.IndexTests.{any_passes}
use Rattle.zst_laws.specs.Walk.{left_at, number_rest, walk_left, NothingBelow, WalkEnds}
use Rattle.zst_laws.proofs.sends.Walk.{left_below, left_own, left_above, all_none}
use Rattle.zst_traverse.specs.Cells.{first_number, NoneLeft, NoNumber}

-- ---- what is left of a number below the point's, of the point's own, and of one above

-- ---- which numbers are included

module _ (snap : DatedState) (choice : Choice) where
  -- an included number is one
  pub is_counted : (k : ℕ) → includes_number snap choice k ≡ true → is_number k ≡ true
  unfolding includes_number
  is_counted k e =
      (and_parts (is_number k) (is_after choice.from (snap.number_date k) || any_below (λ i. includes_pair snap choice k i || is_late_pair snap choice k i) index_bound) e).0

  -- a number of which an index below the bound is included is included
  pub counts_by_pair : (k i : ℕ) → is_number k ≡ true → i < index_bound → includes_pair snap choice k i ≡ true → includes_number snap choice k ≡ true
  unfolding includes_number
  counts_by_pair k i number less pair =
      let touched : ℕ → Bool = λ i. includes_pair snap choice k i || is_late_pair snap choice k i in
      and_from (is_number k) (is_after choice.from (snap.number_date k) || any_below touched index_bound) number
      (or_right (is_after choice.from (snap.number_date k)) (any_below touched index_bound)
      (any_passes touched index_bound i less (or_left (includes_pair snap choice k i) (is_late_pair snap choice k i) pair)))

-- a number at which an object is in a lawful state is one
pub number_there : (snap : DatedState) (k : ℕ) (object : Object) → IsState snap.state → snap.state k ≡ Some object → is_number k ≡ true
number_there snap k object lawful there = elim (cases_eq k 0) [
  | inl zeroth ↦ let none : snap.state k ≡ None = ap snap.state zeroth ∙ lawful.zero in absurd (cc)
  | inr some ↦ elim (cases_lt k number_bound) [
    | inl below ↦ and_from (nat_lt 0 k) (nat_lt k number_bound) (lt-ltb _ _ (omega (arith, some))) (lt-ltb _ _ below)
    | inr over ↦ let none : snap.state k ≡ None = lawful.bounded k over in absurd (cc)
  ]
]

-- ---- what is shown of them

module _ (header : Header) (snap : DatedState) (choice : Choice) where
  abbrev view : View
  view = view_of header snap choice

  not_shown : (k : ℕ) → includes_number snap choice k ≡ false → view.shown k ≡ Left
  not_shown k e = cond-false (includes_number snap choice k) _ _ e

  pub shown_gone : (k : ℕ) → includes_number snap choice k ≡ true → snap.state k ≡ None → view.shown k ≡ Gone
  shown_gone k e none = cond-true (includes_number snap choice k) _ _ e ∙ ap (shown_object snap choice k) none

  pub shown_there : (k : ℕ) (object : Object) → includes_number snap choice k ≡ true → snap.state k ≡ Some object → view.shown k ≡ There (object_view snap choice k object)
  shown_there k object e there = cond-true (includes_number snap choice k) _ _ e ∙ ap (shown_object snap choice k) there

  -- ---- what is left where nothing is found

  -- an object of which no index from an offset on is included has no change there
  no_change : (k offset : ℕ) (object : Object) → ((i : ℕ) → offset ≤ i * object.attr.block_size → includes_pair snap choice k i ≡ false)
      → (i : ℕ) → change_at (object_view snap choice k object) offset i ≡ []
  no_change k offset object none i = elim (cases_lt (i * object.attr.block_size) offset) [
    | inl low ↦ cond-false (nat_le offset (i * object.attr.block_size)) _ _ (lt-leb _ _ low)
    | inr high ↦ cond-true (nat_le offset (i * object.attr.block_size)) _ _ (le-leb _ _ high)
        ∙ ap (block_change object.attr i) (cond-false (includes_pair snap choice k i) _ _ (none i high))
  ]

  no_rest : (k offset : ℕ) → ((i : ℕ) → offset ≤ i * size_at (snap.state k) → includes_pair snap choice k i ≡ false) → number_rest k offset (view.shown k) ≡ []
  no_rest k offset none = go (includes_number snap choice k) (snap.state k) none
    where
      go : (t : Bool) (object : Option Object) → ((i : ℕ) → offset ≤ i * size_at object → includes_pair snap choice k i ≡ false)
          → number_rest k offset (if t then shown_object snap choice k object else Left) ≡ []
      go false object none = refl
      go true None none = refl
      go true (Some object) none = ap (map (At k)) (all_none (change_at (object_view snap choice k object) offset) (end_of object) 0 (λ j l. no_change k offset object none j))

  own_none : (point : Point) (slot : Bool) → NoneLeft snap choice point slot → ((k : ℕ) → first_number point slot ≤ k → k ≤ point.object → includes_number snap choice k ≡ false)
      → (if slot then number_items point.object point.offset (view.shown point.object) else number_rest point.object point.offset (view.shown point.object)) ≡ []
  own_none point true left none = ap (number_items point.object point.offset) (not_shown point.object (none point.object (omega arith) (omega arith)))
  own_none point false left none = no_rest point.object point.offset (left refl)

  first_behind : (point : Point) (slot : Bool) (j : ℕ) → point.object < j → first_number point slot ≤ j
  first_behind point true j l = omega arith
  first_behind point false j l = omega arith

  -- where nothing is found below a number, nothing is left below it
  pub nothing_below : (point : Point) (slot : Bool) (k : ℕ) → NoneLeft snap choice point slot → NoNumber snap choice (first_number point slot) k → NothingBelow view point slot k
  nothing_below point slot k left none j l = elim (cases_order j point.object) [
    | inl same ↦ subst (λ (i : ℕ). left_at view point slot i ≡ []) (sym same) (left_own view point slot ∙ own_none point slot left (λ i from to. none i from (omega (arith, same))))
    | inr (inl low) ↦ left_below view point slot j low
    | inr (inr high) ↦ left_above view point slot j high ∙ ap (number_items j 0) (not_shown j (none j (first_behind point slot j high) l))
  ]

  -- behind all numbers nothing is left
  pub nothing_behind : WalkEnds → (point : Point) (slot : Bool) → number_bound ≤ point.object → walk_left view point slot ≡ []
  nothing_behind ends point slot far = ends view point slot (λ j l. left_below view point slot j (omega arith))
