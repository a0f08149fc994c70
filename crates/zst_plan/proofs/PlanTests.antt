-- What the tests of a receive's plan say.
use Rattle.std.proofs.Common.{◌≡◌, ◌≢◌, inl, inr, ◌⊎◌, ⊎_elim, ℕ, ◌+◌, ◌<◌, Bool, true, false, not, ◌&&◌, ◌||◌, ◌==◌, nat_lt, List, [], ◌∷◌, ◌++◌, length, Some, None, All, Contains, filter, bit_and, bytes_eq, refl, sym, ap, ◌∙◌, subst, arith, length-append}
use Rattle.std.specs.List.{list_all, position_or_len}
use Rattle.std.proofs.lemmas.Bool.{and_from, and_parts, eq-eqb, eqb-true, false_from_ne_true, lt-ltb, ltb-true, ne_eqb, not_from_false, not_from_true, or_cases, or_left, or_right, true≢false}
use Rattle.std.proofs.lemmas.List.{drop_all}
use Rattle.std.proofs.lemmas.List.Elements.{All-head, All-tail}
use Rattle.std.proofs.lemmas.List.Kept.{AllPairs-filter}
use Rattle.zst_names.specs.Names.{component_of}
use Rattle.zst_names.proofs.NameEnds.{after_first-skip}
use Rattle.zst_names.proofs.Front.{component_at_mark}
use Rattle.zst_model.specs.declared.sends.header.Header.{Header}
use Rattle.zst_model.specs.pools.Pool.{Pool, Snapshot, Bookmark, IsNamed, dataset_of_bookmark, dataset_of_snapshot, is_before, snapshot_is_before}
use Rattle.zst_model.specs.sends.Features.{redacts}
use Rattle.zst_model.specs.sends.Inclusion.{any_below}
use Rattle.zst_model.specs.sends.SendPlan.{has_guids}
use Rattle.zst_model.specs.states.DatedState.{DatedState}
use Rattle.zst_model.specs.states.State.{index_bound, is_number, number_bound}
use Rattle.zst_model.proofs.FilteredLists.{contains-filter, filter_parts}
use Rattle.zst_model.proofs.GuidLists.{no_guids}
use Rattle.zst_model.proofs.IndexTests.{any_passes, none_pass}
use Rattle.zst_model.proofs.InsertedLaws.{contains_first, contains_later}
use Rattle.zst_model.proofs.ListTests.{passed_by_some}
use Rattle.zst_model.proofs.ObjectNumbers.{number_from, number_over_none}
use Rattle.zst_model.proofs.OrderLaws.{bytes_same, same_bytes}
use Rattle.zst_laws.specs.LineageRefusals.{NoneHolds}
use Rattle.zst_plan.specs.AcceptedStreams.{IsContained, IsDatedAfter, IsLatest, IsLaterMark, OverWhole, OfFull, OfOne, OfRedacted, OfSource}
use Rattle.zst_plan.specs.RecvPlan.{behind_mark, is_among, is_contained, is_dated_after, is_full, is_redacted, last_of, latest_of}
use Rattle.zst_plan.proofs.ContainedBases.{all_among, among}
use Rattle.zst_plan.proofs.FirstElements.{filter_none, last_is}
use Rattle.zst_plan.proofs.ReceiveChecks.{is_later}

-- ---- the latest snapshot

-- a snapshot of the dataset with a lesser number stands before another
earlier_is_before : (a b : Snapshot) → dataset_of_snapshot a ≡ dataset_of_snapshot b → a.number < b.number → snapshot_is_before a b ≡ true
earlier_is_before a b of less =
    or_right (is_before (dataset_of_snapshot a) (dataset_of_snapshot b)) (bytes_eq (dataset_of_snapshot a) (dataset_of_snapshot b) && nat_lt a.number b.number)
    (and_from (bytes_eq (dataset_of_snapshot a) (dataset_of_snapshot b)) (nat_lt a.number b.number)
    (bytes_same (dataset_of_snapshot a) (dataset_of_snapshot b) of) (lt-ltb a.number b.number less))

-- whether a snapshot is of a dataset
abbrev is_of : List ℕ → Snapshot → Bool
is_of name snapshot = bytes_eq (dataset_of_snapshot snapshot) name

pub latest_found : (pool : Pool) → IsNamed pool → (name : List ℕ) (latest : Snapshot) → IsLatest pool name latest → latest_of name pool ≡ Some latest
latest_found pool named name latest is =
    last_is (λ (a b : Snapshot). snapshot_is_before b a ≡ false) (filter (is_of name) pool.snapshots) latest
    (AllPairs-filter (λ (a b : Snapshot). snapshot_is_before b a ≡ false) (is_of name) pool.snapshots named.snapshots)
    (contains-filter (is_of name) pool.snapshots latest is.there (bytes_same (dataset_of_snapshot latest) name is.of))
    (λ other k. behind other (filter_parts (is_of name) pool.snapshots other k))
  where
    behind : (other : Snapshot) → Contains pool.snapshots other × (is_of name other ≡ true) → (other ≡ latest) ⊎ (snapshot_is_before other latest ≡ false → ⊥)
    behind other parts =
        let same = same_bytes (dataset_of_snapshot other) name parts.1 in
        elim (is.others other parts.0 same) [
          | inl e ↦ inl e
          | inr less ↦ inr (λ h. true≢false (sym (earlier_is_before other latest (same ∙ sym is.of) less) ∙ h))
        ]

pub no_latest : (pool : Pool) (name : List ℕ) → NoneHolds (λ (snapshot : Snapshot). dataset_of_snapshot snapshot ≡ name) pool.snapshots → latest_of name pool ≡ None
no_latest pool name none =
    ap (λ (xs : List Snapshot). last_of xs)
    (filter_none (is_of name) pool.snapshots
    (λ s k. false_from_ne_true (is_of name s) (λ e. none s k (same_bytes (dataset_of_snapshot s) name e))))

-- ---- dates

module _ (number : ℕ) (state : DatedState) where
  abbrev has_later : ℕ → ℕ → Bool
  has_later k i = nat_lt number (state.index_date k i)

  abbrev is_later_number : ℕ → Bool
  is_later_number k = is_number k && (nat_lt number (state.number_date k) || any_below (has_later k) index_bound)

  -- some date of a number or of its indices is later
  late_number : (k : ℕ) → (number < state.number_date k) ⊎ ((i : ℕ) × (i < index_bound) × (number < state.index_date k i))
      → (nat_lt number (state.number_date k) || any_below (has_later k) index_bound) ≡ true
  late_number k (inl late) = or_left (nat_lt number (state.number_date k)) (any_below (has_later k) index_bound) (lt-ltb number (state.number_date k) late)
  late_number k (inr (i, less, late)) =
      or_right (nat_lt number (state.number_date k)) (any_below (has_later k) index_bound)
      (any_passes (has_later k) index_bound i less (lt-ltb number (state.index_date k i) late))

  pub dated_after : IsDatedAfter number state → is_dated_after number state ≡ true
  unfolding is_dated_after
  dated_after is =
      any_passes is_later_number number_bound is.k is.below
      (and_from (is_number is.k) (nat_lt number (state.number_date is.k) || any_below (has_later is.k) index_bound) (number_from is.k is.some is.below) (late_number is.k is.dated))

  -- and where none is, none of the tests passes
  no_late_index : (IsDatedAfter number state → ⊥) → (k : ℕ) → 0 < k → k < number_bound → any_below (has_later k) index_bound ≡ false
  no_late_index none k some below =
      none_pass (has_later k) index_bound
      (λ i less. false_from_ne_true (has_later k i)
      (λ e. none (record { k = k; some = some; below = below; dated = inr (i, less, ltb-true number (state.index_date k i) e) })))

  no_late_number : (IsDatedAfter number state → ⊥) → (k : ℕ) → k < number_bound → is_later_number k ≡ true → ⊥
  no_late_number none k below e =
      let both = and_parts (is_number k) (nat_lt number (state.number_date k) || any_below (has_later k) index_bound) e in
      let some = number_over_none k both.0 in
      ⊎_elim
      (λ late. none (record { k = k; some = some; below = below; dated = inl (ltb-true number (state.number_date k) late) }))
      (λ late. true≢false (sym late ∙ no_late_index none k some below))
      (or_cases (nat_lt number (state.number_date k)) (any_below (has_later k) index_bound) both.1)

  pub not_dated_after : (IsDatedAfter number state → ⊥) → is_dated_after number state ≡ false
  unfolding is_dated_after
  not_dated_after none = none_pass is_later_number number_bound (λ k below. false_from_ne_true (is_later_number k) (no_late_number none k below))

-- ---- bookmarks

module _ (name : List ℕ) (latest : Snapshot) (bookmark : Bookmark) where
  pub later_mark : is_later name latest.number bookmark ≡ true → IsLaterMark name latest bookmark
  later_mark e =
      let both = and_parts (bytes_eq (dataset_of_bookmark bookmark) name) (nat_lt latest.number bookmark.number) e in
      (same_bytes (dataset_of_bookmark bookmark) name both.0, ltb-true latest.number bookmark.number both.1)

  pub mark_is_later : IsLaterMark name latest bookmark → is_later name latest.number bookmark ≡ true
  mark_is_later is =
      and_from (bytes_eq (dataset_of_bookmark bookmark) name) (nat_lt latest.number bookmark.number)
      (bytes_same (dataset_of_bookmark bookmark) name is.0) (lt-ltb latest.number bookmark.number is.1)

-- ---- bits

-- a bit that is there, and one that isn't
pub no_bit : (n : ℕ) → n ≡ 0 → not (n == 0) ≡ false
no_bit n e = not_from_true (n == 0) (eq-eqb n 0 e)

pub bit_there : (n : ℕ) → n ≢ 0 → not (n == 0) ≡ true
bit_there n h = not_from_false (n == 0) (ne_eqb n 0 h)

pub bit_is_there : (n : ℕ) → not (n == 0) ≡ true → n ≢ 0
bit_is_there n e zero = true≢false (sym e ∙ no_bit n zero)

-- ---- containment

-- a guid that is one of some is found among them
pub is_found : (guids : List ℕ) (guid : ℕ) → Contains guids guid → is_among guids guid ≡ true
is_found guids guid there = passed_by_some (λ other. other == guid) guids guid there (eq-eqb guid guid refl)

all_found : (guids stated : List ℕ) → All (Contains guids) stated → list_all (is_among guids) stated ≡ true
all_found guids [] all = refl
all_found guids (first ∷ rest) all =
    and_from (is_among guids first) (list_all (is_among guids) rest)
    (is_found guids first (All-head (Contains guids) first rest all)) (all_found guids rest (All-tail (Contains guids) first rest all))

module _ (guids : List ℕ) (header : Header) where
  -- the parts of the test
  abbrev by_redacted : Bool
  by_redacted = is_redacted header && list_all (is_among guids) header.redact

  abbrev by_source : Bool
  by_source = has_guids header.from_redact && list_all (is_among guids) header.from_redact

  abbrev by_to : Bool
  by_to = is_among guids header.to || (by_redacted || by_source)

  abbrev by_full : Bool
  by_full = is_full header || by_to

  pub contained : IsContained guids header → is_contained guids header ≡ true
  contained (OverWhole none) = or_left (not (has_guids guids)) by_full (ap (λ (gs : List ℕ). not (has_guids gs)) none)
  contained (OfFull full) = or_right (not (has_guids guids)) by_full (or_left (is_full header) by_to (eq-eqb header.from 0 full))
  contained (OfOne there) =
      or_right (not (has_guids guids)) by_full
      (or_right (is_full header) by_to (or_left (is_among guids header.to) (by_redacted || by_source) (is_found guids header.to there)))
  contained (OfRedacted redacted all) =
      or_right (not (has_guids guids)) by_full
      (or_right (is_full header) by_to
      (or_right (is_among guids header.to) (by_redacted || by_source)
      (or_left by_redacted by_source
      (and_from (is_redacted header) (list_all (is_among guids) header.redact) (bit_there (bit_and header.features redacts) redacted) (all_found guids header.redact all)))))
  contained (OfSource some all) =
      or_right (not (has_guids guids)) by_full
      (or_right (is_full header) by_to
      (or_right (is_among guids header.to) (by_redacted || by_source)
      (or_right by_redacted by_source
      (and_from (has_guids header.from_redact) (list_all (is_among guids) header.from_redact) (lt-ltb 0 (length header.from_redact) some) (all_found guids header.from_redact all)))))

  from_guids : (by_redacted || by_source) ≡ true → IsContained guids header
  from_guids is = ⊎_elim
      (λ own. let both = and_parts (is_redacted header) (list_all (is_among guids) header.redact) own in
      OfRedacted (bit_is_there (bit_and header.features redacts) both.0) (all_among guids header.redact both.1))
      (λ of. let both = and_parts (has_guids header.from_redact) (list_all (is_among guids) header.from_redact) of in
      OfSource (ltb-true 0 (length header.from_redact) both.0) (all_among guids header.from_redact both.1))
      (or_cases by_redacted by_source is)

  from_to : by_to ≡ true → IsContained guids header
  from_to is = ⊎_elim
      (λ to. OfOne (among guids header.to to))
      from_guids
      (or_cases (is_among guids header.to) (by_redacted || by_source) is)

  from_full : by_full ≡ true → IsContained guids header
  from_full is = ⊎_elim
      (λ full. OfFull (eqb-true header.from 0 full))
      from_to
      (or_cases (is_full header) by_to is)

  is_contained_so : is_contained guids header ≡ true → IsContained guids header
  is_contained_so is = ⊎_elim
      (λ none. OverWhole (no_guids guids (fails_not none)))
      from_full
      (or_cases (not (has_guids guids)) by_full is)
    where
      fails_not : not (has_guids guids) ≡ true → has_guids guids ≡ false
      fails_not none = false_from_ne_true (has_guids guids) (λ some. true≢false (sym none ∙ not_from_true (has_guids guids) some))

  pub not_contained : (IsContained guids header → ⊥) → is_contained guids header ≡ false
  not_contained outside = false_from_ne_true (is_contained guids header) (λ is. outside (is_contained_so is))

-- ---- marks in a name

-- what stands before the first mark
mark_at : (front text : List ℕ) → (Contains front 64 → ⊥) → position_or_len (λ b. b == 64) (front ++ 64 ∷ text) ≡ length front
mark_at [] text none = refl
mark_at (byte ∷ front) text none =
    let other : (byte == 64) ≡ false = ne_eqb byte 64 (λ e. none (subst (Contains (byte ∷ front)) e (contains_first byte front))) in
    let rest = mark_at front text (λ k. none (contains_later byte front 64 k)) in
    rw other (omega (arith, rest))

pub behind_marked : (front text : List ℕ) → (Contains front 64 → ⊥) → behind_mark (front ++ 64 ∷ text) ≡ length front + 1
behind_marked front text none = omega (arith, mark_at front text none, length-append front (64 ∷ text))

-- and behind it
pub component_marked : (front text : List ℕ) → (Contains front 64 → ⊥) → component_of 64 (front ++ 64 ∷ text) ≡ text
component_marked [] text none = component_at_mark 64 text
component_marked (byte ∷ front) text none =
    let other : (byte == 64) ≡ false = ne_eqb byte 64 (λ e. none (subst (Contains (byte ∷ front)) e (contains_first byte front))) in
    after_first-skip (λ b. b == 64) byte (front ++ 64 ∷ text) other ∙ component_marked front text (λ k. none (contains_later byte front 64 k))

-- a name without a mark
no_mark_at : (name : List ℕ) → (Contains name 64 → ⊥) → position_or_len (λ b. b == 64) name ≡ length name
no_mark_at [] none = refl
no_mark_at (byte ∷ name) none =
    let other : (byte == 64) ≡ false = ne_eqb byte 64 (λ e. none (subst (Contains (byte ∷ name)) e (contains_first byte name))) in
    let rest = no_mark_at name (λ k. none (contains_later byte name 64 k)) in
    rw other (omega (arith, rest))

pub behind_unmarked : (name : List ℕ) → (Contains name 64 → ⊥) → behind_mark name ≡ length name
behind_unmarked name none = omega (arith, no_mark_at name none)

pub component_unmarked : (name : List ℕ) → (Contains name 64 → ⊥) → component_of 64 name ≡ []
component_unmarked name none =
    let end = no_mark_at name none in
    drop_all (position_or_len (λ b. b == 64) name + 1) name (omega (arith, end))
