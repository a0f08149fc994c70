-- What the numbers that a list's pairs include are.
use Rattle.std.proofs.Common.{◌≡◌, inl, inr, ⊎_elim, ℕ, zero, suc, ◌+◌, ◌^◌, ◌<◌, ◌≤◌, ◌||◌, nat_lt, min, Bool, true, false, sym, ◌∙◌, ap, subst, arith}
use Rattle.std.specs.Prelude.{IfSome, Option, Some, None, is_some}
use Rattle.std.proofs.lemmas.Bool.{and_from, and_parts, cases_lt, false_from_ne_true, false≢true, lt-ltb, ltb-true, or_cases, or_from, or_left, or_right}
use Rattle.zst_dnode.specs.declared.dnode.Dnode.{Dnode}
use Rattle.zst_model.specs.fields.Lists.{Runs, has_pair, HasNoneFrom, IsAtOrAfter, IsLeastFrom}
use Rattle.zst_model.specs.sends.Inclusion.{any_below, Choice, includes_number, includes_pair, is_after, is_late_pair}
use Rattle.zst_model.specs.states.DatedState.{DatedState}
use Rattle.zst_model.specs.states.State.{end_at, index_bound, is_number, number_bound}
use Rattle.zst_tree.specs.Indices.{Blocks}
use Rattle.zst_objset.specs.Dnodes.{DnodeIn}
use Rattle.zst_objset.proofs.LeafLaws.{is_number_at}
use Rattle.zst_traverse.specs.Cells.{choice_after, choice_with, IsNextObjectIn, NoNumber}
use Rattle.zst_traverse.specs.Leaves.{FindsNumber, NumberFits}
use Rattle.zst_traverse.specs.ListedNumbers.{AreIncluded, FindsListed, FindsObject, FindsOf, first_found, IsFirstListed, IsFirstOf, IsListedBelow, IsUnlisted, or_below}
use Rattle.zst_traverse.specs.Runs.{FindsIn}
use Rattle.zst_traverse.specs.declared.walk_entry.WalkEntry.{WalkEntry}
use Rattle.zst_traverse.specs.declared.walk_entry.WalkEntry.TheVariants as found
use Rattle.zst_model.proofs.IndexTests.{any_passes}
use Rattle.zst_traverse.proofs.NextCells.{nothing_at, there_of}

-- ---- the first number of a list, and of two

-- the least pair at or after the first of a number is of the first number
pub first_of_list : (list : Runs) (from number index : ℕ) → IsLeastFrom (has_pair list) from 0 number index → IsFirstOf list from number
first_of_list list from number index least = record {
  from_on = ⊎_elim (λ less. omega arith) (λ same. let e = same.0 in omega arith) least.after;
  index = index;
  has = least.has;
  none_before = λ k i on under. false_from_ne_true (has_pair list k i) (λ is.
      ⊎_elim (λ less. omega arith) (λ same. let e = same.0 in omega arith) (least.least k i is (at_or_after k i on)));
}
  where
    at_or_after : (k i : ℕ) → from ≤ k → IsAtOrAfter from 0 k i
    at_or_after k i on = ⊎_elim (λ less. inl less) (λ over. inr (omega arith, omega arith)) (cases_lt from k)

pub none_of_list : (list : Runs) (from : ℕ) → HasNoneFrom (has_pair list) from 0 → (k i : ℕ) → from ≤ k → has_pair list k i ≡ false
none_of_list list from none k i on = none k i (⊎_elim (λ less. inl less) (λ over. inr (omega arith, omega arith)) (cases_lt from k))

module _ (list : Runs) (from below : ℕ) where
  none_below : (first : Option ℕ) → FindsOf list from first → (k i : ℕ) → from ≤ k → k < or_below below first → has_pair list k i ≡ false
  none_below None finds k i on under = finds k i on
  none_below (Some number) finds k i on under = finds.none_before k i on (omega arith)

  -- a number below the bound is that of a pair
  record IsPairAt (number : ℕ) : Type 0 where
    from_on : from ≤ number
    index : ℕ
    has : has_pair list number index ≡ true

  pair_at : (first : Option ℕ) → FindsOf list from first → (number : ℕ) → number ≡ or_below below first → number < below → IsPairAt number
  pair_at None finds number is under = absurd (omega arith)
  pair_at (Some first) finds number is under =
      let same : first ≡ number = omega arith in
      subst IsPairAt same (record { from_on = finds.from_on; index = finds.index; has = finds.has })

module _ (listed withheld : Runs) (from below : ℕ) (one other : Option ℕ) (finds_one : FindsOf listed from one) (finds_other : FindsOf withheld from other) (number : ℕ) (is : number ≡ min (or_below below one) (or_below below other)) where
  none_to : (k : ℕ) → from ≤ k → k < number → IsUnlisted listed withheld k
  none_to k on under i = or_from (has_pair listed k i) (has_pair withheld k i) (none_below listed from below one finds_one k i on (omega arith)) (none_below withheld from below other finds_other k i on (omega arith))

  pub first_listed : number < below → IsFirstListed listed withheld from below number
  first_listed under = ⊎_elim
      (λ less. let at = pair_at listed from below one finds_one number (omega arith) under in
      record { from_on = at.from_on; under = under; index = at.index; has = or_left (has_pair listed number at.index) (has_pair withheld number at.index) at.has; none_before = none_to })
      (λ over. let at = pair_at withheld from below other finds_other number (omega arith) under in
      record { from_on = at.from_on; under = under; index = at.index; has = or_right (has_pair listed number at.index) (has_pair withheld number at.index) at.has; none_before = none_to })
      (cases_lt (or_below below one) (or_below below other))

  pub none_listed : below ≤ number → (k : ℕ) → from ≤ k → k < below → IsUnlisted listed withheld k
  none_listed over k on under = none_to k on (omega arith)

-- ---- which numbers are included

any_more : (f g : ℕ → Bool) (bound : ℕ) → ((i : ℕ) → f i ≡ true → g i ≡ true) → any_below f bound ≡ true → any_below g bound ≡ true
unfolding any_below
any_more f g zero more is = is
any_more f g (suc bound) more is = ⊎_elim
    (λ here. or_left (g bound) (any_below g bound) (more bound here))
    (λ before. or_right (g bound) (any_below g bound) (any_more f g bound more before))
    (or_cases (f bound) (any_below f bound) is)

module _ (snap : DatedState) (source : Option ℕ) (listed withheld : Runs) (k : ℕ) where
  abbrev choice : Choice
  choice = choice_with source listed withheld

  abbrev touches : Choice → ℕ → Bool
  touches which i = includes_pair snap which k i || is_late_pair snap which k i

  abbrev is_late : ℕ → Bool
  is_late i = is_after source (snap.index_date k i)

  abbrev is_listed : ℕ → Bool
  is_listed i = has_pair listed k i || has_pair withheld k i

  abbrev is_below : ℕ → Bool
  is_below i = nat_lt i (end_at (snap.state k))

  more_touches : (i : ℕ) → touches (choice_after source) i ≡ true → touches choice i ≡ true
  more_touches i is = ⊎_elim
      (λ pair. let both = and_parts (is_below i) (is_late i || (false || false)) pair in
      or_left (includes_pair snap choice k i) (is_late_pair snap choice k i) (and_from (is_below i) (is_late i || is_listed i) both.0
      (⊎_elim (λ late. or_left (is_late i) (is_listed i) late) (λ none. absurd (false≢true none)) (or_cases (is_late i) (false || false) both.1))))
      (λ past. or_right (includes_pair snap choice k i) (is_late_pair snap choice k i) past)
      (or_cases (includes_pair snap (choice_after source) k i) (is_late_pair snap (choice_after source) k i) is)

  -- what is included by a date is included
  pub by_date : includes_number snap (choice_after source) k ≡ true → includes_number snap choice k ≡ true
  unfolding includes_number
  by_date is =
      let both = and_parts (is_number k) (is_after source (snap.number_date k) || any_below (touches (choice_after source)) index_bound) is in
      and_from (is_number k) (is_after source (snap.number_date k) || any_below (touches choice) index_bound) both.0
      (⊎_elim
      (λ date. or_left (is_after source (snap.number_date k)) (any_below (touches choice) index_bound) date)
      (λ pair. or_right (is_after source (snap.number_date k)) (any_below (touches choice) index_bound) (any_more (touches (choice_after source)) (touches choice) index_bound more_touches pair))
      (or_cases (is_after source (snap.number_date k)) (any_below (touches (choice_after source)) index_bound) both.1))

  -- so is what has a pair of a list below its end
  pub by_pair : is_number k ≡ true → (i : ℕ) → i < index_bound → i < end_at (snap.state k) → is_listed i ≡ true → includes_number snap choice k ≡ true
  unfolding includes_number
  by_pair number i less below has =
      and_from (is_number k) (is_after source (snap.number_date k) || any_below (touches choice) index_bound) number
      (or_right (is_after source (snap.number_date k)) (any_below (touches choice) index_bound) (any_passes (touches choice) index_bound i less
      (or_left (includes_pair snap choice k i) (is_late_pair snap choice k i) (and_from (is_below i) (is_late i || is_listed i) (lt-ltb i (end_at (snap.state k)) below) (or_right (is_late i) (is_listed i) has)))))

  -- and nothing else
  module _ (unlisted : (i : ℕ) → i < end_at (snap.state k) → is_listed i ≡ false) where
    fewer_touches : (i : ℕ) → touches choice i ≡ true → touches (choice_after source) i ≡ true
    fewer_touches i is = ⊎_elim
        (λ pair. let both = and_parts (is_below i) (is_late i || is_listed i) pair in
        or_left (includes_pair snap (choice_after source) k i) (is_late_pair snap (choice_after source) k i) (and_from (is_below i) (is_late i || (false || false)) both.0
        (⊎_elim (λ late. or_left (is_late i) (false || false) late) (λ has. absurd (false≢true (sym (unlisted i (ltb-true i (end_at (snap.state k)) both.0)) ∙ has))) (or_cases (is_late i) (is_listed i) both.1))))
        (λ past. or_right (includes_pair snap (choice_after source) k i) (is_late_pair snap (choice_after source) k i) past)
        (or_cases (includes_pair snap choice k i) (is_late_pair snap choice k i) is)

    only_by_date : includes_number snap choice k ≡ true → includes_number snap (choice_after source) k ≡ true
    unfolding includes_number
    only_by_date is =
        let both = and_parts (is_number k) (is_after source (snap.number_date k) || any_below (touches choice) index_bound) is in
        and_from (is_number k) (is_after source (snap.number_date k) || any_below (touches (choice_after source)) index_bound) both.0
        (⊎_elim
        (λ date. or_left (is_after source (snap.number_date k)) (any_below (touches (choice_after source)) index_bound) date)
        (λ pair. or_right (is_after source (snap.number_date k)) (any_below (touches (choice_after source)) index_bound) (any_more (touches choice) (touches (choice_after source)) index_bound fewer_touches pair))
        (or_cases (is_after source (snap.number_date k)) (any_below (touches choice) index_bound) both.1))

    pub unlisted_early : includes_number snap (choice_after source) k ≡ false → includes_number snap choice k ≡ false
    unlisted_early early = false_from_ne_true (includes_number snap choice k) (λ is. false≢true (sym early ∙ only_by_date is))

-- ---- what is next

module _ (has : Blocks) (reads : ℕ → ℕ → Blocks) (snap : DatedState) (source : Option ℕ) (listed withheld : Runs) where
  -- no number before what is first by date is included by date
  pub quiet_before : (from : ℕ) (first : Option WalkEntry) → FindsNumber has reads snap (choice_after source) from first → NoNumber snap (choice_after source) from (first_found first)
  unfolding number_bound
  quiet_before from None next = next
  quiet_before from (Some (found.Object number dnode)) next = next.none_before
  quiet_before from (Some (found.Gone first count)) next = next.none_before
  quiet_before from (Some (found.Pairs object first count what ptr)) next = absurd next

  -- what is first by date is first where no number before it is included
  pub date_first : (from : ℕ) (first : Option WalkEntry) → FindsNumber has reads snap (choice_after source) from first → NoNumber snap (choice_with source listed withheld) from (first_found first) → FindsNumber has reads snap (choice_with source listed withheld) from first
  unfolding number_bound
  date_first from None next none = none
  date_first from (Some (found.Object number dnode)) next none = record { from_on = next.from_on; none_before = none; included = by_date snap source listed withheld number next.included; is = next.is }
  date_first from (Some (found.Gone first count)) next none = record {
    from_on = next.from_on;
    some = next.some;
    under = next.under;
    none_before = none;
    included = λ k u l. by_date snap source listed withheld k (next.included k u l);
    absent = next.absent;
  }
  date_first from (Some (found.Pairs object first count what ptr)) next none = next

  -- numbers of which no list has a pair are passed over
  pub passed_to : (from at below number : ℕ) → NoNumber snap (choice_after source) from below → number ≤ below → from ≤ at → NoNumber snap (choice_with source listed withheld) from at
      → ((k : ℕ) → at ≤ k → k < number → IsUnlisted listed withheld k) → NoNumber snap (choice_with source listed withheld) from number
  passed_to from at below number early less on none unlisted k u l = ⊎_elim
      (λ before. none k u before)
      (λ over. unlisted_early snap source listed withheld k (λ i under. unlisted k over l i) (early k u (omega arith)))
      (cases_lt k at)

  -- so is one of which no list has a pair below its end
  pub passed_by : (from below number : ℕ) → NoNumber snap (choice_after source) from below → from ≤ number → number < below → NoNumber snap (choice_with source listed withheld) from number
      → FindsObject has reads snap listed withheld number None → NoNumber snap (choice_with source listed withheld) from (number + 1)
  passed_by from below number early on under none unlisted k u l = ⊎_elim
      (λ before. none k u before)
      (λ over. let same : number ≡ k = omega arith in
      subst (λ (n : ℕ). includes_number snap (choice_with source listed withheld) n ≡ false) same (unlisted_early snap source listed withheld number unlisted (early number on under)))
      (cases_lt k number)

  -- and then it isn't included
  pub not_by_list : (from below number : ℕ) → NoNumber snap (choice_after source) from below → from ≤ number → number < below → FindsObject has reads snap listed withheld number None → includes_number snap (choice_with source listed withheld) number ≡ false
  not_by_list from below number early on under unlisted = unlisted_early snap source listed withheld number unlisted (early number on under)

  -- an object of which a list has a pair is next
  pub listed_first : (from number : ℕ) (dnode : Dnode) → from ≤ number → 0 < number → number < 2 ^ 48 → dnode.end ≤ index_bound → NoNumber snap (choice_with source listed withheld) from number
      → FindsObject has reads snap listed withheld number (Some dnode) → IsNextObjectIn has reads snap (choice_with source listed withheld) from number dnode
  listed_first from number dnode on some less end none (is, pair) =
      let end_is : end_at (snap.state number) ≡ dnode.end = ap end_at is.there ∙ sym is.is.end_is in
      let under = pair.under in record {
        from_on = on;
        none_before = none;
        included = by_pair snap source listed withheld number (is_number_at number some less) pair.index (omega arith) (omega arith) pair.has;
        is = is;
      }

  module _ (from at below : ℕ) (first : Option WalkEntry) (next : FindsNumber has reads snap (choice_after source) from first) (is : below ≡ first_found first) (on : from ≤ at) (none : NoNumber snap (choice_with source listed withheld) from at) where
    early : NoNumber snap (choice_after source) from below
    early = subst (λ (n : ℕ). NoNumber snap (choice_after source) from n) (sym is) (quiet_before from first next)

    -- where no list has a pair of a number before it, what is first by date is first
    pub dates_next : FindsListed listed withheld at below None → FindsNumber has reads snap (choice_with source listed withheld) from first
    dates_next unlisted = date_first from first next (subst (λ (n : ℕ). NoNumber snap (choice_with source listed withheld) from n) is (passed_to from at below below early (omega arith) on none unlisted))

    module _ (number : ℕ) (listed_is : IsFirstListed listed withheld at below number) where
      over : from ≤ number
      over = let a = listed_is.from_on in omega arith

      to_number : NoNumber snap (choice_with source listed withheld) from number
      to_number = let b = listed_is.under in passed_to from at below number early (omega arith) on none listed_is.none_before

      pub past_number : FindsObject has reads snap listed withheld number None → NoNumber snap (choice_with source listed withheld) from (number + 1)
      past_number unlisted = passed_by from below number early over listed_is.under to_number unlisted

      -- where each number of which a list has a pair is included, the first is an object
      pub no_object : AreIncluded snap (choice_with source listed withheld) listed withheld → FindsObject has reads snap listed withheld number None → ⊥
      no_object included unlisted = false≢true (sym (not_by_list from below number early over listed_is.under unlisted) ∙ included number listed_is.index listed_is.has)

      pub object_next : (dnode : Dnode) → 0 < number → number < 2 ^ 48 → dnode.end ≤ index_bound → FindsObject has reads snap listed withheld number (Some dnode) → IsNextObjectIn has reads snap (choice_with source listed withheld) from number dnode
      object_next dnode some less end found = listed_first from number dnode over some less end to_number found

-- what is found begins at a number
pub found_bound : (from : ℕ) (first : Option WalkEntry) → IfSome first (NumberFits from) → first_found first ≤ 2 ^ 48
found_bound from None fits = omega arith
found_bound from (Some (found.Object number dnode)) (a, b, c) = omega arith
found_bound from (Some (found.Gone first count)) (a, b, c) = omega arith
found_bound from (Some (found.Pairs object first count what ptr)) fits = absurd fits

-- ---- whether one of two lists has a pair

module _ (listed withheld : Runs) (object end : ℕ) where
  -- the pair that is found in the one
  pub in_listed : (found : Option ℕ) → is_some found ≡ true → FindsIn (has_pair listed object) 0 end found → IsListedBelow listed withheld object end
  in_listed None is finds = absurd (cc)
  in_listed (Some index) is first = record { index = index; under = first.under; has = or_left (has_pair listed object index) (has_pair withheld object index) first.passes }

  -- and in the other
  pub in_withheld : (found : Option ℕ) → is_some found ≡ true → FindsIn (has_pair withheld object) 0 end found → IsListedBelow listed withheld object end
  in_withheld None is finds = absurd (cc)
  in_withheld (Some index) is first = record { index = index; under = first.under; has = or_right (has_pair listed object index) (has_pair withheld object index) first.passes }

-- ---- the object of a number

module _ (has : Blocks) (reads : ℕ → ℕ → Blocks) (snap : DatedState) (listed withheld : Runs) (number : ℕ) where
  pub none_told : DnodeIn has reads snap number None → FindsObject has reads snap listed withheld number None
  none_told is i under = let zero : end_at (snap.state number) ≡ 0 = ap end_at (nothing_at has reads snap number is) in absurd (omega arith)

  module _ (dnode : Dnode) (is : DnodeIn has reads snap number (Some dnode)) where
    pub object_told : IsListedBelow listed withheld number dnode.end → FindsObject has reads snap listed withheld number (Some dnode)
    object_told pair = (there_of has reads snap number dnode is, pair)

    pub object_unlisted : ((i : ℕ) → i < dnode.end → (has_pair listed number i || has_pair withheld number i) ≡ false) → FindsObject has reads snap listed withheld number None
    object_unlisted unlisted i under =
        let there = there_of has reads snap number dnode is in
        let end_is : end_at (snap.state number) ≡ dnode.end = ap end_at there.there ∙ sym there.is.end_is in
        unlisted i (omega arith)
