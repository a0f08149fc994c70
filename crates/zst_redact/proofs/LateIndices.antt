-- Which indices of a number some states date after a number.
use Rattle.std.proofs.Common.{◌≡◌, ℕ, ◌^◌, ◌≤◌, true, false, refl, sym, subst, ⊎_elim, arith, List, [], ◌∷◌, nat_lt}
use Rattle.std.specs.Prelude.{Option, Some, None, Result}
use Rattle.std.specs.List.{AllZip}
use Rattle.std.proofs.lemmas.Bool.{and_from, and_left, and_right, cases_lt, le-ltb, lt-ltb}
use Rattle.zst_block.specs.declared.fault.BlockFault.{BlockFault}
use Rattle.zst_dnode.specs.declared.dnode.Dnode.{Dnode}
use Rattle.zst_model.specs.states.DatedState.{DatedState}
use Rattle.zst_model.specs.states.State.{index_bound}
use Rattle.zst_tree.specs.Indices.{Blocks, Delivers}
use Rattle.zst_tree.specs.LateIndices.{FindsFirst}
use Rattle.zst_tree.specs.declared.tree.ObjSet.{ObjSet}
use Rattle.zst_tree.proofs.Results.{delivers_if}
use Rattle.zst_objset.specs.Dnodes.{IsAbsent, IsThere}
use Rattle.zst_objset.specs.Sets.{SetHolds}
use Rattle.zst_traverse.specs.Runs.{FindsIn}
use Rattle.zst_redact.specs.Passes.{PassesTo, are_late, is_late}

module _ (number object from : ℕ) where
  -- an absent number's indices have its date
  pub absent_late : (kept : DatedState) (date : ℕ) → IsAbsent kept object date → (found : Option ℕ) → FindsIn (λ i. nat_lt number date) from (2 ^ 43) found → FindsIn (is_late number kept object) from (2 ^ 43) found
  unfolding index_bound
  absent_late kept date is None none = λ i on under. subst (λ (n : ℕ). nat_lt number n ≡ false) (sym (is.dates i under)) (none i on under)
  absent_late kept date is (Some found) first = record {
    from_on = first.from_on;
    under = first.under;
    passes = subst (λ (n : ℕ). nat_lt number n ≡ true) (sym (is.dates found first.under)) first.passes;
    none_before = λ i on before. let under = first.under in subst (λ (n : ℕ). nat_lt number n ≡ false) (sym (is.dates i (omega (arith, before, under)))) (first.none_before i on before);
  }

  -- an object's indices have the dates of its tree
  there_found : (has : Blocks) (kept : DatedState) (dnode : Dnode) (is : IsThere has kept object dnode) → (found : Option ℕ) → FindsFirst is.map from (2 ^ 43) number found → FindsIn (is_late number kept object) from (2 ^ 43) found
  unfolding index_bound
  there_found has kept dnode is None quiet = λ i on under. subst (λ (n : ℕ). nat_lt number n ≡ false) (is.is.index_dates i under) (le-ltb number (is.map i).number (quiet.early i on under))
  there_found has kept dnode is (Some found) first = record {
    from_on = first.from_on;
    under = first.under;
    passes = subst (λ (n : ℕ). nat_lt number n ≡ true) (is.is.index_dates found first.under) (lt-ltb number (is.map found).number first.late);
    none_before = λ i on before.
        let under = first.under in
        subst (λ (n : ℕ). nat_lt number n ≡ false) (is.is.index_dates i (omega (arith, before, under))) (le-ltb number (is.map i).number (first.quiet.early i on before));
  }

  pub there_late : (has : Blocks) (kept : DatedState) (dnode : Dnode) (is : IsThere has kept object dnode) → (result : Result (Option ℕ) BlockFault) → Delivers (FindsFirst is.map from (2 ^ 43) number) result → Delivers (FindsIn (is_late number kept object) from (2 ^ 43)) result
  there_late has kept dnode is result found = delivers_if _ _ result (there_found has kept dnode is) found

  -- what isn't an index has no late date
  late_past : (has : Blocks) (set : ObjSet) (kept : DatedState) → SetHolds has set kept → (i : ℕ) → 2 ^ 43 ≤ i → is_late number kept object i ≡ false
  unfolding index_bound
  late_past has set kept holds i over = subst (λ (n : ℕ). nat_lt number n ≡ false) (sym (holds.bounded.no_index object i over)) (le-ltb number 0 (omega arith))

  -- of no sets each index passes
  pub none_passed : (has : Blocks) (sets : List ObjSet) (kept : List DatedState) → sets ≡ [] → AllZip (SetHolds has) sets kept → PassesTo (are_late number kept object) from (Some from)
  none_passed has sets kept none each = go kept (subst (λ (s : List ObjSet). AllZip (SetHolds has) s kept) none each)
    where
      go : (kept : List DatedState) → AllZip (SetHolds has) [] kept → PassesTo (are_late number kept object) from (Some from)
      go [] each = record { from_on = omega arith; none_before = λ i on before. absurd (omega arith); stays = λ same. refl }
      go (first ∷ rest) each = absurd each

  module _ (has : Blocks) (set : ObjSet) (rest : List ObjSet) where
    -- where the first set dates no index late, no index is dated so by each
    pub first_none : (kept : List DatedState) → AllZip (SetHolds has) (set ∷ rest) kept → ((first : DatedState) → SetHolds has set first → FindsIn (is_late number first object) from (2 ^ 43) None)
        → PassesTo (are_late number kept object) from None
    first_none [] each found = absurd each
    first_none (first ∷ kept) each found = λ i on.
        and_left (is_late number first object i) (are_late number kept object i)
        (⊎_elim (λ under. found first each.0 i on under) (λ over. late_past has set first each.0 i over) (cases_lt i (2 ^ 43)))

    -- else the others pass over more behind its first one
    passed_on : (first : DatedState) (kept : List DatedState) (late : ℕ) → FindsIn (is_late number first object) from (2 ^ 43) (Some late) → (passed : Option ℕ) → PassesTo (are_late number kept object) late passed
        → PassesTo (are_late number (first ∷ kept) object) from passed
    passed_on first kept late found None none = λ i on.
        ⊎_elim
        (λ before. and_left (is_late number first object i) (are_late number kept object i) (found.none_before i on before))
        (λ behind. and_right (is_late number first object i) (are_late number kept object i) (none i behind))
        (cases_lt i late)
    passed_on first kept late found (Some to) stops =
        let on = found.from_on in
        let over = stops.from_on in
        record {
          from_on = omega (arith, on, over);
          none_before = λ i low before.
              ⊎_elim
              (λ early. and_left (is_late number first object i) (are_late number kept object i) (found.none_before i low early))
              (λ behind. and_right (is_late number first object i) (are_late number kept object i) (stops.none_before i behind before))
              (cases_lt i late);
          stays = λ same.
              let here : to ≡ late = omega (arith, on, over, same) in
              and_from (is_late number first object to) (are_late number kept object to)
              (subst (λ (i : ℕ). is_late number first object i ≡ true) (sym here) found.passes)
              (stops.stays here);
        }

    pub first_some : (late : ℕ) (result : Result (Option ℕ) BlockFault) → ((kept : List DatedState) → AllZip (SetHolds has) rest kept → Delivers (PassesTo (are_late number kept object) late) result)
        → (kept : List DatedState) → AllZip (SetHolds has) (set ∷ rest) kept → ((first : DatedState) → SetHolds has set first → FindsIn (is_late number first object) from (2 ^ 43) (Some late))
        → Delivers (PassesTo (are_late number kept object) from) result
    first_some late result others [] each found = absurd each
    first_some late result others (first ∷ kept) each found = delivers_if _ _ result (passed_on first kept late (found first each.0)) (others kept each.1)
