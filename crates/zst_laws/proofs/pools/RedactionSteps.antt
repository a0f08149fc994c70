-- What redaction bookmarks list stays so while commands run, and a redaction lists what its redaction snapshots leave.
use Rattle.std.proofs.Common.{◌≡◌, ◌⊎◌, inl, inr, ℕ, ◌+◌, ◌^◌, ◌<◌, ◌≤◌, Bool, true, false, not, ◌&&◌, List, Some, Ok, Contains, nat_lt, refl, sym, ap, ◌∙◌, subst, arith}
use Rattle.std.specs.List.{list_all}
use Rattle.std.proofs.lemmas.Bool.{true≢false, not-false, cases_lt}
use Rattle.std.proofs.lemmas.List.Elements.{All-contains}
use Rattle.zst_model.proofs.InsertedLaws.{contains-map, map_contains, contains-inserted}
use Rattle.zst_model.proofs.FoundElements.{none_passes}
use Rattle.zst_model.proofs.OneList.{pair_bounded}
use Rattle.zst_model.proofs.RunsOf.{runs_list}
use Rattle.zst_model.specs.declared.pools.command.Command.TheVariants as commands
use Rattle.zst_model.specs.fields.Guids.{IsGuidSet}
use Rattle.zst_model.specs.fields.Lists.{has_pair}
use Rattle.zst_model.specs.fields.RunsOf.{runs_of}
use Rattle.zst_model.specs.pools.Ancestry.{OfSnapshot, OfBookmark}
use Rattle.zst_model.specs.pools.Pool.{Pool, Snapshot, Bookmark, IsGuid, IsPool, dataset_of_snapshot, inserted, is_before}
use Rattle.zst_model.specs.pools.RedSet.{is_user_block, objects_of, red_set}
use Rattle.zst_model.specs.pools.Soundness.{Sound}
use Rattle.zst_model.specs.pools.Step.{Stepped, redaction_of, stepped, with_redaction}
use Rattle.zst_model.specs.sends.SendPlan.{comes_before}
use Rattle.zst_model.specs.sends.Inclusion.{Pairs}
use Rattle.zst_model.specs.states.DatedState.{DatedState}
use Rattle.zst_model.specs.states.State.{IsState, index_bound, is_number}
use Rattle.zst_laws.specs.RedactionLists.{AreListed, AreRedactions, HaveOwnGuids, Lists}
use Rattle.zst_laws.specs.RedactionSteps.{StepsKeepLists}
use Rattle.zst_laws.specs.RememberedStates.{IsOwn}
use Rattle.zst_laws.proofs.pools.AcceptedRedactions.{IsNewRedaction, each_there, guid_of_one, one_has_guid, with_redaction_ok}
use Rattle.zst_laws.proofs.pools.Ancestry.{HasOrigins, stands_on}
use Rattle.zst_laws.proofs.pools.CoveredBases.{lost_parts, lost_bounded}
use Rattle.zst_laws.proofs.pools.Filters.{all_pass, each_passes}
use Rattle.zst_laws.proofs.pools.ListedSteps.{adds_to, next_listed, old_listed, steps_bookmarks}
use Rattle.zst_laws.proofs.pools.Descent.{same_snapshot}
use Rattle.zst_laws.proofs.pools.Rows.{committed_ok, named_found}
use Rattle.zst_laws.proofs.pools.SendPlans.{before_tested}
use Rattle.zst_laws.proofs.pools.SoundBookmarks.{bookmark_next}
use Rattle.zst_laws.proofs.pools.SoundSteps.{steps_follow}

module _ (of name : List ℕ) (kept : List (List ℕ)) (pool : Pool) (after : Stepped) (is : IsPool pool) (sound : Sound pool) (new : IsNewRedaction of name kept pool after) where
  -- the new bookmark, and the pool of the next commit with it
  abbrev row : Bookmark
  row = redaction_of name new.snapshot new.redactions

  abbrev next_pool : Pool
  next_pool = record pool { bookmarks = inserted (λ a b. is_before a.name b.name) row pool.bookmarks; number = pool.number + 1 }

  here : Contains pool.snapshots new.snapshot
  here = (named_found (λ s. s.name) of pool.snapshots new.snapshot new.there).0

  lawful_of : (snapshot : Snapshot) → Contains pool.snapshots snapshot → IsGuid snapshot.guid × IsGuidSet snapshot.redact × IsState snapshot.objects.state × (snapshot.time < 2 ^ 64)
  lawful_of snapshot there = All-contains (λ s. IsGuid s.guid × IsGuidSet s.redact × IsState s.objects.state × (s.time < 2 ^ 64)) pool.snapshots snapshot is.snapshots there

  -- the redaction snapshots of the new bookmark are those that were named
  module _ (guids : HaveOwnGuids pool) (redactions : List Snapshot) (are : AreRedactions next_pool new.snapshot row.redact redactions) where
    named : (redaction : Snapshot) → Contains redactions redaction → Contains new.redactions redaction
    named redaction k =
        let among = subst (λ gs. Contains gs redaction.guid) are.guids_are (contains-map (λ (s : Snapshot). s.guid) redactions redaction k) in
        let one = guid_of_one new.redactions redaction.guid among in
        subst (Contains new.redactions) (guids one.0 redaction (each_there kept pool new.redactions new.found one.0 one.1) (are.there redaction k) one.2) one.1

    origins : HasOrigins next_pool pool
    origins origin dataset o = record { dataset = o.dataset; there = o.there; named = o.named; snapshot_there = o.snapshot_there; is_origin = o.is_origin }

    wanted : (redaction : Snapshot) → Contains new.redactions redaction → Contains redactions redaction
    wanted redaction k =
        let there = each_there kept pool new.redactions new.found redaction k in
        let passes = not-false (comes_before pool (OfSnapshot new.snapshot) redaction) (none_passes (λ (r : Snapshot). not (comes_before pool (OfSnapshot new.snapshot) r)) new.redactions new.descend redaction k) in
        let stands = (before_tested pool (OfSnapshot new.snapshot) redaction is sound here there).0 passes in
        are.alone redaction there (stands_on pool next_pool (OfSnapshot new.snapshot) origins (dataset_of_snapshot redaction) (Some redaction.number) stands) (one_has_guid new.redactions redaction k)

    same_redactions : (k i : ℕ) → red_set new.snapshot.objects.state new.snapshot.number (objects_of new.redactions) k i ≡ red_set new.snapshot.objects.state new.snapshot.number (objects_of redactions) k i
    same_redactions k i = ap (λ t. is_user_block (new.snapshot.objects.state k) i && t) (go _ _ refl refl)
      where
        test : DatedState → Bool
        test d = nat_lt new.snapshot.number (d.index_date k i)

        moved : (xs ys : List Snapshot) → ((s : Snapshot) → Contains ys s → Contains xs s) → list_all test (objects_of xs) ≡ true → list_all test (objects_of ys) ≡ true
        moved xs ys sub all = all_pass test (objects_of ys) (λ d there.
            let found = map_contains (λ (s : Snapshot). s.objects) ys d there in
            subst (λ x. test x ≡ true) found.2 (each_passes test (objects_of xs) found.0.objects all (contains-map (λ (s : Snapshot). s.objects) xs found.0 (sub found.0 found.1))))

        go : (t u : Bool) → list_all test (objects_of new.redactions) ≡ t → list_all test (objects_of redactions) ≡ u → t ≡ u
        go true true e f = refl
        go false false e f = refl
        go true false e f = absurd (true≢false (sym (moved new.redactions redactions named e) ∙ f))
        go false true e f = absurd (true≢false (sym (moved redactions new.redactions wanted f) ∙ e))

    abbrev pairs : Pairs
    pairs = red_set new.snapshot.objects.state new.snapshot.number (objects_of new.redactions)

    -- so its list is theirs
    new_lists : Lists row new.snapshot redactions
    new_lists k i = both k i (is_number k) refl (cases_lt i index_bound) ∙ same_redactions k i
      where
        outside : (k i : ℕ) → ((is_number k ≡ true) × (i < index_bound) → ⊥) → has_pair (runs_of pairs) k i ≡ pairs k i
        outside k i out = none _ _ refl refl
          where
            none : (t u : Bool) → has_pair (runs_of pairs) k i ≡ t → pairs k i ≡ u → t ≡ u
            none true u e f = absurd (out (pair_bounded (runs_of pairs) k i (runs_list pairs).lawful e))
            none false false e f = refl
            none false true e f =
                let gone = lost_parts new.snapshot.objects.state new.snapshot.number new.redactions k i f in
                absurd (out (lost_bounded new.snapshot.objects.state (lawful_of new.snapshot here).2 new.snapshot.number new.redactions k i gone))

        both : (k i : ℕ) (t : Bool) → is_number k ≡ t → (i < index_bound) ⊎ (index_bound ≤ i) → has_pair (runs_of pairs) k i ≡ pairs k i
        both k i true n (inl l) = (runs_list pairs).same k i n l
        both k i true n (inr g) = outside k i (λ (m, l). omega arith)
        both k i false n l = outside k i (λ (m, b). true≢false (sym m ∙ n))

  pub redacted_listed : HaveOwnGuids pool → AreListed pool → AreListed next_pool
  redacted_listed guids listed bookmark own redactions marked some there own_is are =
      elim (contains-inserted (λ a b. is_before a.name b.name) row pool.bookmarks bookmark marked) [
        | inl e ↦
            let one : own ≡ new.snapshot = same_snapshot pool.snapshots sound.dated.rise own new.snapshot there here
            (sym (subst (λ (b : Bookmark). IsOwn (OfBookmark b) own) (sym e) own_is).dataset ∙ sym new.same) (sym (subst (λ (b : Bookmark). IsOwn (OfBookmark b) own) (sym e) own_is).number) in
            subst (λ (b : Bookmark). Lists b own redactions) e (subst (λ (s : Snapshot). Lists row s redactions) (sym one)
            (new_lists guids redactions (subst (λ (s : Snapshot). AreRedactions next_pool s row.redact redactions) one (subst (λ (b : Bookmark). AreRedactions next_pool own b.redact redactions) (sym e) are))))
        | inr old ↦
            old_listed pool next_pool is.linked sound (adds_to pool next_pool (bookmark_next pool row new.snapshot is.linked sound here refl refl new.same)) guids
            (λ snapshot b inside was among. inside) listed bookmark own redactions old some there own_is are
      ]

redactions_listed : (of name : List ℕ) (kept : List (List ℕ)) (pool : Pool) (after : Stepped) → IsPool pool → Sound pool → HaveOwnGuids pool → AreListed pool
    → with_redaction of name kept pool ≡ Ok after → AreListed after.pool
redactions_listed of name kept pool after is sound guids listed h =
    let new = with_redaction_ok of name kept pool after h in
    subst (λ (s : Stepped). AreListed s.pool) (committed_ok _ after new.made).1 (redacted_listed of name kept pool after is sound new guids listed)

pub steps_listed : StepsKeepLists
unfolding stepped
steps_listed held now (commands.Redact of name kept) pool after words is sound guids listed h new = redactions_listed of name kept pool after is sound guids listed h
steps_listed held now command pool after words is sound guids listed h new = elim (steps_follow held now command pool after words is sound h) [
  | inl same ↦ subst AreListed (sym same) listed
  | inr follows ↦ next_listed pool after.pool is.linked sound (adds_to pool after.pool follows.next) guids new (steps_bookmarks held now command pool after h) listed
]
