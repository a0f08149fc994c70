-- A sound pool with the snapshot and the head that a grown partial state becomes is sound, and its sources remember what they did.
use Rattle.std.proofs.Common.{◌≡◌, ◌⊎◌, inl, inr, ℕ, ◌<◌, ◌≤◌, Bool, true, false, List, Option, Some, None, IfSome, is_some, find, AllPairs, Contains, map, refl, sym, ap, ◌∙◌, subst, cond, arith}
use Rattle.std.specs.Prelude.{bytes_eq}
use Rattle.std.proofs.lemmas.Bool.{true≢false}
use Rattle.std.proofs.lemmas.List.Elements.{All-contains}
use Rattle.zst_names.specs.Marks.{at_is_mark}
use Rattle.zst_names.specs.Names.{IsDataset}
use Rattle.zst_names.proofs.MarkedNames.{join_is_name}
use Rattle.zst_model.proofs.InsertedLaws.{All-from_contains, AllPairs-inserted, contains-inserted, contains-map, inserted_has_rest, map_contains}
use Rattle.zst_model.proofs.OrderLaws.{bytes_same, not_before_itself, row_before_from, row_before_one_way, row_before_parts, row_before_trans, same_bytes}
use Rattle.zst_model.specs.pools.Pool.{Pool, Dataset, Snapshot, Bookmark, Partial, HasDataset, HasSnapshot, IsLinked, dataset_of_snapshot, dataset_of_bookmark, inserted, is_before, snapshot_is_before}
use Rattle.zst_model.specs.pools.Ancestry.{IsOrigin, IsBase, Source, OfSnapshot, number_of_source, IsIn, StandsBefore, Earlier, AtOrigin, BeforeOrigin, IsBefore, IsBeforePartial}
use Rattle.zst_model.specs.pools.Rows.{Row, snapshot_row, head_row, partial_row, rows}
use Rattle.zst_model.specs.pools.Soundness.{Agrees, DatedUpTo, IsBookmarkOf, Sound}
use Rattle.zst_model.specs.sends.Target.{Remembers}
use Rattle.zst_model.specs.states.DatedState.{DatedState}
use Rattle.zst_model.specs.states.State.{State}
use Rattle.zst_model.proofs.DatedStates.{dated_higher}
use Rattle.zst_model.proofs.FoundElements.{found_passes, none_passes}
use Rattle.zst_laws.specs.RememberedStates.{IsOwn, SourceRemembers}
use Rattle.zst_laws.proofs.pools.Descent.{Rises, agrees_itself, row_cases, IsRow, SnapshotRow, HeadRow, PartialRow}
use Rattle.zst_pool.specs.Partials.{changed_at, dataset_from, head_from}
use Rattle.zst_replication.proofs.SourceStates.{Finds, clone_fits, counts_absent, finds_snapshot, finds_source, target_fits}
use Rattle.zst_replication.proofs.GrownPartials.{AreOrdered, Grown}
use Rattle.zst_replication.proofs.RunningPools.{finished_datasets, finished_snapshot}
use Rattle.zst_replication.proofs.SoundPartials.{AreOlds, IsHeadOf}
use Rattle.zst_replication.proofs.Ancestry.{HasOldOrigins, old_number, old_origins, owner, sound_dated, stood_before, stood_before_partial}

-- ---- the snapshots

-- snapshots of one dataset rise, and stand in their order
abbrev InOrder : Snapshot → Snapshot → Type 0
InOrder a b = Rises a b × (snapshot_is_before b a ≡ false)

-- the greatest number keeps them so
rise-inserted : (row : Snapshot) (xs : List Snapshot) → ((x : Snapshot) → Contains xs x → x.number < row.number) → AllPairs Rises xs → AllPairs (λ a b. snapshot_is_before b a ≡ false) xs
    → AllPairs Rises (inserted snapshot_is_before row xs)
rise-inserted row xs less rise order = λ i j d l b. (both i j d l b).0
  where
    first : (x : Snapshot) → x.number < row.number → snapshot_is_before row x ≡ true → dataset_of_snapshot row ≡ dataset_of_snapshot x → ⊥
    first x l h same = elim (row_before_parts dataset_of_snapshot (λ s. s.number) row x h) [
      | inl before ↦ not_before_itself (dataset_of_snapshot row) (ap (is_before (dataset_of_snapshot row)) same ∙ before)
      | inr (e, k) ↦ absurd (omega arith)
    ]

    one_way : (x y : Snapshot) (t : Bool) → snapshot_is_before y row ≡ t → snapshot_is_before row x ≡ true → snapshot_is_before y x ≡ false → snapshot_is_before y row ≡ false
    one_way x y true e h f = absurd (true≢false (sym (row_before_trans dataset_of_snapshot (λ s. s.number) y row x e h) ∙ f))
    one_way x y false e h f = e

    behind : (x y : Snapshot) → snapshot_is_before row x ≡ true → InOrder x y → y.number < row.number → Rises row y
    behind x y h is l same = elim (row_before_parts dataset_of_snapshot (λ s. s.number) row x h) [
      | inl before ↦
          let early = row_before_from dataset_of_snapshot (λ s. s.number) y x (inl (ap (λ n. is_before n (dataset_of_snapshot x)) (sym same) ∙ before)) in
          absurd (true≢false (sym early ∙ is.1))
      | inr (e, k) ↦ let up = is.0 (sym e ∙ same) in omega arith
    ]

    both : AllPairs InOrder (inserted snapshot_is_before row xs)
    both =
        AllPairs-inserted InOrder snapshot_is_before row xs
        (λ x there h. (λ same. absurd (first x (less x there) h same), row_before_one_way dataset_of_snapshot (λ s. s.number) row x h))
        (λ x there h. (λ same. less x there, h))
        (λ x y there h is. (behind x y h is (less y there), one_way x y (snapshot_is_before y row) refl h is.1))
        (λ i j d l b. (rise i j d l b, order i j d l b))

-- ---- the pool

-- the pool with a snapshot more
abbrev pub finished : Pool → ℕ → List Dataset → Partial → Pool
finished start number datasets partial =
    record start { number = number; datasets = finished_datasets partial datasets; snapshots = inserted snapshot_is_before (finished_snapshot number partial) start.snapshots }

module _ (start : Pool) (partial : Partial) where
  -- a dataset that was there, with its head or, at the target, with what the partial state has; or a new one
  pub record IsHad (dataset : Dataset) : Type 0 where
    pub old : Dataset
    pub there : Contains start.datasets old
    pub name : old.name ≡ dataset.name
    pub origin : old.origin ≡ dataset.origin
    pub head : ((old ≡ dataset) × (dataset.name ≡ partial.target → ⊥)) ⊎ ((dataset.name ≡ partial.target) × (dataset.head ≡ partial.objects))

  abbrev pub IsAfter : Dataset → Type 0
  IsAfter dataset = IsHad dataset ⊎ ((dataset_from partial ≡ dataset) × (HasDataset start partial.target → ⊥))

module _ (start : Pool) (datasets : List Dataset) (partial : Partial) (heads : AreOlds start partial.target datasets) where
  abbrev is_target : Dataset → Bool
  is_target dataset = bytes_eq dataset.name partial.target

  abbrev finish : Dataset → Dataset
  finish = changed_at partial.target (head_from partial)

  other_had : (dataset : Dataset) → Contains datasets dataset → (dataset.name ≡ partial.target → ⊥) → IsHad start partial dataset
  other_had dataset there differs =
      let old = heads.olds dataset there in
      record { old = old.0; there = old.1; name = old.2.name; origin = old.2.origin; head = inl (same old.0 old.2.head, differs) }
    where
      same : (old : Dataset) → IsHeadOf start partial.target old dataset → old ≡ dataset
      same old (inl one) = one
      same old (inr (at, latest, is, back, head)) = absurd (differs at)

  finished_had : (dataset : Dataset) → Contains datasets dataset → IsHad start partial (finish dataset)
  finished_had dataset there = go (is_target dataset) refl
    where
      go : (t : Bool) → is_target dataset ≡ t → IsHad start partial (cond t (head_from partial dataset) dataset)
      go true e =
          let old = heads.olds dataset there in
          record { old = old.0; there = old.1; name = old.2.name; origin = old.2.origin; head = inr (same_bytes dataset.name partial.target e, refl) }
      go false e = other_had dataset there (λ same. true≢false (sym (bytes_same dataset.name partial.target same) ∙ e))

  finish_name : (dataset : Dataset) → (finish dataset).name ≡ dataset.name
  finish_name dataset = go (is_target dataset)
    where
      go : (t : Bool) → (cond t (head_from partial dataset) dataset).name ≡ dataset.name
      go true = refl
      go false = refl

  differs_from : find is_target datasets ≡ None → (dataset : Dataset) → Contains datasets dataset → dataset.name ≡ partial.target → ⊥
  differs_from none dataset there same = true≢false (sym (bytes_same dataset.name partial.target same) ∙ none_passes is_target datasets none dataset there)

  abbrev finished_by : Option Dataset → List Dataset
  finished_by o = cond (is_some o) (map finish datasets) (inserted (λ a b. is_before a.name b.name) (dataset_from partial) datasets)

  pub after_cases : (dataset : Dataset) → Contains (finished_datasets partial datasets) dataset → IsAfter start partial dataset
  after_cases dataset there = go (find is_target datasets) refl there
    where
      go : (o : Option Dataset) → find is_target datasets ≡ o → Contains (finished_by o) dataset → IsAfter start partial dataset
      go (Some found) e there = let old = map_contains finish datasets dataset there in inl (subst (λ (d : Dataset). IsHad start partial d) old.2 (finished_had old.0 old.1))
      go None e there = elim (contains-inserted (λ a b. is_before a.name b.name) (dataset_from partial) datasets dataset there) [
        | inl made ↦ inr (made, λ has. let old = heads.names partial.target has in differs_from e old.0 old.1 old.2)
        | inr old ↦ inl (other_had dataset old (differs_from e dataset old))
      ]

  pub names_stay : (name : List ℕ) → HasDataset start name → (dataset : Dataset) × Contains (finished_datasets partial datasets) dataset × (dataset.name ≡ name)
  names_stay name has = go (find is_target datasets)
    where
      go : (o : Option Dataset) → (dataset : Dataset) × Contains (finished_by o) dataset × (dataset.name ≡ name)
      go (Some found) = let old = heads.names name has in (finish old.0, contains-map finish datasets old.0 old.1, finish_name old.0 ∙ old.2)
      go None = let old = heads.names name has in (old.0, inserted_has_rest (λ a b. is_before a.name b.name) (dataset_from partial) datasets old.0 old.1, old.2)

module _ (start : Pool) (linked : IsLinked start) (named : AreOrdered start.snapshots) (sound : Sound start) (olds : List Partial) (number : ℕ) (later : start.number < number)
    (datasets : List Dataset) (partial : Partial) (heads : AreOlds start partial.target datasets) (grown : Grown start olds number partial)
    (is_name : IsDataset partial.target) (only : (other : Partial) → Contains start.partials other → other.target ≡ partial.target → ⊥)
  where
    abbrev new : Snapshot
    new = finished_snapshot number partial

    abbrev now : Pool
    now = finished start number datasets partial

    new_own : dataset_of_snapshot new ≡ partial.target
    new_own = (join_is_name 64 partial.target partial.component at_is_mark is_name).dataset_back

    new_or_old : (snapshot : Snapshot) → Contains now.snapshots snapshot → (new ≡ snapshot) ⊎ Contains start.snapshots snapshot
    new_or_old snapshot there = contains-inserted snapshot_is_before new start.snapshots snapshot there

    dataset_cases : (dataset : Dataset) → Contains now.datasets dataset → IsAfter start partial dataset
    dataset_cases dataset there = after_cases start datasets partial heads dataset there

    old_less : (snapshot : Snapshot) → Contains start.snapshots snapshot → snapshot.number < number
    old_less snapshot there = let up = old_number start sound snapshot there in omega (arith, up, later)

    -- ---- names that are linked

    linked_name : (o : Option (List ℕ)) (name : List ℕ) → IfSome o (HasSnapshot start) → o ≡ Some name → HasSnapshot start name
    linked_name None name has e = absurd cc
    linked_name (Some other) name has e = let same : other ≡ name = cc in subst (HasSnapshot start) same has

    not_new : (snapshot : Snapshot) → HasSnapshot start snapshot.name → new ≡ snapshot → ⊥
    not_new snapshot has e = grown.free (subst (HasSnapshot start) (sym (ap (λ (s : Snapshot). s.name) e)) has)

    old_of : (snapshot : Snapshot) → HasSnapshot start snapshot.name → Contains now.snapshots snapshot → Contains start.snapshots snapshot
    old_of snapshot has there = elim (new_or_old snapshot there) [
      | inl e ↦ absurd (not_new snapshot has e)
      | inr old ↦ old
    ]

    origin_named : (dataset : Dataset) (name : List ℕ) → IsAfter start partial dataset → dataset.origin ≡ Some name → HasSnapshot start name
    origin_named dataset name (inl had) e =
        linked_name had.old.origin name (All-contains (λ d. IfSome d.origin (HasSnapshot start)) start.datasets had.old linked.origins had.there) (had.origin ∙ e)
    origin_named dataset name (inr made) e = grown.based name (ap (λ (d : Dataset). d.origin) made.0 ∙ e)

    origin_old : (origin : Snapshot) (name : List ℕ) → IsOrigin now origin name → Contains start.snapshots origin
    origin_old origin name is = old_of origin (origin_named is.dataset origin.name (dataset_cases is.dataset is.there) is.is_origin) is.snapshot_there

    pub finished_origin : (origin : Snapshot) (name : List ℕ) → HasDataset start name → IsOrigin now origin name → IsOrigin start origin name
    finished_origin origin name has is = go (dataset_cases is.dataset is.there)
      where
        go : IsAfter start partial is.dataset → IsOrigin start origin name
        go (inl had) = record { dataset = had.old; there = had.there; named = had.name ∙ is.named; snapshot_there = origin_old origin name is; is_origin = had.origin ∙ is.is_origin }
        go (inr made) = absurd (made.1 (subst (HasDataset start) (sym is.named ∙ sym (ap (λ (d : Dataset). d.name) made.0)) has))

    finished_origins : HasOldOrigins (HasDataset start) start now
    finished_origins = old_origins start now linked finished_origin

    base_old : (base : Snapshot) (other : Partial) → Contains start.partials other → IsBase now base other → IsBase start base other
    base_old base other there is = record {
      there = old_of base (linked_name other.base base.name (All-contains (λ p. IfSome p.base (HasSnapshot start)) start.partials other linked.bases there) is.is_base) is.there;
      is_base = is.is_base;
    }

    target_had : (other : Partial) → Contains start.partials other → HasDataset now other.target → HasDataset start other.target
    target_had other there has = go (dataset_cases has.0 has.1)
      where
        go : IsAfter start partial has.0 → HasDataset start other.target
        go (inl had) = (had.old, had.there, had.name ∙ has.2)
        go (inr made) = absurd (only other there (sym has.2 ∙ sym (ap (λ (d : Dataset). d.name) made.0)))

    -- ---- what stands before the target

    clone_origin : (HasDataset start partial.target → ⊥) → (origin : Snapshot) → IsOrigin now origin partial.target → partial.base ≡ Some origin.name
    clone_origin absent origin is = go (dataset_cases is.dataset is.there)
      where
        go : IsAfter start partial is.dataset → partial.base ≡ Some origin.name
        go (inl had) = absurd (absent (had.old, had.there, had.name ∙ is.named))
        go (inr made) = ap (λ (d : Dataset). d.origin) made.0 ∙ is.is_origin

    -- ---- an old source and a row

    module _ (source : Source) (Fits : DatedState → Type 0) (finds : Finds start olds partial.target source Fits) where
      stood : (name : List ℕ) (bound : Option ℕ) → HasDataset start name → StandsBefore now source name bound → StandsBefore start source name bound
      stood name bound has before = stood_before (HasDataset start) start now source finished_origins name bound has before

      before_clone : (HasDataset start partial.target → ⊥) → (name : List ℕ) (bound : Option ℕ) → name ≡ partial.target → StandsBefore now source name bound → Fits partial.objects
      before_clone absent name bound at (Earlier _ _ same below) = absurd (absent (subst (HasDataset start) (same ∙ at) finds.dataset))
      before_clone absent name bound at (AtOrigin _ _ origin is marks) =
          clone_fits start named olds number partial grown source Fits finds origin (origin_old origin name is) (clone_origin absent origin (subst (IsOrigin now origin) at is))
          (counts_absent start source partial absent) (inl marks)
      before_clone absent name bound at (BeforeOrigin _ _ origin is before) =
          let there = origin_old origin name is in
          clone_fits start named olds number partial grown source Fits finds origin there (clone_origin absent origin (subst (IsOrigin now origin) at is))
          (counts_absent start source partial absent) (inr (stood (dataset_of_snapshot origin) (Some origin.number) (owner start linked origin there) before))

      before_target : (bound : Option ℕ) → StandsBefore now source partial.target bound → Fits partial.objects
      before_target bound before = go (find (λ d. bytes_eq d.name partial.target) start.datasets) refl
        where
          go : (o : Option Dataset) → find (λ d. bytes_eq d.name partial.target) start.datasets ≡ o → Fits partial.objects
          go (Some dataset) e =
              let found = found_passes (λ d. bytes_eq d.name partial.target) start.datasets dataset e in
              let has : HasDataset start partial.target = (dataset, found.0, same_bytes dataset.name partial.target found.1) in
              target_fits start named olds number partial grown source Fits finds bound has (stood partial.target bound has before)
          go None e =
              before_clone
              (λ has. true≢false (sym (bytes_same has.0.name partial.target has.2) ∙ none_passes (λ d. bytes_eq d.name partial.target) start.datasets e has.0 has.1))
              partial.target bound refl before

      at_target : (name : List ℕ) (bound : Option ℕ) → name ≡ partial.target → StandsBefore now source name bound → Fits partial.objects
      at_target name bound at before = before_target bound (subst (λ (n : List ℕ). StandsBefore now source n bound) at before)

      head_fits : (dataset : Dataset) → IsAfter start partial dataset → StandsBefore now source dataset.name None → Fits dataset.head
      head_fits dataset (inl had) before = go had.head
        where
          go : ((had.old ≡ dataset) × (dataset.name ≡ partial.target → ⊥)) ⊎ ((dataset.name ≡ partial.target) × (dataset.head ≡ partial.objects)) → Fits dataset.head
          go (inl (one, differs)) =
              subst (λ (d : Dataset). Fits d.head) one
              (finds.later (head_row start.number had.old) (HeadRow had.old had.there)
              (stood had.old.name None (had.old, had.there, refl) (subst (λ (n : List ℕ). StandsBefore now source n None) (sym had.name) before)))
          go (inr (at, head)) = subst (λ (d : DatedState). Fits d) (sym head) (at_target dataset.name None at before)
      head_fits dataset (inr made) before =
          subst (λ (d : Dataset). Fits d.head) made.0 (at_target dataset.name None (sym (ap (λ (d : Dataset). d.name) made.0)) before)

      snapshot_fits : (snapshot : Snapshot) → (new ≡ snapshot) ⊎ Contains start.snapshots snapshot → StandsBefore now source (dataset_of_snapshot snapshot) (Some snapshot.number) → Fits snapshot.objects
      snapshot_fits snapshot (inl one) before =
          subst (λ (s : Snapshot). Fits s.objects) one (at_target (dataset_of_snapshot snapshot) (Some snapshot.number) (sym (ap dataset_of_snapshot one) ∙ new_own) before)
      snapshot_fits snapshot (inr old) before =
          finds.later (snapshot_row snapshot) (SnapshotRow snapshot old) (stood (dataset_of_snapshot snapshot) (Some snapshot.number) (owner start linked snapshot old) before)

      pub row_fits : (row : Row) → IsRow now row → IsBefore now source row.place → Fits row.objects
      row_fits row (SnapshotRow snapshot there) before = snapshot_fits snapshot (new_or_old snapshot there) before
      row_fits row (HeadRow dataset there) before = head_fits dataset (dataset_cases dataset there) before
      row_fits row (PartialRow other there) before =
          finds.later (partial_row start.number other) (PartialRow other there)
          (stood_before_partial (HasDataset start) start now source other finished_origins
          (λ base is. let was = base_old base other there is in (was, owner start linked base was.there)) (λ has. let was = target_had other there has in (was, was))
          (names_stay start datasets partial heads other.target) before)

    -- what a source remembers, it remembers in the pool: no old source has the new snapshot's number
    own_remembers : (source : Source) (state : State) → Finds start olds partial.target source (λ snap. Remembers snap (number_of_source source) state) → (snapshot : Snapshot) → IsOwn source snapshot
        → (new ≡ snapshot) ⊎ Contains start.snapshots snapshot → Remembers snapshot.objects (number_of_source source) state
    own_remembers source state finds snapshot own (inl one) =
        let up = finds.number in let same = own.number in let is = ap (λ (s : Snapshot). s.number) one in absurd (omega (arith, up, same, is, later))
    own_remembers source state finds snapshot own (inr old) = finds.own snapshot old own

    pub finished_remembers : (source : Source) (state : State) → IsIn start source → SourceRemembers start source state
        → ((old : Partial) → Contains olds old → IsBeforePartial start source old → Remembers old.objects (number_of_source source) state) → SourceRemembers now source state
    finished_remembers source state here remembers held =
        let finds = finds_source start linked sound olds partial.target source state here remembers held in record {
          own = λ snapshot there own. own_remembers source state finds snapshot own (new_or_old snapshot there);
          later = λ row there before. row_fits source (λ snap. Remembers snap (number_of_source source) state) finds row (row_cases now row there) before;
        }

    -- ---- the new snapshot and a row

    not_old : (snapshot : Snapshot) → Contains start.snapshots snapshot → new ≡ snapshot → ⊥
    not_old snapshot there e = let less = old_less snapshot there in let same = ap (λ (s : Snapshot). s.number) e in omega (arith, less, same)

    -- it stands before nothing up to its number
    before_none : (name : List ℕ) (bound : ℕ) → bound ≤ number → StandsBefore now (OfSnapshot new) name (Some bound) → ⊥
    before_none name bound up (Earlier _ _ same below) = omega (arith, up, below)
    before_none name bound up (AtOrigin _ _ origin is marks) = not_old origin (origin_old origin name is) marks
    before_none name bound up (BeforeOrigin _ _ origin is before) =
        let less = old_less origin (origin_old origin name is) in before_none (dataset_of_snapshot origin) origin.number (omega (arith, less)) before

    -- and before its own head alone
    before_head : (name : List ℕ) → StandsBefore now (OfSnapshot new) name None → partial.target ≡ name
    before_head name (Earlier _ _ same below) = sym new_own ∙ same
    before_head name (AtOrigin _ _ origin is marks) = absurd (not_old origin (origin_old origin name is) marks)
    before_head name (BeforeOrigin _ _ origin is before) =
        let less = old_less origin (origin_old origin name is) in absurd (before_none (dataset_of_snapshot origin) origin.number (omega (arith, less)) before)

    any_up : (snapshot : Snapshot) → Contains now.snapshots snapshot → snapshot.number ≤ number
    any_up snapshot there = elim (new_or_old snapshot there) [
      | inl one ↦ let same = ap (λ (s : Snapshot). s.number) one in omega (arith, same)
      | inr old ↦ let less = old_less snapshot old in omega (arith, less)
    ]

    own_head : (dataset : Dataset) → IsAfter start partial dataset → partial.target ≡ dataset.name → Agrees new dataset.head
    own_head dataset (inl had) at = elim had.head [
      | inl (one, differs) ↦ absurd (differs (sym at))
      | inr (same, head) ↦ subst (λ (d : DatedState). Agrees new d) (sym head) (agrees_itself new)
    ]
    own_head dataset (inr made) at = subst (λ (d : Dataset). Agrees new d.head) made.0 (agrees_itself new)

    before_no_partial : (other : Partial) → Contains start.partials other → IsBeforePartial now (OfSnapshot new) other → ⊥
    before_no_partial other there (inl at) = only other there (sym (before_head other.target at.before))
    before_no_partial other there (inr at) =
        let clone = at.1 in
        let old = (base_old clone.base other there clone.is_base).there in
        let less = old_less clone.base old in
        elim clone.before [
          | inl marks ↦ not_old clone.base old marks
          | inr before ↦ before_none (dataset_of_snapshot clone.base) clone.base.number (omega (arith, less)) before
        ]

    new_agrees : (row : Row) → IsRow now row → IsBefore now (OfSnapshot new) row.place → Agrees new row.objects
    new_agrees row (SnapshotRow snapshot there) before = absurd (before_none (dataset_of_snapshot snapshot) snapshot.number (any_up snapshot there) before)
    new_agrees row (HeadRow dataset there) before = own_head dataset (dataset_cases dataset there) (before_head dataset.name before)
    new_agrees row (PartialRow other there) before = absurd (before_no_partial other there before)

    abbrev Held : Type 0
    Held = (earlier : Snapshot) → Contains start.snapshots earlier → (old : Partial) → Contains olds old → IsBeforePartial start (OfSnapshot earlier) old → Agrees earlier old.objects

    row_agrees : Held → (earlier : Snapshot) (row : Row) → (new ≡ earlier) ⊎ Contains start.snapshots earlier → IsRow now row → IsBefore now (OfSnapshot earlier) row.place → Agrees earlier row.objects
    row_agrees held earlier row (inl one) is before =
        subst (λ (s : Snapshot). Agrees s row.objects) one (new_agrees row is (subst (λ (s : Snapshot). IsBefore now (OfSnapshot s) row.place) (sym one) before))
    row_agrees held earlier row (inr old) is before = row_fits (OfSnapshot earlier) (Agrees earlier) (finds_snapshot start linked sound olds partial.target earlier old (held earlier old)) row is before

    -- ---- dates

    up_to : (state : DatedState) → DatedUpTo start.number state → DatedUpTo number state
    up_to state h = dated_higher start.number number (omega (arith, later)) state h

    head_dated : (dataset : Dataset) → IsAfter start partial dataset → DatedUpTo number dataset.head
    head_dated dataset (inl had) = elim had.head [
      | inl (one, differs) ↦ subst (λ (d : Dataset). DatedUpTo number d.head) one (up_to had.old.head (sound_dated start sound (head_row start.number had.old) (HeadRow had.old had.there)))
      | inr (at, head) ↦ subst (λ (d : DatedState). DatedUpTo number d) (sym head) grown.dated
    ]
    head_dated dataset (inr made) = subst (λ (d : Dataset). DatedUpTo number d.head) made.0 grown.dated

    row_dated : (row : Row) → IsRow now row → DatedUpTo row.number row.objects
    row_dated row (SnapshotRow snapshot there) = elim (new_or_old snapshot there) [
      | inl one ↦ subst (λ (s : Snapshot). DatedUpTo s.number s.objects) one grown.dated
      | inr old ↦ sound_dated start sound (snapshot_row snapshot) (SnapshotRow snapshot old)
    ]
    row_dated row (HeadRow dataset there) = head_dated dataset (dataset_cases dataset there)
    row_dated row (PartialRow other there) = up_to other.objects (sound_dated start sound (partial_row start.number other) (PartialRow other there))

    number_above : (origin snapshot : Snapshot) → Contains now.snapshots snapshot → IsOrigin now origin (dataset_of_snapshot snapshot) → origin.number < snapshot.number
    number_above origin snapshot there is = elim (new_or_old snapshot there) [
      | inl one ↦ let same = ap (λ (s : Snapshot). s.number) one in let less = old_less origin (origin_old origin (dataset_of_snapshot snapshot) is) in omega (arith, same, less)
      | inr old ↦ sound.dated.above origin snapshot old (finished_origin origin (dataset_of_snapshot snapshot) (owner start linked snapshot old) is)
    ]

    bookmark_stays : (bookmark : Bookmark) → IsBookmarkOf start bookmark → IsBookmarkOf now bookmark
    bookmark_stays bookmark is = record {
      dataset = names_stay start datasets partial heads (dataset_of_bookmark bookmark) is.dataset;
      above = λ origin of. is.above origin (finished_origin origin (dataset_of_bookmark bookmark) is.dataset of);
      number = let l = is.number in omega (arith, l, later);
      guid = λ snapshot there own same. elim (new_or_old snapshot there) [
        | inl one ↦ let n = ap (λ (s : Snapshot). s.number) one in let l = is.number in absurd (omega (arith, n, l, same, later))
        | inr old ↦ is.guid snapshot old own same
      ];
    }

    pub finished_sound : ((earlier : Snapshot) → Contains start.snapshots earlier → (old : Partial) → Contains olds old → IsBeforePartial start (OfSnapshot earlier) old → Agrees earlier old.objects) → Sound now
    finished_sound held = record {
      agree = λ earlier row here there before. row_agrees held earlier row (new_or_old earlier here) (row_cases now row there) before;
      dated = record {
        states = All-from_contains (λ r. DatedUpTo r.number r.objects) (rows now) (λ row there. row_dated row (row_cases now row there));
        numbers = All-from_contains (λ s. s.number ≤ number) now.snapshots any_up;
        rise = rise-inserted new start.snapshots old_less sound.dated.rise named.order;
        above = number_above;
      };
      bookmarks = All-from_contains (IsBookmarkOf now) start.bookmarks (λ b there. bookmark_stays b (All-contains (IsBookmarkOf start) start.bookmarks b sound.bookmarks there));
    }
