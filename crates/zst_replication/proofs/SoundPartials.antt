-- A sound pool with a partial state that has grown, and with its target's head rolled back or as it was, is sound, and its sources remember what they
-- did.
use Rattle.std.proofs.Common.{◌≡◌, ◌⊎◌, inl, inr, ℕ, ◌≤◌, Bool, true, false, List, Option, Some, None, AllPairs, Contains, map, refl, sym, ◌∙◌, subst, cond, arith}
use Rattle.std.specs.Prelude.{bytes_eq}
use Rattle.std.proofs.lemmas.List.Elements.{All-contains}
use Rattle.zst_model.proofs.InsertedLaws.{All-from_contains, contains-inserted, contains-map, map_contains}
use Rattle.zst_model.proofs.OrderLaws.{same_bytes}
use Rattle.zst_model.specs.pools.Pool.{Pool, Dataset, Snapshot, Bookmark, Partial, HasDataset, IsLinked, dataset_of_snapshot, dataset_of_bookmark, inserted, is_before}
use Rattle.zst_model.specs.pools.Ancestry.{IsOrigin, Source, OfSnapshot, number_of_source, IsIn, StandsBefore, IsBefore, IsBeforePartial}
use Rattle.zst_model.specs.pools.Rows.{Row, snapshot_row, head_row, partial_row, rows}
use Rattle.zst_model.specs.pools.Soundness.{Agrees, DatedUpTo, IsBookmarkOf, Sound}
use Rattle.zst_model.specs.sends.Target.{Remembers}
use Rattle.zst_model.specs.states.DatedState.{DatedState}
use Rattle.zst_model.specs.states.State.{State}
use Rattle.zst_model.proofs.DatedStates.{dated_higher}
use Rattle.zst_laws.specs.RememberedStates.{SourceRemembers}
use Rattle.zst_laws.proofs.pools.Descent.{Rises, row_cases, IsRow, SnapshotRow, HeadRow, PartialRow}
use Rattle.zst_pool.specs.Partials.{changed_at, latest_snapshot, rolled, rolled_back, rolled_to}
use Rattle.zst_replication.proofs.SourceStates.{Finds, clone_fits, finds_snapshot, finds_source, latest_fits, target_fits}
use Rattle.zst_replication.proofs.GrownPartials.{AreOrdered, Grown, IsLatest, MayGoBack, latest_is}
use Rattle.zst_replication.proofs.Ancestry.{HasOldOrigins, counted, old_number, old_origins, owner, sound_dated, stood_before, stood_before_partial}

-- ---- the datasets

-- a dataset has the head that an old one had, or that of the target's latest snapshot
abbrev pub IsHeadOf : Pool → List ℕ → Dataset → Dataset → Type 0
IsHeadOf start target old dataset = (old ≡ dataset) ⊎ ((dataset.name ≡ target) × (latest : Snapshot) × IsLatest start target latest × MayGoBack start target latest.number × (dataset.head ≡ latest.objects))

-- and its name and origin
pub record IsOldOf (start : Pool) (target : List ℕ) (old dataset : Dataset) : Type 0 where
  pub name : old.name ≡ dataset.name
  pub origin : old.origin ≡ dataset.origin
  pub head : IsHeadOf start target old dataset

-- the datasets are the old ones, but for the head of the target, which may be rolled back
pub record AreOlds (start : Pool) (target : List ℕ) (datasets : List Dataset) : Type 0 where
  pub olds : (dataset : Dataset) → Contains datasets dataset → (old : Dataset) × Contains start.datasets old × IsOldOf start target old dataset
  pub names : (name : List ℕ) → HasDataset start name → (dataset : Dataset) × Contains datasets dataset × (dataset.name ≡ name)

pub same_olds : (start : Pool) (target : List ℕ) → AreOlds start target start.datasets
same_olds start target = record { olds = λ dataset there. (dataset, there, record { name = refl; origin = refl; head = inl refl }); names = λ name has. has }

module _ (start : Pool) (target : List ℕ) (rise : AllPairs Rises start.snapshots) where
  module _ (latest : Snapshot) (is : IsLatest start target latest) (back : MayGoBack start target latest.number) where
    abbrev roll : Dataset → Dataset
    roll = changed_at target (rolled_to latest)

    rolled_one : (old : Dataset) → IsOldOf start target old (roll old)
    rolled_one old = go (bytes_eq old.name target) refl
      where
        go : (t : Bool) → bytes_eq old.name target ≡ t → IsOldOf start target old (cond t (rolled_to latest old) old)
        go true e = record { name = refl; origin = refl; head = inr (same_bytes old.name target e, latest, is, back, refl) }
        go false e = record { name = refl; origin = refl; head = inl refl }

    rolled_olds : AreOlds start target (map roll start.datasets)
    rolled_olds = record {
      olds = λ dataset there.
          let found = map_contains roll start.datasets dataset there in
          (found.0, found.1, subst (λ (d : Dataset). IsOldOf start target found.0 d) found.2 (rolled_one found.0));
      names = λ name has. (roll has.0, contains-map roll start.datasets has.0 has.1, sym (rolled_one has.0).name ∙ has.2);
    }

  pub back_olds : ((latest : Snapshot) → IsLatest start target latest → MayGoBack start target latest.number) → AreOlds start target (rolled_back target start)
  back_olds back = go (latest_snapshot target start) refl
    where
      go : (o : Option Snapshot) → latest_snapshot target start ≡ o → AreOlds start target (rolled target o start.datasets)
      go None e = same_olds start target
      go (Some latest) e = let is = latest_is start target rise latest e in rolled_olds latest is (back latest is)

-- ---- the pool

-- the pool with a partial state more
abbrev pub under : Pool → ℕ → List Dataset → Partial → Pool
under start number datasets partial = record start { number = number; datasets = datasets; partials = inserted (λ a b. is_before a.target b.target) partial start.partials }

module _ (start : Pool) (linked : IsLinked start) (named : AreOrdered start.snapshots) (sound : Sound start) (olds : List Partial) (number : ℕ) (later : start.number ≤ number)
    (datasets : List Dataset) (partial : Partial) (heads : AreOlds start partial.target datasets) (grown : Grown start olds number partial)
  where
    abbrev now : Pool
    now = under start number datasets partial

    under_origin : (origin : Snapshot) (name : List ℕ) → IsOrigin now origin name → IsOrigin start origin name
    under_origin origin name is =
        let old = heads.olds is.dataset is.there in
        record { dataset = old.0; there = old.1; named = old.2.name ∙ is.named; snapshot_there = is.snapshot_there; is_origin = old.2.origin ∙ is.is_origin }

    under_origins : HasOldOrigins (HasDataset start) start now
    under_origins = old_origins start now linked (λ origin name has is. under_origin origin name is)

    had : (name : List ℕ) → HasDataset now name → HasDataset start name
    had name has = let old = heads.olds has.0 has.1 in (old.0, old.1, old.2.name ∙ has.2)

    -- a partial state is the new one or another
    new_or_other : (other : Partial) → Contains now.partials other → (partial ≡ other) ⊎ Contains start.partials other
    new_or_other other there = contains-inserted (λ a b. is_before a.target b.target) partial start.partials other there

    -- ---- a source and a row

    module _ (source : Source) (Fits : DatedState → Type 0) (finds : Finds start olds partial.target source Fits) where
      stood : (name : List ℕ) (bound : Option ℕ) → HasDataset start name → StandsBefore now source name bound → StandsBefore start source name bound
      stood name bound has before = stood_before (HasDataset start) start now source under_origins name bound has before

      head_fits : (old dataset : Dataset) → Contains start.datasets old → old.name ≡ dataset.name → IsHeadOf start partial.target old dataset → StandsBefore now source dataset.name None → Fits dataset.head
      head_fits old dataset there same (inl one) before =
          subst (λ (d : Dataset). Fits d.head) one
          (finds.later (head_row start.number old) (HeadRow old there) (stood old.name None (old, there, refl) (subst (λ (n : List ℕ). StandsBefore now source n None) (sym same) before)))
      head_fits old dataset there same (inr (at, latest, is, back, head)) before =
          subst (λ (d : DatedState). Fits d) (sym head)
          (latest_fits start named olds number partial grown source Fits finds latest partial.target None is back refl
          (stood partial.target None (old, there, same ∙ at) (subst (λ (n : List ℕ). StandsBefore now source n None) at before)))

      partial_fits : IsBeforePartial now source partial → Fits partial.objects
      partial_fits (inl at) =
          let has = had partial.target at.target in target_fits start named olds number partial grown source Fits finds None has (stood partial.target None has at.before)
      partial_fits (inr at) =
          let clone = at.1 in
          let there = clone.is_base.there in
          clone_fits start named olds number partial grown source Fits finds clone.base there clone.is_base.is_base (counted start now source partial (heads.names partial.target) at.0) (elim clone.before [
            | inl marks ↦ inl marks
            | inr before ↦ inr (stood (dataset_of_snapshot clone.base) (Some clone.base.number) (owner start linked clone.base there) before)
          ])

      other_fits : (other : Partial) → Contains start.partials other → IsBeforePartial now source other → Fits other.objects
      other_fits other there before =
          finds.later (partial_row start.number other) (PartialRow other there)
          (stood_before_partial (HasDataset start) start now source other under_origins
          (λ base is. (record { there = is.there; is_base = is.is_base }, owner start linked base is.there)) (λ has. let was = had other.target has in (was, was)) (heads.names other.target) before)

      pub row_fits : (row : Row) → IsRow now row → IsBefore now source row.place → Fits row.objects
      row_fits row (SnapshotRow snapshot there) before =
          finds.later (snapshot_row snapshot) (SnapshotRow snapshot there) (stood (dataset_of_snapshot snapshot) (Some snapshot.number) (owner start linked snapshot there) before)
      row_fits row (HeadRow dataset there) before = let old = heads.olds dataset there in head_fits old.0 dataset old.1 old.2.name old.2.head before
      row_fits row (PartialRow other there) before = go (new_or_other other there) before
        where
          go : (partial ≡ other) ⊎ Contains start.partials other → IsBeforePartial now source other → Fits other.objects
          go (inl one) before = subst (λ (p : Partial). Fits p.objects) one (partial_fits (subst (λ (p : Partial). IsBeforePartial now source p) (sym one) before))
          go (inr old) before = other_fits other old before

    -- what a source remembers, it remembers in the pool
    pub under_remembers : (source : Source) (state : State) → IsIn start source → SourceRemembers start source state
        → ((old : Partial) → Contains olds old → IsBeforePartial start source old → Remembers old.objects (number_of_source source) state) → SourceRemembers now source state
    under_remembers source state here remembers held = record {
      own = λ snapshot there own. remembers.own snapshot there own;
      later = λ row there before.
          row_fits source (λ snap. Remembers snap (number_of_source source) state) (finds_source start linked sound olds partial.target source state here remembers held) row (row_cases now row there) before;
    }

    -- ---- dates

    up_to : (state : DatedState) → DatedUpTo start.number state → DatedUpTo number state
    up_to state h = dated_higher start.number number later state h

    head_dated : (old dataset : Dataset) → Contains start.datasets old → IsHeadOf start partial.target old dataset → DatedUpTo number dataset.head
    head_dated old dataset there (inl one) = subst (λ (d : Dataset). DatedUpTo number d.head) one (up_to old.head (sound_dated start sound (head_row start.number old) (HeadRow old there)))
    head_dated old dataset there (inr (at, latest, is, back, head)) =
        let up = old_number start sound latest is.there in
        subst (λ (d : DatedState). DatedUpTo number d) (sym head)
        (dated_higher latest.number number (omega (arith, up, later)) latest.objects (sound_dated start sound (snapshot_row latest) (SnapshotRow latest is.there)))

    row_dated : (row : Row) → IsRow now row → DatedUpTo row.number row.objects
    row_dated row (SnapshotRow snapshot there) = sound_dated start sound (snapshot_row snapshot) (SnapshotRow snapshot there)
    row_dated row (HeadRow dataset there) = let old = heads.olds dataset there in head_dated old.0 dataset old.1 old.2.head
    row_dated row (PartialRow other there) = elim (new_or_other other there) [
      | inl one ↦ subst (λ (p : Partial). DatedUpTo number p.objects) one grown.dated
      | inr old ↦ up_to other.objects (sound_dated start sound (partial_row start.number other) (PartialRow other old))
    ]

    bookmark_stays : (bookmark : Bookmark) → IsBookmarkOf start bookmark → IsBookmarkOf now bookmark
    bookmark_stays bookmark is = record {
      dataset = heads.names (dataset_of_bookmark bookmark) is.dataset;
      above = λ origin of. is.above origin (under_origin origin (dataset_of_bookmark bookmark) of);
      number = let l = is.number in omega (arith, l, later);
      guid = is.guid;
    }

    pub under_sound : ((earlier : Snapshot) → Contains start.snapshots earlier → (old : Partial) → Contains olds old → IsBeforePartial start (OfSnapshot earlier) old → Agrees earlier old.objects) → Sound now
    under_sound held = record {
      agree = λ earlier row here there before. row_fits (OfSnapshot earlier) (Agrees earlier) (finds_snapshot start linked sound olds partial.target earlier here (held earlier here)) row (row_cases now row there) before;
      dated = record {
        states = All-from_contains (λ r. DatedUpTo r.number r.objects) (rows now) (λ row there. row_dated row (row_cases now row there));
        numbers = All-from_contains (λ s. s.number ≤ number) start.snapshots (λ s there. let l = old_number start sound s there in omega (arith, l, later));
        rise = sound.dated.rise;
        above = λ origin snapshot there is. sound.dated.above origin snapshot there (under_origin origin (dataset_of_snapshot snapshot) is);
      };
      bookmarks = All-from_contains (IsBookmarkOf now) start.bookmarks (λ b there. bookmark_stays b (All-contains (IsBookmarkOf start) start.bookmarks b sound.bookmarks there));
    }
