-- What is so of the states that a source stands before, and of what a receive makes of them.
use Rattle.std.proofs.Common.{◌≡◌, ◌⊎◌, inl, inr, ℕ, ◌<◌, ◌≤◌, Bool, true, List, Option, Some, None, Contains, ◌&&◌, ◌||◌, nat_lt, false, refl, sym, ap, ◌∙◌, subst, arith}
use Rattle.std.proofs.lemmas.Bool.{true≢false, and_from, and_parts, cases_lt, lt-ltb, ltb-true, or_left, or_right}
use Rattle.std.proofs.lemmas.List.Elements.{All-contains}
use Rattle.zst_laws.specs.RememberedStates.{IsOwn, SourceRemembers}
use Rattle.zst_laws.proofs.pools.Descent.{same_snapshot, agrees_itself, IsRow, SnapshotRow, HeadRow}
use Rattle.zst_model.specs.pools.Ancestry.{IsOrigin, Source, OfSnapshot, OfBookmark, dataset_of_source, number_of_source, IsIn, Marks, StandsBefore, Earlier, AtOrigin, BeforeOrigin, BaseCounts, IsBefore, IsBeforePartial}
use Rattle.zst_model.specs.pools.Pool.{Pool, Dataset, Snapshot, Bookmark, Partial, HasDataset, IsLinked, dataset_of_snapshot}
use Rattle.zst_model.specs.pools.Rows.{Row, snapshot_row, head_row}
use Rattle.zst_model.specs.pools.Soundness.{Agrees, IsBookmarkOf, Sound}
use Rattle.zst_model.specs.sends.Inclusion.{any_below}
use Rattle.zst_model.specs.sends.Target.{Remembers}
use Rattle.zst_model.specs.states.DatedState.{DatedState}
use Rattle.zst_model.specs.states.State.{State, is_number, index_bound, number_bound}
use Rattle.zst_model.proofs.IndexTests.{any_passes}
use Rattle.zst_model.proofs.Ancestry.{stands_before_head}
use Rattle.zst_plan.specs.RecvPlan.{is_dated_after}
use Rattle.zst_replication.proofs.EarlierDates.{Stays, stays_agrees, stays_remembers}
use Rattle.zst_replication.proofs.GrownPartials.{AreOrdered, Grown, IsLatest, MayGoBack, named_base}
use Rattle.zst_replication.proofs.Ancestry.{has_row, old_number, owner, sound_agrees}

-- ---- a state without late dates

module _ (number : ℕ) (snap : DatedState) (none : is_dated_after number snap ≡ false) where
  abbrev any_index : ℕ → Bool
  any_index k = any_below (λ i. nat_lt number (snap.index_date k i)) index_bound

  not_late : (k : ℕ) → is_number k ≡ true → (nat_lt number (snap.number_date k) || any_index k) ≡ true → ⊥
  unfolding is_dated_after
  not_late k n late =
      let less : k < number_bound = ltb-true k number_bound ((and_parts (nat_lt 0 k) (nat_lt k number_bound) n).1) in
      true≢false
      (sym (any_passes (λ k. is_number k && (nat_lt number (snap.number_date k) || any_index k)) number_bound k less (and_from (is_number k) (nat_lt number (snap.number_date k) || any_index k) n late)) ∙ none)

  -- each number, and each index of it, is dated up to the number
  early_number : (k : ℕ) → is_number k ≡ true → snap.number_date k ≤ number
  early_number k n = elim (cases_lt number (snap.number_date k)) [
    | inl late ↦ absurd (not_late k n (or_left (nat_lt number (snap.number_date k)) (any_index k) (lt-ltb _ _ late)))
    | inr early ↦ early
  ]

  early_index : (k i : ℕ) → is_number k ≡ true → i < index_bound → snap.index_date k i ≤ number
  early_index k i n b = elim (cases_lt number (snap.index_date k i)) [
    | inl late ↦ absurd (not_late k n (or_right (nat_lt number (snap.number_date k)) (any_index k) (any_passes (λ i. nat_lt number (snap.index_date k i)) index_bound i b (lt-ltb _ _ late))))
    | inr early ↦ early
  ]

-- ---- what is found of a source

-- this is so of its own snapshot, of each row that it stands before, of the target's latest snapshot where it is later than that and the target may go
-- back to it, and of each old partial state that it stands before; and it stays so where what is dated up to the pool's number stays
pub record Finds (pool : Pool) (olds : List Partial) (target : List ℕ) (source : Source) (Fits : DatedState → Type 0) : Type 0 where
  pub dataset : HasDataset pool (dataset_of_source source)
  pub number : number_of_source source ≤ pool.number
  pub own : (snapshot : Snapshot) → Contains pool.snapshots snapshot → IsOwn source snapshot → Fits snapshot.objects
  pub later : (row : Row) → IsRow pool row → IsBefore pool source row.place → Fits row.objects
  pub past : (latest : Snapshot) → IsLatest pool target latest → MayGoBack pool target latest.number → dataset_of_source source ≡ target → latest.number < number_of_source source → Fits latest.objects
  pub held : (old : Partial) → Contains olds old → IsBeforePartial pool source old → Fits old.objects
  pub stays : (snap after : DatedState) → Stays pool.number snap after → Fits snap → Fits after

marks_own : (source : Source) (snapshot : Snapshot) → Marks source snapshot → IsOwn source snapshot
marks_own (OfSnapshot from) snapshot marks = record { dataset = ap dataset_of_snapshot marks; number = ap (λ (s : Snapshot). s.number) marks }
marks_own (OfBookmark from) snapshot marks = record { dataset = marks.dataset; number = marks.number }

-- a base counts for partial states of one target alike, and always where the target is absent
counts_as : (pool : Pool) (source : Source) (old partial : Partial) → old.target ≡ partial.target → BaseCounts pool source partial → BaseCounts pool source old
counts_as pool (OfSnapshot snapshot) old partial same counts = tt
counts_as pool (OfBookmark bookmark) old partial same counts = λ has. counts (subst (HasDataset pool) same has)

pub counts_absent : (pool : Pool) (source : Source) (partial : Partial) → (HasDataset pool partial.target → ⊥) → BaseCounts pool source partial
counts_absent pool (OfSnapshot snapshot) partial absent = tt
counts_absent pool (OfBookmark bookmark) partial absent = absent

module _ (start : Pool) (named : AreOrdered start.snapshots) (olds : List Partial) (number : ℕ) (partial : Partial) (grown : Grown start olds number partial)
    (source : Source) (Fits : DatedState → Type 0) (finds : Finds start olds partial.target source Fits)
  where
    -- what stands before the target's head, or before a snapshot of it
    pub latest_fits : (latest : Snapshot) (name : List ℕ) (bound : Option ℕ) → IsLatest start partial.target latest → MayGoBack start partial.target latest.number → name ≡ partial.target
        → StandsBefore start source name bound → Fits latest.objects
    latest_fits latest name bound is back at (Earlier _ _ same below) = elim (cases_lt (number_of_source source) latest.number) [
      | inl less ↦ finds.later (snapshot_row latest) (SnapshotRow latest is.there) (Earlier (dataset_of_snapshot latest) (Some latest.number) (same ∙ at ∙ sym is.own) less)
      | inr most ↦ elim (cases_lt latest.number (number_of_source source)) [
        | inl past ↦ finds.past latest is back (same ∙ at) past
        | inr up ↦ finds.own latest is.there (record { dataset = same ∙ at ∙ sym is.own; number = omega (arith, most, up) })
      ]
    ]
    latest_fits latest name bound is back at (AtOrigin _ _ origin of marks) =
        finds.later (snapshot_row latest) (SnapshotRow latest is.there)
        (AtOrigin (dataset_of_snapshot latest) (Some latest.number) origin (subst (IsOrigin start origin) (at ∙ sym is.own) of) marks)
    latest_fits latest name bound is back at (BeforeOrigin _ _ origin of before) =
        finds.later (snapshot_row latest) (SnapshotRow latest is.there)
        (BeforeOrigin (dataset_of_snapshot latest) (Some latest.number) origin (subst (IsOrigin start origin) (at ∙ sym is.own) of) before)

    -- what marks a snapshot, or stands before it
    marked_fits : (snapshot : Snapshot) → Contains start.snapshots snapshot → Marks source snapshot ⊎ StandsBefore start source (dataset_of_snapshot snapshot) (Some snapshot.number) → Fits snapshot.objects
    marked_fits snapshot there (inl marks) = finds.own snapshot there (marks_own source snapshot marks)
    marked_fits snapshot there (inr before) = finds.later (snapshot_row snapshot) (SnapshotRow snapshot there) before

    -- so it is of the partial state where it is of what that has grown from
    from_fits : Fits grown.from → Fits partial.objects
    from_fits h = finds.stays grown.from partial.objects grown.stays h

    -- where the source stands before a clone of its base
    pub clone_fits : (snapshot : Snapshot) → Contains start.snapshots snapshot → partial.base ≡ Some snapshot.name → BaseCounts start source partial
        → Marks source snapshot ⊎ StandsBefore start source (dataset_of_snapshot snapshot) (Some snapshot.number) → Fits partial.objects
    clone_fits snapshot there e counts before = from_fits (elim grown.origin [
      | inl is ↦ subst (λ (d : DatedState). Fits d) (sym (is.objects snapshot (named_base start named is.base is.over.there snapshot there (sym is.named ∙ e)))) (marked_fits snapshot there before)
      | inr is ↦
          subst (λ (d : DatedState). Fits d) (sym is.objects)
          (finds.held is.old is.there (inr (counts_as start source is.old partial is.target counts, record { base = snapshot; is_base = record { there = there; is_base = is.base ∙ e }; before = before })))
    ])

    -- and where it stands before the head of a target that is there
    pub target_fits : (bound : Option ℕ) → HasDataset start partial.target → StandsBefore start source partial.target bound → Fits partial.objects
    target_fits bound has before = from_fits (elim grown.origin [
      | inl is ↦ elim is.over.onto [
        | inl (latest, e, last, back) ↦ subst (λ (d : DatedState). Fits d) (sym (is.objects latest e)) (latest_fits latest partial.target bound last back refl before)
        | inr absent ↦ absurd (absent has)
      ]
      | inr is ↦
          subst (λ (d : DatedState). Fits d) (sym is.objects)
          (finds.held is.old is.there (inl (record {
            target = subst (HasDataset start) (sym is.target) has;
            before = subst (λ (n : List ℕ). StandsBefore start source n None) (sym is.target) (stands_before_head start source partial.target bound before);
          })))
    ])

-- ---- what a sound pool finds

module _ (start : Pool) (linked : IsLinked start) (sound : Sound start) (olds : List Partial) (target : List ℕ) where
  -- a snapshot's states agree with it
  pub finds_snapshot : (earlier : Snapshot) → Contains start.snapshots earlier → ((old : Partial) → Contains olds old → IsBeforePartial start (OfSnapshot earlier) old → Agrees earlier old.objects)
      → Finds start olds target (OfSnapshot earlier) (Agrees earlier)
  finds_snapshot earlier here held =
      let up = old_number start sound earlier here in record {
        dataset = owner start linked earlier here;
        number = up;
        own = λ snapshot there own.
            subst (λ (s : Snapshot). Agrees earlier s.objects) (same_snapshot start.snapshots sound.dated.rise earlier snapshot here there own.dataset own.number) (agrees_itself earlier);
        later = λ row is before. sound_agrees start sound earlier here row is before;
        past = λ latest is back at more. let most = is.most earlier here at in absurd (omega (arith, most, more));
        held = held;
        stays = λ snap after stays h. stays_agrees start.number earlier snap after up stays h;
      }

  of_bookmark : (bookmark : Bookmark) → Contains start.bookmarks bookmark → IsBookmarkOf start bookmark
  of_bookmark bookmark here = All-contains (IsBookmarkOf start) start.bookmarks bookmark sound.bookmarks here

  source_dataset : (source : Source) → IsIn start source → HasDataset start (dataset_of_source source)
  source_dataset (OfSnapshot snapshot) here = owner start linked snapshot here
  source_dataset (OfBookmark bookmark) here = (of_bookmark bookmark here).dataset

  source_number : (source : Source) → IsIn start source → number_of_source source ≤ start.number
  source_number (OfSnapshot snapshot) here = old_number start sound snapshot here
  source_number (OfBookmark bookmark) here = (of_bookmark bookmark here).number

  module _ (source : Source) (state : State) (here : IsIn start source) (remembers : SourceRemembers start source state) where
    -- the state that a head without later dates has is that of its latest snapshot
    undated_remembers : (latest : Snapshot) (dataset : Dataset) → IsLatest start target latest → Contains start.datasets dataset → dataset.name ≡ target
        → is_dated_after latest.number dataset.head ≡ false → dataset_of_source source ≡ target → latest.number < number_of_source source → Remembers latest.objects (number_of_source source) state
    undated_remembers latest dataset is there name none at more =
        let row = HeadRow dataset there in
        let now = remembers.later (head_row start.number dataset) (has_row start (head_row start.number dataset) row) (Earlier dataset.name None (at ∙ sym name) tt) in
        let agrees = sound_agrees start sound latest is.there (head_row start.number dataset) row (Earlier dataset.name None (is.own ∙ sym name) tt) in record {
          numbers = λ k n up. let early = early_number latest.number dataset.head none k n in now.numbers k n (omega (arith, early, more)) ∙ sym (agrees.numbers k n early);
          indices = λ k i n b up. let early = early_index latest.number dataset.head none k i n b in now.indices k i n b (omega (arith, early, more)) ∙ sym (agrees.indices k i n b early);
        }

    past_remembers : (from : Source) → from ≡ source → IsIn start from → (latest : Snapshot) → IsLatest start target latest → MayGoBack start target latest.number
        → dataset_of_source from ≡ target → latest.number < number_of_source from → Remembers latest.objects (number_of_source source) state
    past_remembers from same there latest is (inl (dataset, has, name, none)) at more =
        undated_remembers latest dataset is has name none (ap dataset_of_source (sym same) ∙ at) (subst (λ (s : Source). latest.number < number_of_source s) same more)
    past_remembers (OfSnapshot snapshot) same there latest is (inr most) at more = let up = is.most snapshot there at in absurd (omega (arith, up, more))
    past_remembers (OfBookmark bookmark) same there latest is (inr most) at more = let up = most bookmark there at in absurd (omega (arith, up, more))

    -- the states remember what the source does
    pub finds_source : ((old : Partial) → Contains olds old → IsBeforePartial start source old → Remembers old.objects (number_of_source source) state)
        → Finds start olds target source (λ snap. Remembers snap (number_of_source source) state)
    finds_source held = record {
      dataset = source_dataset source here;
      number = source_number source here;
      own = λ snapshot there own. remembers.own snapshot there own;
      later = λ row is before. remembers.later row (has_row start row is) before;
      past = λ latest is back at more. past_remembers source refl here latest is back at more;
      held = held;
      stays = λ snap after stays h. stays_remembers start.number (number_of_source source) state snap after (source_number source here) stays h;
    }
