-- A command that takes a snapshot keeps a pool sound.
use Rattle.std.proofs.Common.{◌≡◌, ◌⊎◌, inl, inr, ℕ, ◌+◌, ◌<◌, ◌≤◌, Bool, true, false, List, [], ◌∷◌, Option, Some, None, IfSome, All, AllPairs, Contains, if◌then◌else◌, refl, subst, sym, ◌∙◌, ap, arith}
use Rattle.std.proofs.lemmas.Bool.{true≢false, or_left}
use Rattle.std.proofs.lemmas.List.Elements.{All-contains, All-weaker, All-nil, All-cons, All-head, All-tail}
use Rattle.std.proofs.lemmas.List.Kept.{AllPairs-cons}
use Rattle.std.proofs.lemmas.Option.{same_Some}
use Rattle.zst_model.specs.states.DatedState.{DatedState}
use Rattle.zst_model.specs.pools.Pool.{Pool, Dataset, Snapshot, Partial, HasSnapshot, IsNamed, IsLinked, dataset_of_snapshot, is_before, snapshot_is_before, inserted}
use Rattle.zst_model.specs.pools.Ancestry.{IsOrigin, IsBase, Source, OfSnapshot, StandsBefore, IsBeforeClone, IsBeforePartial, IsBefore}
use Rattle.zst_model.specs.pools.Rows.{Row, snapshot_row, head_row}
use Rattle.zst_model.specs.pools.Soundness.{Agrees, DatedUpTo, Sound}
use Rattle.zst_model.specs.sends.Target.{Remembers}
use Rattle.zst_model.proofs.InsertedLaws.{contains-inserted, All-inserted, AllPairs-head, AllPairs-tail}
use Rattle.zst_model.proofs.OrderLaws.{not_before_itself, RowIsBefore, row_before_parts}
use Rattle.zst_model.proofs.DatedStates.{dated_higher}
use Rattle.zst_model.proofs.UniqueElements.{same_element}
use Rattle.zst_model.proofs.Ancestry.{stands_before_head}
use Rattle.zst_laws.proofs.pools.Ancestry.{HasOrigins, HasOldOrigins, IsAbove, stands_on, before_partial_on, above_marks, above_before, above_before_head}
use Rattle.zst_laws.proofs.pools.Descent.{Rises, IsRow, SnapshotRow, HeadRow, PartialRow, head_has_row, row_cases, ComesFrom, IsNext, next_sound, snapshot_stays, head_stays, partial_stays}

-- the names of two datasets are in order
abbrev pub AreOrdered : Dataset → Dataset → Type 0
AreOrdered a b = is_before a.name b.name ≡ true

-- datasets whose names are in order and equal are one
pub same_dataset : (datasets : List Dataset) → AllPairs AreOrdered datasets → (a b : Dataset)
    → Contains datasets a → Contains datasets b → a.name ≡ b.name → a ≡ b
same_dataset datasets order a b here there same =
    same_element AreOrdered datasets order a b here there
    (λ h. not_before_itself a.name (ap (is_before a.name) same ∙ h))
    (λ h. not_before_itself a.name (ap (λ n. is_before n a.name) same ∙ h))

-- snapshots in their order, and a new one with the greatest number in its place: they rise where they did
rise-inserted : (row : Snapshot) (xs : List Snapshot) → AllPairs (λ a b. snapshot_is_before b a ≡ false) xs → All (λ s. s.number < row.number) xs
    → AllPairs Rises xs → AllPairs Rises (inserted snapshot_is_before row xs)
unfolding inserted
rise-inserted row [] order less rise = AllPairs-cons Rises row [] (All-nil (Rises row)) rise
rise-inserted row (y ∷ ys) order less rise =
    go (snapshot_is_before row y) refl (rise-inserted row ys (AllPairs-tail (λ a b. snapshot_is_before b a ≡ false) y ys order) (All-tail (λ s. s.number < row.number) y ys less) (AllPairs-tail Rises y ys rise))
  where
    -- the row is of another dataset than a snapshot that it stands before, and than all behind that
    other : is_before (dataset_of_snapshot row) (dataset_of_snapshot y) ≡ true → (x : Snapshot) → (y ≡ x) ⊎ (snapshot_is_before x y ≡ false) → Rises row x
    other h x (inl e) same = absurd (not_before_itself (dataset_of_snapshot row) (ap (is_before (dataset_of_snapshot row)) (same ∙ ap dataset_of_snapshot (sym e)) ∙ h))
    other h x (inr behind) same =
        let first : is_before (dataset_of_snapshot x) (dataset_of_snapshot y) ≡ true = ap (λ n. is_before n (dataset_of_snapshot y)) (sym same) ∙ h in
        absurd (true≢false (sym (or_left (is_before (dataset_of_snapshot x) (dataset_of_snapshot y)) _ first) ∙ behind))

    by_name : RowIsBefore dataset_of_snapshot (λ s. s.number) row y → is_before (dataset_of_snapshot row) (dataset_of_snapshot y) ≡ true
    by_name (inl h) = h
    by_name (inr (e, l)) = let m = All-head (λ s. s.number < row.number) y ys less in absurd (omega arith)

    go : (t : Bool) → snapshot_is_before row y ≡ t → AllPairs Rises (inserted snapshot_is_before row ys)
        → AllPairs Rises (if t then row ∷ y ∷ ys else y ∷ inserted snapshot_is_before row ys)
    go true e rest =
        let h = by_name (row_before_parts dataset_of_snapshot (λ s. s.number) row y e) in
        AllPairs-cons Rises row (y ∷ ys)
        (All-cons (Rises row) y ys (other h y (inl refl))
        (All-weaker (λ x. snapshot_is_before x y ≡ false) (Rises row) (λ x behind. other h x (inr behind)) ys (AllPairs-head (λ a b. snapshot_is_before b a ≡ false) y ys order))) rise
    go false e rest =
        AllPairs-cons Rises y (inserted snapshot_is_before row ys)
        (All-inserted (Rises y) snapshot_is_before row ys (λ same. All-head (λ s. s.number < row.number) y ys less) (AllPairs-head Rises y ys rise)) rest

-- a snapshot of a dataset's head that the next commit makes: no snapshot has its name, and no partial state is for its dataset
pub record IsNew (pool : Pool) (row : Snapshot) (dataset : Dataset) : Type 0 where
  pub number : row.number ≡ pool.number + 1
  pub there : Contains pool.datasets dataset
  pub named : dataset.name ≡ dataset_of_snapshot row
  pub objects : row.objects ≡ dataset.head
  pub name_free : HasSnapshot pool row.name → ⊥
  pub not_received : (partial : Partial) → Contains pool.partials partial → partial.target ≡ dataset_of_snapshot row → ⊥

-- the next commit's pool with a new snapshot
abbrev pub with_new_snapshot : Pool → Snapshot → Pool
with_new_snapshot pool row = record pool { guids = pool.guids + 1; snapshots = inserted snapshot_is_before row pool.snapshots; number = pool.number + 1 }

module _ (pool : Pool) (row : Snapshot) (dataset : Dataset) (new : IsNew pool row dataset) (named : IsNamed pool) (linked : IsLinked pool) (sound : Sound pool) where
  abbrev next_pool : Pool
  next_pool = with_new_snapshot pool row

  -- a snapshot is the new one or an old one
  new_or_old : (snapshot : Snapshot) → Contains next_pool.snapshots snapshot → (row ≡ snapshot) ⊎ Contains pool.snapshots snapshot
  new_or_old snapshot there = contains-inserted snapshot_is_before row pool.snapshots snapshot there

  -- no name that is linked is the new snapshot's
  not_linked : (name : Option (List ℕ)) → IfSome name (HasSnapshot pool) → name ≡ Some row.name → ⊥
  not_linked None has e = absurd (cc)
  not_linked (Some name) has e = new.name_free (subst (HasSnapshot pool) (same_Some name row.name e) has)

  -- so the origins and bases are the same
  snapshot_origins : HasOrigins pool next_pool
  snapshot_origins origin of is = go (new_or_old origin is.snapshot_there)
    where
      go : (row ≡ origin) ⊎ Contains pool.snapshots origin → IsOrigin pool origin of
      go (inl e) = absurd (not_linked is.dataset.origin (All-contains (λ d. IfSome d.origin (HasSnapshot pool)) pool.datasets is.dataset linked.origins is.there)
          (is.is_origin ∙ ap (λ s. Some s.name) (sym e)))
      go (inr old) = record { dataset = is.dataset; there = is.there; named = is.named; snapshot_there = old; is_origin = is.is_origin }

  old_origins : HasOldOrigins pool next_pool
  old_origins origin of has is = snapshot_origins origin of is

  snapshot_bases : (base : Snapshot) (partial : Partial) → Contains pool.partials partial → IsBase next_pool base partial → IsBase pool base partial
  snapshot_bases base partial there is = go (new_or_old base is.there)
    where
      go : (row ≡ base) ⊎ Contains pool.snapshots base → IsBase pool base partial
      go (inl e) = absurd (not_linked partial.base (All-contains (λ p. IfSome p.base (HasSnapshot pool)) pool.partials partial linked.bases there)
          (is.is_base ∙ ap (λ s. Some s.name) (sym e)))
      go (inr old) = record { there = old; is_base = is.is_base }

  old_before : (source : Source) (name : List ℕ) (bound : Option ℕ) → StandsBefore next_pool source name bound → StandsBefore pool source name bound
  old_before source name bound before = stands_on next_pool pool source snapshot_origins name bound before

  old_before_partial : (source : Source) (partial : Partial) → Contains pool.partials partial → IsBeforePartial next_pool source partial → IsBeforePartial pool source partial
  old_before_partial source partial there before = before_partial_on next_pool pool source partial (record {
    bases = λ base is. snapshot_bases base partial there is;
    target = λ has. has;
    target_back = λ has. has;
    before_target = λ from has. old_before from partial.target None;
    before_base = λ from base is. old_before from (dataset_of_snapshot base) (Some base.number);
  }) before

  -- the new snapshot's row comes from its dataset's head, and each other row is as it was
  higher : (state : DatedState) → DatedUpTo pool.number state → DatedUpTo (pool.number + 1) state
  higher state h = dated_higher pool.number (pool.number + 1) (omega arith) state h

  new_comes : ComesFrom pool next_pool (snapshot_row row)
  new_comes = record {
    old = head_row pool.number dataset;
    there = head_has_row pool dataset new.there;
    before = λ source here is before. inl
        (subst (λ n. StandsBefore pool source n None) (sym new.named)
        (stands_before_head pool source (dataset_of_snapshot row) (Some row.number) (old_before source (dataset_of_snapshot row) (Some row.number) before)));
    remembers = λ number state l h. subst (λ d. Remembers d number state) (sym new.objects) h;
    agrees = λ earlier l h. subst (Agrees earlier) (sym new.objects) h;
    dated = λ h. subst (DatedUpTo row.number) (sym new.objects) (subst (λ n. DatedUpTo n dataset.head) (sym new.number) (higher dataset.head h));
  }

  row_comes : (later : Row) → IsRow next_pool later → ComesFrom pool next_pool later
  row_comes later (SnapshotRow snapshot there) = elim (new_or_old snapshot there) [
    | inl e ↦ subst (λ s. ComesFrom pool next_pool (snapshot_row s)) e new_comes
    | inr old ↦ snapshot_stays pool next_pool linked old_origins refl snapshot old
  ]
  row_comes later (HeadRow of there) = head_stays pool next_pool linked old_origins refl of there
  row_comes later (PartialRow partial there) =
      partial_stays pool next_pool linked old_origins refl partial there (λ base is. snapshot_bases base partial there is) (λ has. has) (λ has. has)

  pub snapshot_next : IsNext pool next_pool
  snapshot_next = record {
    number = refl;
    origins = old_origins;
    bookmarks = λ bookmark there. inl (there, λ has. has);
    snapshots = λ snapshot there. elim (new_or_old snapshot there) [
      | inl e ↦ inr (sym (ap (λ s. s.number) e) ∙ new.number, (dataset, new.there, new.named ∙ ap dataset_of_snapshot e))
      | inr old ↦ inl old
    ];
    rows = λ later there. inl (row_comes later (row_cases next_pool later there));
  }

  -- the new number is above all
  is_above : IsAbove (OfSnapshot row) pool
  is_above = All-weaker (λ s. s.number ≤ pool.number) (λ s. s.number < row.number) (λ s l. let e = new.number in omega arith) pool.snapshots sound.dated.numbers

  -- so the new snapshot stands before no snapshot
  not_before : (later : Snapshot) → later.number ≤ row.number → StandsBefore pool (OfSnapshot row) (dataset_of_snapshot later) (Some later.number) → ⊥
  not_before later most before = above_before pool (OfSnapshot row) is_above (dataset_of_snapshot later) later.number most before

  next_number : (later : Snapshot) → (row ≡ later) ⊎ Contains pool.snapshots later → later.number ≤ row.number
  next_number later (inl e) = let n = ap (λ s. s.number) e in omega arith
  next_number later (inr there) = let l : later.number < row.number = All-contains (λ s. s.number < row.number) pool.snapshots later is_above there in omega arith

  -- nor before a partial state
  not_before_clone : (later : Partial) → IsBeforeClone pool (OfSnapshot row) later → ⊥
  not_before_clone later clone = elim clone.before [
    | inl marks ↦ above_marks pool (OfSnapshot row) is_above clone.base clone.is_base.there marks
    | inr before ↦ not_before clone.base (next_number clone.base (inr clone.is_base.there)) before
  ]

  not_before_partial : (later : Partial) → Contains pool.partials later → IsBeforePartial pool (OfSnapshot row) later → ⊥
  not_before_partial later there (inl h) = new.not_received later there (sym (above_before_head pool (OfSnapshot row) is_above later.target h.before))
  not_before_partial later there (inr h) = not_before_clone later h.1

  -- but before the head of its dataset, whose state is its own
  new_agrees : (later : Row) → IsBefore next_pool (OfSnapshot row) later.place → IsRow next_pool later → Agrees row later.objects
  new_agrees later before (SnapshotRow snapshot there) =
      absurd (not_before snapshot (next_number snapshot (new_or_old snapshot there)) (old_before (OfSnapshot row) (dataset_of_snapshot snapshot) (Some snapshot.number) before))
  new_agrees later before (HeadRow of there) =
      let same : dataset_of_snapshot row ≡ of.name = above_before_head pool (OfSnapshot row) is_above of.name (old_before (OfSnapshot row) of.name None before) in
      let one : dataset ≡ of = same_dataset pool.datasets named.datasets dataset of new.there there (new.named ∙ same) in
      subst (Agrees row) (new.objects ∙ ap (λ d. d.head) one)
      (record { numbers = λ k n d. refl; number_dates = λ k n d. refl; indices = λ k i n l d. refl; index_dates = λ k i n l d. refl })
  new_agrees later before (PartialRow partial there) = absurd (not_before_partial partial there (old_before_partial (OfSnapshot row) partial there before))

  agrees_of_new : (earlier : Snapshot) (later : Row) → IsRow next_pool later → earlier.number ≡ pool.number + 1 → IsBefore next_pool (OfSnapshot earlier) later.place
      → (row ≡ earlier) ⊎ Contains pool.snapshots earlier → Agrees earlier later.objects
  agrees_of_new earlier later is n before (inl e) =
      subst (λ s. Agrees s later.objects) e (new_agrees later (subst (λ s. IsBefore next_pool (OfSnapshot s) later.place) (sym e) before) is)
  agrees_of_new earlier later is n before (inr here) =
      let l : earlier.number ≤ pool.number = All-contains (λ s. s.number ≤ pool.number) pool.snapshots earlier sound.dated.numbers here in absurd (omega arith)

  -- a new snapshot of a head leaves a sound pool
  pub snapshot_sound : Sound next_pool
  snapshot_sound =
      next_sound pool next_pool linked sound snapshot_next (rise-inserted row pool.snapshots named.snapshots is_above sound.dated.rise)
      (λ earlier later here n there before. agrees_of_new earlier later (row_cases next_pool later there) n before (new_or_old earlier here))
