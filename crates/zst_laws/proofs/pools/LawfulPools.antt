-- What commands make of a lawful pool is lawful.
use Rattle.std.proofs.Common.{inl, inr, subst, ◌≡◌, ◌≢◌, ℕ, ◌+◌, ◌^◌, ◌<◌, ◌≤◌, true, false, List, [], ◌∷◌, ◌++◌, length, Some, IfSome, is_some, Result, Ok, refl, sym, ap, ◌∙◌, arith}
use Rattle.std.specs.List.{All, Contains}
use Rattle.std.proofs.lemmas.List.Elements.{All-nil, All-weaker, All-contains}
use Rattle.std.proofs.lemmas.Option.{IfSome_then}
use Rattle.zst_names.specs.Names.{IsDataset, IsSnapshot, IsBookmark, IsComponent, dataset_of}
use Rattle.zst_names.specs.Marks.{at_is_mark}
use Rattle.zst_names.proofs.MarkedNames.{join_is_name}
use Rattle.zst_model.specs.fields.Guids.{IsGuidSet}
use Rattle.zst_model.specs.fields.Lists.{IsRunList}
use Rattle.zst_model.specs.declared.pools.command.Command.TheVariants as commands
use Rattle.zst_model.specs.declared.refusals.subjects.Name.TheVariants as names
use Rattle.zst_model.specs.declared.refusals.refusal.Refusal.{Refusal}
use Rattle.zst_model.specs.states.State.{IsState, no_objects}
use Rattle.zst_model.specs.states.DatedState.{DatedState}
use Rattle.zst_model.specs.pools.Pool.{Pool, Dataset, Snapshot, Bookmark, IsPool, IsKind, IsGuid, HasDataset, HasSnapshot, dataset_named, snapshot_named, bookmark_named, partial_of, dataset_of_snapshot, is_before, snapshot_is_before, inserted}
use Rattle.zst_model.specs.pools.RedSet.{objects_of, red_set}
use Rattle.zst_model.specs.pools.Step.{Stepped, committed, last_number, last_guid, next_guid, new_dataset, with_head_at, with_head, snapshot_of, clone_of, bookmark_of, with_dataset, on_head, with_snapshot, with_clone, with_bookmark, IsRedact, guids_of, redaction_of, with_redaction, stepped}
use Rattle.zst_model.proofs.InsertedLaws.{All-from_contains, contains-map, contains-inserted, inserted_has_rest, All-inserted, AllPairs-map}
use Rattle.zst_model.proofs.RunsOf.{runs_list}
use Rattle.zst_model.proofs.OrderLaws.{names_differ-inserted, names_rise-inserted, rows_rise-inserted}
use Rattle.zst_laws.specs.StepInvariants.{StepsKeepPools}
use Rattle.zst_laws.proofs.pools.Rows.{All-with_head, committed_ok, on_head_ok, named_found, none_named, name_under_head}
use Rattle.zst_laws.proofs.pools.AcceptedCommands.{with_dataset_ok, with_snapshot_ok, with_clone_ok, with_bookmark_ok, read_keeps, list_keeps, list_objects_keeps}
use Rattle.zst_laws.proofs.pools.AcceptedRedactions.{each_length, each_there, guid_of_one, guids_length, guids_rise, with_redaction_ok}
use Rattle.zst_laws.proofs.pools.AcceptedRemovals.{with_rollback_ok, dataset_destroyed_ok, snapshot_destroyed_ok, bookmark_destroyed_ok, with_aborted_ok}
use Rattle.zst_laws.proofs.pools.LawfulRest.{rolled_is_lawful, lawful_without_dataset, lawful_without_snapshot, lawful_without_bookmark, lawful_without_partial}
use Rattle.zst_laws.proofs.pools.LawfulHeads.{object_is_lawful, write_is_lawful, punch_is_lawful, free_is_lawful}

-- a lawful pool with another number
numbered_pool : (pool : Pool) (number : ℕ) → IsPool pool → number ≤ last_number → IsPool (record pool { number = number })
numbered_pool pool number p below = record {
  id = p.id;
  number = below;
  guids = p.guids;
  named = record {
    dataset_names = p.named.dataset_names;
    datasets = p.named.datasets;
    snapshot_names = p.named.snapshot_names;
    snapshots = p.named.snapshots;
    snapshots_differ = p.named.snapshots_differ;
    bookmark_names = p.named.bookmark_names;
    bookmarks = p.named.bookmarks;
    targets = p.named.targets;
    partials = p.named.partials;
  };
  linked = record { snapshots = p.linked.snapshots; origins = p.linked.origins; bases = p.linked.bases; components = p.linked.components };
  datasets = p.datasets;
  snapshots = p.snapshots;
  bookmarks = p.bookmarks;
  partials = p.partials;
}

committed_pool : (pool : Pool) (after : Stepped) → IsPool pool → committed pool ≡ Ok after → IsPool after.pool
committed_pool pool after p h =
    let made = committed_ok pool after h in
    subst (λ s. IsPool s.pool) made.1 (numbered_pool pool (pool.number + 1) p made.0)

-- a state that nothing touched is lawful
no_objects_are_lawful : IsState no_objects
no_objects_are_lawful = record { zero = refl; bounded = λ k l. refl; objects = λ k. tt }

-- no guids are a set, and no runs are a list
no_guids : IsGuidSet []
no_guids = record { few = omega arith; rising = refl; fit = All-nil _ }

no_runs : IsRunList []
no_runs = refl

-- a lawful pool with a new dataset, which is lawful itself and whose origin, where it has one, is there
dataset_added : (row : Dataset) (pool : Pool) → IsPool pool → IsDataset row.name → IsKind row.kind × IsGuidSet row.redact × IsState row.head.state
    → IfSome row.origin (HasSnapshot pool) → is_some (dataset_named row.name pool) ≡ false
    → IsPool (record pool { datasets = inserted (λ a b. is_before a.name b.name) row pool.datasets })
dataset_added row pool p is_name lawful origin absent =
    let by_name = λ (a b : Dataset). is_before a.name b.name in
    let differs : (x : Dataset) → Contains pool.datasets x → x.name ≢ row.name = none_named (λ d. d.name) row.name pool.datasets absent in
    let added = record pool { datasets = inserted by_name row pool.datasets } in
    let more : (n : List ℕ) → HasDataset pool n → HasDataset added n = λ n h. (h.0, inserted_has_rest by_name row pool.datasets h.0 h.1, h.2) in
    record {
      id = p.id;
      number = p.number;
      guids = p.guids;
      named = record {
        dataset_names = All-inserted (λ d. IsDataset d.name) by_name row pool.datasets is_name p.named.dataset_names;
        datasets = names_rise-inserted (λ (d : Dataset). d.name) row pool.datasets differs p.named.datasets;
        snapshot_names = p.named.snapshot_names;
        snapshots = p.named.snapshots;
        snapshots_differ = p.named.snapshots_differ;
        bookmark_names = p.named.bookmark_names;
        bookmarks = p.named.bookmarks;
        targets = p.named.targets;
        partials = p.named.partials;
      };
      linked = record {
        snapshots =
            All-weaker (λ s. HasDataset pool (dataset_of_snapshot s)) (λ s. HasDataset added (dataset_of_snapshot s)) (λ s. more (dataset_of_snapshot s))
            pool.snapshots p.linked.snapshots;
        origins = All-inserted (λ d. IfSome d.origin (HasSnapshot pool)) by_name row pool.datasets origin p.linked.origins;
        bases = p.linked.bases;
        components = p.linked.components;
      };
      datasets = All-inserted (λ d. IsKind d.kind × IsGuidSet d.redact × IsState d.head.state) by_name row pool.datasets lawful p.datasets;
      snapshots = p.snapshots;
      bookmarks = p.bookmarks;
      partials = p.partials;
    }

-- the next guid is one that a snapshot may have
next_is_guid : (pool : Pool) → pool.id < 2 ^ 31 → pool.guids + 1 < 2 ^ 32 → IsGuid (next_guid pool)
next_is_guid pool id guids = (omega arith, omega arith)

-- what holds of each dataset whatever its head holds under another head
under_head : (P : Dataset → Type 0) (name : List ℕ) (head : DatedState) (datasets : List Dataset)
    → ((d : Dataset) → P d → P (record d { head = head })) → All P datasets → All P (with_head name head datasets)
under_head P name head datasets keeps h = All-with_head P name head datasets (λ d there e. keeps d (All-contains P datasets d h there)) h

-- a lawful pool with another head of a dataset
head_changed : (name : List ℕ) (head : DatedState) (pool : Pool) → IsPool pool → IsState head.state
    → IsPool (record pool { datasets = with_head name head pool.datasets })
head_changed name head pool p lawful =
    let change = with_head_at name head in
    let changed = record pool { datasets = with_head name head pool.datasets } in
    let more : (n : List ℕ) → HasDataset pool n → HasDataset changed n =
    λ n h. (change h.0, contains-map change pool.datasets h.0 h.1, name_under_head name head h.0 ∙ h.2) in
    record {
      id = p.id;
      number = p.number;
      guids = p.guids;
      named = record {
        dataset_names = under_head (λ d. IsDataset d.name) name head pool.datasets (λ d h. h) p.named.dataset_names;
        datasets =
            AllPairs-map (λ a b. is_before a.name b.name ≡ true) (λ a b. is_before a.name b.name ≡ true) change
            (λ a b h.
            ap (λ n. is_before n (change b).name) (name_under_head name head a)
            ∙ ap (is_before a.name) (name_under_head name head b) ∙ h)
            pool.datasets p.named.datasets;
        snapshot_names = p.named.snapshot_names;
        snapshots = p.named.snapshots;
        snapshots_differ = p.named.snapshots_differ;
        bookmark_names = p.named.bookmark_names;
        bookmarks = p.named.bookmarks;
        targets = p.named.targets;
        partials = p.named.partials;
      };
      linked = record {
        snapshots =
            All-weaker (λ s. HasDataset pool (dataset_of_snapshot s)) (λ s. HasDataset changed (dataset_of_snapshot s)) (λ s. more (dataset_of_snapshot s))
            pool.snapshots p.linked.snapshots;
        origins = under_head (λ d. IfSome d.origin (HasSnapshot pool)) name head pool.datasets (λ d h. h) p.linked.origins;
        bases = p.linked.bases;
        components = p.linked.components;
      };
      datasets =
          under_head (λ d. IsKind d.kind × IsGuidSet d.redact × IsState d.head.state) name head pool.datasets
          (λ d h. (h.0, h.1, lawful)) p.datasets;
      snapshots = p.snapshots;
      bookmarks = p.bookmarks;
      partials = p.partials;
    }

-- a lawful pool with a new snapshot of a dataset
snapshot_added : (now : ℕ) (name : List ℕ) (pool : Pool) (dataset : Dataset) → now < 2 ^ 64 → IsPool pool → IsSnapshot name
    → dataset_named (dataset_of 64 name) pool ≡ Some dataset → is_some (partial_of (dataset_of 64 name) pool) ≡ false
    → is_some (snapshot_named name pool) ≡ false → pool.guids + 1 ≤ last_guid
    → IsPool (record pool { guids = pool.guids + 1; snapshots = inserted snapshot_is_before (snapshot_of now name pool dataset) pool.snapshots })
unfolding last_guid
snapshot_added now name pool dataset fits p is_name there free absent guids =
    let row = snapshot_of now name pool dataset in
    let rows = pool.snapshots in
    let found = named_found (λ d. d.name) (dataset_of 64 name) pool.datasets dataset there in
    let of_dataset = All-contains (λ d. IsKind d.kind × IsGuidSet d.redact × IsState d.head.state) pool.datasets dataset p.datasets found.0 in
    let differs : (x : Snapshot) → Contains rows x → x.name ≢ name = none_named (λ s. s.name) name rows absent in
    let added = record pool { guids = pool.guids + 1; snapshots = inserted snapshot_is_before row rows } in
    let more : (n : List ℕ) → HasSnapshot pool n → HasSnapshot added n =
    λ n h. (h.0, inserted_has_rest snapshot_is_before row rows h.0 h.1, h.2) in
    record {
      id = p.id;
      number = p.number;
      guids = guids;
      named = record {
        dataset_names = p.named.dataset_names;
        datasets = p.named.datasets;
        snapshot_names = All-inserted (λ s. IsSnapshot s.name) snapshot_is_before row rows is_name p.named.snapshot_names;
        snapshots = rows_rise-inserted dataset_of_snapshot (λ s. s.number) row rows p.named.snapshots;
        snapshots_differ = names_differ-inserted (λ (s : Snapshot). s.name) snapshot_is_before row rows differs p.named.snapshots_differ;
        bookmark_names = p.named.bookmark_names;
        bookmarks = p.named.bookmarks;
        targets = p.named.targets;
        partials = p.named.partials;
      };
      linked = record {
        snapshots =
            All-inserted (λ s. HasDataset pool (dataset_of_snapshot s)) snapshot_is_before row rows
            (dataset, found.0, found.1) p.linked.snapshots;
        origins =
            All-weaker (λ d. IfSome d.origin (HasSnapshot pool)) (λ d. IfSome d.origin (HasSnapshot added)) (λ d h. IfSome_then d.origin h more) pool.datasets p.linked.origins;
        bases =
            All-weaker (λ q. IfSome q.base (HasSnapshot pool)) (λ q. IfSome q.base (HasSnapshot added)) (λ q h. IfSome_then q.base h more) pool.partials p.linked.bases;
        components = All-from_contains (λ q. HasSnapshot added (q.target ++ 64 ∷ q.component) → ⊥) pool.partials (λ q k has. elim (contains-inserted snapshot_is_before row rows has.0 has.1) [
          | inl e ↦
              let target = (All-contains (λ r. IsDataset r.target × IsComponent r.component) pool.partials q p.named.targets k).0 in
              let same : dataset_of 64 name ≡ q.target =
              ap (λ s. dataset_of 64 s.name) e ∙ ap (dataset_of 64) has.2 ∙ (join_is_name 64 q.target q.component at_is_mark target).dataset_back in
              none_named (λ r. r.target) (dataset_of 64 name) pool.partials free q k (sym same)
          | inr old ↦ All-contains (λ r. HasSnapshot pool (r.target ++ 64 ∷ r.component) → ⊥) pool.partials q p.linked.components k (has.0, old, has.2)
        ]);
      };
      datasets = p.datasets;
      snapshots =
          All-inserted (λ s. IsGuid s.guid × IsGuidSet s.redact × IsState s.objects.state × (s.time < 2 ^ 64)) snapshot_is_before row rows
          (next_is_guid pool p.id.1 (omega (arith, guids)), of_dataset.1, of_dataset.2, fits) p.snapshots;
      bookmarks = p.bookmarks;
      partials = p.partials;
    }

-- a lawful pool with a lawful bookmark
bookmark_added : (row : Bookmark) (pool : Pool) → IsPool pool → IsBookmark row.name → IsGuid row.guid × IsGuidSet row.redact × IsRunList row.runs × (row.time < 2 ^ 64)
    → is_some (bookmark_named row.name pool) ≡ false
    → IsPool (record pool { bookmarks = inserted (λ a b. is_before a.name b.name) row pool.bookmarks })
bookmark_added row pool p is_name lawful absent =
    let by_name = λ (a b : Bookmark). is_before a.name b.name in
    let differs : (x : Bookmark) → Contains pool.bookmarks x → x.name ≢ row.name = none_named (λ b. b.name) row.name pool.bookmarks absent in
    record {
      id = p.id;
      number = p.number;
      guids = p.guids;
      named = record {
        dataset_names = p.named.dataset_names;
        datasets = p.named.datasets;
        snapshot_names = p.named.snapshot_names;
        snapshots = p.named.snapshots;
        snapshots_differ = p.named.snapshots_differ;
        bookmark_names = All-inserted (λ b. IsBookmark b.name) by_name row pool.bookmarks is_name p.named.bookmark_names;
        bookmarks = names_rise-inserted (λ (b : Bookmark). b.name) row pool.bookmarks differs p.named.bookmarks;
        targets = p.named.targets;
        partials = p.named.partials;
      };
      linked = record { snapshots = p.linked.snapshots; origins = p.linked.origins; bases = p.linked.bases; components = p.linked.components };
      datasets = p.datasets;
      snapshots = p.snapshots;
      bookmarks =
          All-inserted (λ b. IsGuid b.guid × IsGuidSet b.redact × IsRunList b.runs × (b.time < 2 ^ 64)) by_name row pool.bookmarks
          lawful p.bookmarks;
      partials = p.partials;
    }

-- what each command makes
dataset_steps : (kind : ℕ) (name : List ℕ) (pool : Pool) (after : Stepped) → IsPool pool → IsDataset name → IsKind kind
    → with_dataset (new_dataset kind name) pool ≡ Ok after → IsPool after.pool
dataset_steps kind name pool after p is_name is_kind h =
    let row = new_dataset kind name in
    let new = with_dataset_ok row pool after h in
    committed_pool _ after (dataset_added row pool p is_name (is_kind, no_guids, no_objects_are_lawful) tt new.absent) new.made

clone_steps : (origin name : List ℕ) (pool : Pool) (after : Stepped) → IsPool pool → IsDataset name
    → with_clone origin name pool ≡ Ok after → IsPool after.pool
clone_steps origin name pool after p is_name h =
    let clone = with_clone_ok origin name pool after h in
    let snapshot = clone.snapshot in
    let there = (named_found (λ s. s.name) origin pool.snapshots snapshot clone.there).0 in
    let lawful = All-contains (λ s. IsGuid s.guid × IsGuidSet s.redact × IsState s.objects.state × (s.time < 2 ^ 64)) pool.snapshots snapshot p.snapshots there in
    let source_there = (named_found (λ d. d.name) (dataset_of_snapshot snapshot) pool.datasets clone.source clone.source_there).0 in
    let of_source = All-contains (λ d. IsKind d.kind × IsGuidSet d.redact × IsState d.head.state) pool.datasets clone.source p.datasets source_there in
    let row = clone_of name clone.source snapshot in
    committed_pool _ after (dataset_added row pool p is_name (of_source.0, lawful.1, lawful.2) (snapshot, there, refl) clone.new.absent) clone.new.made

bookmark_steps : (of name : List ℕ) (pool : Pool) (after : Stepped) → IsPool pool → IsBookmark name
    → with_bookmark of name pool ≡ Ok after → IsPool after.pool
bookmark_steps of name pool after p is_name h =
    let new = with_bookmark_ok of name pool after h in
    let there = (named_found (λ s. s.name) of pool.snapshots new.snapshot new.there).0 in
    let lawful = All-contains (λ s. IsGuid s.guid × IsGuidSet s.redact × IsState s.objects.state × (s.time < 2 ^ 64)) pool.snapshots new.snapshot p.snapshots there in
    committed_pool _ after (bookmark_added (bookmark_of name new.snapshot) pool p is_name (lawful.0, no_guids, no_runs, lawful.3) new.absent) new.made

-- the guids of at most sixteen snapshots are a set
redaction_guids : (redactions : List Snapshot) → length redactions ≤ 16 → ((snapshot : Snapshot) → Contains redactions snapshot → IsGuid snapshot.guid) → IsGuidSet (guids_of redactions)
redaction_guids redactions few fit = record {
  few = let l = guids_length redactions in omega arith;
  rising = guids_rise redactions;
  fit = All-from_contains (λ guid. guid < 2 ^ 64) (guids_of redactions) (λ guid there.
      let one = guid_of_one redactions guid there in subst (λ g. g < 2 ^ 64) one.2 (fit one.0 one.1).1);
}

redaction_steps : (of name : List ℕ) (kept : List (List ℕ)) (pool : Pool) (after : Stepped) → IsPool pool → IsRedact of name kept
    → with_redaction of name kept pool ≡ Ok after → IsPool after.pool
redaction_steps of name kept pool after p words h =
    let new = with_redaction_ok of name kept pool after h in
    let lawful : (s : Snapshot) → Contains pool.snapshots s → IsGuid s.guid × IsGuidSet s.redact × IsState s.objects.state × (s.time < 2 ^ 64) =
    λ s there. All-contains (λ s. IsGuid s.guid × IsGuidSet s.redact × IsState s.objects.state × (s.time < 2 ^ 64)) pool.snapshots s p.snapshots there in
    let own = lawful new.snapshot (named_found (λ s. s.name) of pool.snapshots new.snapshot new.there).0 in
    let as_many = each_length kept pool new.redactions new.found in
    let most : length kept ≤ 16 = words.4 in
    let few : length new.redactions ≤ 16 = omega (arith, as_many, most) in
    let set = redaction_guids new.redactions few (λ s there. (lawful s (each_there kept pool new.redactions new.found s there)).0) in
    let runs = (runs_list (red_set new.snapshot.objects.state new.snapshot.number (objects_of new.redactions))).lawful in
    committed_pool _ after (bookmark_added (redaction_of name new.snapshot new.redactions) pool p words.1 (own.0, set, runs, own.3) new.absent) new.made

head_steps : (name : List ℕ) (pool : Pool) (change : DatedState → Result DatedState Refusal) (after : Stepped) → IsPool pool
    → ((old new : DatedState) → IsState old.state → change old ≡ Ok new → IsState new.state)
    → on_head name pool change ≡ Ok after → IsPool after.pool
head_steps name pool change after p lawful h =
    let made = on_head_ok name pool change after h in
    let there = (named_found (λ d. d.name) name pool.datasets made.0 made.2).0 in
    let old = All-contains (λ d. IsKind d.kind × IsGuidSet d.redact × IsState d.head.state) pool.datasets made.0 p.datasets there in
    committed_pool _ after (head_changed name made.1 pool p (lawful made.0.head made.1 old.2 made.4)) made.5

snapshot_steps : (now : ℕ) (name : List ℕ) (pool : Pool) (after : Stepped) → now < 2 ^ 64 → IsPool pool → IsSnapshot name
    → with_snapshot now name pool ≡ Ok after → IsPool after.pool
snapshot_steps now name pool after fits p is_name h =
    let new = with_snapshot_ok now name pool after h in
    committed_pool _ after (snapshot_added now name pool new.dataset fits p is_name new.there new.free new.absent new.guids) new.made

pub steps_keep_lawful : StepsKeepPools
unfolding stepped
steps_keep_lawful held now (commands.Fs name) pool after c fits p h = dataset_steps 2 name pool after p c (inl refl) h
steps_keep_lawful held now (commands.Volume name) pool after c fits p h = dataset_steps 3 name pool after p c (inr refl) h
steps_keep_lawful held now (commands.Object name k head bonus spill) pool after c fits p h =
    head_steps name pool _ after p (λ old new s made. object_is_lawful pool k head bonus spill old new s c.1 c.2 c.3 c.4 made) h
steps_keep_lawful held now (commands.Write name k i bytes) pool after c fits p h =
    head_steps name pool _ after p (λ old new s made. write_is_lawful pool k i bytes old new s c.1 c.4 made) h
steps_keep_lawful held now (commands.Punch name k first count) pool after c fits p h =
    head_steps name pool _ after p (λ old new s made. punch_is_lawful pool k first count old new s c.1 made) h
steps_keep_lawful held now (commands.Free name first count) pool after c fits p h =
    head_steps name pool _ after p (λ old new s made. free_is_lawful pool first count old new s made) h
steps_keep_lawful held now (commands.Snapshot name) pool after c fits p h = snapshot_steps now name pool after fits p c h
steps_keep_lawful held now (commands.Clone origin name) pool after c fits p h = clone_steps origin name pool after p c.1 h
steps_keep_lawful held now (commands.Bookmark of name) pool after c fits p h = bookmark_steps of name pool after p c.1 h
steps_keep_lawful held now (commands.Redact of name kept) pool after c fits p h = redaction_steps of name kept pool after p c h
steps_keep_lawful held now (commands.Rollback destroys name) pool after c fits p h =
    let rolled = with_rollback_ok held destroys name pool after h in committed_pool _ after (rolled_is_lawful name pool rolled.snapshot p rolled.there rolled.unused) rolled.made
steps_keep_lawful held now (commands.Destroy (names.Dataset name)) pool after c fits p h =
    let gone = dataset_destroyed_ok held name pool after h in committed_pool _ after (lawful_without_dataset name pool p gone.unused) gone.made
steps_keep_lawful held now (commands.Destroy (names.Snapshot name)) pool after c fits p h =
    let gone = snapshot_destroyed_ok held name pool after h in committed_pool _ after (lawful_without_snapshot name pool gone.snapshot p gone.there gone.unused) gone.made
steps_keep_lawful held now (commands.Destroy (names.Bookmark name)) pool after c fits p h =
    committed_pool _ after (lawful_without_bookmark name pool p) (bookmark_destroyed_ok held name pool after h).made
steps_keep_lawful held now (commands.Abort target) pool after c fits p h =
    committed_pool _ after (lawful_without_partial target pool p) (with_aborted_ok held target pool after h).made
steps_keep_lawful held now commands.Reclaim pool after c fits p h = committed_pool pool after p h
steps_keep_lawful held now (commands.Read name k i) pool after c fits p h = subst IsPool (sym (read_keeps held now name k i pool after h)) p
steps_keep_lawful held now commands.List pool after c fits p h = subst IsPool (sym (list_keeps held now pool after h)) p
steps_keep_lawful held now (commands.ListObjects name) pool after c fits p h = subst IsPool (sym (list_objects_keeps held now name pool after h)) p
