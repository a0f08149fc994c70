-- What the commits of a receive make of a lawful pool is lawful.
use Rattle.std.proofs.Common.{inl, inr, ◌≡◌, ◌≢◌, ℕ, ◌+◌, ◌^◌, ◌<◌, ◌≤◌, Bool, true, false, not, List, ◌∷◌, ◌++◌, length, map, Option, Some, None, IfSome, is_some, Result, Ok, Contains, refl, sym, ap, ◌∙◌, subst, if◌then◌else◌}
use Rattle.std.specs.Prelude.{bytes_eq}
use Rattle.std.proofs.lemmas.Bool.{true≢false}
use Rattle.std.proofs.lemmas.List.Elements.{All-contains, All-weaker, All-contains_itself}
use Rattle.std.proofs.lemmas.Option.{IfSome_then}
use Rattle.zst_names.specs.Names.{IsDataset, IsSnapshot, IsComponent, dataset_of}
use Rattle.zst_names.specs.Marks.{at_is_mark}
use Rattle.zst_names.proofs.MarkedNames.{join_is_name}
use Rattle.zst_model.specs.declared.refusals.faults.Quantity.TheVariants as quantities
use Rattle.zst_model.specs.declared.refusals.refusal.Refusal.{Refusal}
use Rattle.zst_model.specs.fields.Guids.{IsGuidSet}
use Rattle.zst_model.specs.pools.Limits.{most_partials}
use Rattle.zst_model.specs.pools.Pool.{Pool, Dataset, Snapshot, Partial, IsPool, IsKind, IsGuid, IsStated, HasDataset, HasSnapshot, dataset_named, dataset_of_snapshot, is_before, snapshot_is_before, inserted}
use Rattle.zst_model.specs.pools.Step.{count_datasets, last_number, limited, most_datasets, most_snapshots}
use Rattle.zst_model.specs.states.State.{IsState}
use Rattle.zst_model.proofs.FilteredLists.{filter_parts}
use Rattle.zst_model.proofs.InsertedLaws.{All-from_contains, All-inserted, AllPairs-map, contains-inserted, contains-map, inserted_has_rest, inserted_has_row, map_contains}
use Rattle.zst_model.proofs.OrderLaws.{bytes_same, names_differ-inserted, names_rise-inserted, rows_rise-inserted}
use Rattle.zst_model.proofs.Results.{ok_parts}
use Rattle.zst_laws.proofs.pools.LawfulRest.{fewer_partials_are_lawful}
use Rattle.zst_laws.proofs.pools.Rows.{limited_ok, named_found, none_named}
use Rattle.zst_pool.specs.Partials.{changed_at, dataset_from, head_from, latest_snapshot, next_commit, partial_finished, partial_put, partials_of_others, rolled, rolled_back, rolled_to, snapshot_from, with_finished, with_partial}
use Rattle.zst_pool.proofs.LastElements.{last-holds}

-- ---- the number

-- a lawful pool with another number
numbered : (pool : Pool) (number : ℕ) → IsPool pool → number ≤ last_number → IsPool (record pool { number = number })
numbered pool number p below = record {
  id = p.id;
  number = below;
  guids = p.guids;
  named = record {
    dataset_names = p.named.dataset_names;
    datasets = p.named.datasets;
    snapshot_names = p.named.snapshot_names;
    snapshots = p.named.snapshots;
    snapshots_differ = p.named.snapshots_differ;
    bookmark_names = p.named.bookmark_names;
    bookmarks = p.named.bookmarks;
    targets = p.named.targets;
    partials = p.named.partials;
  };
  linked = record { snapshots = p.linked.snapshots; origins = p.linked.origins; bases = p.linked.bases; components = p.linked.components };
  datasets = p.datasets;
  snapshots = p.snapshots;
  bookmarks = p.bookmarks;
  partials = p.partials;
}

-- a commit is within its limits
commit_lawful : (pool next : Pool) → IsPool pool → next_commit pool ≡ Ok next → IsPool next
commit_lawful pool next p e =
    let made : Result Pool Refusal = Ok (record pool { number = pool.number + 1 }) in
    let number = limited quantities.Number last_number (pool.number + 1) made in
    let snapshots = limited quantities.Snapshots most_snapshots (length pool.snapshots + length pool.partials) number in
    let datasets = limited quantities.Datasets most_datasets (count_datasets pool) snapshots in
    let a = limited_ok quantities.Partials most_partials (length pool.partials) datasets next e in
    let b = limited_ok quantities.Datasets most_datasets (count_datasets pool) snapshots next a.1 in
    let c = limited_ok quantities.Snapshots most_snapshots (length pool.snapshots + length pool.partials) number next b.1 in
    let d = limited_ok quantities.Number last_number (pool.number + 1) made next c.1 in
    subst IsPool (ok_parts (record pool { number = pool.number + 1 }) next d.1) (numbered pool (pool.number + 1) p d.0)

-- ---- the datasets

-- a dataset that is lawful itself
abbrev IsRow : Dataset → Type 0
IsRow d = IsKind d.kind × IsGuidSet d.redact × IsState d.head.state

-- a lawful pool of which each dataset is changed, and keeps its name and origin
module _ (pool : Pool) (p : IsPool pool) (change : Dataset → Dataset) (named : (d : Dataset) → (change d).name ≡ d.name) (clone : (d : Dataset) → (change d).origin ≡ d.origin)
    (keeps : (d : Dataset) → IsRow d → IsRow (change d))
  where
    abbrev changed : Pool
    changed = record pool { datasets = map change pool.datasets }

    still : (n : List ℕ) → HasDataset pool n → HasDataset changed n
    still n h = (change h.0, contains-map change pool.datasets h.0 h.1, named h.0 ∙ h.2)

    changed_lawful : IsPool changed
    changed_lawful = record {
      id = p.id;
      number = p.number;
      guids = p.guids;
      named = record {
        dataset_names = All-from_contains (λ d. IsDataset d.name) (map change pool.datasets) (λ d there.
            let (old, was, e) = map_contains change pool.datasets d there in
            subst IsDataset (sym (named old) ∙ ap (λ (d : Dataset). d.name) e) (All-contains (λ d. IsDataset d.name) pool.datasets old p.named.dataset_names was));
        datasets =
            AllPairs-map (λ a b. is_before a.name b.name ≡ true) (λ a b. is_before a.name b.name ≡ true) change
            (λ a b h. ap (λ n. is_before n (change b).name) (named a) ∙ ap (is_before a.name) (named b) ∙ h) pool.datasets p.named.datasets;
        snapshot_names = p.named.snapshot_names;
        snapshots = p.named.snapshots;
        snapshots_differ = p.named.snapshots_differ;
        bookmark_names = p.named.bookmark_names;
        bookmarks = p.named.bookmarks;
        targets = p.named.targets;
        partials = p.named.partials;
      };
      linked = record {
        snapshots =
            All-weaker (λ s. HasDataset pool (dataset_of_snapshot s)) (λ s. HasDataset changed (dataset_of_snapshot s)) (λ s. still (dataset_of_snapshot s))
            pool.snapshots p.linked.snapshots;
        origins = All-from_contains (λ d. IfSome d.origin (HasSnapshot pool)) (map change pool.datasets) (λ d there.
            let (old, was, e) = map_contains change pool.datasets d there in
            subst (λ o. IfSome o (HasSnapshot pool)) (sym (clone old) ∙ ap (λ (d : Dataset). d.origin) e)
            (All-contains (λ d. IfSome d.origin (HasSnapshot pool)) pool.datasets old p.linked.origins was));
        bases = p.linked.bases;
        components = p.linked.components;
      };
      datasets = All-from_contains IsRow (map change pool.datasets) (λ d there.
          let (old, was, e) = map_contains change pool.datasets d there in
          subst IsRow e (keeps old (All-contains IsRow pool.datasets old p.datasets was)));
      snapshots = p.snapshots;
      bookmarks = p.bookmarks;
      partials = p.partials;
    }

-- what changes one dataset
module _ (name : List ℕ) (change : Dataset → Dataset) where
  same_name : ((d : Dataset) → (change d).name ≡ d.name) → (d : Dataset) → (changed_at name change d).name ≡ d.name
  same_name same d = go (bytes_eq d.name name)
    where
      go : (t : Bool) → (if t then change d else d).name ≡ d.name
      go true = same d
      go false = refl

  same_origin : ((d : Dataset) → (change d).origin ≡ d.origin) → (d : Dataset) → (changed_at name change d).origin ≡ d.origin
  same_origin same d = go (bytes_eq d.name name)
    where
      go : (t : Bool) → (if t then change d else d).origin ≡ d.origin
      go true = same d
      go false = refl

  still_row : ((d : Dataset) → IsRow d → IsRow (change d)) → (d : Dataset) → IsRow d → IsRow (changed_at name change d)
  still_row keeps d is = go (bytes_eq d.name name)
    where
      go : (t : Bool) → IsRow (if t then change d else d)
      go true = keeps d is
      go false = is

-- a lawful pool of which a head went back to its latest snapshot
rolled_lawful : (name : List ℕ) (pool : Pool) → IsPool pool → IsPool (record pool { datasets = rolled_back name pool })
rolled_lawful name pool p =
    go (latest_snapshot name pool) (last-holds (Contains pool.snapshots) (λ (s : Snapshot). bytes_eq (dataset_of_snapshot s) name) pool.snapshots (All-contains_itself pool.snapshots))
  where
    go : (o : Option Snapshot) → IfSome o (Contains pool.snapshots) → IsPool (record pool { datasets = rolled name o pool.datasets })
    go None there = p
    go (Some s) there =
        let of = All-contains (λ s. IsGuid s.guid × IsGuidSet s.redact × IsState s.objects.state × (s.time < 2 ^ 64)) pool.snapshots s p.snapshots there in
        changed_lawful pool p (changed_at name (rolled_to s)) (same_name name (rolled_to s) (λ d. refl)) (same_origin name (rolled_to s) (λ d. refl))
        (still_row name (rolled_to s) (λ d is. (is.0, of.1, of.2)))

-- a lawful pool with a new dataset
dataset_added : (row : Dataset) (pool : Pool) → IsPool pool → IsDataset row.name → IsRow row → IfSome row.origin (HasSnapshot pool) → is_some (dataset_named row.name pool) ≡ false
    → IsPool (record pool { datasets = inserted (λ a b. is_before a.name b.name) row pool.datasets })
dataset_added row pool p is_name lawful origin absent =
    let by_name = λ (a b : Dataset). is_before a.name b.name in
    let differs : (x : Dataset) → Contains pool.datasets x → x.name ≢ row.name = none_named (λ d. d.name) row.name pool.datasets absent in
    let added = record pool { datasets = inserted by_name row pool.datasets } in
    let more : (n : List ℕ) → HasDataset pool n → HasDataset added n = λ n h. (h.0, inserted_has_rest by_name row pool.datasets h.0 h.1, h.2) in
    record {
      id = p.id;
      number = p.number;
      guids = p.guids;
      named = record {
        dataset_names = All-inserted (λ d. IsDataset d.name) by_name row pool.datasets is_name p.named.dataset_names;
        datasets = names_rise-inserted (λ (d : Dataset). d.name) row pool.datasets differs p.named.datasets;
        snapshot_names = p.named.snapshot_names;
        snapshots = p.named.snapshots;
        snapshots_differ = p.named.snapshots_differ;
        bookmark_names = p.named.bookmark_names;
        bookmarks = p.named.bookmarks;
        targets = p.named.targets;
        partials = p.named.partials;
      };
      linked = record {
        snapshots =
            All-weaker (λ s. HasDataset pool (dataset_of_snapshot s)) (λ s. HasDataset added (dataset_of_snapshot s)) (λ s. more (dataset_of_snapshot s))
            pool.snapshots p.linked.snapshots;
        origins = All-inserted (λ d. IfSome d.origin (HasSnapshot pool)) by_name row pool.datasets origin p.linked.origins;
        bases = p.linked.bases;
        components = p.linked.components;
      };
      datasets = All-inserted IsRow by_name row pool.datasets lawful p.datasets;
      snapshots = p.snapshots;
      bookmarks = p.bookmarks;
      partials = p.partials;
    }

-- ---- the snapshots

-- a lawful pool with a lawful snapshot more of a dataset that is there, into which no receive is under way
snapshot_added : (row : Snapshot) (pool : Pool) → IsPool pool → IsSnapshot row.name → IsGuid row.guid × IsGuidSet row.redact × IsState row.objects.state × (row.time < 2 ^ 64)
    → HasDataset pool (dataset_of_snapshot row) → ((x : Snapshot) → Contains pool.snapshots x → x.name ≢ row.name)
    → ((q : Partial) → Contains pool.partials q → q.target ≢ dataset_of_snapshot row)
    → IsPool (record pool { snapshots = inserted snapshot_is_before row pool.snapshots })
snapshot_added row pool p is_name lawful owner differs free =
    let rows = pool.snapshots in
    let added = record pool { snapshots = inserted snapshot_is_before row rows } in
    let more : (n : List ℕ) → HasSnapshot pool n → HasSnapshot added n = λ n h. (h.0, inserted_has_rest snapshot_is_before row rows h.0 h.1, h.2) in
    record {
      id = p.id;
      number = p.number;
      guids = p.guids;
      named = record {
        dataset_names = p.named.dataset_names;
        datasets = p.named.datasets;
        snapshot_names = All-inserted (λ s. IsSnapshot s.name) snapshot_is_before row rows is_name p.named.snapshot_names;
        snapshots = rows_rise-inserted dataset_of_snapshot (λ s. s.number) row rows p.named.snapshots;
        snapshots_differ = names_differ-inserted (λ (s : Snapshot). s.name) snapshot_is_before row rows differs p.named.snapshots_differ;
        bookmark_names = p.named.bookmark_names;
        bookmarks = p.named.bookmarks;
        targets = p.named.targets;
        partials = p.named.partials;
      };
      linked = record {
        snapshots = All-inserted (λ s. HasDataset pool (dataset_of_snapshot s)) snapshot_is_before row rows owner p.linked.snapshots;
        origins =
            All-weaker (λ d. IfSome d.origin (HasSnapshot pool)) (λ d. IfSome d.origin (HasSnapshot added)) (λ d h. IfSome_then d.origin h more) pool.datasets p.linked.origins;
        bases =
            All-weaker (λ q. IfSome q.base (HasSnapshot pool)) (λ q. IfSome q.base (HasSnapshot added)) (λ q h. IfSome_then q.base h more) pool.partials p.linked.bases;
        components = All-from_contains (λ q. HasSnapshot added (q.target ++ 64 ∷ q.component) → ⊥) pool.partials (λ q k has. elim (contains-inserted snapshot_is_before row rows has.0 has.1) [
          | inl e ↦
              let target = (All-contains (λ r. IsDataset r.target × IsComponent r.component) pool.partials q p.named.targets k).0 in
              let same : dataset_of_snapshot row ≡ q.target =
              ap (λ s. dataset_of 64 s.name) e ∙ ap (dataset_of 64) has.2 ∙ (join_is_name 64 q.target q.component at_is_mark target).dataset_back in
              free q k (sym same)
          | inr old ↦ All-contains (λ r. HasSnapshot pool (r.target ++ 64 ∷ r.component) → ⊥) pool.partials q p.linked.components k (has.0, old, has.2)
        ]);
      };
      datasets = p.datasets;
      snapshots =
          All-inserted (λ s. IsGuid s.guid × IsGuidSet s.redact × IsState s.objects.state × (s.time < 2 ^ 64)) snapshot_is_before row rows lawful p.snapshots;
      bookmarks = p.bookmarks;
      partials = p.partials;
    }

-- ---- the partial states

-- some of these snapshots has this name
abbrev pub IsOneOf : List Snapshot → List ℕ → Type 0
IsOneOf snapshots name = (snapshot : Snapshot) × Contains snapshots snapshot × (snapshot.name ≡ name)

-- a partial state that may stand beside these snapshots: its names are names, its header can be stated, its objects are lawful, its base is there, and the
-- name of the snapshot that it is to be is free
pub record IsFitting (snapshots : List Snapshot) (partial : Partial) : Type 0 where
  pub target : IsDataset partial.target
  pub component : IsComponent partial.component
  pub stated : IsStated partial.header
  pub lawful : IsState partial.objects.state
  pub based : IfSome partial.base (IsOneOf snapshots)
  pub free : IsOneOf snapshots (partial.target ++ 64 ∷ partial.component) → ⊥

abbrev by_target : Partial → Partial → Bool
by_target a b = is_before a.target b.target

-- a lawful pool with such a partial state of a target that has none
partial_added : (row : Partial) (pool : Pool) → IsPool pool → IsFitting pool.snapshots row → ((x : Partial) → Contains pool.partials x → x.target ≢ row.target)
    → IsPool (record pool { partials = inserted by_target row pool.partials })
partial_added row pool p fits differs = record {
  id = p.id;
  number = p.number;
  guids = p.guids;
  named = record {
    dataset_names = p.named.dataset_names;
    datasets = p.named.datasets;
    snapshot_names = p.named.snapshot_names;
    snapshots = p.named.snapshots;
    snapshots_differ = p.named.snapshots_differ;
    bookmark_names = p.named.bookmark_names;
    bookmarks = p.named.bookmarks;
    targets = All-inserted (λ q. IsDataset q.target × IsComponent q.component) by_target row pool.partials (fits.target, fits.component) p.named.targets;
    partials = names_rise-inserted (λ (q : Partial). q.target) row pool.partials differs p.named.partials;
  };
  linked = record {
    snapshots = p.linked.snapshots;
    origins = p.linked.origins;
    bases = All-inserted (λ q. IfSome q.base (HasSnapshot pool)) by_target row pool.partials fits.based p.linked.bases;
    components = All-inserted (λ q. HasSnapshot pool (q.target ++ 64 ∷ q.component) → ⊥) by_target row pool.partials fits.free p.linked.components;
  };
  datasets = p.datasets;
  snapshots = p.snapshots;
  bookmarks = p.bookmarks;
  partials = All-inserted (λ q. IsStated q.header × IsState q.objects.state) by_target row pool.partials (fits.stated, fits.lawful) p.partials;
}

others_differ : (target : List ℕ) (pool : Pool) (x : Partial) → Contains (partials_of_others target pool) x → x.target ≢ target
others_differ target pool x there e =
    let passes = (filter_parts (λ (q : Partial). not (bytes_eq q.target target)) pool.partials x there).1 in
    true≢false (sym passes ∙ ap not (bytes_same x.target target e))

module _ (partial : Partial) (pool : Pool) (p : IsPool pool) (fits : IsFitting pool.snapshots partial) where
  -- a receive commits what it has so far
  with_partial_lawful : (roll : Bool) → IsPool (with_partial roll partial pool)
  with_partial_lawful true =
      let back = record pool { datasets = rolled_back partial.target pool } in
      partial_added partial (record back { partials = partials_of_others partial.target pool })
      (fewer_partials_are_lawful (λ (q : Partial). not (bytes_eq q.target partial.target)) back (rolled_lawful partial.target pool p)) fits (others_differ partial.target pool)
  with_partial_lawful false =
      partial_added partial (record pool { partials = partials_of_others partial.target pool })
      (fewer_partials_are_lawful (λ (q : Partial). not (bytes_eq q.target partial.target)) pool p) fits (others_differ partial.target pool)

  pub put_lawful : (roll : Bool) (next : Pool) → partial_put roll partial pool ≡ Ok next → IsPool next
  put_lawful roll next e = commit_lawful (with_partial roll partial pool) next (with_partial_lawful roll) e

  -- or all of its stream
  abbrev cleared : Pool
  cleared = record pool { partials = partials_of_others partial.target pool }

  cleared_lawful : IsPool cleared
  cleared_lawful = fewer_partials_are_lawful (λ (q : Partial). not (bytes_eq q.target partial.target)) pool p

  abbrev datasets_by : Bool → List Dataset
  datasets_by there =
      if there then map (changed_at partial.target (head_from partial)) pool.datasets else inserted (λ a b. is_before a.name b.name) (dataset_from partial) pool.datasets

  -- the dataset of the target has the new head
  record HasHead (datasets : List Dataset) : Type 0 where
    lawful : IsPool (record cleared { datasets = datasets })
    there : HasDataset (record cleared { datasets = datasets }) partial.target

  headed : (there : Bool) → is_some (dataset_named partial.target pool) ≡ there → HasHead (datasets_by there)
  headed false absent = record {
    lawful = dataset_added (dataset_from partial) cleared cleared_lawful fits.target (fits.stated.kind, fits.stated.redact, fits.lawful) fits.based absent;
    there = (dataset_from partial, inserted_has_row (λ (a b : Dataset). is_before a.name b.name) (dataset_from partial) pool.datasets, refl);
  }
  headed true present = record {
    lawful =
        changed_lawful cleared cleared_lawful (changed_at partial.target (head_from partial)) (same_name partial.target (head_from partial) (λ d. refl)) (same_origin partial.target (head_from partial) (λ d. refl))
        (still_row partial.target (head_from partial) (λ d is. (is.0, fits.stated.redact, fits.lawful)));
    there = found (dataset_named partial.target pool) refl present;
  }
    where
      found : (o : Option Dataset) → dataset_named partial.target pool ≡ o → is_some o ≡ true → HasDataset (record cleared { datasets = datasets_by true }) partial.target
      found None e some = absurd cc
      found (Some d) e some =
          let is = named_found (λ (d : Dataset). d.name) partial.target pool.datasets d e in (
            changed_at partial.target (head_from partial) d,
            contains-map (changed_at partial.target (head_from partial)) pool.datasets d is.0,
            same_name partial.target (head_from partial) (λ d. refl) d ∙ is.1,
          )

  with_finished_lawful : IsPool (with_finished partial pool)
  with_finished_lawful =
      let head = headed (is_some (dataset_named partial.target pool)) refl in
      let joined = join_is_name 64 partial.target partial.component at_is_mark fits.target in
      let own : dataset_of_snapshot (snapshot_from partial pool) ≡ partial.target = joined.dataset_back in
      snapshot_added (snapshot_from partial pool) (record cleared { datasets = datasets_by (is_some (dataset_named partial.target pool)) }) head.lawful
      (subst IsDataset (sym joined.dataset_back) fits.target, subst IsComponent (sym joined.component_back) fits.component) (fits.stated.to, fits.stated.redact, fits.lawful, fits.stated.time)
      (subst (λ (n : List ℕ). HasDataset (record cleared { datasets = datasets_by (is_some (dataset_named partial.target pool)) }) n) (sym own) head.there)
      (λ x there e. fits.free (x, there, e)) (λ q there e. others_differ partial.target pool q there (e ∙ own))

  pub finished_lawful : (next : Pool) → partial_finished partial pool ≡ Ok next → IsPool next
  finished_lawful next e = commit_lawful (with_finished partial pool) next with_finished_lawful e
