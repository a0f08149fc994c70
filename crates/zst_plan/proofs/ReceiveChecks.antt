-- The checks of a receive, one after another.
use Rattle.std.proofs.Common.{◌||◌, ◌≡◌, ℕ, ◌+◌, ◌<◌, Bool, true, false, not, ◌&&◌, ◌==◌, nat_lt, List, length, Option, Some, None, is_some, option_map, Result, Ok, Err, if◌then◌else◌, refl, sym, ap, ◌∙◌, arith}
use Rattle.std.specs.List.{find, position}
use Rattle.std.specs.Option.{ok_or, option_map_or}
use Rattle.std.specs.Str.{bytes_eq}
use Rattle.std.proofs.lemmas.Bool.Decides.{nat_tests}
use Rattle.zst_dir.proofs.Matches.{FoundAlike, found-Match, length-Match}
use Rattle.zst_dir.specs.RowNames.{AreNamed, NamesBookmark, NamesPartial, NamesSnapshot}
use Rattle.zst_dir.specs.Rows.{Rows}
use Rattle.zst_dir.specs.declared.rows.Bookmark.{Bookmark}
use Rattle.zst_dir.specs.declared.rows.Dataset.{Dataset}
use Rattle.zst_dir.proofs.NamedRows.{dataset_is_there}
use Rattle.zst_model.specs.declared.refusals.faults.Quantity.TheVariants as quantities
use Rattle.zst_model.specs.declared.refusals.subjects.Holder.TheVariants as holders
use Rattle.zst_model.specs.declared.refusals.subjects.Name.TheVariants as names
use Rattle.zst_model.specs.declared.refusals.subjects.PresentSubject.TheVariants as present
use Rattle.zst_model.specs.declared.refusals.plan_fault.PlanFault.{PlanFault}
use Rattle.zst_model.specs.declared.refusals.plan_fault.PlanFault.TheVariants as plans
use Rattle.zst_model.specs.declared.sends.header.Header.{Header}
use Rattle.zst_model.specs.pools.Limits.{most_datasets, most_partials, most_snapshots}
use Rattle.zst_model.specs.pools.Pool.{Pool, dataset_of_bookmark, partial_of, snapshot_named}
use Rattle.zst_model.specs.pools.Pool as plain
use Rattle.zst_model.specs.pools.Step.{count_datasets}
use Rattle.zst_model.specs.states.AppliedItems.{unless, ◌>>=◌}
use Rattle.zst_names.specs.Names.{dataset_of}
use Rattle.zst_plan.specs.Places.{FindAlike, StandsAt}
use Rattle.zst_plan.specs.Receipts.{TellsHead, latest_date}
use Rattle.zst_plan.specs.RecvPlan.{Base, RecvPlan, Resumes, Begins, base_by_guid, base_by_head, base_onto, cloned_base, find_latest, fresh_plan, goes_on, if_contained, if_increment, if_kind, if_new, if_room, if_source, if_within, is_dated_after, is_full, is_resumed, new_datasets, recv_plan, component_for, resumed_plan, rolled_back, snapshot_name, wrong_resume}
use Rattle.zst_plan.specs.declared.receive.RecvAsk.{RecvAsk}
use Rattle.zst_plan.proofs.LookupLemmas.{both_find}

-- a base without a rollback
abbrev pub unrolled : Option plain.Snapshot → Base
unrolled snapshot = record { snapshot = snapshot; rolls = false }

module _ (header : Header) (pool : Pool) where
  -- an increment's base by its guid
  pub by_guid : is_full header ≡ false → base_by_guid header pool ≡ (ok_or (find (λ snapshot. snapshot.guid == header.from) pool.snapshots) (plans.NoOrigin header.from) >>= cloned_base header pool)
  by_guid own = ap (λ full. if full then Ok (unrolled None) else (ok_or (find (λ snapshot. snapshot.guid == header.from) pool.snapshots) (plans.NoOrigin header.from) >>= cloned_base header pool)) own

-- a stream that goes on elsewhere
pub resumes_elsewhere : (header : Header) (kept : plain.Partial) (fault : PlanFault) → is_resumed header ≡ true → goes_on kept header ≡ false → fault ≡ wrong_resume kept header
    → resumed_plan header kept ≡ Err fault
resumes_elsewhere header kept fault resumed elsewhere is =
    ap (λ b. unless (not b) (plans.PartialExists kept.target) (unless (not (goes_on kept header)) (wrong_resume kept header) (Ok (Resumes kept)))) resumed
    ∙ ap (λ b. unless (not b) (wrong_resume kept header) (Ok (Resumes kept))) elsewhere
    ∙ ap (λ f. Err f) (sym is)

-- a head with a later date
pub is_dated : (row : Dataset) (target : plain.Dataset) (latest number : ℕ) → TellsHead row target → number ≡ latest → latest < latest_date row.head → is_dated_after number target.head ≡ true
is_dated row target latest number tells same below =
    let later : nat_lt number (latest_date row.head) ≡ true = grind (arith, nat_tests) in
    sym (tells number) ∙ later

pub head_rolls : (target : plain.Dataset) (snapshot : plain.Snapshot) (pool : Pool) (force : Bool) → is_dated_after snapshot.number target.head ≡ true → force ≡ true
    → base_by_head force target snapshot pool ≡ rolled_back target snapshot pool
head_rolls target snapshot pool force dated forced =
    ap (λ b. if b then unless (not force) (plans.Modified target.name) (rolled_back target snapshot pool) else Ok (unrolled (Some snapshot))) dated
    ∙ ap (λ b. unless (not b) (plans.Modified target.name) (rolled_back target snapshot pool)) forced

-- what a bookmark that was found does to a rollback
abbrev pub rolled_by : plain.Snapshot → Option plain.Bookmark → Result Base PlanFault
rolled_by snapshot found = option_map_or (λ bookmark. Err (plans.Busy (holders.Bookmark bookmark.name))) found (Ok (record { snapshot = Some snapshot; rolls = true }))

pub bookmark_is_lost : (snapshot : plain.Snapshot) (found : Option Bookmark) (other : Option plain.Bookmark) (name : List ℕ) → FoundAlike NamesBookmark found other
    → option_map (λ bookmark. bookmark.name) found ≡ Some name → rolled_by snapshot other ≡ Err (plans.Busy (holders.Bookmark name))
bookmark_is_lost snapshot None other name alike is = absurd (cc)
bookmark_is_lost snapshot (Some row) None name alike is = absurd alike
bookmark_is_lost snapshot (Some row) (Some other) name alike is =
    let same : row.name ≡ name = cc in
    ap (λ n. Err (plans.Busy (holders.Bookmark n))) (alike.name ∙ same)

pub none_is_lost : (snapshot : plain.Snapshot) (found : Option Bookmark) (other : Option plain.Bookmark) → FoundAlike NamesBookmark found other
    → option_map (λ bookmark. bookmark.name) found ≡ None → rolled_by snapshot other ≡ Ok (record { snapshot = Some snapshot; rolls = true })
none_is_lost snapshot None None alike is = refl
none_is_lost snapshot None (Some other) alike is = absurd alike
none_is_lost snapshot (Some row) other alike is = absurd (cc)

-- whether a bookmark is of a dataset and later than a number
abbrev pub is_later_row : List ℕ → ℕ → Bookmark → Bool
is_later_row name number bookmark = bytes_eq (dataset_of 35 bookmark.name) name && nat_lt number bookmark.number

abbrev pub is_later : List ℕ → ℕ → plain.Bookmark → Bool
is_later name number bookmark = bytes_eq (dataset_of_bookmark bookmark) name && nat_lt number bookmark.number

module _ (rows : Rows) (pool : Pool) (are : AreNamed rows pool) where
  pub later_alike : (name other : List ℕ) (number after : ℕ) → other ≡ name → after ≡ number → FoundAlike NamesBookmark (find (is_later_row name number) rows.bookmarks) (find (is_later other after) pool.bookmarks)
  later_alike name other number after same equal =
      found-Match NamesBookmark (is_later_row name number) (is_later other after) (λ x y is. rw (is.name, is.number, same, equal) refl) rows.bookmarks pool.bookmarks are.bookmarks

  -- look-ups
  pub guids_find : (guid : ℕ) (place : Option ℕ) → place ≡ position (λ snapshot. snapshot.guid == guid) rows.snapshots
      → FindAlike (StandsAt rows.snapshots pool.snapshots) place (find (λ snapshot. snapshot.guid == guid) pool.snapshots)
  guids_find guid place is =
      both_find NamesSnapshot (λ snapshot. snapshot.guid == guid) (λ snapshot. snapshot.guid == guid) (λ x y names. ap (λ n. n == guid) (sym names.guid))
      rows.snapshots pool.snapshots are.snapshots place is

  pub partials_find : (name : List ℕ) (place : Option ℕ) → place ≡ position (λ partial. bytes_eq partial.target name) rows.partials
      → FindAlike (StandsAt rows.partials pool.partials) place (partial_of name pool)
  partials_find name place is =
      both_find NamesPartial (λ partial. bytes_eq partial.target name) (λ partial. bytes_eq partial.target name) (λ x y names. ap (λ n. bytes_eq n name) (sym names.target))
      rows.partials pool.partials are.partials place is

  pub is_newly_made : (name : List ℕ) (place : Option ℕ) → place ≡ position (λ dataset. bytes_eq dataset.name name) rows.datasets
      → (if is_some place then 0 else 1) ≡ new_datasets name pool
  is_newly_made name place is = ap (λ o. if is_some o then 0 else 1) is ∙ ap (λ b. if b then 0 else 1) (dataset_is_there rows pool are name)

  -- counts
  pub snapshots_are_counted : length rows.snapshots ≡ length pool.snapshots
  snapshots_are_counted = length-Match NamesSnapshot rows.snapshots pool.snapshots are.snapshots

-- the name
pub is_taken : (name : List ℕ) (pool : Pool) (rest : Result RecvPlan PlanFault) (there : Bool) → there ≡ is_some (snapshot_named name pool)
    → if_new name pool rest ≡ unless there (plans.Exists (present.Named (names.Snapshot name))) rest
is_taken name pool rest there is = ap (λ b. unless b (plans.Exists (present.Named (names.Snapshot name))) rest) (sym is)

-- the limits
pub room_is : (target : List ℕ) (pool : Pool) (rest : Result RecvPlan PlanFault) (partials datasets snapshots : ℕ)
    → partials ≡ length pool.partials + 1 → datasets ≡ count_datasets pool + new_datasets target pool → snapshots ≡ length pool.snapshots + (length pool.partials + 1)
    → if_room target pool rest ≡ if_within quantities.Partials 16 partials (if_within quantities.Datasets 256 datasets (if_within quantities.Snapshots 1024 snapshots rest))
unfolding most_partials most_datasets most_snapshots
room_is target pool rest partials datasets snapshots p d s = rw (p, d, s) refl

-- the base of a dataset that is there
abbrev pub onto_latest : Header → Bool → Pool → plain.Dataset → plain.Snapshot → Result Base PlanFault
onto_latest header force pool target latest = if_source latest.guid header (if_kind target.kind header (base_by_head force target latest pool))

pub onto_named : (ask : RecvAsk) (header : Header) (pool : Pool) (target : plain.Dataset) (name : List ℕ) → target.name ≡ name
    → base_onto ask header pool target ≡ if_increment ask header name (find_latest name header pool >>= onto_latest header ask.force pool target)
onto_named ask header pool target name same = ap (λ n. if_increment ask header n (find_latest n header pool >>= onto_latest header ask.force pool target)) same

-- what is left of a fresh plan once its base is known
abbrev pub with_base : RecvAsk → Header → List ℕ → Pool → Base → Result RecvPlan PlanFault
with_base ask header component pool base = if_contained base header (if_new (snapshot_name ask.target component) pool (if_room ask.target pool (Ok (Begins component base))))

-- and of a plan once the component is
abbrev pub with_component : RecvAsk → Header → Pool → List ℕ → Result RecvPlan PlanFault
with_component ask header pool component = option_map_or (resumed_plan header) (partial_of ask.target pool) (fresh_plan ask header component pool)

pub by_component : (ask : RecvAsk) (header : Header) (pool : Pool) (found : Result (List ℕ) PlanFault) → component_for ask header ≡ found
    → recv_plan ask header pool ≡ (found >>= with_component ask header pool)
unfolding recv_plan
by_component ask header pool found is = ap (λ r. r >>= with_component ask header pool) is

-- what an increment is that may come onto a dataset
pub is_increment : (ask : RecvAsk) (header : Header) (name : List ℕ) → ((rest : Result Base PlanFault) → if_increment ask header name rest ≡ rest) → is_full header ≡ false
is_increment ask header name passes = go (is_full header) refl
  where
    go : (b : Bool) → is_full header ≡ b → is_full header ≡ false
    go false e = e
    go true e =
        let fault = plans.Exists (present.Named (names.Dataset name)) in
        let clash : Err fault ≡ Ok (unrolled None) = ap (λ full. unless (full || is_some ask.origin) fault (Ok (unrolled None))) (sym e) ∙ passes (Ok (unrolled None)) in
        absurd (cc)
