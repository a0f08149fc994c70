-- What a receive that begins afresh is planned over.
use Rattle.std.proofs.Common.{◌≡◌, inl, inr, ◌⊎◌, ℕ, ◌≤◌, Bool, true, false, not, List, AllPairs, Contains, Option, Some, None, is_some, Result, Ok, Err, refl, sym, ap, ◌∙◌, subst, cond, ◌==◌, ◌&&◌, ◌||◌, find, nat_lt}
use Rattle.std.specs.Prelude.{bytes_eq}
use Rattle.std.specs.Option.{option_map_or}
use Rattle.std.proofs.lemmas.Bool.{true≢false, and_from, cases_lt, lt-ltb}
use Rattle.zst_model.proofs.OrderLaws.{bytes_same, same_bytes}
use Rattle.zst_model.specs.declared.refusals.faults.Lack.TheVariants as lacks
use Rattle.zst_model.specs.declared.refusals.subjects.Holder.TheVariants as holders
use Rattle.zst_model.specs.declared.refusals.subjects.Name.TheVariants as names
use Rattle.zst_model.specs.declared.refusals.subjects.PresentSubject.TheVariants as present
use Rattle.zst_model.specs.declared.refusals.plan_fault.PlanFault.{PlanFault}
use Rattle.zst_model.specs.declared.refusals.plan_fault.PlanFault.TheVariants as plans
use Rattle.zst_model.specs.declared.sends.header.Header.{Header}
use Rattle.zst_model.specs.pools.Pool.{Pool, Dataset, Snapshot, Bookmark, HasDataset, dataset_named, dataset_of_snapshot, dataset_of_bookmark}
use Rattle.zst_model.specs.states.AppliedItems.{unless, ◌>>=◌}
use Rattle.zst_model.proofs.FoundElements.{found_passes, none_passes}
use Rattle.zst_model.proofs.Results.{bind_ok, ok_parts, unless_ok}
use Rattle.zst_plan.specs.RecvPlan as planning
use Rattle.zst_plan.specs.RecvPlan.{Base, base_anew, base_by_head, base_for, base_onto, find_latest, if_kind, if_source, is_dated_after, latest_of, rolled_back}
use Rattle.zst_plan.specs.declared.receive.RecvAsk.{RecvAsk}
use Rattle.zst_replication.proofs.GrownPartials.{IsLatest, IsOver, MayGoBack, last_is, latest_is}
use Rattle.zst_replication.proofs.ReceivePlans.{base_there, or_parts}
use Rattle.zst_laws.proofs.pools.Descent.{Rises}

-- a bookmark of this dataset that is later than this number
abbrev is_later : List ℕ → ℕ → Bookmark → Bool
is_later name number bookmark = bytes_eq (dataset_of_bookmark bookmark) name && nat_lt number bookmark.number

-- where there is none, each of the dataset has at most this number
none_later : (name : List ℕ) (number : ℕ) (pool : Pool) → find (is_later name number) pool.bookmarks ≡ None
    → (bookmark : Bookmark) → Contains pool.bookmarks bookmark → dataset_of_bookmark bookmark ≡ name → bookmark.number ≤ number
none_later name number pool none bookmark there same = elim (cases_lt number bookmark.number) [
  | inl less ↦ absurd (true≢false (sym (and_from _ _ (bytes_same (dataset_of_bookmark bookmark) name same) (lt-ltb _ _ less)) ∙ none_passes (is_later name number) pool.bookmarks none bookmark there))
  | inr up ↦ up
]

-- with or without the head's rollback the base is the latest snapshot, and the dataset may go back to it
latest_base : (force : Bool) (dataset : Dataset) (latest : Snapshot) (pool : Pool) (base : Base) → Contains pool.datasets dataset → base_by_head force dataset latest pool ≡ Ok base
    → (base.snapshot ≡ Some latest) × MayGoBack pool dataset.name latest.number
latest_base force dataset latest pool base there e = go (is_dated_after latest.number dataset.head) refl e
  where
    held : (o : Option Bookmark) → find (is_later dataset.name latest.number) pool.bookmarks ≡ o
        → option_map_or (λ bookmark. Err (plans.Busy (holders.Bookmark bookmark.name))) o (Ok (record { snapshot = Some latest; rolls = true })) ≡ Ok base
        → (base.snapshot ≡ Some latest) × MayGoBack pool dataset.name latest.number
    held None none e = (sym (ap (λ (b : Base). b.snapshot) (ok_parts _ base e)), inr (none_later dataset.name latest.number pool none))
    held (Some bookmark) is e = absurd cc

    go : (t : Bool) → is_dated_after latest.number dataset.head ≡ t
        → cond t (unless (not force) (plans.Modified dataset.name) (rolled_back dataset latest pool)) (Ok (record { snapshot = Some latest; rolls = false })) ≡ Ok base
        → (base.snapshot ≡ Some latest) × MayGoBack pool dataset.name latest.number
    go true is e = held (find (is_later dataset.name latest.number) pool.bookmarks) refl (unless_ok (not force) (plans.Modified dataset.name) (rolled_back dataset latest pool) base e).1
    go false is e = (sym (ap (λ (b : Base). b.snapshot) (ok_parts _ base e)), inl (dataset, there, refl, is))

module _ (ask : RecvAsk) (header : Header) (pool : Pool) (rise : AllPairs Rises pool.snapshots) where
  -- a target that is there takes its stream over its latest snapshot
  onto_latest : (dataset : Dataset) (base : Base) → Contains pool.datasets dataset → base_onto ask header pool dataset ≡ Ok base
      → (latest : Snapshot) × (base.snapshot ≡ Some latest) × IsLatest pool dataset.name latest × MayGoBack pool dataset.name latest.number
  onto_latest dataset base there e =
      let own : Snapshot → Result Base PlanFault = λ latest. base_by_head ask.force dataset latest pool in
      let kinded : Snapshot → Result Base PlanFault = λ latest. if_kind dataset.kind header (own latest) in
      let sourced : Snapshot → Result Base PlanFault = λ latest. if_source latest.guid header (kinded latest) in
      let grown = unless_ok (planning.is_full header || is_some ask.origin) (plans.Exists (present.Named (names.Dataset dataset.name))) (find_latest dataset.name header pool >>= sourced) base e in
      let found = bind_ok (find_latest dataset.name header pool) sourced base grown.1 in
      let last = or_parts (latest_of dataset.name pool) (plans.NotLatest 0 header.from) found.0 found.1 in
      let source = unless_ok (not (found.0.guid == header.from)) (plans.NotLatest found.0.guid header.from) (kinded found.0) base found.2 in
      let kind = unless_ok (not (dataset.kind == header.kind)) (plans.Unsupported lacks.Kind) (own found.0) base source.1 in
      let is = latest_base ask.force dataset found.0 pool base there kind.1 in (
        found.0,
        is.0,
        latest_is pool dataset.name rise found.0 (sym (last_is (λ s. bytes_eq (dataset_of_snapshot s) dataset.name) pool.snapshots) ∙ last),
        is.1,
      )

  pub planned_over : (base : Base) → base_for ask header pool ≡ Ok base → IsOver pool ask.target base.snapshot
  planned_over base e = record { there = (base_there ask header pool base e).there; onto = go (dataset_named ask.target pool) refl e }
    where
      go : (o : Option Dataset) → dataset_named ask.target pool ≡ o → option_map_or (base_onto ask header pool) o (base_anew ask header pool) ≡ Ok base
          → ((latest : Snapshot) × (base.snapshot ≡ Some latest) × IsLatest pool ask.target latest × MayGoBack pool ask.target latest.number) ⊎ (HasDataset pool ask.target → ⊥)
      go None is e = inr (λ has. true≢false
          (sym (bytes_same has.0.name ask.target has.2) ∙ none_passes (λ dataset. bytes_eq dataset.name ask.target) pool.datasets is has.0 has.1))
      go (Some dataset) is e =
          let found = found_passes (λ dataset. bytes_eq dataset.name ask.target) pool.datasets dataset is in
          let latest = onto_latest dataset base found.0 e in
          let same = same_bytes dataset.name ask.target found.1 in
          inl (latest.0, latest.1, subst (λ (n : List ℕ). IsLatest pool n latest.0) same latest.2, subst (λ (n : List ℕ). MayGoBack pool n latest.0.number) same latest.3)
