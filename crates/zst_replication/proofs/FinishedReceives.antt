-- What a receive that has come to its end makes of the pool.
use Rattle.std.proofs.Common.{◌≡◌, inl, inr, ℕ, ◌<◌, Bool, true, false, not, List, [], ◌∷◌, map, Option, Some, None, is_some, option_map, refl, sym, ap, ◌∙◌, subst, cond, find}
use Rattle.std.specs.Prelude.{bytes_eq, filter}
use Rattle.std.proofs.lemmas.Bool.{cond-true, cond-false}
use Rattle.std.proofs.lemmas.Option.{same_Some}
use Rattle.zst_model.proofs.OrderLaws.{same_bytes, bytes_same}
use Rattle.zst_model.specs.declared.sends.header.Header.{Header}
use Rattle.zst_model.specs.pools.KeptPool.{kept_of}
use Rattle.zst_model.specs.pools.Pool.{Pool, Dataset, Snapshot, Partial, dataset_named, inserted, is_before, snapshot_named}
use Rattle.zst_model.specs.states.State.{State}
use Rattle.zst_plan.specs.RecvPlan.{snapshot_name}
use Rattle.zst_plan.specs.declared.receive.RecvAsk.{RecvAsk}
use Rattle.zst_pool.specs.Partials.{changed_at, dataset_from, head_from, latest_snapshot, rolled, rolled_to}
use Rattle.zst_replication.specs.Outcomes.{HasOneMore}
use Rattle.zst_replication.proofs.Rows.{filter_twice}
use Rattle.zst_replication.proofs.RunningPools.{Finished, Heads, finished_datasets, finished_snapshot}

-- ---- look-ups by name

abbrev find_named : List ℕ → List Dataset → Option Dataset
find_named name datasets = find (λ dataset. bytes_eq dataset.name name) datasets

mapped_named : (f : Dataset → Dataset) → ((d : Dataset) → (f d).name ≡ d.name) → (name : List ℕ) (ds : List Dataset) → find_named name (map f ds) ≡ option_map f (find_named name ds)
mapped_named f names name [] = refl
mapped_named f names name (d ∷ ds) =
    ap (λ (n : List ℕ). cond (bytes_eq n name) (Some (f d)) (find_named name (map f ds))) (names d)
    ∙ go (bytes_eq d.name name) (mapped_named f names name ds)
  where
    go : (t : Bool) → find_named name (map f ds) ≡ option_map f (find_named name ds)
        → cond t (Some (f d)) (find_named name (map f ds)) ≡ option_map f (cond t (Some d) (find_named name ds))
    go true e = refl
    go false e = e

found_named : (name : List ℕ) (ds : List Dataset) (d : Dataset) → find_named name ds ≡ Some d → bytes_eq d.name name ≡ true
found_named name [] d e = absurd cc
found_named name (x ∷ xs) d e = go (bytes_eq x.name name) refl (found_named name xs d) e
  where
    go : (t : Bool) → bytes_eq x.name name ≡ t → (find_named name xs ≡ Some d → bytes_eq d.name name ≡ true)
        → cond t (Some x) (find_named name xs) ≡ Some d → bytes_eq d.name name ≡ true
    go true b rest e = subst (λ (y : Dataset). bytes_eq y.name name ≡ true) (same_Some x d e) b
    go false b rest e = rest e

-- a change that leaves the datasets of this name leaves what is found
unchanged_named : (f : Dataset → Dataset) (name : List ℕ) (ds : List Dataset) → ((d : Dataset) → bytes_eq d.name name ≡ true → f d ≡ d) → option_map f (find_named name ds) ≡ find_named name ds
unchanged_named f name ds same = go (find_named name ds) refl
  where
    go : (o : Option Dataset) → find_named name ds ≡ o → option_map f o ≡ o
    go None e = refl
    go (Some d) e = ap (λ (x : Dataset). Some x) (same d (found_named name ds d e))

inserted_other : (comes_before : Dataset → Dataset → Bool) (row : Dataset) (name : List ℕ) (ds : List Dataset) → bytes_eq row.name name ≡ false
    → find_named name (inserted comes_before row ds) ≡ find_named name ds
unfolding inserted
inserted_other comes_before row name [] e = cond-false (bytes_eq row.name name) (Some row) None e
inserted_other comes_before row name (d ∷ ds) e = go (comes_before row d) (inserted_other comes_before row name ds e)
  where
    go : (t : Bool) → find_named name (inserted comes_before row ds) ≡ find_named name ds
        → find_named name (cond t (row ∷ d ∷ ds) (d ∷ inserted comes_before row ds)) ≡ find_named name (d ∷ ds)
    go true r = cond-false (bytes_eq row.name name) (Some row) (find_named name (d ∷ ds)) e
    go false r = ap (λ (o : Option Dataset). cond (bytes_eq d.name name) (Some d) o) r

inserted_same : (comes_before : Dataset → Dataset → Bool) (row : Dataset) (name : List ℕ) (ds : List Dataset) → bytes_eq row.name name ≡ true
    → find_named name ds ≡ None → find_named name (inserted comes_before row ds) ≡ Some row
unfolding inserted
inserted_same comes_before row name [] e none = cond-true (bytes_eq row.name name) (Some row) None e
inserted_same comes_before row name (d ∷ ds) e none = go (comes_before row d) (bytes_eq d.name name) refl (inserted_same comes_before row name ds e) none
  where
    go : (t b : Bool) → bytes_eq d.name name ≡ b → (find_named name ds ≡ None → find_named name (inserted comes_before row ds) ≡ Some row)
        → cond b (Some d) (find_named name ds) ≡ None
        → find_named name (cond t (row ∷ d ∷ ds) (d ∷ inserted comes_before row ds)) ≡ Some row
    go true b s r n = cond-true (bytes_eq row.name name) (Some row) (find_named name (d ∷ ds)) e
    go false true s r n = absurd cc
    go false false s r n = cond-false (bytes_eq d.name name) (Some d) (find_named name (inserted comes_before row ds)) s ∙ r n

other_name : (a b name : List ℕ) → bytes_eq a name ≡ false → bytes_eq b name ≡ true → bytes_eq b a ≡ false
other_name a b name x y = go (bytes_eq b a) refl
  where
    go : (t : Bool) → bytes_eq b a ≡ t → bytes_eq b a ≡ false
    go true e = absurd (let hit : bytes_eq a name ≡ true = bytes_same a name (sym (same_bytes b a e) ∙ same_bytes b name y) in cc)
    go false e = e

-- ---- a change of one dataset that keeps its name

module _ (target : List ℕ) (change : Dataset → Dataset) (named : (d : Dataset) → (change d).name ≡ d.name) where
  changed_name : (d : Dataset) → (changed_at target change d).name ≡ d.name
  changed_name d = go (bytes_eq d.name target)
    where
      go : (t : Bool) → (cond t (change d) d).name ≡ d.name
      go true = named d
      go false = refl

  changed_others : (ds : List Dataset) (name : List ℕ) → bytes_eq target name ≡ false → find_named name (map (changed_at target change) ds) ≡ find_named name ds
  changed_others ds name e =
      mapped_named (changed_at target change) changed_name name ds
      ∙ unchanged_named (changed_at target change) name ds (λ d hit. cond-false (bytes_eq d.name target) (change d) d (other_name target d.name name e hit))

  changed_there : (ds : List Dataset) (d : Dataset) → find_named target ds ≡ Some d → find_named target (map (changed_at target change) ds) ≡ Some (change d)
  changed_there ds d e =
      mapped_named (changed_at target change) changed_name target ds ∙ ap (λ (o : Option Dataset). option_map (changed_at target change) o) e
      ∙ ap (λ (x : Dataset). Some x) (cond-true (bytes_eq d.name target) (change d) d (found_named target ds d e))

  changed_none : (ds : List Dataset) → find_named target ds ≡ None → find_named target (map (changed_at target change) ds) ≡ None
  changed_none ds e = mapped_named (changed_at target change) changed_name target ds ∙ ap (λ (o : Option Dataset). option_map (changed_at target change) o) e

-- ---- the datasets that a receive began with

-- what stands at the target is of the same kind and origin
pub record SameAt (target : List ℕ) (old new : List Dataset) : Type 0 where
  pub others : (name : List ℕ) → bytes_eq target name ≡ false → find_named name new ≡ find_named name old
  pub none : find_named target old ≡ None → find_named target new ≡ None
  pub there : (before : Dataset) → find_named target old ≡ Some before
      → (dataset : Dataset) × (find_named target new ≡ Some dataset) × (dataset.kind ≡ before.kind) × (dataset.origin ≡ before.origin)

rolled_same : (target : List ℕ) (latest : Option Snapshot) (ds : List Dataset) → SameAt target ds (rolled target latest ds)
rolled_same target None ds = record { others = λ name e. refl; none = λ e. e; there = λ d e. (d, e, refl, refl) }
rolled_same target (Some s) ds = record {
  others = changed_others target (rolled_to s) (λ d. refl) ds;
  none = changed_none target (rolled_to s) (λ d. refl) ds;
  there = λ d e. (rolled_to s d, changed_there target (rolled_to s) (λ d. refl) ds d e, refl, refl);
}

heads_same : (ask : RecvAsk) (start : Pool) (datasets : List Dataset) → Heads ask start datasets → SameAt ask.target start.datasets datasets
heads_same ask start datasets (inl same) = subst (λ (ds : List Dataset). SameAt ask.target start.datasets ds) (sym same) (record { others = λ name e. refl; none = λ e. e; there = λ d e. (d, e, refl, refl) })
heads_same ask start datasets (inr back) =
    subst (λ (ds : List Dataset). SameAt ask.target start.datasets ds) (sym back.1) (rolled_same ask.target (latest_snapshot ask.target start) start.datasets)

-- ---- the datasets after END

finished_others : (partial : Partial) (ds : List Dataset) (name : List ℕ) → bytes_eq partial.target name ≡ false → find_named name (finished_datasets partial ds) ≡ find_named name ds
finished_others partial ds name e = go (is_some (find_named partial.target ds))
  where
    go : (t : Bool) → find_named name (cond t (map (changed_at partial.target (head_from partial)) ds) (inserted (λ a b. is_before a.name b.name) (dataset_from partial) ds)) ≡ find_named name ds
    go true = changed_others partial.target (head_from partial) (λ d. refl) ds name e
    go false = inserted_other (λ a b. is_before a.name b.name) (dataset_from partial) name ds e

pub record Headed (partial : Partial) (old new : List Dataset) : Type 0 where
  pub dataset : Dataset
  pub there : find_named partial.target new ≡ Some dataset
  pub head : dataset.head ≡ partial.objects
  pub redact : dataset.redact ≡ partial.header.redact
  pub kept : (d : Dataset) → find_named partial.target old ≡ Some d → (dataset.kind ≡ d.kind) × (dataset.origin ≡ d.origin)
  pub made : find_named partial.target old ≡ None → (dataset.kind ≡ partial.header.kind) × (dataset.origin ≡ partial.base)

finished_there : (partial : Partial) (ds : List Dataset) → Headed partial ds (finished_datasets partial ds)
finished_there partial ds = go (find_named partial.target ds) refl
  where
    go : (o : Option Dataset) → find_named partial.target ds ≡ o
        → Headed partial ds (cond (is_some o) (map (changed_at partial.target (head_from partial)) ds) (inserted (λ a b. is_before a.name b.name) (dataset_from partial) ds))
    go None e = record {
      dataset = dataset_from partial;
      there = inserted_same (λ a b. is_before a.name b.name) (dataset_from partial) partial.target ds (bytes_same partial.target partial.target refl) e;
      head = refl;
      redact = refl;
      kept = λ d n. absurd (let both = sym e ∙ n in cc);
      made = λ n. (refl, refl);
    }
    go (Some d) e = record {
      dataset = head_from partial d;
      there = changed_there partial.target (head_from partial) (λ d. refl) ds d e;
      head = refl;
      redact = refl;
      kept = λ x n. let same : d ≡ x = same_Some d x (sym e ∙ n) in (ap (λ (y : Dataset). y.kind) same, ap (λ (y : Dataset). y.origin) same);
      made = λ n. absurd (let both = sym e ∙ n in cc);
    }

-- ---- the whole

pub one_more : (ask : RecvAsk) (header : Header) (start pool : Pool) (partial : Partial) → partial.target ≡ ask.target → partial.header ≡ header
    → snapshot_named (snapshot_name ask.target partial.component) start ≡ None → Finished ask start pool partial
    → HasOneMore start pool ask.target partial.component partial.base header partial.objects.state
one_more ask header start pool partial target stated new finished =
    let is = finished.pool_is in
    let began = heads_same ask start finished.datasets finished.heads in
    let headed = finished_there partial finished.datasets in
    let at : (ds : List Dataset) → find_named partial.target ds ≡ find_named ask.target ds = λ ds. ap (λ (t : List ℕ). find_named t ds) target in
    record {
      id = ap (λ (p : Pool). p.id) is;
      guids = ap (λ (p : Pool). p.guids) is;
      later = subst (λ (n : ℕ). start.number < n) (sym (ap (λ (p : Pool). p.number) is)) finished.later;
      bookmarks = ap (λ (p : Pool). p.bookmarks) is;
      partials = ap (λ (p : Pool). p.partials) is;
      snapshot = finished_snapshot finished.number partial;
      added = ap (λ (p : Pool). p.snapshots) is;
      name = ap (λ (t : List ℕ). snapshot_name t partial.component) target;
      name_is_new = new;
      guid = ap (λ (h : Header). h.to) stated;
      time = ap (λ (h : Header). h.time) stated;
      number = sym (ap (λ (p : Pool). p.number) is);
      redact = ap (λ (h : Header). h.redact) stated;
      state_is = refl;
      dataset = headed.dataset;
      there = ap (λ (p : Pool). dataset_named ask.target p) is ∙ sym (at (finished_datasets partial finished.datasets)) ∙ headed.there;
      head = headed.head;
      head_redact = headed.redact ∙ ap (λ (h : Header). h.redact) stated;
      kept = λ d e.
          let found = began.there d e in
          let kept = headed.kept found.0 (at finished.datasets ∙ found.1) in
          (kept.0 ∙ found.2, kept.1 ∙ found.3);
      made = λ e. let made = headed.made (at finished.datasets ∙ began.none e) in (made.0 ∙ ap (λ (h : Header). h.kind) stated, made.1);
      others = λ name e.
          ap (λ (p : Pool). dataset_named name p) is
          ∙ finished_others partial finished.datasets name (subst (λ (t : List ℕ). bytes_eq t name ≡ false) (sym target) e)
          ∙ began.others name e;
    }

-- the same of what the image keeps
pub one_more_kept : (start pool : Pool) (target component : List ℕ) (base : Option (List ℕ)) (header : Header) (state : State)
    → HasOneMore start pool target component base header state → HasOneMore (kept_of start) (kept_of pool) target component base header state
one_more_kept start pool target component base header state more = record {
  id = more.id;
  guids = more.guids;
  later = more.later;
  bookmarks = more.bookmarks;
  partials = ap (λ (ps : List Partial). filter (λ p. p.keep) ps) more.partials ∙ sym (filter_twice (λ (p : Partial). not (bytes_eq p.target target)) (λ (p : Partial). p.keep) start.partials);
  snapshot = more.snapshot;
  added = more.added;
  name = more.name;
  name_is_new = more.name_is_new;
  guid = more.guid;
  time = more.time;
  number = more.number;
  redact = more.redact;
  state_is = more.state_is;
  dataset = more.dataset;
  there = more.there;
  head = more.head;
  head_redact = more.head_redact;
  kept = more.kept;
  made = more.made;
  others = more.others;
}
