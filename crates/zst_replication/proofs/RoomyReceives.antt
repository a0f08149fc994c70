-- The pools of a receive are within the limits of a commit, where there was room for one partial state more.
use Rattle.std.proofs.Common.{◌≡◌, inl, inr, ℕ, suc, ◌+◌, ◌≤◌, Bool, true, false, not, List, [], ◌∷◌, length, map, nat_lt, Option, Some, None, is_some, Result, Ok, Err, refl, sym, ap, ◌∙◌, subst, cond, find, arith}
use Rattle.std.specs.Prelude.{bytes_eq, filter}
use Rattle.std.proofs.lemmas.Bool.{le-ltb}
use Rattle.std.proofs.lemmas.List.{length-map}
use Rattle.std.proofs.lemmas.List.Sums.{length-filter}
use Rattle.zst_laws.proofs.pools.StepRefusals.{passed}
use Rattle.zst_model.specs.declared.refusals.faults.Quantity.TheVariants as quantities
use Rattle.zst_model.specs.declared.refusals.refusal.Refusal.{Refusal}
use Rattle.zst_model.specs.declared.refusals.refusal.Refusal.TheVariants as refusals
use Rattle.zst_model.specs.pools.Limits.{last_number, most_datasets, most_partials, most_snapshots}
use Rattle.zst_model.specs.pools.Pool.{Pool, Dataset, Snapshot, Partial, dataset_named, inserted, is_before, partial_of, snapshot_is_before}
use Rattle.zst_model.specs.pools.Step.{count_datasets, limited}
use Rattle.zst_plan.specs.RecvPlan.{new_datasets}
use Rattle.zst_plan.specs.declared.receive.RecvAsk.{RecvAsk}
use Rattle.zst_pool.specs.Partials.{changed_at, dataset_from, head_from, latest_snapshot, next_commit, partials_of_others, rolled, rolled_back, rolled_to, snapshot_from, with_finished, with_partial}
use Rattle.zst_recv.specs.Answers.{is_done}
use Rattle.zst_recv.specs.ReceiveSteps.{Stage, Waits, Lives, Ends, Batch, put, put_at}
use Rattle.zst_replication.specs.TakenSends.{IsInLimits}
use Rattle.zst_replication.proofs.CountedRows.{fewer_pass, found_mapped, length_inserted, one_if, pass_inserted, still_found, without_found}
use Rattle.zst_replication.proofs.FeedSequences.{Stands}
use Rattle.zst_replication.proofs.ReceivePlans.{IsRoomy}
use Rattle.zst_replication.proofs.RunningPools.{AddsPartial, Asked, Heads, Runs, Worked, finished_datasets, others_under, row_before}
use Rattle.zst_replication.proofs.Rows.{others_all}

-- ---- a commit within the limits passes

pub commit_passes : (pool : Pool) → IsInLimits pool → pool.number + 1 ≤ last_number → next_commit pool ≡ Ok (record pool { number = pool.number + 1 })
commit_passes pool fits small =
    let last : Result Pool Refusal = Ok (record pool { number = pool.number + 1 }) in
    let numbered = limited quantities.Number last_number (pool.number + 1) last in
    let snapshots = limited quantities.Snapshots most_snapshots (length pool.snapshots + length pool.partials) numbered in
    let datasets = limited quantities.Datasets most_datasets (count_datasets pool) snapshots in
    passed (nat_lt most_partials (length pool.partials)) (refusals.Limit quantities.Partials most_partials) datasets (le-ltb most_partials (length pool.partials) fits.partials)
    ∙ passed (nat_lt most_datasets (count_datasets pool)) (refusals.Limit quantities.Datasets most_datasets) snapshots (le-ltb most_datasets (count_datasets pool) fits.datasets)
    ∙ passed (nat_lt most_snapshots (length pool.snapshots + length pool.partials)) (refusals.Limit quantities.Snapshots most_snapshots) numbered
    (le-ltb most_snapshots (length pool.snapshots + length pool.partials) fits.snapshots)
    ∙ passed (nat_lt last_number (pool.number + 1)) (refusals.Limit quantities.Number last_number) last (le-ltb last_number (pool.number + 1) small)

-- ---- datasets of the same names

abbrev pub is_named : List ℕ → Dataset → Bool
is_named name dataset = bytes_eq dataset.name name

-- as many datasets, of which one has a name where one of the others has it
pub record HaveNames (datasets others : List Dataset) : Type 0 where
  pub count : length datasets ≡ length others
  pub named : (name : List ℕ) → is_some (find (is_named name) datasets) ≡ is_some (find (is_named name) others)

same_names : (datasets others : List Dataset) → datasets ≡ others → HaveNames datasets others
same_names datasets others same = record { count = ap (λ (ds : List Dataset). length ds) same; named = λ name. ap (λ (ds : List Dataset). is_some (find (is_named name) ds)) same }

then_names : (a b c : List Dataset) → HaveNames a b → HaveNames b c → HaveNames a c
then_names a b c one two = record { count = one.count ∙ two.count; named = λ name. one.named name ∙ two.named name }

mapped_names : (change : Dataset → Dataset) (datasets : List Dataset) → ((dataset : Dataset) → (change dataset).name ≡ dataset.name) → HaveNames (map change datasets) datasets
mapped_names change datasets same = record {
  count = length-map datasets change;
  named = λ name. found_mapped (is_named name) change datasets (λ dataset. ap (λ (n : List ℕ). bytes_eq n name) (same dataset));
}

changed_name : (target : List ℕ) (change : Dataset → Dataset) → ((dataset : Dataset) → (change dataset).name ≡ dataset.name) → (dataset : Dataset) → (changed_at target change dataset).name ≡ dataset.name
changed_name target change same dataset = go (bytes_eq dataset.name target)
  where
    go : (t : Bool) → (cond t (change dataset) dataset).name ≡ dataset.name
    go true = same dataset
    go false = refl

rolled_names : (target : List ℕ) (pool : Pool) → HaveNames (rolled_back target pool) pool.datasets
rolled_names target pool = go (latest_snapshot target pool)
  where
    go : (o : Option Snapshot) → HaveNames (rolled target o pool.datasets) pool.datasets
    go None = same_names pool.datasets pool.datasets refl
    go (Some snapshot) = mapped_names (changed_at target (rolled_to snapshot)) pool.datasets (changed_name target (rolled_to snapshot) (λ dataset. refl))

head_names : (ask : RecvAsk) (start : Pool) (datasets : List Dataset) → Heads ask start datasets → HaveNames datasets start.datasets
head_names ask start datasets (inl same) = same_names datasets start.datasets same
head_names ask start datasets (inr back) = then_names datasets (rolled_back ask.target start) start.datasets (same_names datasets (rolled_back ask.target start) back.1) (rolled_names ask.target start)

-- ---- how many datasets are counted

-- a partial state counts as a dataset where none of these is its target
abbrev pub counts_among : List Dataset → Partial → Bool
counts_among datasets partial = not (is_some (find (is_named partial.target) datasets))

pub counted : (pool : Pool) → count_datasets pool ≡ length pool.datasets + length (filter (counts_among pool.datasets) pool.partials)
counted pool = ap (λ (n : ℕ). length pool.datasets + n) (sym (length-filter (counts_among pool.datasets) pool.partials))

-- where no name is lost, no more of them count
no_more_count : (datasets others : List Dataset) (partials : List Partial) → ((name : List ℕ) → is_some (find (is_named name) others) ≡ true → is_some (find (is_named name) datasets) ≡ true)
    → length (filter (counts_among datasets) partials) ≤ length (filter (counts_among others) partials)
no_more_count datasets others partials keeps =
    fewer_pass (counts_among datasets) (counts_among others) partials
    (λ partial counts. go (is_some (find (is_named partial.target) datasets)) (is_some (find (is_named partial.target) others)) (keeps partial.target) counts)
  where
    go : (a b : Bool) → (b ≡ true → a ≡ true) → not a ≡ true → not b ≡ true
    go true b keep counts = absurd cc
    go false true keep counts = absurd (let one = keep refl in cc)
    go false false keep counts = refl

-- ---- what there was room for

module _ (ask : RecvAsk) (start : Pool) where
  abbrev others : List Partial
  others = partials_of_others ask.target start

  -- beside the partial states of other targets there is room for one of the target
  pub record HasPlace : Type 0 where
    pub partials : length others + 1 ≤ most_partials
    pub datasets : length start.datasets + (one_if (not (is_some (dataset_named ask.target start))) + length (filter (counts_among start.datasets) others)) ≤ most_datasets
    pub snapshots : length start.snapshots + (length others + 1) ≤ most_snapshots

  one_more_dataset : new_datasets ask.target start ≡ one_if (not (is_some (dataset_named ask.target start)))
  one_more_dataset = go (is_some (dataset_named ask.target start))
    where
      go : (t : Bool) → cond t 0 1 ≡ one_if (not t)
      go true = refl
      go false = refl

  -- a plan that begins has looked for it
  pub fresh_place : partial_of ask.target start ≡ None → IsRoomy ask.target start → HasPlace
  fresh_place none roomy =
      let all : others ≡ start.partials = others_all (λ (p : Partial). bytes_eq p.target ask.target) start.partials none in
      let n : length others ≡ length start.partials = ap (λ (ps : List Partial). length ps) all in
      let c : length (filter (counts_among start.datasets) others) ≡ length (filter (counts_among start.datasets) start.partials) = ap (λ (ps : List Partial). length (filter (counts_among start.datasets) ps)) all in
      let count = counted start in
      let one = one_more_dataset in
      record {
        partials = omega (arith, n, roomy.partials);
        datasets = omega (arith, c, count, one, roomy.datasets);
        snapshots = omega (arith, n, roomy.snapshots);
      }

  -- and a partial state of the target has it
  pub resumed_place : (old : Partial) → partial_of ask.target start ≡ Some old → old.target ≡ ask.target → IsInLimits start → HasPlace
  resumed_place old found own fits =
      let is_own : Partial → Bool = λ p. bytes_eq p.target ask.target in
      let n : 1 + length (filter (λ p. true) others) ≤ length (filter (λ p. true) start.partials) = without_found (λ p. true) is_own start.partials old found in
      let c = without_found (counts_among start.datasets) is_own start.partials old found in
      let same : counts_among start.datasets old ≡ not (is_some (dataset_named ask.target start)) = ap (λ (t : List ℕ). not (is_some (dataset_named t start))) own in
      let o = all_of others in
      let p = all_of start.partials in
      let count = counted start in
      record {
        partials = omega (arith, n, o, p, fits.partials);
        datasets = subst (λ (b : Bool). length start.datasets + (one_if b + length (filter (counts_among start.datasets) others)) ≤ most_datasets) same (omega (arith, c, count, fits.datasets));
        snapshots = omega (arith, n, o, p, fits.snapshots);
      }
    where
      all_of : (ps : List Partial) → length (filter (λ p. true) ps) ≡ length ps
      all_of [] = refl
      all_of (p ∷ ps) = ap suc (all_of ps)

  module _ (place : HasPlace) where
    -- a pool with a partial state of the target
    under_limits : (partial : Partial) (pool : Pool) → partial.target ≡ ask.target → pool.snapshots ≡ start.snapshots → HaveNames pool.datasets start.datasets → pool.partials ≡ inserted row_before partial others
        → IsInLimits pool
    under_limits partial pool own snapshots names partials =
        let n : length pool.partials ≡ suc (length others) = ap (λ (ps : List Partial). length ps) partials ∙ length_inserted row_before partial others in
        let s : length pool.snapshots ≡ length start.snapshots = ap (λ (ss : List Snapshot). length ss) snapshots in
        let d = names.count in
        let count = counted pool in
        let less = no_more_count pool.datasets start.datasets pool.partials (λ name is. names.named name ∙ is) in
        let all : length (filter (counts_among start.datasets) pool.partials) ≡ one_if (counts_among start.datasets partial) + length (filter (counts_among start.datasets) others) =
        ap (λ (ps : List Partial). length (filter (counts_among start.datasets) ps)) partials ∙ pass_inserted (counts_among start.datasets) row_before partial others in
        let one : one_if (counts_among start.datasets partial) ≡ one_if (not (is_some (dataset_named ask.target start))) = ap (λ (t : List ℕ). one_if (not (is_some (dataset_named t start)))) own in
        record {
          partials = omega (arith, n, place.partials);
          datasets = omega (arith, count, d, less, all, one, place.datasets);
          snapshots = omega (arith, n, s, place.snapshots);
        }

    -- the datasets once the target has its snapshot
    abbrev finished_by : Partial → List Dataset → Bool → List Dataset
    finished_by partial datasets there = cond there (map (changed_at partial.target (head_from partial)) datasets) (inserted (λ a b. is_before a.name b.name) (dataset_from partial) datasets)

    record Counts (datasets : List Dataset) : Type 0 where
      most : length datasets ≤ length start.datasets + one_if (not (is_some (dataset_named ask.target start)))
      keeps : (name : List ℕ) → is_some (find (is_named name) start.datasets) ≡ true → is_some (find (is_named name) datasets) ≡ true

    finished_counts : (partial : Partial) (datasets : List Dataset) → partial.target ≡ ask.target → HaveNames datasets start.datasets → Counts (finished_datasets partial datasets)
    finished_counts partial datasets own names = go (is_some (find (is_named partial.target) datasets)) refl
      where
        there_is : is_some (find (is_named partial.target) datasets) ≡ is_some (dataset_named ask.target start)
        there_is = names.named partial.target ∙ ap (λ (t : List ℕ). is_some (dataset_named t start)) own

        d : length datasets ≡ length start.datasets
        d = names.count

        go : (t : Bool) → is_some (find (is_named partial.target) datasets) ≡ t → Counts (finished_by partial datasets t)
        go true is =
            let changed = mapped_names (changed_at partial.target (head_from partial)) datasets (changed_name partial.target (head_from partial) (λ dataset. refl)) in
            let all = then_names (map (changed_at partial.target (head_from partial)) datasets) datasets start.datasets changed names in
            let n = all.count in
            record { most = omega (arith, n); keeps = λ name found. all.named name ∙ found }
        go false is =
            let n = length_inserted (λ (a b : Dataset). is_before a.name b.name) (dataset_from partial) datasets in
            let one : one_if (not (is_some (dataset_named ask.target start))) ≡ 1 = ap (λ (t : Bool). one_if (not t)) (sym there_is ∙ is) in
            record {
              most = omega (arith, n, d, one);
              keeps = λ name found. still_found (is_named name) (λ (a b : Dataset). is_before a.name b.name) (dataset_from partial) datasets (names.named name ∙ found);
            }

    -- a pool with a snapshot more, and without a partial state of the target
    finished_limits : (partial : Partial) (snapshot : Snapshot) (datasets : List Dataset) (pool : Pool) → partial.target ≡ ask.target → HaveNames datasets start.datasets
        → pool.snapshots ≡ inserted snapshot_is_before snapshot start.snapshots → pool.datasets ≡ finished_datasets partial datasets → pool.partials ≡ others → IsInLimits pool
    finished_limits partial snapshot datasets pool own names snapshots finished partials =
        let n : length pool.partials ≡ length others = ap (λ (ps : List Partial). length ps) partials in
        let s : length pool.snapshots ≡ suc (length start.snapshots) = ap (λ (ss : List Snapshot). length ss) snapshots ∙ length_inserted snapshot_is_before snapshot start.snapshots in
        let counts : Counts pool.datasets = subst Counts (sym finished) (finished_counts partial datasets own names) in
        let most = counts.most in
        let count = counted pool in
        let less = no_more_count pool.datasets start.datasets pool.partials counts.keeps in
        let all : length (filter (counts_among start.datasets) pool.partials) ≡ length (filter (counts_among start.datasets) others) = ap (λ (ps : List Partial). length (filter (counts_among start.datasets) ps)) partials in
        record {
          partials = omega (arith, n, place.partials);
          datasets = omega (arith, count, most, less, all, place.datasets);
          snapshots = omega (arith, n, s, place.snapshots);
        }

    -- ---- what a feed commits

    -- what is as at the start in a pool that runs
    record IsLike (target : List ℕ) (pool : Pool) : Type 0 where
      snapshots : pool.snapshots ≡ start.snapshots
      names : HaveNames pool.datasets start.datasets
      left : partials_of_others target pool ≡ others

    like_start : (target : List ℕ) (pool : Pool) → target ≡ ask.target → pool ≡ start → IsLike target pool
    like_start target pool own same = record {
      snapshots = ap (λ (p : Pool). p.snapshots) same;
      names = same_names pool.datasets start.datasets (ap (λ (p : Pool). p.datasets) same);
      left = ap (λ (p : Pool). partials_of_others target p) same ∙ ap (λ (t : List ℕ). partials_of_others t start) own;
    }

    like_under : (partial other : Partial) (pool : Pool) → partial.target ≡ ask.target → other.target ≡ ask.target → AddsPartial ask start pool other → IsLike partial.target pool
    like_under partial other pool own also under = record {
      snapshots = ap (λ (p : Pool). p.snapshots) under.pool_is;
      names = then_names pool.datasets under.datasets start.datasets (same_names pool.datasets under.datasets (ap (λ (p : Pool). p.datasets) under.pool_is)) (head_names ask start under.datasets under.heads);
      left = others_under ask start partial other pool own also under;
    }

    like : (before : Stage) (pool : Pool) (partial : Partial) → is_done before ≡ false → Runs ask start before pool → Asked ask start before → partial.target ≡ ask.target → IsLike partial.target pool
    like Waits pool partial unended runs asked own = like_start partial.target pool own runs
    like (Lives flags other) pool partial unended runs asked own = like_under partial other pool own asked.target runs
    like (Ends other) pool partial unended runs asked own = absurd cc

    put_names : (rolls : Bool) (target : List ℕ) (pool : Pool) → HaveNames pool.datasets start.datasets → HaveNames (cond rolls (rolled_back target pool) pool.datasets) start.datasets
    put_names true target pool names = then_names (rolled_back target pool) pool.datasets start.datasets (rolled_names target pool) names
    put_names false target pool names = names

    put_at_passes : (rolls : Bool) (before stage : Stage) (pool : Pool) (refusal : Refusal) → is_done before ≡ false → Runs ask start before pool → Asked ask start before → Asked ask start stage
        → pool.number + 1 ≤ last_number → put_at rolls stage pool ≡ Err refusal → ⊥
    put_at_passes rolls before Waits pool refusal unended runs asked now small e = cc
    put_at_passes rolls before (Lives flags partial) pool refusal unended runs asked now small e =
        let is = like before pool partial unended runs asked now.target in
        let fits = under_limits partial (with_partial rolls partial pool) now.target is.snapshots (put_names rolls partial.target pool is.names) (ap (λ (ps : List Partial). inserted row_before partial ps) is.left) in
        let both = sym (commit_passes (with_partial rolls partial pool) fits small) ∙ e in cc
    put_at_passes rolls before (Ends partial) pool refusal unended runs asked now small e =
        let is = like before pool partial unended runs asked now.target in
        let fits =
        finished_limits partial (snapshot_from partial pool) pool.datasets (with_finished partial pool) now.target is.names
        (ap (λ (ss : List Snapshot). inserted snapshot_is_before (snapshot_from partial pool) ss) is.snapshots) refl is.left in
        let both = sym (commit_passes (with_finished partial pool) fits small) ∙ e in cc

    -- so it is refused by no limit
    pub put_passes : (before : Stage) (pool : Pool) (batch : Batch) (refusal : Refusal) → is_done before ≡ false → Stands ask start before pool → Worked ask start before batch
        → pool.number + 1 ≤ last_number → put batch pool ≡ Err refusal → ⊥
    put_passes before pool batch refusal unended stands worked small e = go batch.taken e
      where
        go : (t : Bool) → cond t (put_at batch.rolls batch.stage pool) (Ok pool) ≡ Err refusal → ⊥
        go true e = put_at_passes batch.rolls before batch.stage pool refusal unended stands.runs stands.asked worked.asked small e
        go false e = cc
