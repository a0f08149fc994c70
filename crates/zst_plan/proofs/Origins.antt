-- The origin that the directory's rows tell is the one that the pool has.
use Rattle.std.proofs.Common.{◌≡◌, ◌<◌, ◌≤◌, Bool, true, false, if◌then◌else◌, nat_lt, List, ℕ, Option, Some, None, sym, ◌∙◌, subst, arith}
use Rattle.std.specs.Borrow.{Bor}
use Rattle.std.specs.Bool.{then_some}
use Rattle.std.specs.Option.{MatchOption, option_and_then}
use Rattle.std.proofs.lemmas.Bool.Decides.{nat_tests}
use Rattle.zst_dir.specs.RowNames.{NamesSnapshot}
use Rattle.zst_dir.specs.declared.rows.Dataset.{Dataset}
use Rattle.zst_dir.specs.declared.rows.Snapshot.{Snapshot}
use Rattle.zst_model.specs.pools.Pool.{Pool, dataset_named, dataset_of_snapshot, snapshot_named}
use Rattle.zst_model.specs.pools.Pool as plain
use Rattle.zst_model.specs.sends.SendPlan.{earlier_origin, origin_of}
use Rattle.zst_plan.specs.Places.{FindAlike}
use Rattle.zst_plan.specs.Sources.{FoundDataset, FoundSnapshot}
use Rattle.zst_plan.proofs.Walk.{below}

module _ (pool : Pool) (later : plain.Snapshot) where
  -- the origin of a dataset that was found, or of none
  abbrev named_origin : Option plain.Dataset → Option plain.Snapshot
  named_origin o = option_and_then (λ dataset. option_and_then (λ name. snapshot_named name pool) dataset.origin) o

  pub no_dataset : FindAlike FoundDataset None (dataset_named (dataset_of_snapshot later) pool) → FindAlike FoundSnapshot None (origin_of pool later)
  no_dataset alike = go (dataset_named (dataset_of_snapshot later) pool) alike
    where
      go : (o : Option plain.Dataset) → FindAlike FoundDataset None o → FindAlike FoundSnapshot None (named_origin o)
      go None alike = tt
      go (Some d) alike = absurd alike

  pub no_origin : (row : Bor Dataset) → FindAlike FoundDataset (Some row) (dataset_named (dataset_of_snapshot later) pool) → row.now.origin ≡ None
      → FindAlike FoundSnapshot None (origin_of pool later)
  no_origin row alike none = go (dataset_named (dataset_of_snapshot later) pool) alike
    where
      go : (o : Option plain.Dataset) → FindAlike FoundDataset (Some row) o → FindAlike FoundSnapshot None (named_origin o)
      go None alike = absurd alike
      go (Some d) names = subst (λ (o : Option (List ℕ)). FindAlike FoundSnapshot None (option_and_then (λ name. snapshot_named name pool) o)) (sym (names.origin ∙ none)) tt

  pub its_origin : (row : Bor Dataset) (name : List ℕ) (found : Option (Bor Snapshot)) → FindAlike FoundDataset (Some row) (dataset_named (dataset_of_snapshot later) pool)
      → row.now.origin ≡ Some name → FindAlike FoundSnapshot found (snapshot_named name pool) → FindAlike FoundSnapshot found (origin_of pool later)
  its_origin row name found alike is at = go (dataset_named (dataset_of_snapshot later) pool) alike
    where
      go : (o : Option plain.Dataset) → FindAlike FoundDataset (Some row) o → FindAlike FoundSnapshot found (named_origin o)
      go None alike = absurd alike
      go (Some d) names = subst (λ (o : Option (List ℕ)). FindAlike FoundSnapshot found (option_and_then (λ name. snapshot_named name pool) o)) (sym (names.origin ∙ is)) at

  -- it counts where its number is below
  pub none_earlier : FindAlike FoundSnapshot None (origin_of pool later) → FindAlike FoundSnapshot None (earlier_origin pool later)
  none_earlier alike = go (origin_of pool later) alike
    where
      go : (o : Option plain.Snapshot) → FindAlike FoundSnapshot None o → FindAlike FoundSnapshot None (below later o)
      go None alike = tt
      go (Some s) alike = absurd alike

  module _ (own : Snapshot) (is : NamesSnapshot own later) where
    pub is_below : (row : Bor Snapshot) → FindAlike FoundSnapshot (Some row) (origin_of pool later) → row.now.number < own.number → FindAlike FoundSnapshot (Some row) (earlier_origin pool later)
    is_below row alike less = go (origin_of pool later) alike
      where
        go : (o : Option plain.Snapshot) → FindAlike FoundSnapshot (Some row) o → FindAlike FoundSnapshot (Some row) (below later o)
        go None alike = absurd alike
        go (Some s) names =
            let below_it : nat_lt s.number later.number ≡ true = grind (less, names.number, is.number, arith, nat_tests) in
            subst (λ (b : Bool). FindAlike FoundSnapshot (Some row) (if b then Some s else None)) (sym below_it) names

    pub not_below : (row : Bor Snapshot) → FindAlike FoundSnapshot (Some row) (origin_of pool later) → own.number ≤ row.now.number → FindAlike FoundSnapshot None (earlier_origin pool later)
    not_below row alike most = go (origin_of pool later) alike
      where
        go : (o : Option plain.Snapshot) → FindAlike FoundSnapshot (Some row) o → FindAlike FoundSnapshot None (below later o)
        go None alike = absurd alike
        go (Some s) names =
            let past_it : nat_lt s.number later.number ≡ false = grind (most, names.number, is.number, nat_tests, arith) in
            subst (λ (b : Bool). FindAlike FoundSnapshot None (if b then Some s else None)) (sym past_it) tt

    -- so the one that was found, where it passes the test of its number
    pub earlier_found : (found result : Option (Bor Snapshot)) {Holds : Bor Snapshot → Bool → Type 0} → ((row : Bor Snapshot) (b : Bool) → Holds row b → b ≡ nat_lt row.now.number own.number)
        → MatchOption found (result ≡ None) (λ row. (b : Bool) × Holds row b × (result ≡ then_some b row)) → FindAlike FoundSnapshot found (origin_of pool later) → FindAlike FoundSnapshot result (earlier_origin pool later)
    earlier_found None result test cases alike = rw cases (none_earlier alike)
    earlier_found (Some row) result test cases alike = go cases.0 (test row cases.0 cases.1) cases.2
      where
        go : (b : Bool) → b ≡ nat_lt row.now.number own.number → result ≡ then_some b row → FindAlike FoundSnapshot result (earlier_origin pool later)
        go true less made = rw made (is_below row alike (grind (arith, nat_tests)))
        go false most made = rw made (not_below row alike (grind (arith, nat_tests)))
