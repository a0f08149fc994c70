-- The origin that the directory's rows tell is the one that the pool has.
use Rattle.std.proofs.Common.{◌≡◌, ◌≢◌, ◌↔◌, ℕ, ◌<◌, nat_lt, List, length, get_or, Option, Some, None, Contains, sym, ap, ◌∙◌, subst, arith}
use Rattle.std.specs.Bool.{IsTrue}
use Rattle.std.specs.List.{AllPairs, HoldsAt, position}
use Rattle.std.specs.Str.{bytes_eq}
use Rattle.std.proofs.lemmas.Bool.{ltb-true, lt-ltb}
use Rattle.zst_dir.specs.RowNames.{AreNamed, NamesDataset, NamesPartial, NamesSnapshot}
use Rattle.zst_dir.specs.Rows.{Rows, IsLawful}
use Rattle.zst_dir.proofs.Matches.{length-Match}
use Rattle.zst_dir.specs.declared.rows.Dataset as datasets
use Rattle.zst_dir.specs.declared.rows.Partial as partials
use Rattle.zst_dir.specs.declared.rows.Snapshot as snapshots
use Rattle.zst_model.specs.pools.Ancestry.{IsBase, IsOrigin}
use Rattle.zst_model.specs.pools.Pool.{Pool, Dataset, Partial, Snapshot}
use Rattle.zst_check.specs.Findings.{StandsAtPlace}
use Rattle.zst_check.proofs.NamedPlaces.{Match-at, some_at, rising_differ, none_called, found_inside, found_called, called_found}

module _ (rows : Rows) (pool : Pool) (are : AreNamed rows pool) where
  -- the names of the snapshots' rows differ, as those of the snapshots do
  pub rows_differ : AllPairs (λ a b. a.name ≢ b.name) pool.snapshots → AllPairs (λ a b. a.name ≢ b.name) rows.snapshots
  rows_differ differ i j r less inside same =
      let end : j < length pool.snapshots = omega (arith, inside, length-Match NamesSnapshot rows.snapshots pool.snapshots are.snapshots) in
      let d = (some_at pool.snapshots j end).0 in
      differ i j d less end
      ((Match-at NamesSnapshot rows.snapshots pool.snapshots are.snapshots i r d (omega (arith, less, inside))).name ∙ same
      ∙ sym (Match-at NamesSnapshot rows.snapshots pool.snapshots are.snapshots j r d inside).name)

  -- a snapshot of a name stands where its row is found, or none has it
  pub snapshot_found : AllPairs (λ a b. a.name ≢ b.name) rows.snapshots → (name : List ℕ) (place : Option ℕ) → place ≡ position (λ snapshot. bytes_eq snapshot.name name) rows.snapshots → (snapshot : Snapshot)
      → (Contains pool.snapshots snapshot × (snapshot.name ≡ name)) ↔ StandsAtPlace pool.snapshots place snapshot
  snapshot_found differ name None is snapshot = (
    λ found. none_called NamesSnapshot (λ row. row.name) (λ other. other.name) (λ row other names. names.name) rows.snapshots pool.snapshots are.snapshots name (sym is) snapshot found.0 found.1,
    λ at. absurd at,
  )
  snapshot_found differ name (Some place) is snapshot = (
    λ found. called_found NamesSnapshot (λ row. row.name) (λ other. other.name) (λ row other names. names.name) rows.snapshots pool.snapshots are.snapshots name place (sym is)
        differ snapshot found.0 found.1,
    λ at. found_called NamesSnapshot (λ row. row.name) (λ other. other.name) (λ row other names. names.name) rows.snapshots pool.snapshots are.snapshots name place (sym is) snapshot at,
  )

  -- the base of a partial state is the snapshot of the name that its row has, and none where it has none
  pub its_base : (row : partials.Partial) (partial : Partial) → NamesPartial row partial → (name : List ℕ) → row.base ≡ Some name → (base : Snapshot)
      → IsBase pool base partial ↔ (Contains pool.snapshots base × (base.name ≡ name))
  its_base row partial names name some base = (
    λ is. let e = names.base in let f = is.is_base in (is.there, cc),
    λ one. record { there = one.0; is_base = names.base ∙ some ∙ ap (λ (n : List ℕ). Some n) (sym one.1) },
  )

  -- it has none where its row has none
  pub no_base : (row : partials.Partial) (partial : Partial) → NamesPartial row partial → row.base ≡ None → (base : Snapshot) → IsBase pool base partial → ⊥
  no_base row partial names none base is = let e = names.base in let f = is.is_base in absurd (cc)

  -- a number that is above that of the origin's row is above the origin's
  pub above_found : (name other : List ℕ) (place limit : ℕ) (list : List snapshots.Snapshot) (row : snapshots.Snapshot) → other ≡ name
      → ((origin : Snapshot) → IsOrigin pool origin other ↔ HoldsAt (λ s. s ≡ origin) pool.snapshots place) → place < length rows.snapshots → list ≡ rows.snapshots
      → IsTrue (nat_lt (get_or list place row).number limit) ↔ ((origin : Snapshot) → IsOrigin pool origin name → origin.number < limit)
  above_found name other place limit list row same origin inside are_rows = (
    λ less source is.
        let stands = (origin source).0 (subst (λ n. IsOrigin pool source n) (sym same) is) in
        let e = number source stands in let below = ltb-true (get_or list place row).number limit less in omega (arith, e, below),
    λ all.
        let one = some_at pool.snapshots place (omega (arith, inside, length-Match NamesSnapshot rows.snapshots pool.snapshots are.snapshots)) in
        let e = number one.0 one.1 in let below = all one.0 (subst (λ n. IsOrigin pool one.0 n) same ((origin one.0).1 one.1)) in
        lt-ltb (get_or list place row).number limit (omega (arith, e, below)),
  )
    where
      number : (source : Snapshot) → HoldsAt (λ s. s ≡ source) pool.snapshots place → source.number ≡ (get_or list place row).number
      number source stands =
          ap (λ (s : Snapshot). s.number) (sym (stands source)) ∙ (Match-at NamesSnapshot rows.snapshots pool.snapshots are.snapshots place row source inside).number
          ∙ ap (λ (l : List snapshots.Snapshot). (get_or l place row).number) (sym are_rows)

module _ (rows : Rows) (pool : Pool) (lawful : IsLawful rows) (are : AreNamed rows pool) where
  -- where no row of a dataset has the name, it has no origin
  pub no_dataset : (name : List ℕ) → position (λ dataset. bytes_eq dataset.name name) rows.datasets ≡ None → (origin : Snapshot) → IsOrigin pool origin name → ⊥
  no_dataset name none origin is =
      none_called NamesDataset (λ row. row.name) (λ dataset. dataset.name) (λ row dataset names. names.name) rows.datasets pool.datasets are.datasets name none is.dataset is.there is.named

  module _ (name : List ℕ) (place : ℕ) (found : position (λ dataset. bytes_eq dataset.name name) rows.datasets ≡ Some place) (row : datasets.Dataset) (is_row : row ≡ get_or rows.datasets place row) where
    -- the dataset that a row was found for
    found_dataset : (dataset : Dataset) → Contains pool.datasets dataset → dataset.name ≡ name → dataset.origin ≡ row.origin
    found_dataset dataset there named =
        let inside = found_inside NamesDataset (λ row. row.name) (λ dataset. dataset.name) (λ row dataset names. names.name) rows.datasets pool.datasets are.datasets name place found in
        let at = called_found NamesDataset (λ row. row.name) (λ dataset. dataset.name) (λ row dataset names. names.name) rows.datasets pool.datasets are.datasets name place found
        (rising_differ (λ row. row.name) rows.datasets lawful.ordered.datasets) dataset there named in
        let names = Match-at NamesDataset rows.datasets pool.datasets are.datasets place row dataset inside in
        ap (λ (d : Dataset). d.origin) (sym (at dataset)) ∙ names.origin ∙ ap (λ (d : datasets.Dataset). d.origin) (sym is_row)

    -- where it has no origin, none is
    pub no_origin : row.origin ≡ None → (origin : Snapshot) → IsOrigin pool origin name → ⊥
    no_origin none origin is = let e = found_dataset is.dataset is.there is.named in let f = is.is_origin in absurd (cc)

    -- and where it has one, that is the snapshot with its name
    pub its_origin : (origin_name : List ℕ) → row.origin ≡ Some origin_name → (origin : Snapshot) → IsOrigin pool origin name ↔ (Contains pool.snapshots origin × (origin.name ≡ origin_name))
    its_origin origin_name some origin = (
      λ is. let e = found_dataset is.dataset is.there is.named in let f = is.is_origin in (is.snapshot_there, cc),
      λ one.
          let inside = found_inside NamesDataset (λ row. row.name) (λ dataset. dataset.name) (λ row dataset names. names.name) rows.datasets pool.datasets are.datasets name place found in
          let dataset = some_at pool.datasets place (omega (arith, inside, length-Match NamesDataset rows.datasets pool.datasets are.datasets)) in
          let its = found_called NamesDataset (λ row. row.name) (λ dataset. dataset.name) (λ row dataset names. names.name) rows.datasets pool.datasets are.datasets name place found dataset.0 dataset.1 in
          record {
            dataset = dataset.0;
            there = its.0;
            named = its.1;
            snapshot_there = one.0;
            is_origin = found_dataset dataset.0 its.0 its.1 ∙ some ∙ ap (λ (n : List ℕ). Some n) (sym one.1);
          },
    )
