-- Rows that rise and link to the names of their snapshots make a lawful directory, and each lawful directory's do.
use Rattle.std.proofs.Common.{◌≡◌, ◌≢◌, ℕ, true, false, List, Option, IfSome, sym, ◌∙◌}
use Rattle.std.proofs.lemmas.Bool.{true≢false, false_from_ne_true}
use Rattle.std.proofs.lemmas.List.Elements.{All-weaker}
use Rattle.std.specs.BTreeSet.{BTreeSet}
use Rattle.std.specs.List.{AllPairs}
use Rattle.std.proofs.lemmas.Option.{IfSome_then}
use Rattle.zst_dir.specs.declared.rows.Dataset.{Dataset}
use Rattle.zst_dir.specs.declared.rows.Partial.{Partial}
use Rattle.zst_dir.specs.RowReads.{IsSnapshotIn}
use Rattle.zst_dir.specs.Rows.{Rows, HasDataset, HasSnapshot, IsSnapshotRow, IsLawful}
use Rattle.zst_dir.specs.RowChecks.{AreNamesOf, AreRead, LinkTo, Rise, has, name_to_be}
use Rattle.zst_names.specs.Names.{dataset_of}

module _ (rows : Rows) (names : BTreeSet (List ℕ)) (are : AreNamesOf rows.snapshots names) where
  IsIn : Option (List ℕ) → Type 0
  IsIn name = IfSome name (λ name. has names name ≡ true)

  IsNamed : Option (List ℕ) → Type 0
  IsNamed name = IfSome name (HasSnapshot rows)

  named : (name : Option (List ℕ)) → IsIn name → IsNamed name
  unfolding IsIn IsNamed
  named name is_in = IfSome_then name is_in (λ name. (are name).0)

  is_in : (name : Option (List ℕ)) → IsNamed name → IsIn name
  unfolding IsIn IsNamed
  is_in name is_named = IfSome_then name is_named (λ name. (are name).1)

  -- rows that rise, whose names differ, and that link to these names are lawful
  pub lawful : AreRead rows → AllPairs (λ a b. a.name ≢ b.name) rows.snapshots → Rise rows → LinkTo names rows.datasets rows.partials → IsLawful rows
  unfolding IsIn IsNamed
  lawful read differ rise link = record {
    ordered = record { datasets = rise.datasets; snapshots = rise.snapshots; snapshots_differ = differ; bookmarks = rise.bookmarks; partials = rise.partials };
    linked = record {
      snapshots = All-weaker (IsSnapshotIn rows.datasets) (λ snapshot. HasDataset rows (dataset_of 64 snapshot.name)) (λ snapshot is_of. is_of.dataset) rows.snapshots read.snapshots;
      origins = All-weaker (λ (dataset : Dataset). IsIn dataset.origin) (λ dataset. IsNamed dataset.origin) (λ dataset. named dataset.origin) rows.datasets link.origins;
      bases = All-weaker (λ (partial : Partial). IsIn partial.base) (λ partial. IsNamed partial.base) (λ partial. named partial.base) rows.partials link.bases;
      components = All-weaker (λ (partial : Partial). has names (name_to_be partial) ≡ false) (λ partial. HasSnapshot rows (name_to_be partial) → ⊥)
          (λ partial free there. true≢false (sym ((are (name_to_be partial)).1 there) ∙ free)) rows.partials link.components;
    };
    datasets = read.datasets;
    snapshots = All-weaker (IsSnapshotIn rows.datasets) IsSnapshotRow (λ snapshot is_of. is_of.row) rows.snapshots read.snapshots;
    bookmarks = read.bookmarks;
    partials = read.partials;
  }

  -- lawful rows link to the names of their snapshots
  pub links : IsLawful rows → LinkTo names rows.datasets rows.partials
  unfolding IsIn IsNamed
  links law = record {
    origins = All-weaker (λ (dataset : Dataset). IsNamed dataset.origin) (λ dataset. IsIn dataset.origin) (λ dataset. is_in dataset.origin) rows.datasets law.linked.origins;
    bases = All-weaker (λ (partial : Partial). IsNamed partial.base) (λ partial. IsIn partial.base) (λ partial. is_in partial.base) rows.partials law.linked.bases;
    components = All-weaker (λ (partial : Partial). HasSnapshot rows (name_to_be partial) → ⊥) (λ partial. has names (name_to_be partial) ≡ false)
        (λ partial absent. false_from_ne_true (has names (name_to_be partial)) (λ has_it. absent ((are (name_to_be partial)).0 has_it))) rows.partials law.linked.components;
  }

-- lawful rows rise
pub rises_lawful : (rows : Rows) → IsLawful rows → Rise rows
rises_lawful rows law = record { datasets = law.ordered.datasets; snapshots = law.ordered.snapshots; bookmarks = law.ordered.bookmarks; partials = law.ordered.partials }
