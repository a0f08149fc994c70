-- A lawful directory without some of its partial states.
use Rattle.std.proofs.Common.{Bool, filter, IfSome, ◌≡◌, true}
use Rattle.std.proofs.lemmas.List.Elements.{All-filter}
use Rattle.std.proofs.lemmas.List.Kept.{AllPairs-filter}
use Rattle.std.specs.Prelude.{◌++◌, ◌∷◌}
use Rattle.zst_model.specs.pools.Pool.{is_before}
use Rattle.zst_dir.specs.Rows.{Rows, HasSnapshot, IsPartialRow, IsLawful}
use Rattle.zst_dir.specs.declared.rows.Partial.{Partial}

pub partials_left : (stays : Partial → Bool) (rows : Rows) → IsLawful rows → IsLawful (record rows { partials = filter stays rows.partials })
partials_left stays rows lawful = record {
  ordered = record {
    datasets = lawful.ordered.datasets;
    snapshots = lawful.ordered.snapshots;
    snapshots_differ = lawful.ordered.snapshots_differ;
    bookmarks = lawful.ordered.bookmarks;
    partials = AllPairs-filter (λ a b. is_before a.target b.target ≡ true) stays rows.partials lawful.ordered.partials;
  };
  linked = record {
    snapshots = lawful.linked.snapshots;
    origins = lawful.linked.origins;
    bases = All-filter stays (λ (partial : Partial). IfSome partial.base (HasSnapshot rows)) rows.partials lawful.linked.bases;
    components = All-filter stays (λ (partial : Partial). HasSnapshot rows (partial.target ++ 64 ∷ partial.snapshot) → ⊥) rows.partials lawful.linked.components;
  };
  datasets = lawful.datasets;
  snapshots = lawful.snapshots;
  bookmarks = lawful.bookmarks;
  partials = All-filter stays IsPartialRow rows.partials lawful.partials;
}
