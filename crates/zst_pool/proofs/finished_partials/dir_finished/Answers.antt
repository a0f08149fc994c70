use Rattle.std.proofs.Common.{◌≡◌, ℕ, ◌∷◌, ◌++◌, List, not, filter, sym, ap, ◌∙◌, subst, bytes_eq}
use Rattle.std.specs.List.{All, Contains}
use Rattle.zst_names.specs.Marks.{at_is_mark}
use Rattle.zst_names.specs.Names.{dataset_of}
use Rattle.zst_names.proofs.MarkedNames.{join_is_name}
use Rattle.zst_model.specs.pools.Pool.{inserted}
use Rattle.zst_dir.specs.Rows.{Rows, is_for, snapshot_is_before}
use Rattle.zst_dir.specs.declared.rows.Partial.{Partial}
use Rattle.zst_dir.specs.declared.rows.Snapshot.{Snapshot}
use Rattle.zst_pool.specs.FinishedRows.{rows_with_target, snapshot_row_from}
use Rattle.zst_pool.proofs.FinishedRows.{target_is_there}
use Rattle.zst_pool.proofs.NextPools.{partials_are_apart}
use Rattle.zst_pool.proofs.PartialRows.{has_snapshot_still}
use Rattle.zst_pool.proofs.finished_partials.dir_finished.Goals as goal

pub put_target-requires-clause-base : goal.put_target-requires-clause-base
put_target-requires-clause-base c =
    let same = ap (λ (r : Rows). r.snapshots) c.drop_partial.ensures.dropped ∙ ap (λ (r : Rows). r.snapshots) c.in_ok-next.ensures in
    has_snapshot_still c.args.dir.now c.drop_partial.new.self c.args.partial.now.base same c.requires.base

pub add_snapshot-requires-clause-dataset : goal.add_snapshot-requires-clause-dataset
add_snapshot-requires-clause-dataset c =
    let partial = c.args.partial.now in
    let there = target_is_there partial c.drop_partial.new.self in
    let back = (join_is_name 64 partial.target partial.snapshot at_is_mark c.requires.row.target).dataset_back in (
      there.0,
      subst (λ (r : Rows). Contains r.datasets there.0) (sym c.in_ok-put_target.ensures.put) there.1,
      there.2 ∙ sym back ∙ ap (λ (s : Snapshot). dataset_of 64 s.name) (sym c.snapshot_from.ensures.makes.same),
    )

pub add_snapshot-requires-clause-component : goal.add_snapshot-requires-clause-component
add_snapshot-requires-clause-component c =
    let partial = c.args.partial.now in
    let rows = c.args.dir.now in
    let name = c.snapshot_from.result.name in
    let of_target : dataset_of 64 name ≡ partial.target =
    ap (λ (s : Snapshot). dataset_of 64 s.name) c.snapshot_from.ensures.makes.same ∙ (join_is_name 64 partial.target partial.snapshot at_is_mark c.requires.row.target).dataset_back in
    let left = ap (λ (r : Rows). r.partials) c.in_ok-put_target.ensures.put ∙ ap (λ (r : Rows). r.partials) c.drop_partial.ensures.dropped
    ∙ ap (λ (r : Rows). filter (λ other. not (is_for partial.target other)) r.partials) c.in_ok-next.ensures in
    subst (λ (l : List Partial). All (λ (other : Partial). other.target ++ 64 ∷ other.snapshot ≡ name → ⊥) l) (sym left)
    (subst (λ (t : List ℕ). All (λ (other : Partial). other.target ++ 64 ∷ other.snapshot ≡ name → ⊥) (filter (λ other. not (bytes_eq other.target t)) rows.partials)) of_target
    (partials_are_apart rows name c.datasets-lawful.ensures.lawful.partials))

pub returns-clause-finished : goal.returns-clause-finished
returns-clause-finished c =
    let partial = c.args.partial.now in
    let row = snapshot_row_from c.args.number partial in
    let put = c.put_target.new.dir in
    c.in_ok-add_snapshot.ensures.added
    ∙ ap (λ (s : Snapshot). record put { snapshots = inserted snapshot_is_before s put.snapshots }) c.snapshot_from.ensures.makes.same
    ∙ ap (λ (r : Rows). record r { snapshots = inserted snapshot_is_before row r.snapshots }) c.in_ok-put_target.ensures.put
    ∙ ap (λ (r : Rows). record r { datasets = rows_with_target partial r.datasets; snapshots = inserted snapshot_is_before row r.snapshots }) c.drop_partial.ensures.dropped
    ∙ ap (λ (r : Rows). record r {
      datasets = rows_with_target partial r.datasets;
      snapshots = inserted snapshot_is_before row r.snapshots;
      partials = filter (λ other. not (is_for partial.target other)) r.partials;
    }) c.in_ok-next.ensures
