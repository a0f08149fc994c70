use Rattle.std.proofs.Common.{List, not, filter, sym, ap, ◌∙◌, subst, if◌then◌else◌}
use Rattle.std.specs.List.{All}
use Rattle.std.specs.Prelude.{◌≢◌}
use Rattle.zst_dir.specs.Rows.{Rows, with_partial, is_for}
use Rattle.zst_dir.specs.declared.rows.Partial.{Partial}
use Rattle.zst_pool.specs.PartialRows.{latest_row, rolled_rows}
use Rattle.zst_pool.proofs.PartialRows.{none_for, has_snapshot_still}
use Rattle.zst_pool.proofs.partials.dir_with_partial.Goals as goal

pub add_partial-requires-clause-new : goal.add_partial-requires-clause-new
add_partial-requires-clause-new c =
    let target = c.args.partial.target in
    let left = ap (λ (r : Rows). r.partials) c.drop_partial.ensures.dropped in
    subst (λ (l : List Partial). All (λ (other : Partial). other.target ≢ target) l) (sym left) (none_for target c.roll_back.new.dir.partials)

pub add_partial-requires-clause-base : goal.add_partial-requires-clause-base
add_partial-requires-clause-base c =
    let same = ap (λ (r : Rows). r.snapshots) c.drop_partial.ensures.dropped ∙ ap (λ (r : Rows). r.snapshots) c.roll_back.ensures.rolled ∙ ap (λ (r : Rows). r.snapshots) c.in_ok-next.ensures in
    has_snapshot_still c.args.dir.now c.drop_partial.new.self c.args.partial.base same c.requires.base

pub returns-clause-put : goal.returns-clause-put
returns-clause-put c =
    let target = c.args.partial.target in
    c.in_ok-add_partial.ensures.added
    ∙ ap (λ (r : Rows). record r { partials = with_partial c.args.partial r.partials }) c.drop_partial.ensures.dropped
    ∙ ap (λ (r : Rows). record r { partials = with_partial c.args.partial (filter (λ other. not (is_for target other)) r.partials) }) c.roll_back.ensures.rolled
    ∙ ap (λ (r : Rows). record r {
      datasets = if c.args.roll then rolled_rows target (latest_row target r) r.datasets else r.datasets;
      partials = with_partial c.args.partial (filter (λ other. not (is_for target other)) r.partials);
    }) c.in_ok-next.ensures
