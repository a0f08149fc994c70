use Rattle.std.proofs.Common.{ℕ, List, refl, sym, ◌∙◌}
use Rattle.std.proofs.lemmas.Result.{err_from_is_err_and}
use Rattle.zst_block.specs.Blocks.{Has, IsBlock}
use Rattle.zst_block.specs.IoStates.{disk_of}
use Rattle.zst_block.proofs.IoCallLemmas.{Looks-then}
use Rattle.zst_marks.proofs.MoreMarks.{MarksMore-none, MarksMore-then}
use Rattle.zst_space.specs.FreeSectors.{FreeSectors}
use Rattle.zst_tree.proofs.LoadedNodes.{there_after}
use Rattle.std.specs.List.{All}
use Rattle.zst_roots.specs.ReachedRows.{HeadReaches, ListReaches, PartialReaches, SnapshotReaches}
use Rattle.zst_roots.specs.StandingRows.{HeadStands, ListStands, PartialStands}
use Rattle.zst_roots.proofs.KeptRows.{heads_stand, lists_stand, partials_stand, snapshots_stand}
use Rattle.zst_roots.proofs.RowSums.{head_told, list_told, marked_on, only_heads, only_lists, only_partials, only_snapshots, partial_told, rows_marked, snapshot_told}
use Rattle.zst_roots.proofs.rows.mark_rows.Goals as goal

pub returns-in_err-mark_snapshots-clause-only : goal.returns-in_err-mark_snapshots-clause-only
returns-in_err-mark_snapshots-clause-only g c = λ honest sector marked.
    let s0 = c.in_err-mark_snapshots.ensures in
    let image = (disk_of c.args.io.now).seen in
    let rows = c.args.dir.now in
    only_snapshots image rows sector _ _ (s0.only honest sector) marked

pub returns-in_err-mark_snapshots-clause-more : goal.returns-in_err-mark_snapshots-clause-more
returns-in_err-mark_snapshots-clause-more g c =
    let s0 = c.in_err-mark_snapshots.ensures in
    s0.more

pub returns-in_err-mark_snapshots-clause-there : goal.returns-in_err-mark_snapshots-clause-there
returns-in_err-mark_snapshots-clause-there g c = λ bound running honest runs.
    let s0 = c.in_err-mark_snapshots.ensures in
    let p = err_from_is_err_and c.from_residual.result c.from_residual.ensures.1 in
    rw (p.1, p.2) (s0.stands honest (snapshots_stand bound _ c.args.dir.now running runs))

pub returns-in_err-mark_snapshots-clause-damaged : goal.returns-in_err-mark_snapshots-clause-damaged
returns-in_err-mark_snapshots-clause-damaged g c = λ honest.
    let s0 = c.in_err-mark_snapshots.ensures in
    let p = err_from_is_err_and c.from_residual.result c.from_residual.ensures.1 in
    rw (p.1, p.2) (snapshot_told (disk_of c.args.io.now).seen (disk_of c.args.io.now).size c.args.dir.now (Unit {0}) (Unit {0}) c.in_err-mark_snapshots.field-0.0 (s0.damaged honest))

pub returns-in_err-mark_snapshots-clause-looks : goal.returns-in_err-mark_snapshots-clause-looks
returns-in_err-mark_snapshots-clause-looks g c =
    let s0 = c.in_err-mark_snapshots.ensures in
    let p = err_from_is_err_and c.from_residual.result c.from_residual.ensures.1 in
    rw (p.1, p.2) (s0.looks)

pub returns-in_err-mark_sets-clause-only : goal.returns-in_err-mark_sets-clause-only
returns-in_err-mark_sets-clause-only g c = λ honest sector marked.
    let s0 = c.in_ok-mark_snapshots.ensures in
    let s1 = c.in_err-mark_sets.ensures in
    let image = (disk_of c.args.io.now).seen in
    let rows = c.args.dir.now in
    only_heads image rows sector _ _ _ _ (s0.looks.reads.seen) (only_snapshots image rows sector _ _ (s0.only (s1.looks.reads.honest honest) sector)) (s1.only honest sector) marked

pub returns-in_err-mark_sets-clause-more : goal.returns-in_err-mark_sets-clause-more
returns-in_err-mark_sets-clause-more g c =
    let s0 = c.in_ok-mark_snapshots.ensures in
    let s1 = c.in_err-mark_sets.ensures in
    MarksMore-then _ _ _ s0.more s1.more

pub returns-in_err-mark_sets-clause-there : goal.returns-in_err-mark_sets-clause-there
returns-in_err-mark_sets-clause-there g c = λ bound running honest runs.
    let s0 = c.in_ok-mark_snapshots.ensures in
    let s1 = c.in_err-mark_sets.ensures in
    let there = there_after s0.looks (λ (seen : List ℕ) (space : FreeSectors). All (HeadStands (Has seen space)) c.args.dir.now.datasets) (heads_stand bound _ c.args.dir.now running runs) in
    let p = err_from_is_err_and c.from_residual-in_err-mark_sets.result c.from_residual-in_err-mark_sets.ensures.1 in
    rw (p.1, p.2) (s1.stands honest there)

pub returns-in_err-mark_sets-clause-damaged : goal.returns-in_err-mark_sets-clause-damaged
returns-in_err-mark_sets-clause-damaged g c = λ honest.
    let s0 = c.in_ok-mark_snapshots.ensures in
    let s1 = c.in_err-mark_sets.ensures in
    let p = err_from_is_err_and c.from_residual-in_err-mark_sets.result c.from_residual-in_err-mark_sets.ensures.1 in
    rw (p.1, p.2) (head_told (disk_of c.args.io.now).seen (disk_of c.args.io.now).size c.args.dir.now _ _ c.in_err-mark_sets.field-0.0 (s0.looks.reads.seen) (s0.looks.reads.size) (s1.damaged honest))

pub returns-in_err-mark_sets-clause-looks : goal.returns-in_err-mark_sets-clause-looks
returns-in_err-mark_sets-clause-looks g c =
    let s0 = c.in_ok-mark_snapshots.ensures in
    let s1 = c.in_err-mark_sets.ensures in
    let p = err_from_is_err_and c.from_residual-in_err-mark_sets.result c.from_residual-in_err-mark_sets.ensures.1 in
    rw (p.1, p.2) (Looks-then s0.looks s1.looks)

pub returns-in_err-mark_sets-2-clause-only : goal.returns-in_err-mark_sets-2-clause-only
returns-in_err-mark_sets-2-clause-only g c = λ honest sector marked.
    let s0 = c.in_ok-mark_snapshots.ensures in
    let s1 = c.in_ok-mark_sets.ensures in
    let s2 = c.in_err-mark_sets-2.ensures in
    let image = (disk_of c.args.io.now).seen in
    let rows = c.args.dir.now in
    only_partials image rows sector _ _ _ _ (s1.looks.reads.seen ∙ s0.looks.reads.seen) (only_heads image rows sector _ _ _ _ (s0.looks.reads.seen) (only_snapshots image rows sector _ _ (s0.only (s1.looks.reads.honest (s2.looks.reads.honest honest)) sector)) (s1.only (s2.looks.reads.honest honest) sector)) (s2.only honest sector) marked

pub returns-in_err-mark_sets-2-clause-more : goal.returns-in_err-mark_sets-2-clause-more
returns-in_err-mark_sets-2-clause-more g c =
    let s0 = c.in_ok-mark_snapshots.ensures in
    let s1 = c.in_ok-mark_sets.ensures in
    let s2 = c.in_err-mark_sets-2.ensures in
    MarksMore-then _ _ _ (MarksMore-then _ _ _ s0.more s1.more) s2.more

pub returns-in_err-mark_sets-2-clause-there : goal.returns-in_err-mark_sets-2-clause-there
returns-in_err-mark_sets-2-clause-there g c = λ bound running honest runs.
    let s0 = c.in_ok-mark_snapshots.ensures in
    let s1 = c.in_ok-mark_sets.ensures in
    let s2 = c.in_err-mark_sets-2.ensures in
    let there = there_after (Looks-then s0.looks s1.looks) (λ (seen : List ℕ) (space : FreeSectors). All (PartialStands (Has seen space)) c.args.dir.now.partials) (partials_stand bound _ c.args.dir.now running runs) in
    let p = err_from_is_err_and c.from_residual-in_err-mark_sets-2.result c.from_residual-in_err-mark_sets-2.ensures.1 in
    rw (p.1, p.2) (s2.stands honest there)

pub returns-in_err-mark_sets-2-clause-damaged : goal.returns-in_err-mark_sets-2-clause-damaged
returns-in_err-mark_sets-2-clause-damaged g c = λ honest.
    let s0 = c.in_ok-mark_snapshots.ensures in
    let s1 = c.in_ok-mark_sets.ensures in
    let s2 = c.in_err-mark_sets-2.ensures in
    let p = err_from_is_err_and c.from_residual-in_err-mark_sets-2.result c.from_residual-in_err-mark_sets-2.ensures.1 in
    rw (p.1, p.2) (partial_told (disk_of c.args.io.now).seen (disk_of c.args.io.now).size c.args.dir.now _ _ c.in_err-mark_sets-2.field-0.0 (s1.looks.reads.seen ∙ s0.looks.reads.seen) (s1.looks.reads.size ∙ s0.looks.reads.size) (s2.damaged honest))

pub returns-in_err-mark_sets-2-clause-looks : goal.returns-in_err-mark_sets-2-clause-looks
returns-in_err-mark_sets-2-clause-looks g c =
    let s0 = c.in_ok-mark_snapshots.ensures in
    let s1 = c.in_ok-mark_sets.ensures in
    let s2 = c.in_err-mark_sets-2.ensures in
    let p = err_from_is_err_and c.from_residual-in_err-mark_sets-2.result c.from_residual-in_err-mark_sets-2.ensures.1 in
    rw (p.1, p.2) (Looks-then s0.looks (Looks-then s1.looks s2.looks))

pub returns-in_err-mark_lists-clause-only : goal.returns-in_err-mark_lists-clause-only
returns-in_err-mark_lists-clause-only g c = λ honest sector marked.
    let s0 = c.in_ok-mark_snapshots.ensures in
    let s1 = c.in_ok-mark_sets.ensures in
    let s2 = c.in_ok-mark_sets-2.ensures in
    let s3 = c.in_err-mark_lists.ensures in
    let image = (disk_of c.args.io.now).seen in
    let rows = c.args.dir.now in
    only_lists image rows sector _ _ _ _ (s2.looks.reads.seen ∙ s1.looks.reads.seen ∙ s0.looks.reads.seen) (only_partials image rows sector _ _ _ _ (s1.looks.reads.seen ∙ s0.looks.reads.seen) (only_heads image rows sector _ _ _ _ (s0.looks.reads.seen) (only_snapshots image rows sector _ _ (s0.only (s1.looks.reads.honest (s2.looks.reads.honest (s3.looks.reads.honest honest))) sector)) (s1.only (s2.looks.reads.honest (s3.looks.reads.honest honest)) sector)) (s2.only (s3.looks.reads.honest honest) sector)) (s3.only honest sector) marked

pub returns-in_err-mark_lists-clause-more : goal.returns-in_err-mark_lists-clause-more
returns-in_err-mark_lists-clause-more g c =
    let s0 = c.in_ok-mark_snapshots.ensures in
    let s1 = c.in_ok-mark_sets.ensures in
    let s2 = c.in_ok-mark_sets-2.ensures in
    let s3 = c.in_err-mark_lists.ensures in
    MarksMore-then _ _ _ (MarksMore-then _ _ _ (MarksMore-then _ _ _ s0.more s1.more) s2.more) s3.more

pub returns-in_err-mark_lists-clause-there : goal.returns-in_err-mark_lists-clause-there
returns-in_err-mark_lists-clause-there g c = λ bound running honest runs.
    let s0 = c.in_ok-mark_snapshots.ensures in
    let s1 = c.in_ok-mark_sets.ensures in
    let s2 = c.in_ok-mark_sets-2.ensures in
    let s3 = c.in_err-mark_lists.ensures in
    let there = there_after (Looks-then s0.looks (Looks-then s1.looks s2.looks)) (λ (seen : List ℕ) (space : FreeSectors). All (ListStands (Has seen space)) c.args.dir.now.bookmarks) (lists_stand bound _ c.args.dir.now running runs) in
    let p = err_from_is_err_and c.from_residual-in_err-mark_lists.result c.from_residual-in_err-mark_lists.ensures.1 in
    rw (p.1, p.2) (s3.stands honest there)

pub returns-in_err-mark_lists-clause-damaged : goal.returns-in_err-mark_lists-clause-damaged
returns-in_err-mark_lists-clause-damaged g c = λ honest.
    let s0 = c.in_ok-mark_snapshots.ensures in
    let s1 = c.in_ok-mark_sets.ensures in
    let s2 = c.in_ok-mark_sets-2.ensures in
    let s3 = c.in_err-mark_lists.ensures in
    let p = err_from_is_err_and c.from_residual-in_err-mark_lists.result c.from_residual-in_err-mark_lists.ensures.1 in
    rw (p.1, p.2) (list_told (disk_of c.args.io.now).seen (disk_of c.args.io.now).size c.args.dir.now _ _ c.in_err-mark_lists.field-0.0 (s2.looks.reads.seen ∙ s1.looks.reads.seen ∙ s0.looks.reads.seen) (s2.looks.reads.size ∙ s1.looks.reads.size ∙ s0.looks.reads.size) (s3.damaged honest))

pub returns-in_err-mark_lists-clause-looks : goal.returns-in_err-mark_lists-clause-looks
returns-in_err-mark_lists-clause-looks g c =
    let s0 = c.in_ok-mark_snapshots.ensures in
    let s1 = c.in_ok-mark_sets.ensures in
    let s2 = c.in_ok-mark_sets-2.ensures in
    let s3 = c.in_err-mark_lists.ensures in
    let p = err_from_is_err_and c.from_residual-in_err-mark_lists.result c.from_residual-in_err-mark_lists.ensures.1 in
    rw (p.1, p.2) (Looks-then s0.looks (Looks-then s1.looks (Looks-then s2.looks s3.looks)))

pub returns-clause-all : goal.returns-clause-all
returns-clause-all g c = λ honest.
    let s0 = c.in_ok-mark_snapshots.ensures in
    let s1 = c.in_ok-mark_sets.ensures in
    let s2 = c.in_ok-mark_sets-2.ensures in
    let s3 = c.in_ok-mark_lists.ensures in
    let image = (disk_of c.args.io.now).seen in
    let rows = c.args.dir.now in
    let end = c.args.end in
    let snapshot = λ (seen : List ℕ). SnapshotReaches (IsBlock seen) in
    let first = s0.all (s1.looks.reads.honest (s2.looks.reads.honest (s3.looks.reads.honest honest))) in
    let heads = s1.all (s2.looks.reads.honest (s3.looks.reads.honest honest)) (marked_on snapshot _ image end _ _ rows.snapshots (sym (s0.looks.reads.seen)) (MarksMore-none _) first) in
    let partials = s2.all (s3.looks.reads.honest honest) (marked_on snapshot _ image end _ _ rows.snapshots (sym (s1.looks.reads.seen ∙ s0.looks.reads.seen)) s1.more first) in
    rows_marked image end _ rows (marked_on (λ (seen : List ℕ). HeadReaches (IsBlock seen)) image _ end _ _ rows.datasets (s0.looks.reads.seen) (MarksMore-then _ _ _ s2.more s3.more) heads)
    (marked_on snapshot image image end _ _ rows.snapshots refl (MarksMore-then _ _ _ s1.more (MarksMore-then _ _ _ s2.more s3.more)) first)
    (marked_on (λ (seen : List ℕ). PartialReaches (IsBlock seen)) image _ end _ _ rows.partials (s1.looks.reads.seen ∙ s0.looks.reads.seen) s3.more partials)
    (marked_on (λ (seen : List ℕ). ListReaches (IsBlock seen)) image _ end _ _ rows.bookmarks (s2.looks.reads.seen ∙ s1.looks.reads.seen ∙ s0.looks.reads.seen) (MarksMore-none _) (s3.all honest))

pub returns-clause-only : goal.returns-clause-only
returns-clause-only g c = λ honest sector marked.
    let s0 = c.in_ok-mark_snapshots.ensures in
    let s1 = c.in_ok-mark_sets.ensures in
    let s2 = c.in_ok-mark_sets-2.ensures in
    let s3 = c.in_ok-mark_lists.ensures in
    let image = (disk_of c.args.io.now).seen in
    let rows = c.args.dir.now in
    only_lists image rows sector _ _ _ _ (s2.looks.reads.seen ∙ s1.looks.reads.seen ∙ s0.looks.reads.seen) (only_partials image rows sector _ _ _ _ (s1.looks.reads.seen ∙ s0.looks.reads.seen) (only_heads image rows sector _ _ _ _ (s0.looks.reads.seen) (only_snapshots image rows sector _ _ (s0.only (s1.looks.reads.honest (s2.looks.reads.honest (s3.looks.reads.honest honest))) sector)) (s1.only (s2.looks.reads.honest (s3.looks.reads.honest honest)) sector)) (s2.only (s3.looks.reads.honest honest) sector)) (s3.only honest sector) marked

pub returns-clause-more : goal.returns-clause-more
returns-clause-more g c =
    let s0 = c.in_ok-mark_snapshots.ensures in
    let s1 = c.in_ok-mark_sets.ensures in
    let s2 = c.in_ok-mark_sets-2.ensures in
    let s3 = c.in_ok-mark_lists.ensures in
    MarksMore-then _ _ _ (MarksMore-then _ _ _ (MarksMore-then _ _ _ s0.more s1.more) s2.more) s3.more

pub returns-clause-looks : goal.returns-clause-looks
returns-clause-looks g c =
    let s0 = c.in_ok-mark_snapshots.ensures in
    let s1 = c.in_ok-mark_sets.ensures in
    let s2 = c.in_ok-mark_sets-2.ensures in
    let s3 = c.in_ok-mark_lists.ensures in
    Looks-then s0.looks (Looks-then s1.looks (Looks-then s2.looks s3.looks))
