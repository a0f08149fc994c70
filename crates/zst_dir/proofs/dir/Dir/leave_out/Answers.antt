use Rattle.std.proofs.Common.{rules, arith, ◌≡◌, length, filter, not, sym, ap, ◌∙◌, subst}
use Rattle.std.proofs.lemmas.Fn.{filter_same}
use Rattle.zst_dir.specs.Removal.{AreUnused, takes_bookmark, takes_dataset, takes_snapshot, without}
use Rattle.zst_dir.specs.Rows.{Rows, IsLawful}
use Rattle.zst_dir.specs.Spelling.{dir_bytes}
use Rattle.zst_dir.specs.declared.rows.Dataset.{Dataset}
use Rattle.zst_dir.specs.declared.rows.Snapshot.{Snapshot}
use Rattle.zst_dir.specs.declared.rows.Bookmark.{Bookmark}
use Rattle.zst_dir.proofs.RemovalLemmas.{rows_left, same_rows}
use Rattle.zst_dir.proofs.Lengths.{left_shrinks}
use Rattle.zst_dir.proofs.dir.Dir.leave_out.Goals as goal

pub invariant_of-self : goal.invariant_of-self
invariant_of-self c =
    let going = c.args.going.now in
    let rows : Rows = record { datasets = c.self.inside.datasets.items; snapshots = c.self.inside.snapshots.items; bookmarks = c.self.inside.bookmarks.items; partials = c.self.inside.partials.items } in
    let datasets : c.retain.new.self.items ≡ filter (λ (d : Dataset). not (takes_dataset going d)) rows.datasets = filter_same _ _ _ (λ x b f' k. search rules) _ _ c.retain.ensures.filtered in
    let snapshots : c.retain-2.new.self.items ≡ filter (λ (s : Snapshot). not (takes_snapshot going s)) rows.snapshots = filter_same _ _ _ (λ x b f' k. search rules) _ _ c.retain-2.ensures.filtered in
    let bookmarks : c.retain-3.new.self.items ≡ filter (λ (b : Bookmark). not (takes_bookmark going b)) rows.bookmarks = filter_same _ _ _ (λ x b f' k. search rules) _ _ c.retain-3.ensures.filtered in
    let unused : AreUnused going rows = subst (AreUnused going) (sym c.self.view_is) c.requires.unused in
    subst IsLawful (sym (same_rows rows.partials datasets snapshots bookmarks)) (rows_left going rows c.self.invariant unused)

pub returns-clause-left : goal.returns-clause-left
returns-clause-left c =
    let going = c.args.going.now in
    let rows : Rows = record { datasets = c.self.inside.datasets.items; snapshots = c.self.inside.snapshots.items; bookmarks = c.self.inside.bookmarks.items; partials = c.self.inside.partials.items } in
    let datasets : c.retain.new.self.items ≡ filter (λ (d : Dataset). not (takes_dataset going d)) rows.datasets = filter_same _ _ _ (λ x b f' k. search rules) _ _ c.retain.ensures.filtered in
    let snapshots : c.retain-2.new.self.items ≡ filter (λ (s : Snapshot). not (takes_snapshot going s)) rows.snapshots = filter_same _ _ _ (λ x b f' k. search rules) _ _ c.retain-2.ensures.filtered in
    let bookmarks : c.retain-3.new.self.items ≡ filter (λ (b : Bookmark). not (takes_bookmark going b)) rows.bookmarks = filter_same _ _ _ (λ x b f' k. search rules) _ _ c.retain-3.ensures.filtered in
    same_rows rows.partials datasets snapshots bookmarks ∙ ap (without going) c.self.view_is

pub returns-clause-shrinks : goal.returns-clause-shrinks
returns-clause-shrinks c =
    let going = c.args.going.now in
    let rows : Rows = record { datasets = c.self.inside.datasets.items; snapshots = c.self.inside.snapshots.items; bookmarks = c.self.inside.bookmarks.items; partials = c.self.inside.partials.items } in
    let unused : AreUnused going rows = subst (AreUnused going) (sym c.self.view_is) c.requires.unused in
    omega (
      arith,
      ap (λ (r : Rows). length (dir_bytes r)) (returns-clause-left c),
      left_shrinks going rows c.self.invariant (rows_left going rows c.self.invariant unused),
      ap (λ (r : Rows). length (dir_bytes (without going r))) c.self.view_is,
      ap (λ (r : Rows). length (dir_bytes r)) c.self.view_is,
    )
