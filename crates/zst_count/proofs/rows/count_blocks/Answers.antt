use Rattle.std.proofs.Common.{◌≡◌, ◌<◌, inl, inr, ℕ, List, refl, sym, ◌∙◌, arith}
use Rattle.std.specs.List.{All}
use Rattle.std.proofs.lemmas.Result.{err_from_is_err_and}
use Rattle.zst_block.specs.Blocks.{Has, IsBlock}
use Rattle.zst_block.specs.IoStates.{disk_of}
use Rattle.zst_block.proofs.IoCallLemmas.{Looks-then}
use Rattle.zst_dir.specs.declared.rows.Bookmark.{Bookmark}
use Rattle.zst_dir.specs.declared.rows.Dataset.{Dataset}
use Rattle.zst_dir.specs.declared.rows.Partial.{Partial}
use Rattle.zst_dir.specs.declared.rows.Snapshot.{Snapshot}
use Rattle.zst_marks.specs.Marks.{IsMarked}
use Rattle.zst_roots.specs.ReachedRows.{IsReachedBySome}
use Rattle.zst_roots.specs.StandingRows.{ListStands, TextsStand}
use Rattle.zst_space.specs.FreeSectors.{FreeSectors}
use Rattle.zst_tree.proofs.LoadedNodes.{there_after}
use Rattle.zst_count.specs.CountedRows.{IsReadList}
use Rattle.zst_count.specs.CountedSets.{AreReadInSet, DataStandInSet}
use Rattle.zst_count.specs.FirstSectors.{IsFirstInHead, IsFirstInList, IsFirstInPartial, IsFirstInSet, IsFirstInSnapshot, IsFirstInTexts, IsFirstReached}
use Rattle.zst_count.proofs.MetLaws.{MetMore-none, MetMore-then}
use Rattle.zst_count.proofs.RowCounts.{Counts-same, all_met, gives_err, only_step, rows_more, rows_read_on, rows_stand, texts_told}
use Rattle.zst_count.proofs.rows.count_blocks.Goals as goal

pub returns-in_err-count_snapshots-clause-there : goal.returns-in_err-count_snapshots-clause-there
returns-in_err-count_snapshots-clause-there g c = λ bound running rows free honest runs dir extents.
    let stand = rows_stand bound _ _ c.args.dir.now running runs in
    let p = err_from_is_err_and c.from_residual-in_err-count_snapshots.result c.from_residual-in_err-count_snapshots.ensures.1 in
    rw (p.1, p.2) (gives_err (Unit {0}) ℕ c.in_err-count_snapshots.field-0.0 (c.in_err-count_snapshots.ensures.stands honest stand.snapshots))

pub returns-in_err-count_heads-clause-there : goal.returns-in_err-count_heads-clause-there
returns-in_err-count_heads-clause-there g c = λ bound running rows free honest runs dir extents.
    let looks = c.in_ok-count_snapshots.ensures.looks in
    let stand = rows_stand bound _ _ c.args.dir.now running runs in
    let there = there_after looks (λ (seen : List ℕ) (space : FreeSectors). All (λ (row : Dataset). DataStandInSet (Has seen space) row.head) c.args.dir.now.datasets) stand.heads in
    let p = err_from_is_err_and c.from_residual-in_err-count_heads.result c.from_residual-in_err-count_heads.ensures.1 in
    rw (p.1, p.2) (c.in_err-count_heads.ensures.stands honest there)

pub returns-in_err-count_partials-clause-there : goal.returns-in_err-count_partials-clause-there
returns-in_err-count_partials-clause-there g c = λ bound running rows free honest runs dir extents.
    let looks = Looks-then c.in_ok-count_snapshots.ensures.looks c.in_ok-count_heads.ensures.looks in
    let stand = rows_stand bound _ _ c.args.dir.now running runs in
    let there = there_after looks (λ (seen : List ℕ) (space : FreeSectors). All (λ (row : Partial). DataStandInSet (Has seen space) row.objects) c.args.dir.now.partials) stand.partials in
    let p = err_from_is_err_and c.from_residual-in_err-count_partials.result c.from_residual-in_err-count_partials.ensures.1 in
    rw (p.1, p.2) (c.in_err-count_partials.ensures.stands honest there)

pub returns-in_err-count_lists-clause-stands : goal.returns-in_err-count_lists-clause-stands
returns-in_err-count_lists-clause-stands g c = λ honest stand texts.
    let looks = Looks-then c.in_ok-count_snapshots.ensures.looks (Looks-then c.in_ok-count_heads.ensures.looks c.in_ok-count_partials.ensures.looks) in
    let there = there_after looks (λ (seen : List ℕ) (space : FreeSectors). All (ListStands (Has seen space)) c.args.dir.now.bookmarks) stand.lists in
    let p = err_from_is_err_and c.from_residual-in_err-count_lists.result c.from_residual-in_err-count_lists.ensures.1 in
    rw (p.1, p.2) (c.in_err-count_lists.ensures.stands honest there)

pub returns-in_err-count_lists-clause-there : goal.returns-in_err-count_lists-clause-there
returns-in_err-count_lists-clause-there g c = λ bound running rows free honest runs dir extents.
    returns-in_err-count_lists-clause-stands g c honest (rows_stand bound _ _ c.args.dir.now running runs) ((_, dir.leaves), λ some. (_, extents.leaves some))

pub returns-in_err-count_texts-clause-stands : goal.returns-in_err-count_texts-clause-stands
returns-in_err-count_texts-clause-stands g c = λ honest stand texts.
    let looks = Looks-then c.in_ok-count_snapshots.ensures.looks (Looks-then c.in_ok-count_heads.ensures.looks (Looks-then c.in_ok-count_partials.ensures.looks c.in_ok-count_lists.ensures.looks)) in
    let there = there_after looks (λ (seen : List ℕ) (space : FreeSectors). TextsStand (Has seen space) c.args.uber.now) texts in
    let p = err_from_is_err_and c.from_residual-in_err-count_texts.result c.from_residual-in_err-count_texts.ensures.1 in
    rw (p.1, p.2) (c.in_err-count_texts.ensures.stands honest there)

pub returns-in_err-count_texts-clause-there : goal.returns-in_err-count_texts-clause-there
returns-in_err-count_texts-clause-there g c = λ bound running rows free honest runs dir extents.
    returns-in_err-count_texts-clause-stands g c honest (rows_stand bound _ _ c.args.dir.now running runs) ((_, dir.leaves), λ some. (_, extents.leaves some))

pub returns-in_err-count_texts-clause-damaged : goal.returns-in_err-count_texts-clause-damaged
returns-in_err-count_texts-clause-damaged g c = λ honest.
    let s0 = c.in_ok-count_snapshots.ensures.looks.reads in
    let s1 = c.in_ok-count_heads.ensures.looks.reads in
    let s2 = c.in_ok-count_partials.ensures.looks.reads in
    let s3 = c.in_ok-count_lists.ensures.looks.reads in
    let p = err_from_is_err_and c.from_residual-in_err-count_texts.result c.from_residual-in_err-count_texts.ensures.1 in
    rw (p.1, p.2) (texts_told (disk_of c.args.io.now).seen (disk_of c.args.io.now).size c.args.uber.now c.args.dir.now _ _ c.in_err-count_texts.field-0.0 (s3.seen ∙ s2.seen ∙ s1.seen ∙ s0.seen) (s3.size ∙ s2.size ∙ s1.size ∙ s0.size)
    (c.in_err-count_texts.ensures.damaged honest))

pub returns-clause-counts : goal.returns-clause-counts
returns-clause-counts g c = λ honest.
    let s0 = c.in_ok-count_snapshots.ensures in
    let s1 = c.in_ok-count_heads.ensures in
    let s2 = c.in_ok-count_partials.ensures in
    let s3 = c.in_ok-count_lists.ensures in
    let s4 = c.in_ok-count_texts.ensures in
    let h3 = s4.looks.reads.honest honest in
    let h2 = s3.looks.reads.honest h3 in
    let h1 = s2.looks.reads.honest h2 in
    let h0 = s1.looks.reads.honest h1 in
    let e0 = s0.looks.reads.seen in
    let e1 = s1.looks.reads.seen ∙ e0 in
    let e2 = s2.looks.reads.seen ∙ e1 in
    let e3 = s3.looks.reads.seen ∙ e2 in
    let image = (disk_of c.args.io.now).seen in
    let uber = c.args.uber.now in
    let rows = c.args.dir.now in
    let met = c.in_ok-met.met in
    let m0 = c.count_snapshots.new.met in
    let m1 = c.count_heads.new.met in
    let m2 = c.count_partials.new.met in
    let m3 = c.count_lists.new.met in
    let m4 = c.count_texts.new.met in
    let up34 = s4.more in
    let up24 = MetMore-then m2 m3 m4 s3.more up34 in
    let up14 = MetMore-then m1 m2 m4 s2.more up24 in
    let up04 = MetMore-then m0 m1 m4 s1.more up14 in
    let end0 : m0.end ≡ uber.end = s0.more.end_is ∙ c.in_ok-met.ensures.end in
    let end1 : m1.end ≡ uber.end = s1.more.end_is ∙ end0 in
    let end2 : m2.end ≡ uber.end = s2.more.end_is ∙ end1 in
    let end3 : m3.end ≡ uber.end = s3.more.end_is ∙ end2 in
    let end4 : m4.end ≡ uber.end = s4.more.end_is ∙ end3 in
    let in_heads = λ (seen : List ℕ) (row : Dataset). IsFirstInSet (IsBlock seen) row.head in
    let in_snapshots = λ (seen : List ℕ) (row : Snapshot). IsFirstInSet (IsBlock seen) row.objects in
    let in_partials = λ (seen : List ℕ) (row : Partial). IsFirstInSet (IsBlock seen) row.objects in
    let in_lists = λ (seen : List ℕ) (row : Bookmark). IsFirstInList (IsBlock seen) row in
    let snapshots = s0.all h0 in
    let heads = s1.all h1 (rows_more in_snapshots (disk_of c.count_snapshots.new.io).seen image m0 m0 rows.snapshots (sym e0) (MetMore-none m0) snapshots) in
    let partials = s2.all h2 (rows_more in_snapshots (disk_of c.count_heads.new.io).seen image m0 m1 rows.snapshots (sym e1) s1.more snapshots) in
    let lists = s3.all h3 in
    let texts = rw e3 at (s4.all honest) in
    let all = all_met image m4.end m4.marks uber rows (rows_more in_heads image (disk_of c.count_snapshots.new.io).seen m1 m4 rows.datasets e0 up14 heads) (rows_more in_snapshots image image m0 m4 rows.snapshots refl up04 snapshots)
    (rows_more in_partials image (disk_of c.count_heads.new.io).seen m2 m4 rows.partials e1 up24 partials) (rows_more in_lists image (disk_of c.count_partials.new.io).seen m3 m4 rows.bookmarks e2 up34 lists) texts in
    let only = λ (sector : ℕ).
    let reached = IsFirstReached (IsBlock image) uber rows sector in
    let o0 = only_step (λ seen. IsReachedBySome rows.snapshots (IsFirstInSnapshot (IsBlock seen)) sector) reached image image sector uber.end met.end (IsMarked met.marks sector) (IsMarked m0.marks sector) refl c.in_ok-met.ensures.end (λ by. inl (inr (inl by)))
    (λ was. absurd (c.in_ok-met.ensures.none sector was)) (s0.only h0 sector) in
    let o1 = only_step (λ seen. IsReachedBySome rows.datasets (IsFirstInHead (IsBlock seen)) sector) reached image (disk_of c.count_snapshots.new.io).seen sector uber.end m0.end (IsMarked m0.marks sector) (IsMarked m1.marks sector) e0 end0 (λ by. inl (inl by)) o0 (s1.only h1 sector) in
    let o2 = only_step (λ seen. IsReachedBySome rows.partials (IsFirstInPartial (IsBlock seen)) sector) reached image (disk_of c.count_heads.new.io).seen sector uber.end m1.end (IsMarked m1.marks sector) (IsMarked m2.marks sector) e1 end1 (λ by. inl (inr (inr (inl by)))) o1 (s2.only h2 sector) in
    let o3 = only_step (λ seen. IsReachedBySome rows.bookmarks (IsFirstInList (IsBlock seen)) sector) reached image (disk_of c.count_partials.new.io).seen sector uber.end m2.end (IsMarked m2.marks sector) (IsMarked m3.marks sector) e2 end2 (λ by. inl (inr (inr (inr by)))) o2 (s3.only h3 sector) in
    only_step (λ seen. IsFirstInTexts (IsBlock seen) uber sector) reached image (disk_of c.count_lists.new.io).seen sector uber.end m3.end (IsMarked m3.marks sector) (IsMarked m4.marks sector) e3 end3 (λ by. inr by) o3 (s4.only honest sector) in
    Counts-same (λ sector. (sector < m4.end) × IsMarked m4.marks sector) (λ sector. (sector < uber.end) × IsFirstReached (IsBlock image) uber rows sector) c.count.result
    (λ sector. (λ h. let o = only sector h.1 in (o.1, o.0), λ h. let under : sector < m4.end = omega (arith, h.0, end4) in (under, all sector h.1 under))) c.count.ensures

pub returns-clause-read : goal.returns-clause-read
returns-clause-read g c = λ honest.
    let s0 = c.in_ok-count_snapshots.ensures in
    let s1 = c.in_ok-count_heads.ensures in
    let s2 = c.in_ok-count_partials.ensures in
    let s3 = c.in_ok-count_lists.ensures in
    let s4 = c.in_ok-count_texts.ensures in
    let h3 = s4.looks.reads.honest honest in
    let h2 = s3.looks.reads.honest h3 in
    let h1 = s2.looks.reads.honest h2 in
    let h0 = s1.looks.reads.honest h1 in
    let e0 = s0.looks.reads.seen in
    let e1 = s1.looks.reads.seen ∙ e0 in
    let e2 = s2.looks.reads.seen ∙ e1 in
    let e3 = s3.looks.reads.seen ∙ e2 in
    let image = (disk_of c.args.io.now).seen in
    let rows = c.args.dir.now in
    let read_heads = λ (seen : List ℕ) (row : Dataset). AreReadInSet seen row.head in
    let read_snapshots = λ (seen : List ℕ) (row : Snapshot). AreReadInSet seen row.objects in
    let read_partials = λ (seen : List ℕ) (row : Partial). AreReadInSet seen row.objects in
    let snapshots = s0.read h0 in
    record {
      heads = rows_read_on read_heads image _ rows.datasets e0 (s1.read h1 (rows_read_on read_snapshots _ image rows.snapshots (sym e0) snapshots));
      snapshots = snapshots;
      partials = rows_read_on read_partials image _ rows.partials e1 (s2.read h2 (rows_read_on read_snapshots _ image rows.snapshots (sym e1) snapshots));
      lists = rows_read_on IsReadList image _ rows.bookmarks e2 (s3.read h3);
      texts = rw e3 at (s4.read honest);
    }
