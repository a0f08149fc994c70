use Rattle.std.proofs.Common.{ℕ, List, refl, sym, subst, ◌∙◌}
use Rattle.std.specs.List.{All}
use Rattle.std.proofs.lemmas.Result.{err_from_is_err_and}
use Rattle.zst_block.specs.Blocks.{Has, IsBlock}
use Rattle.zst_block.specs.IoStates.{disk_of}
use Rattle.zst_block.proofs.IoCallLemmas.{Looks-then}
use Rattle.zst_marks.proofs.MoreMarks.{MarksMore-none}
use Rattle.zst_space.specs.FreeSectors.{FreeSectors}
use Rattle.zst_tree.proofs.LoadedNodes.{there_after}
use Rattle.zst_roots.specs.StandingRows.{HeldStands, TextsStand}
use Rattle.zst_roots.specs.Unreached.{StaysReached}
use Rattle.zst_roots.proofs.FoundSectors.{MarksExactly, free_exactly, marked_exactly, stay_exactly, texts_exactly}
use Rattle.zst_roots.proofs.HeldMarks.{snapshots_in_rows, snapshots_on}
use Rattle.zst_roots.proofs.TextMarks.{held_told, rows_told, texts_told}
use Rattle.zst_roots.proofs.unreached.find_unreached.Goals as goal

pub returns-in_err-mark_rows-clause-there : goal.returns-in_err-mark_rows-clause-there
returns-in_err-mark_rows-clause-there g c = λ bound running rows free honest runs dir extents stand.
    let p = err_from_is_err_and c.from_residual-in_err-mark_rows.result c.from_residual-in_err-mark_rows.ensures.1 in
    rw (p.1, p.2) (c.in_err-mark_rows.ensures.there bound running honest runs)

pub returns-in_err-mark_rows-clause-damaged : goal.returns-in_err-mark_rows-clause-damaged
returns-in_err-mark_rows-clause-damaged g c = λ honest.
    let p = err_from_is_err_and c.from_residual-in_err-mark_rows.result c.from_residual-in_err-mark_rows.ensures.1 in
    rw (p.1, p.2) (rows_told (disk_of c.args.io.now).seen (disk_of c.args.io.now).size c.args.uber.now c.args.dir.now c.args.held.now (Unit {0}) (Unit {0}) c.in_err-mark_rows.field-0.0 (c.in_err-mark_rows.ensures.damaged honest))

pub returns-in_err-mark_held-clause-there : goal.returns-in_err-mark_held-clause-there
returns-in_err-mark_held-clause-there g c = λ bound running rows free honest runs dir extents stand.
    let s1 = c.in_ok-mark_rows.ensures in
    let there = there_after s1.looks (λ (seen : List ℕ) (space : FreeSectors). All (HeldStands (Has seen space)) c.args.held.now) stand in
    let p = err_from_is_err_and c.from_residual-in_err-mark_held.result c.from_residual-in_err-mark_held.ensures.1 in
    rw (p.1, p.2) (c.in_err-mark_held.ensures.stands honest there)

pub returns-in_err-mark_held-clause-damaged : goal.returns-in_err-mark_held-clause-damaged
returns-in_err-mark_held-clause-damaged g c = λ honest.
    let s1 = c.in_ok-mark_rows.ensures in
    let p = err_from_is_err_and c.from_residual-in_err-mark_held.result c.from_residual-in_err-mark_held.ensures.1 in
    rw (p.1, p.2) (held_told (disk_of c.args.io.now).seen (disk_of c.args.io.now).size c.args.uber.now c.args.dir.now c.args.held.now _ _ c.in_err-mark_held.field-0.0 s1.looks.reads.seen s1.looks.reads.size (c.in_err-mark_held.ensures.damaged honest))

pub returns-in_err-mark_held-clause-looks : goal.returns-in_err-mark_held-clause-looks
returns-in_err-mark_held-clause-looks g c =
    let p = err_from_is_err_and c.from_residual-in_err-mark_held.result c.from_residual-in_err-mark_held.ensures.1 in
    rw (p.1, p.2) (Looks-then c.in_ok-mark_rows.ensures.looks c.in_err-mark_held.ensures.looks)

pub returns-in_err-mark_texts-clause-there : goal.returns-in_err-mark_texts-clause-there
returns-in_err-mark_texts-clause-there g c = λ bound running rows free honest runs dir extents stand.
    let looks = Looks-then c.in_ok-mark_rows.ensures.looks c.in_ok-mark_held.ensures.looks in
    let s2 = c.in_err-mark_texts.ensures in
    let there = there_after looks (λ (seen : List ℕ) (space : FreeSectors). TextsStand (Has seen space) c.args.uber.now) ((_, dir.leaves), λ some. (_, extents.leaves some)) in
    let p = err_from_is_err_and c.from_residual-in_err-mark_texts.result c.from_residual-in_err-mark_texts.ensures.1 in
    rw (p.1, p.2) (s2.stands honest there)

pub returns-in_err-mark_texts-clause-damaged : goal.returns-in_err-mark_texts-clause-damaged
returns-in_err-mark_texts-clause-damaged g c = λ honest.
    let s0 = c.in_ok-mark_rows.ensures in
    let s1 = c.in_ok-mark_held.ensures in
    let s2 = c.in_err-mark_texts.ensures in
    let p = err_from_is_err_and c.from_residual-in_err-mark_texts.result c.from_residual-in_err-mark_texts.ensures.1 in
    rw (p.1, p.2) (texts_told (disk_of c.args.io.now).seen (disk_of c.args.io.now).size c.args.uber.now c.args.dir.now c.args.held.now _ _ c.in_err-mark_texts.field-0.0 (s1.looks.reads.seen ∙ s0.looks.reads.seen) (s1.looks.reads.size ∙ s0.looks.reads.size) (s2.damaged honest))

pub returns-in_err-mark_texts-clause-looks : goal.returns-in_err-mark_texts-clause-looks
returns-in_err-mark_texts-clause-looks g c =
    let p = err_from_is_err_and c.from_residual-in_err-mark_texts.result c.from_residual-in_err-mark_texts.ensures.1 in
    rw (p.1, p.2) (Looks-then c.in_ok-mark_rows.ensures.looks (Looks-then c.in_ok-mark_held.ensures.looks c.in_err-mark_texts.ensures.looks))

pub returns-clause-marked : goal.returns-clause-marked
returns-clause-marked g c = λ honest.
    let holds = c.in_ok-mark_held.ensures in
    let walk = c.in_ok-mark_rows.ensures in
    let late = c.in_ok-mark_texts.ensures.looks.reads.honest honest in
    let was = holds.looks.reads.honest late in
    let same = walk.looks.reads.seen in
    let image = (disk_of c.args.io.now).seen in
    let uber = c.args.uber.now in
    let rows = c.args.dir.now in
    let held = c.args.held.now in
    let all = walk.all was in
    let beside = snapshots_on image _ uber.end _ _ rows.snapshots same (MarksMore-none _) (snapshots_in_rows image uber.end _ rows all) in
    marked_exactly _ uber.end _ (stay_exactly image uber rows held _ _ _ _ same c.in_ok-marks.ensures.marked walk.more all (walk.only was) holds.more (holds.all late beside) (holds.only late))

pub returns-clause-free : goal.returns-clause-free
returns-clause-free g c = λ honest.
    let texts = c.in_ok-mark_texts.ensures in
    let holds = c.in_ok-mark_held.ensures in
    let walk = c.in_ok-mark_rows.ensures in
    let late = texts.looks.reads.honest honest in
    let was = holds.looks.reads.honest late in
    let same = walk.looks.reads.seen in
    let image = (disk_of c.args.io.now).seen in
    let uber = c.args.uber.now in
    let rows = c.args.dir.now in
    let held = c.args.held.now in
    let all = walk.all was in
    let beside = snapshots_on image _ uber.end _ _ rows.snapshots same (MarksMore-none _) (snapshots_in_rows image uber.end _ rows all) in
    let stays = stay_exactly image uber rows held _ _ _ _ same c.in_ok-marks.ensures.marked walk.more all (walk.only was) holds.more (holds.all late beside) (holds.only late) in
    let copied = subst (λ (marks : List ℕ). MarksExactly (StaysReached (IsBlock image) rows held) uber.end marks) (sym c.in_ok-reached.ensures) stays in
    rw c.new-space.ensures (free_exactly image uber rows held _ (record { end = uber.end; sectors = uber.sectors; free = c.in_ok-free.free.items }) refl c.in_ok-free.ensures.are
    (texts_exactly image uber rows held _ _ _ (holds.looks.reads.seen ∙ same) copied texts.more (texts.all honest) (texts.only honest)))

pub returns-clause-looks : goal.returns-clause-looks
returns-clause-looks g c = Looks-then c.in_ok-mark_rows.ensures.looks (Looks-then c.in_ok-mark_held.ensures.looks c.in_ok-mark_texts.ensures.looks)
