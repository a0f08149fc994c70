use Rattle.std.proofs.Common.{inl, ℕ, List, length, ap, arith}
use Rattle.std.proofs.lemmas.List.Elements.{All-nil}
use Rattle.std.proofs.lemmas.Result.{err_from_is_err_and}
use Rattle.zst_block.specs.Blocks.{Has, IsBlock}
use Rattle.zst_block.specs.IoStates.{blocks_of, disk_of}
use Rattle.zst_block.proofs.IoCallLemmas.{Looks-none, Looks-then}
use Rattle.zst_marks.proofs.MoreMarks.{MarksMore-none, MarksMore-then}
use Rattle.zst_space.specs.FreeSectors.{FreeSectors}
use Rattle.zst_tree.specs.Damage.{IsSeen}
use Rattle.zst_tree.proofs.LoadedNodes.{there_after}
use Rattle.zst_roots.specs.ReachedRows.{ListReaches}
use Rattle.zst_roots.specs.RowDamage.{IsDamagedList}
use Rattle.zst_roots.specs.StandingRows.{ListStands}
use Rattle.zst_roots.proofs.RowTurns.{holds_in_turn, in_turn, marked_all, marked_turn, only_turn, told_turn}
use Rattle.zst_roots.proofs.lists.mark_lists.Goals as goal

pub loop-row-init : goal.loop-row-init
loop-row-init g c = record {
  all = λ honest. All-nil _;
  more = MarksMore-none _;
  room = c.requires.room;
  only = λ honest sector marked. inl marked;
  looks = Looks-none _;
}

pub loop-row-preserved : goal.loop-row-preserved
loop-row-preserved g c =
    let inv = c.loop-row.invariant in
    let step = c.in_ok-mark_list.ensures in
    let image = (disk_of c.args.io.now).seen in
    let reaches = λ (seen : List ℕ). ListReaches (IsBlock seen) in
    let rows = c.args.dir.now.bookmarks in
    let row = c.row-item.result in
    let i = c.loop-row.row-index in
    let turn = in_turn c.bookmarks-row-items.result.now rows i row c.bookmarks-row-items.ensures c.loop-row-test.true c.row-item.is in
    let same = inv.looks.reads.seen in
    record {
      all = λ honest.
          let was = step.looks.reads.honest honest in
          marked_turn reaches image rows _ c.args.end _ _ i row same turn step.more (inv.all was) (step.all honest);
      more = MarksMore-then _ _ _ inv.more step.more;
      room = omega (arith, inv.room, step.more.room);
      only = λ honest sector marked. only_turn reaches image rows _ i row sector _ _ same turn (inv.only (step.looks.reads.honest honest) sector) (step.only honest sector marked);
      looks = Looks-then inv.looks step.looks;
    }

pub returns-in_err-mark_list-clause-only : goal.returns-in_err-mark_list-clause-only
returns-in_err-mark_list-clause-only g c = λ honest sector marked.
    let inv = c.loop-row.invariant in
    let step = c.in_err-mark_list.ensures in
    let rows = c.args.dir.now.bookmarks in
    let turn = in_turn c.bookmarks-row-items.result.now rows c.loop-row.row-index c.row-item.result c.bookmarks-row-items.ensures c.loop-row-test.true c.row-item.is in
    only_turn (λ (seen : List ℕ). ListReaches (IsBlock seen)) _ rows _ c.loop-row.row-index c.row-item.result sector _ _ inv.looks.reads.seen turn (inv.only (step.looks.reads.honest honest) sector) (step.only honest sector marked)

pub returns-in_err-mark_list-clause-more : goal.returns-in_err-mark_list-clause-more
returns-in_err-mark_list-clause-more g c = MarksMore-then _ _ _ c.loop-row.invariant.more c.in_err-mark_list.ensures.more

pub returns-in_err-mark_list-clause-stands : goal.returns-in_err-mark_list-clause-stands
returns-in_err-mark_list-clause-stands g c = λ honest stand.
    let inv = c.loop-row.invariant in
    let step = c.in_err-mark_list.ensures in
    let rows = c.args.dir.now.bookmarks in
    let row = c.row-item.result in
    let turn = in_turn c.bookmarks-row-items.result.now rows c.loop-row.row-index row c.bookmarks-row-items.ensures c.loop-row-test.true c.row-item.is in
    let there = there_after inv.looks (λ (seen : List ℕ) (space : FreeSectors). ListStands (Has seen space) row) (holds_in_turn (ListStands (blocks_of c.args.io.now)) rows c.loop-row.row-index row turn stand) in
    let p = err_from_is_err_and c.from_residual.result c.from_residual.ensures.1 in
    rw (p.1, p.2) (step.stands honest there)

pub returns-in_err-mark_list-clause-damaged : goal.returns-in_err-mark_list-clause-damaged
returns-in_err-mark_list-clause-damaged g c = λ honest.
    let inv = c.loop-row.invariant in
    let rows = c.args.dir.now.bookmarks in
    let turn = in_turn c.bookmarks-row-items.result.now rows c.loop-row.row-index c.row-item.result c.bookmarks-row-items.ensures c.loop-row-test.true c.row-item.is in
    let p = err_from_is_err_and c.from_residual.result c.from_residual.ensures.1 in
    rw (p.1, p.2) (told_turn (λ (seen : List ℕ) (size : ℕ). IsDamagedList (IsSeen seen) size) _ _ _ _ rows c.loop-row.row-index c.row-item.result c.in_err-mark_list.field-0.0 inv.looks.reads.seen inv.looks.reads.size turn (c.in_err-mark_list.ensures.damaged honest))

pub returns-in_err-mark_list-clause-looks : goal.returns-in_err-mark_list-clause-looks
returns-in_err-mark_list-clause-looks g c =
    let p = err_from_is_err_and c.from_residual.result c.from_residual.ensures.1 in
    rw (p.1, p.2) (Looks-then c.loop-row.invariant.looks c.in_err-mark_list.ensures.looks)

pub returns-clause-all : goal.returns-clause-all
returns-clause-all g c = λ honest.
    marked_all (λ (seen : List ℕ). ListReaches (IsBlock seen)) _ c.args.dir.now.bookmarks c.args.end _ c.loop-row.row-index (omega (arith, c.loop-row-test.false, ap length c.bookmarks-row-items.ensures)) (c.loop-row.invariant.all honest)
