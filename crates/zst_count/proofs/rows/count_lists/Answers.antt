use Rattle.std.proofs.Common.{inl, ℕ, List, subst}
use Rattle.std.proofs.lemmas.List.Elements.{All-nil}
use Rattle.std.proofs.lemmas.Result.{err_from_is_err_and}
use Rattle.zst_block.specs.Blocks.{Has, IsBlock}
use Rattle.zst_block.specs.IoStates.{blocks_of, disk_of}
use Rattle.zst_block.proofs.IoCallLemmas.{Looks-none, Looks-then}
use Rattle.zst_dir.specs.declared.rows.Bookmark.{Bookmark}
use Rattle.zst_roots.specs.StandingRows.{ListStands}
use Rattle.zst_roots.proofs.RowTurns.{holds_in_turn, in_turn, told_turn}
use Rattle.zst_space.specs.FreeSectors.{FreeSectors}
use Rattle.zst_tree.specs.Damage.{IsSeen}
use Rattle.zst_tree.proofs.LoadedNodes.{there_after}
use Rattle.zst_count.specs.CountedRows.{IsDamagedList, IsReadList}
use Rattle.zst_count.specs.FirstSectors.{IsFirstInList}
use Rattle.zst_count.specs.MetBlocks.{AllMet}
use Rattle.zst_count.proofs.MetLaws.{AllMet-more, MetMore-none, MetMore-then}
use Rattle.zst_count.proofs.RowWalks.{all_turn, all_turns, only_turn}
use Rattle.zst_count.proofs.rows.count_lists.Goals as goal

pub loop-row-init : goal.loop-row-init
loop-row-init g c = record {
  all = λ honest. All-nil _;
  more = MetMore-none _;
  only = λ honest sector marked. inl marked;
  read = λ honest. All-nil _;
  looks = Looks-none _;
}

pub loop-row-preserved : goal.loop-row-preserved
loop-row-preserved g c =
    let inv = c.loop-row.invariant in
    let step = c.in_ok-count_list.ensures in
    let image = (disk_of c.args.io.now).seen in
    let now = (disk_of c.loop-row.io).seen in
    let rows = c.args.dir.now.bookmarks in
    let row = c.row-item.result in
    let i = c.loop-row.row-index in
    let mid = c.loop-row.met in
    let new = c.count_list.new.met in
    let turn = in_turn c.bookmarks-row-items.result.now rows i row c.bookmarks-row-items.ensures c.loop-row-test.true c.row-item.is in
    let same = inv.looks.reads.seen in
    record {
      all = λ honest.
          let was = step.looks.reads.honest honest in
          all_turn rows (λ (r : Bookmark). AllMet mid.end mid.marks (IsFirstInList (IsBlock image) r)) (λ (r : Bookmark). AllMet new.end new.marks (IsFirstInList (IsBlock image) r)) i row turn
          (λ r met. AllMet-more mid new (IsFirstInList (IsBlock image) r) step.more met) (inv.all was)
          (subst (λ (seen : List ℕ). AllMet new.end new.marks (IsFirstInList (IsBlock seen) row)) same (step.all honest));
      more = MetMore-then _ _ _ inv.more step.more;
      only = λ honest sector marked.
          only_turn rows (λ (seen : List ℕ). IsFirstInList (IsBlock seen)) image now i row sector c.args.met.now.end mid.end _ _ same inv.more.end_is turn (inv.only (step.looks.reads.honest honest) sector) (step.only honest sector marked);
      read = λ honest.
          let was = step.looks.reads.honest honest in
          all_turn rows (IsReadList image) (IsReadList image) i row turn (λ r read. read) (inv.read was) (subst (λ (seen : List ℕ). IsReadList seen row) same (step.read honest));
      looks = Looks-then inv.looks step.looks;
    }

pub returns-in_err-count_list-clause-only : goal.returns-in_err-count_list-clause-only
returns-in_err-count_list-clause-only g c = λ honest sector marked.
    let inv = c.loop-row.invariant in
    let step = c.in_err-count_list.ensures in
    let rows = c.args.dir.now.bookmarks in
    let turn = in_turn c.bookmarks-row-items.result.now rows c.loop-row.row-index c.row-item.result c.bookmarks-row-items.ensures c.loop-row-test.true c.row-item.is in
    only_turn rows (λ (seen : List ℕ). IsFirstInList (IsBlock seen)) _ _ c.loop-row.row-index c.row-item.result sector c.args.met.now.end c.loop-row.met.end _ _ inv.looks.reads.seen inv.more.end_is turn (inv.only (step.looks.reads.honest honest) sector) (step.only honest sector marked)

pub returns-in_err-count_list-clause-more : goal.returns-in_err-count_list-clause-more
returns-in_err-count_list-clause-more g c = MetMore-then _ _ _ c.loop-row.invariant.more c.in_err-count_list.ensures.more

pub returns-in_err-count_list-clause-stands : goal.returns-in_err-count_list-clause-stands
returns-in_err-count_list-clause-stands g c = λ honest stand.
    let inv = c.loop-row.invariant in
    let step = c.in_err-count_list.ensures in
    let rows = c.args.dir.now.bookmarks in
    let row = c.row-item.result in
    let turn = in_turn c.bookmarks-row-items.result.now rows c.loop-row.row-index row c.bookmarks-row-items.ensures c.loop-row-test.true c.row-item.is in
    let there = there_after inv.looks (λ (seen : List ℕ) (space : FreeSectors). ListStands (Has seen space) row) (holds_in_turn (ListStands (blocks_of c.args.io.now)) rows c.loop-row.row-index row turn stand) in
    let p = err_from_is_err_and c.from_residual.result c.from_residual.ensures.1 in
    rw (p.1, p.2) (step.stands honest there)

pub returns-in_err-count_list-clause-damaged : goal.returns-in_err-count_list-clause-damaged
returns-in_err-count_list-clause-damaged g c = λ honest.
    let inv = c.loop-row.invariant in
    let rows = c.args.dir.now.bookmarks in
    let turn = in_turn c.bookmarks-row-items.result.now rows c.loop-row.row-index c.row-item.result c.bookmarks-row-items.ensures c.loop-row-test.true c.row-item.is in
    let p = err_from_is_err_and c.from_residual.result c.from_residual.ensures.1 in
    rw (p.1, p.2) (told_turn (λ (seen : List ℕ) (size : ℕ). IsDamagedList (IsSeen seen) size) _ _ _ _ rows c.loop-row.row-index c.row-item.result c.in_err-count_list.field-0.0 inv.looks.reads.seen inv.looks.reads.size turn (c.in_err-count_list.ensures.damaged honest))

pub returns-in_err-count_list-clause-looks : goal.returns-in_err-count_list-clause-looks
returns-in_err-count_list-clause-looks g c =
    let p = err_from_is_err_and c.from_residual.result c.from_residual.ensures.1 in
    rw (p.1, p.2) (Looks-then c.loop-row.invariant.looks c.in_err-count_list.ensures.looks)

pub returns-clause-all : goal.returns-clause-all
returns-clause-all g c = λ honest.
    all_turns c.args.dir.now.bookmarks (λ (r : Bookmark). AllMet c.loop-row.met.end c.loop-row.met.marks (IsFirstInList (IsBlock (disk_of c.args.io.now).seen) r)) c.bookmarks-row-items.result.now c.loop-row.row-index c.bookmarks-row-items.ensures c.loop-row-test.false (c.loop-row.invariant.all honest)

pub returns-clause-read : goal.returns-clause-read
returns-clause-read g c = λ honest.
    all_turns c.args.dir.now.bookmarks (IsReadList (disk_of c.args.io.now).seen) c.bookmarks-row-items.result.now c.loop-row.row-index c.bookmarks-row-items.ensures c.loop-row-test.false (c.loop-row.invariant.read honest)
