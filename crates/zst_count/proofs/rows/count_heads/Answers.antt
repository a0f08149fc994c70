use Rattle.std.proofs.Common.{inl, ℕ, List, sym}
use Rattle.std.proofs.lemmas.List.Elements.{All-nil}
use Rattle.std.proofs.lemmas.Result.{err_from_is_err_and}
use Rattle.zst_block.specs.Blocks.{Has, IsBlock}
use Rattle.zst_block.specs.IoStates.{blocks_of, disk_of}
use Rattle.zst_block.proofs.IoCallLemmas.{Looks-none, Looks-then}
use Rattle.zst_dir.specs.declared.rows.Dataset.{Dataset}
use Rattle.zst_roots.proofs.RowTurns.{holds_in_turn, in_turn, told_turn}
use Rattle.zst_space.specs.FreeSectors.{FreeSectors}
use Rattle.zst_tree.specs.Damage.{IsSeen}
use Rattle.zst_tree.proofs.LoadedNodes.{there_after}
use Rattle.zst_count.specs.CountedRows.{IsDamagedHead}
use Rattle.zst_count.specs.CountedSets.{AreMetInSet, AreReadInSet, DataStandInSet}
use Rattle.zst_count.specs.FirstSectors.{IsFirstInHead, IsFirstInSet}
use Rattle.zst_count.proofs.MetLaws.{AllMet-more, MetMore-none, MetMore-then}
use Rattle.zst_count.proofs.RowWalks.{all_turn, all_turns, only_turn, set_met, set_read, snapshots_more, snapshots_on, snapshots_read_on}
use Rattle.zst_count.proofs.rows.count_heads.Goals as goal

pub loop-row-init : goal.loop-row-init
loop-row-init g c = record {
  all = λ honest known. All-nil _;
  more = MetMore-none _;
  only = λ honest sector marked. inl marked;
  read = λ honest known. All-nil _;
  looks = Looks-none _;
}

pub loop-row-preserved : goal.loop-row-preserved
loop-row-preserved g c =
    let inv = c.loop-row.invariant in
    let step = c.in_ok-count_beside.ensures in
    let image = (disk_of c.args.io.now).seen in
    let now = (disk_of c.loop-row.io).seen in
    let rows = c.args.dir.now.datasets in
    let row = c.row-item.result in
    let i = c.loop-row.row-index in
    let mid = c.loop-row.met in
    let new = c.count_beside.new.met in
    let turn = in_turn c.datasets-row-items.result.now rows i row c.datasets-row-items.ensures.same c.loop-row-test.true c.row-item.is in
    let same = inv.looks.reads.seen in
    record {
      all = λ honest known.
          let was = step.looks.reads.honest honest in
          let beside = snapshots_more image c.args.met.now mid c.args.dir.now.snapshots inv.more known in
          all_turn rows (λ (r : Dataset). AreMetInSet image mid.end mid.marks r.head) (λ (r : Dataset). AreMetInSet image new.end new.marks r.head) i row turn
          (λ r met. AllMet-more mid new (IsFirstInSet (IsBlock image) r.head) step.more met) (inv.all was known)
          (set_met image now new.end new.marks row.head same (step.all honest (snapshots_on now image mid.end mid.marks c.args.dir.now.snapshots (sym same) beside)));
      more = MetMore-then _ _ _ inv.more step.more;
      only = λ honest sector marked.
          only_turn rows (λ (seen : List ℕ). IsFirstInHead (IsBlock seen)) image now i row sector c.args.met.now.end mid.end _ _ same inv.more.end_is turn (inv.only (step.looks.reads.honest honest) sector) (step.only honest sector marked);
      read = λ honest known.
          let was = step.looks.reads.honest honest in
          all_turn rows (λ (r : Dataset). AreReadInSet image r.head) (λ (r : Dataset). AreReadInSet image r.head) i row turn (λ r read. read) (inv.read was known)
          (set_read image now row.head same (step.read honest (snapshots_read_on now image c.args.dir.now.snapshots (sym same) known)));
      looks = Looks-then inv.looks step.looks;
    }

pub returns-in_err-count_beside-clause-only : goal.returns-in_err-count_beside-clause-only
returns-in_err-count_beside-clause-only g c = λ honest sector marked.
    let inv = c.loop-row.invariant in
    let step = c.in_err-count_beside.ensures in
    let rows = c.args.dir.now.datasets in
    let turn = in_turn c.datasets-row-items.result.now rows c.loop-row.row-index c.row-item.result c.datasets-row-items.ensures.same c.loop-row-test.true c.row-item.is in
    only_turn rows (λ (seen : List ℕ). IsFirstInHead (IsBlock seen)) _ _ c.loop-row.row-index c.row-item.result sector c.args.met.now.end c.loop-row.met.end _ _ inv.looks.reads.seen inv.more.end_is turn (inv.only (step.looks.reads.honest honest) sector) (step.only honest sector marked)

pub returns-in_err-count_beside-clause-more : goal.returns-in_err-count_beside-clause-more
returns-in_err-count_beside-clause-more g c = MetMore-then _ _ _ c.loop-row.invariant.more c.in_err-count_beside.ensures.more

pub returns-in_err-count_beside-clause-stands : goal.returns-in_err-count_beside-clause-stands
returns-in_err-count_beside-clause-stands g c = λ honest stand.
    let inv = c.loop-row.invariant in
    let step = c.in_err-count_beside.ensures in
    let rows = c.args.dir.now.datasets in
    let row = c.row-item.result in
    let turn = in_turn c.datasets-row-items.result.now rows c.loop-row.row-index row c.datasets-row-items.ensures.same c.loop-row-test.true c.row-item.is in
    let there = there_after inv.looks (λ (seen : List ℕ) (space : FreeSectors). DataStandInSet (Has seen space) row.head) (holds_in_turn (λ (r : Dataset). DataStandInSet (blocks_of c.args.io.now) r.head) rows c.loop-row.row-index row turn stand) in
    let p = err_from_is_err_and c.from_residual.result c.from_residual.ensures.1 in
    rw (p.1, p.2) (step.stands honest there)

pub returns-in_err-count_beside-clause-damaged : goal.returns-in_err-count_beside-clause-damaged
returns-in_err-count_beside-clause-damaged g c = λ honest.
    let inv = c.loop-row.invariant in
    let rows = c.args.dir.now.datasets in
    let turn = in_turn c.datasets-row-items.result.now rows c.loop-row.row-index c.row-item.result c.datasets-row-items.ensures.same c.loop-row-test.true c.row-item.is in
    let p = err_from_is_err_and c.from_residual.result c.from_residual.ensures.1 in
    rw (p.1, p.2) (told_turn (λ (seen : List ℕ) (size : ℕ). IsDamagedHead (IsSeen seen) size) _ _ _ _ rows c.loop-row.row-index c.row-item.result c.in_err-count_beside.field-0.0 inv.looks.reads.seen inv.looks.reads.size turn (c.in_err-count_beside.ensures.damaged honest))

pub returns-in_err-count_beside-clause-looks : goal.returns-in_err-count_beside-clause-looks
returns-in_err-count_beside-clause-looks g c =
    let p = err_from_is_err_and c.from_residual.result c.from_residual.ensures.1 in
    rw (p.1, p.2) (Looks-then c.loop-row.invariant.looks c.in_err-count_beside.ensures.looks)

pub returns-clause-all : goal.returns-clause-all
returns-clause-all g c = λ honest known.
    all_turns c.args.dir.now.datasets (λ (r : Dataset). AreMetInSet (disk_of c.args.io.now).seen c.loop-row.met.end c.loop-row.met.marks r.head) c.datasets-row-items.result.now c.loop-row.row-index c.datasets-row-items.ensures.same c.loop-row-test.false (c.loop-row.invariant.all honest known)

pub returns-clause-read : goal.returns-clause-read
returns-clause-read g c = λ honest known.
    all_turns c.args.dir.now.datasets (λ (r : Dataset). AreReadInSet (disk_of c.args.io.now).seen r.head) c.datasets-row-items.result.now c.loop-row.row-index c.datasets-row-items.ensures.same c.loop-row-test.false (c.loop-row.invariant.read honest known)
