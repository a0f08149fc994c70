use Rattle.std.proofs.Common.{inl, ℕ, List, length, sym, ap, subst, arith}
use Rattle.std.proofs.lemmas.List.Elements.{All-nil}
use Rattle.std.proofs.lemmas.Result.{err_from_is_err_and}
use Rattle.zst_block.specs.Blocks.{Has, IsBlock}
use Rattle.zst_block.specs.IoStates.{blocks_of, disk_of}
use Rattle.zst_block.proofs.IoCallLemmas.{Looks-none, Looks-then}
use Rattle.zst_marks.proofs.MoreMarks.{MarksMore-none, MarksMore-then}
use Rattle.zst_model.specs.sends.Inclusion.{no_pairs}
use Rattle.zst_reach.specs.ReachedSets.{ReachesInSet}
use Rattle.zst_space.specs.FreeSectors.{FreeSectors}
use Rattle.zst_tree.specs.Damage.{IsSeen}
use Rattle.zst_tree.proofs.LoadedNodes.{there_after}
use Rattle.zst_roots.specs.RowDamage.{IsDamagedIn}
use Rattle.zst_roots.specs.StandingRows.{HoldsSome}
use Rattle.zst_roots.proofs.RowTurns.{holds_in_turn, in_turn, known_more, marked_all, marked_turn, only_turn, reached_is, set_is, set_on, told_is, told_turn}
use Rattle.zst_roots.proofs.set_rows.mark_sets.Goals as goal

pub loop-row-init : goal.loop-row-init
loop-row-init g c = record {
  all = λ honest known. All-nil _;
  more = MarksMore-none _;
  room = c.requires.room;
  only = λ honest sector marked. inl marked;
  looks = Looks-none _;
}

pub loop-row-preserved : goal.loop-row-preserved
loop-row-preserved g c =
    let inv = c.loop-row.invariant in
    let step = c.in_ok-mark_set.ensures in
    let image = (disk_of c.args.io.now).seen in
    let reaches = λ (seen : List ℕ) (r : g.row.R.Denot). ReachesInSet (IsBlock seen) (g.R.SetRow.set r) in
    let rows = g.R.SetRow.rows c.args.dir.now in
    let row = c.row-item.result in
    let i = c.loop-row.row-index in
    let turn = in_turn c.rows-row-items.result.now rows i row c.rows-row-items.ensures c.loop-row-test.true c.row-item.is in
    let same = inv.looks.reads.seen in
    record {
      all = λ honest known.
          let was = step.looks.reads.honest honest in
          let beside = c.objects_at-known.ensures.marked image c.loop-row.marks c.args.end (known_more image c.args.end _ _ c.args.dir.now.snapshots _ c.snapshots.ensures inv.more known) in
          marked_turn reaches image rows _ c.args.end _ _ i row same turn step.more (inv.all was known) (set_is _ c.args.end _ _ _ c.set.ensures (step.all honest (set_on image _ c.args.end _ c.objects_at-known.result same beside)));
      more = MarksMore-then _ _ _ inv.more step.more;
      room = omega (arith, inv.room, step.more.room);
      only = λ honest sector marked. only_turn reaches image rows _ i row sector _ _ same turn (inv.only (step.looks.reads.honest honest) sector) (reached_is _ _ _ sector _ c.set.ensures (step.only honest sector marked));
      looks = Looks-then inv.looks step.looks;
    }

pub returns-in_err-mark_set-clause-only : goal.returns-in_err-mark_set-clause-only
returns-in_err-mark_set-clause-only g c = λ honest sector marked.
    let inv = c.loop-row.invariant in
    let step = c.in_err-mark_set.ensures in
    let rows = g.R.SetRow.rows c.args.dir.now in
    let turn = in_turn c.rows-row-items.result.now rows c.loop-row.row-index c.row-item.result c.rows-row-items.ensures c.loop-row-test.true c.row-item.is in
    only_turn (λ (seen : List ℕ) (r : g.row.R.Denot). ReachesInSet (IsBlock seen) (g.R.SetRow.set r)) _ rows _ c.loop-row.row-index c.row-item.result sector _ _ inv.looks.reads.seen turn (inv.only (step.looks.reads.honest honest) sector) (reached_is _ _ _ sector _ c.set.ensures (step.only honest sector marked))

pub returns-in_err-mark_set-clause-more : goal.returns-in_err-mark_set-clause-more
returns-in_err-mark_set-clause-more g c = MarksMore-then _ _ _ c.loop-row.invariant.more c.in_err-mark_set.ensures.more

pub returns-in_err-mark_set-clause-stands : goal.returns-in_err-mark_set-clause-stands
returns-in_err-mark_set-clause-stands g c = λ honest stand.
    let inv = c.loop-row.invariant in
    let step = c.in_err-mark_set.ensures in
    let rows = g.R.SetRow.rows c.args.dir.now in
    let row = c.row-item.result in
    let turn = in_turn c.rows-row-items.result.now rows c.loop-row.row-index row c.rows-row-items.ensures c.loop-row-test.true c.row-item.is in
    let there = there_after inv.looks (λ (seen : List ℕ) (space : FreeSectors). HoldsSome (Has seen space) c.set.result.now) (subst (HoldsSome (blocks_of c.args.io.now)) (sym c.set.ensures) (holds_in_turn (λ (r : g.row.R.Denot). HoldsSome (blocks_of c.args.io.now) (g.R.SetRow.set r)) rows c.loop-row.row-index row turn stand)) in
    let p = err_from_is_err_and c.from_residual.result c.from_residual.ensures.1 in
    rw (p.1, p.2) (step.there no_pairs there.0 honest there.1)

pub returns-in_err-mark_set-clause-damaged : goal.returns-in_err-mark_set-clause-damaged
returns-in_err-mark_set-clause-damaged g c = λ honest.
    let inv = c.loop-row.invariant in
    let rows = g.R.SetRow.rows c.args.dir.now in
    let turn = in_turn c.rows-row-items.result.now rows c.loop-row.row-index c.row-item.result c.rows-row-items.ensures c.loop-row-test.true c.row-item.is in
    let p = err_from_is_err_and c.from_residual.result c.from_residual.ensures.1 in
    rw (p.1, p.2) (told_turn (λ (seen : List ℕ) (size : ℕ) (r : g.row.R.Denot). IsDamagedIn (IsSeen seen) size (g.R.SetRow.set r)) _ _ _ _ rows c.loop-row.row-index c.row-item.result c.in_err-mark_set.field-0.0 inv.looks.reads.seen inv.looks.reads.size turn (told_is _ _ _ _ c.in_err-mark_set.field-0.0 c.set.ensures (c.in_err-mark_set.ensures.damaged honest)))

pub returns-in_err-mark_set-clause-looks : goal.returns-in_err-mark_set-clause-looks
returns-in_err-mark_set-clause-looks g c =
    let p = err_from_is_err_and c.from_residual.result c.from_residual.ensures.1 in
    rw (p.1, p.2) (Looks-then c.loop-row.invariant.looks c.in_err-mark_set.ensures.looks)

pub returns-clause-all : goal.returns-clause-all
returns-clause-all g c = λ honest known.
    marked_all (λ (seen : List ℕ) (r : g.row.R.Denot). ReachesInSet (IsBlock seen) (g.R.SetRow.set r)) _ (g.R.SetRow.rows c.args.dir.now) c.args.end _ c.loop-row.row-index (omega (arith, c.loop-row-test.false, ap length c.rows-row-items.ensures)) (c.loop-row.invariant.all honest known)
