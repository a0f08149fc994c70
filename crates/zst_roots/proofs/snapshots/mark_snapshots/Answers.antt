use Rattle.std.proofs.Common.{◌≡◌, ◌<◌, ◌∙◌, inl, ℕ, List, false, true, length, get_or, sym, ap, subst, arith}
use Rattle.std.proofs.lemmas.List.{get_or_default, length-replicate, length-set}
use Rattle.std.proofs.lemmas.List.Elements.{All-nil}
use Rattle.std.proofs.lemmas.Result.{err_from_is_err_and}
use Rattle.zst_block.specs.Blocks.{Has, IsBlock}
use Rattle.zst_block.specs.IoStates.{blocks_of, disk_of}
use Rattle.zst_block.proofs.IoCallLemmas.{Looks-none, Looks-then}
use Rattle.zst_dir.specs.declared.rows.Snapshot.{Snapshot}
use Rattle.zst_marks.proofs.MoreMarks.{MarksMore-none, MarksMore-then}
use Rattle.zst_model.specs.sends.Inclusion.{no_pairs}
use Rattle.zst_space.specs.FreeSectors.{FreeSectors}
use Rattle.zst_tree.specs.Damage.{IsSeen}
use Rattle.zst_tree.proofs.LoadedNodes.{there_after}
use Rattle.zst_roots.specs.ReachedRows.{AreMarkedForSnapshots, SnapshotReaches}
use Rattle.zst_roots.specs.RowDamage.{IsDamagedSnapshot}
use Rattle.zst_roots.specs.StandingRows.{SnapshotStands}
use Rattle.zst_roots.proofs.RowTurns.{holds_in_turn, in_turn, only_turn, set_on, told_turn}
use Rattle.zst_roots.proofs.WalkedSnapshots.{none_walked, turn_inside, turns_more, walked_all, walked_more, walked_on}
use Rattle.zst_roots.proofs.snapshots.mark_snapshots.Goals as goal

pub loop-turn-init : goal.loop-turn-init
loop-turn-init g c =
    let is = c.in_ok-walked.ensures.items_if_clones_equal (λ y same. same) in
    record {
      long = ap length is ∙ length-replicate _ false;
      walked = λ honest. none_walked _ c.args.end _ c.snapshots-rows.result.now _ _ is;
      flags = All-nil _;
      more = MarksMore-none _;
      room = c.requires.room;
      only = λ honest sector marked. inl marked;
      looks = Looks-none _;
    }

pub loop-turn-preserved : goal.loop-turn-preserved
loop-turn-preserved g c =
    let inv = c.loop-turn.invariant in
    let step = c.in_ok-mark_set.ensures in
    let image = (disk_of c.args.io.now).seen in
    let rows = c.snapshots-rows.result.now in
    let items = c.as_slice-turn-items.result.now in
    let i = c.loop-turn.turn-index in
    let place = (get_or items i (0, 0)).1 in
    let inside : place < length rows = turn_inside (length rows) c.in_ok-turns.turns.items items i c.as_slice-turn-items.ensures.value c.loop-turn-test.true c.in_ok-turns.ensures.inside in
    let row = get_or rows place c.index-rows-place.result in
    let at : row ≡ get_or rows place row = get_or_default rows place c.index-rows-place.result row inside in
    let turn = in_turn rows c.args.dir.now.snapshots place row c.snapshots-rows.ensures inside at in
    let walked = c.loop-turn.walked.items in
    let same = inv.looks.reads.seen in
    record {
      long = length-set walked place true ∙ inv.long;
      walked = λ honest.
          let was = step.looks.reads.honest honest in
          let known = c.walked_at-known.ensures.marked _ c.loop-turn.marks c.args.end (walked_on image _ c.args.end _ rows walked _ same c.as_slice.ensures.value (inv.walked was)) in
          walked_more image c.args.end _ _ rows walked place row (inside, sym at) step.more (inv.walked was) (set_on _ image c.args.end _ row.objects (sym same) (step.all honest known));
      flags = turns_more items walked i c.loop-turn-test.true (omega (arith, inside, inv.long)) inv.flags;
      more = MarksMore-then _ _ _ inv.more step.more;
      room = omega (arith, inv.room, step.more.room);
      only = λ honest sector marked.
          only_turn (λ (seen : List ℕ). SnapshotReaches (IsBlock seen)) image c.args.dir.now.snapshots _ place row sector _ _ same turn (inv.only (step.looks.reads.honest honest) sector) (step.only honest sector marked);
      looks = Looks-then inv.looks step.looks;
    }

pub returns-clause-all : goal.returns-clause-all
returns-clause-all g c = λ honest.
    let inv = c.loop-turn.invariant in
    let image = (disk_of c.args.io.now).seen in
    subst (λ (list : List Snapshot). AreMarkedForSnapshots image c.args.end c.loop-turn.marks list) c.snapshots-rows.ensures
    (walked_all image c.args.end _ c.snapshots-rows.result.now c.loop-turn.walked.items c.in_ok-turns.turns.items c.as_slice-turn-items.result.now c.loop-turn.turn-index
    c.as_slice-turn-items.ensures.value c.loop-turn-test.false (inv.walked honest) inv.flags c.in_ok-turns.ensures.each)

pub returns-in_err-mark_set-clause-only : goal.returns-in_err-mark_set-clause-only
returns-in_err-mark_set-clause-only g c = λ honest sector marked.
    let inv = c.loop-turn.invariant in
    let step = c.in_err-mark_set.ensures in
    let image = (disk_of c.args.io.now).seen in
    let rows = c.snapshots-rows.result.now in
    let items = c.as_slice-turn-items.result.now in
    let i = c.loop-turn.turn-index in
    let place = (get_or items i (0, 0)).1 in
    let inside : place < length rows = turn_inside (length rows) c.in_ok-turns.turns.items items i c.as_slice-turn-items.ensures.value c.loop-turn-test.true c.in_ok-turns.ensures.inside in
    let row = get_or rows place c.index-rows-place.result in
    let at : row ≡ get_or rows place row = get_or_default rows place c.index-rows-place.result row inside in
    let turn = in_turn rows c.args.dir.now.snapshots place row c.snapshots-rows.ensures inside at in
    only_turn (λ (seen : List ℕ). SnapshotReaches (IsBlock seen)) image c.args.dir.now.snapshots _ place row sector _ _ inv.looks.reads.seen turn (inv.only (step.looks.reads.honest honest) sector) (step.only honest sector marked)

pub returns-in_err-mark_set-clause-more : goal.returns-in_err-mark_set-clause-more
returns-in_err-mark_set-clause-more g c = MarksMore-then _ _ _ c.loop-turn.invariant.more c.in_err-mark_set.ensures.more

pub returns-in_err-mark_set-clause-stands : goal.returns-in_err-mark_set-clause-stands
returns-in_err-mark_set-clause-stands g c = λ honest stand.
    let inv = c.loop-turn.invariant in
    let step = c.in_err-mark_set.ensures in
    let image = (disk_of c.args.io.now).seen in
    let rows = c.snapshots-rows.result.now in
    let items = c.as_slice-turn-items.result.now in
    let i = c.loop-turn.turn-index in
    let place = (get_or items i (0, 0)).1 in
    let inside : place < length rows = turn_inside (length rows) c.in_ok-turns.turns.items items i c.as_slice-turn-items.ensures.value c.loop-turn-test.true c.in_ok-turns.ensures.inside in
    let row = get_or rows place c.index-rows-place.result in
    let at : row ≡ get_or rows place row = get_or_default rows place c.index-rows-place.result row inside in
    let turn = in_turn rows c.args.dir.now.snapshots place row c.snapshots-rows.ensures inside at in
    let there = there_after inv.looks (λ (seen : List ℕ) (space : FreeSectors). SnapshotStands (Has seen space) row) (holds_in_turn (SnapshotStands (blocks_of c.args.io.now)) c.args.dir.now.snapshots place row turn stand) in
    let p = err_from_is_err_and c.from_residual-in_err-mark_set.result c.from_residual-in_err-mark_set.ensures.1 in
    rw (p.1, p.2) (step.there no_pairs there.0 honest there.1)

pub returns-in_err-mark_set-clause-damaged : goal.returns-in_err-mark_set-clause-damaged
returns-in_err-mark_set-clause-damaged g c = λ honest.
    let inv = c.loop-turn.invariant in
    let step = c.in_err-mark_set.ensures in
    let image = (disk_of c.args.io.now).seen in
    let rows = c.snapshots-rows.result.now in
    let items = c.as_slice-turn-items.result.now in
    let i = c.loop-turn.turn-index in
    let place = (get_or items i (0, 0)).1 in
    let inside : place < length rows = turn_inside (length rows) c.in_ok-turns.turns.items items i c.as_slice-turn-items.ensures.value c.loop-turn-test.true c.in_ok-turns.ensures.inside in
    let row = get_or rows place c.index-rows-place.result in
    let at : row ≡ get_or rows place row = get_or_default rows place c.index-rows-place.result row inside in
    let turn = in_turn rows c.args.dir.now.snapshots place row c.snapshots-rows.ensures inside at in
    let p = err_from_is_err_and c.from_residual-in_err-mark_set.result c.from_residual-in_err-mark_set.ensures.1 in
    rw (p.1, p.2) (told_turn (λ (seen : List ℕ) (size : ℕ). IsDamagedSnapshot (IsSeen seen) size) _ _ _ _ c.args.dir.now.snapshots place row c.in_err-mark_set.field-0.0 inv.looks.reads.seen inv.looks.reads.size turn (step.damaged honest))

pub returns-in_err-mark_set-clause-looks : goal.returns-in_err-mark_set-clause-looks
returns-in_err-mark_set-clause-looks g c =
    let p = err_from_is_err_and c.from_residual-in_err-mark_set.result c.from_residual-in_err-mark_set.ensures.1 in
    rw (p.1, p.2) (Looks-then c.loop-turn.invariant.looks c.in_err-mark_set.ensures.looks)
