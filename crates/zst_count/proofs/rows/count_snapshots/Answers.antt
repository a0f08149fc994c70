use Rattle.std.proofs.Common.{◌≡◌, ◌<◌, ◌∙◌, inl, ℕ, List, Bool, false, true, length, get_or, sym, ap, subst, arith}
use Rattle.std.specs.List.{All}
use Rattle.std.proofs.lemmas.List.{get_or_default, length-replicate, length-set}
use Rattle.std.proofs.lemmas.List.Elements.{All-nil}
use Rattle.std.proofs.lemmas.Result.{err_from_is_err_and}
use Rattle.zst_block.specs.Blocks.{Has, IsBlock}
use Rattle.zst_block.specs.IoStates.{blocks_of, disk_of}
use Rattle.zst_block.proofs.IoCallLemmas.{Looks-none, Looks-then}
use Rattle.zst_dir.specs.declared.rows.Snapshot.{Snapshot}
use Rattle.zst_space.specs.FreeSectors.{FreeSectors}
use Rattle.zst_tree.specs.Damage.{IsSeen}
use Rattle.zst_tree.proofs.LoadedNodes.{there_after}
use Rattle.zst_roots.specs.WalkedRows.{IsOfWalked}
use Rattle.zst_roots.proofs.RowTurns.{holds_in_turn, in_turn, told_turn}
use Rattle.zst_roots.proofs.WalkedSnapshots.{turn_inside, turns_more}
use Rattle.zst_count.specs.CountedRows.{IsDamagedSnapshot}
use Rattle.zst_count.specs.CountedSets.{AreMetInSet, AreReadInSet, DataStandInSet}
use Rattle.zst_count.specs.FirstSectors.{IsFirstInSet, IsFirstInSnapshot}
use Rattle.zst_count.proofs.MetLaws.{AllMet-more, MetMore-none, MetMore-then}
use Rattle.zst_count.proofs.RowWalks.{none_walked, only_turn, set_met, set_read, walked_all, walked_met, walked_more, walked_read}
use Rattle.zst_count.proofs.rows.count_snapshots.Goals as goal

pub loop-turn-init : goal.loop-turn-init
loop-turn-init g c =
    let is = c.in_ok-walked.ensures.items_if_clones_equal (λ y same. same) in
    let image = (disk_of c.args.io.now).seen in
    let met = c.args.met.now in
    record {
      long = ap length is ∙ length-replicate _ false;
      walked = λ honest. none_walked (λ (row : Snapshot). AreMetInSet image met.end met.marks row.objects) _ _ _ is;
      read = λ honest. none_walked (λ (row : Snapshot). AreReadInSet image row.objects) _ _ _ is;
      flags = All-nil _;
      more = MetMore-none _;
      only = λ honest sector marked. inl marked;
      looks = Looks-none _;
    }

pub loop-turn-preserved : goal.loop-turn-preserved
loop-turn-preserved g c =
    let inv = c.loop-turn.invariant in
    let step = c.in_ok-count_set.ensures in
    let image = (disk_of c.args.io.now).seen in
    let now = (disk_of c.loop-turn.io).seen in
    let rows = c.snapshots-rows.result.now in
    let items = c.as_slice-turn-items.result.now in
    let i = c.loop-turn.turn-index in
    let place = (get_or items i (0, 0)).1 in
    let inside : place < length rows = turn_inside (length rows) c.in_ok-turns.turns.items items i c.as_slice-turn-items.ensures.value c.loop-turn-test.true c.in_ok-turns.ensures.inside in
    let row = get_or rows place c.index-rows-place.result in
    let at : row ≡ get_or rows place row = get_or_default rows place c.index-rows-place.result row inside in
    let turn = in_turn rows c.args.dir.now.snapshots place row c.snapshots-rows.ensures inside at in
    let walked = c.loop-turn.walked.items in
    let same = inv.looks.reads.seen in
    let mid = c.loop-turn.met in
    let new = c.count_set.new.met in
    let known = c.walked_at-known.result in
    let one = subst (λ (flags : List Bool). IsOfWalked rows flags known) c.as_slice.ensures.value c.walked_at-known.ensures.one in
    record {
      long = length-set walked place true ∙ inv.long;
      walked = λ honest.
          let was = step.looks.reads.honest honest in
          let beside = walked_met image mid.end mid.marks rows walked known one (inv.walked was) in
          walked_more (λ (r : Snapshot). AreMetInSet image mid.end mid.marks r.objects) (λ (r : Snapshot). AreMetInSet image new.end new.marks r.objects) rows walked place row (inside, sym at)
          (λ r met. AllMet-more mid new (IsFirstInSet (IsBlock image) r.objects) step.more met) (inv.walked was) (set_met image now new.end new.marks row.objects same (step.all honest (set_met now image mid.end mid.marks known (sym same) beside)));
      read = λ honest.
          let was = step.looks.reads.honest honest in
          let beside = walked_read image rows walked known one (inv.read was) in
          walked_more (λ (r : Snapshot). AreReadInSet image r.objects) (λ (r : Snapshot). AreReadInSet image r.objects) rows walked place row (inside, sym at) (λ r read. read) (inv.read was)
          (set_read image now row.objects same (step.read honest (set_read now image known (sym same) beside)));
      flags = turns_more items walked i c.loop-turn-test.true (omega (arith, inside, inv.long)) inv.flags;
      more = MetMore-then _ _ _ inv.more step.more;
      only = λ honest sector marked.
          only_turn c.args.dir.now.snapshots (λ (seen : List ℕ). IsFirstInSnapshot (IsBlock seen)) image now place row sector c.args.met.now.end mid.end _ _ same inv.more.end_is turn (inv.only (step.looks.reads.honest honest) sector) (step.only honest sector marked);
      looks = Looks-then inv.looks step.looks;
    }

pub returns-clause-all : goal.returns-clause-all
returns-clause-all g c = λ honest.
    let inv = c.loop-turn.invariant in
    let image = (disk_of c.args.io.now).seen in
    let met = c.loop-turn.met in
    subst (All (λ (r : Snapshot). AreMetInSet image met.end met.marks r.objects)) c.snapshots-rows.ensures
    (walked_all (λ (r : Snapshot). AreMetInSet image met.end met.marks r.objects) c.snapshots-rows.result.now c.loop-turn.walked.items c.in_ok-turns.turns.items c.as_slice-turn-items.result.now c.loop-turn.turn-index
    c.as_slice-turn-items.ensures.value c.loop-turn-test.false (inv.walked honest) inv.flags c.in_ok-turns.ensures.each)

pub returns-clause-read : goal.returns-clause-read
returns-clause-read g c = λ honest.
    let inv = c.loop-turn.invariant in
    let image = (disk_of c.args.io.now).seen in
    subst (All (λ (r : Snapshot). AreReadInSet image r.objects)) c.snapshots-rows.ensures
    (walked_all (λ (r : Snapshot). AreReadInSet image r.objects) c.snapshots-rows.result.now c.loop-turn.walked.items c.in_ok-turns.turns.items c.as_slice-turn-items.result.now c.loop-turn.turn-index
    c.as_slice-turn-items.ensures.value c.loop-turn-test.false (inv.read honest) inv.flags c.in_ok-turns.ensures.each)

pub returns-in_err-count_set-clause-only : goal.returns-in_err-count_set-clause-only
returns-in_err-count_set-clause-only g c = λ honest sector marked.
    let inv = c.loop-turn.invariant in
    let step = c.in_err-count_set.ensures in
    let rows = c.snapshots-rows.result.now in
    let items = c.as_slice-turn-items.result.now in
    let i = c.loop-turn.turn-index in
    let place = (get_or items i (0, 0)).1 in
    let inside : place < length rows = turn_inside (length rows) c.in_ok-turns.turns.items items i c.as_slice-turn-items.ensures.value c.loop-turn-test.true c.in_ok-turns.ensures.inside in
    let row = get_or rows place c.index-rows-place.result in
    let at : row ≡ get_or rows place row = get_or_default rows place c.index-rows-place.result row inside in
    let turn = in_turn rows c.args.dir.now.snapshots place row c.snapshots-rows.ensures inside at in
    only_turn c.args.dir.now.snapshots (λ (seen : List ℕ). IsFirstInSnapshot (IsBlock seen)) _ _ place row sector c.args.met.now.end c.loop-turn.met.end _ _ inv.looks.reads.seen inv.more.end_is turn (inv.only (step.looks.reads.honest honest) sector) (step.only honest sector marked)

pub returns-in_err-count_set-clause-more : goal.returns-in_err-count_set-clause-more
returns-in_err-count_set-clause-more g c = MetMore-then _ _ _ c.loop-turn.invariant.more c.in_err-count_set.ensures.more

pub returns-in_err-count_set-clause-stands : goal.returns-in_err-count_set-clause-stands
returns-in_err-count_set-clause-stands g c = λ honest stand.
    let inv = c.loop-turn.invariant in
    let step = c.in_err-count_set.ensures in
    let rows = c.snapshots-rows.result.now in
    let items = c.as_slice-turn-items.result.now in
    let i = c.loop-turn.turn-index in
    let place = (get_or items i (0, 0)).1 in
    let inside : place < length rows = turn_inside (length rows) c.in_ok-turns.turns.items items i c.as_slice-turn-items.ensures.value c.loop-turn-test.true c.in_ok-turns.ensures.inside in
    let row = get_or rows place c.index-rows-place.result in
    let at : row ≡ get_or rows place row = get_or_default rows place c.index-rows-place.result row inside in
    let turn = in_turn rows c.args.dir.now.snapshots place row c.snapshots-rows.ensures inside at in
    let there = there_after inv.looks (λ (seen : List ℕ) (space : FreeSectors). DataStandInSet (Has seen space) row.objects) (holds_in_turn (λ (r : Snapshot). DataStandInSet (blocks_of c.args.io.now) r.objects) c.args.dir.now.snapshots place row turn stand) in
    let p = err_from_is_err_and c.from_residual-in_err-count_set.result c.from_residual-in_err-count_set.ensures.1 in
    rw (p.1, p.2) (step.stands honest there)

pub returns-in_err-count_set-clause-damaged : goal.returns-in_err-count_set-clause-damaged
returns-in_err-count_set-clause-damaged g c = λ honest.
    let inv = c.loop-turn.invariant in
    let step = c.in_err-count_set.ensures in
    let rows = c.snapshots-rows.result.now in
    let items = c.as_slice-turn-items.result.now in
    let i = c.loop-turn.turn-index in
    let place = (get_or items i (0, 0)).1 in
    let inside : place < length rows = turn_inside (length rows) c.in_ok-turns.turns.items items i c.as_slice-turn-items.ensures.value c.loop-turn-test.true c.in_ok-turns.ensures.inside in
    let row = get_or rows place c.index-rows-place.result in
    let at : row ≡ get_or rows place row = get_or_default rows place c.index-rows-place.result row inside in
    let turn = in_turn rows c.args.dir.now.snapshots place row c.snapshots-rows.ensures inside at in
    let p = err_from_is_err_and c.from_residual-in_err-count_set.result c.from_residual-in_err-count_set.ensures.1 in
    rw (p.1, p.2) (told_turn (λ (seen : List ℕ) (size : ℕ). IsDamagedSnapshot (IsSeen seen) size) _ _ _ _ c.args.dir.now.snapshots place row c.in_err-count_set.field-0.0 inv.looks.reads.seen inv.looks.reads.size turn (step.damaged honest))

pub returns-in_err-count_set-clause-looks : goal.returns-in_err-count_set-clause-looks
returns-in_err-count_set-clause-looks g c =
    let p = err_from_is_err_and c.from_residual-in_err-count_set.result c.from_residual-in_err-count_set.ensures.1 in
    rw (p.1, p.2) (Looks-then c.loop-turn.invariant.looks c.in_err-count_set.ensures.looks)
