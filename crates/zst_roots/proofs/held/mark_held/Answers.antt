use Rattle.std.proofs.Common.{inl, ℕ, List, get_or, refl, arith}
use Rattle.std.proofs.lemmas.List.{get_or_default}
use Rattle.std.proofs.lemmas.List.Elements.{All-nil}
use Rattle.std.proofs.lemmas.Result.{err_from_is_err_and}
use Rattle.zst_block.specs.Blocks.{Has, IsBlock}
use Rattle.zst_block.specs.IoStates.{blocks_of, disk_of}
use Rattle.zst_block.proofs.IoCallLemmas.{Looks-none, Looks-then}
use Rattle.zst_marks.proofs.MoreMarks.{MarksMore-none, MarksMore-then}
use Rattle.zst_space.specs.FreeSectors.{FreeSectors}
use Rattle.zst_tree.specs.Damage.{IsSeen}
use Rattle.zst_tree.proofs.LoadedNodes.{there_after}
use Rattle.zst_roots.specs.Held.{IsHeldBy}
use Rattle.zst_roots.specs.RowDamage.{IsDamagedHeld}
use Rattle.zst_roots.specs.StandingRows.{HeldStands}
use Rattle.zst_roots.proofs.HeldMarks.{nothing_held, snapshots_on}
use Rattle.zst_roots.proofs.RowTurns.{holds_in_turn, in_turn, marked_all, marked_turn, only_turn, told_turn}
use Rattle.zst_roots.proofs.held.mark_held.Goals as goal

pub loop-one-init : goal.loop-one-init
loop-one-init g c = record {
  all = λ honest known. All-nil _;
  more = MarksMore-none _;
  room = c.requires.room;
  only = λ honest sector marked. inl marked;
  looks = Looks-none _;
}

pub loop-one-preserved : goal.loop-one-preserved
loop-one-preserved g c =
    let inv = c.loop-one.invariant in
    let step = c.in_ok-mark_one.ensures in
    let image = (disk_of c.args.io.now).seen in
    let reaches = λ (seen : List ℕ). IsHeldBy (IsBlock seen) in
    let rows = c.args.held.now in
    let i = c.loop-one.one-index in
    let one = get_or rows i nothing_held in
    let turn = in_turn rows rows i one refl c.loop-one-test.true (get_or_default rows i nothing_held one c.loop-one-test.true) in
    let same = inv.looks.reads.seen in
    record {
      all = λ honest known.
          let was = step.looks.reads.honest honest in
          marked_turn reaches image rows _ c.args.end _ _ i one same turn step.more (inv.all was known) (step.all honest (snapshots_on image _ c.args.end _ _ c.args.dir.now.snapshots same inv.more known));
      more = MarksMore-then _ _ _ inv.more step.more;
      room = omega (arith, inv.room, step.more.room);
      only = λ honest sector marked. only_turn reaches image rows _ i one sector _ _ same turn (inv.only (step.looks.reads.honest honest) sector) (step.only honest sector marked);
      looks = Looks-then inv.looks step.looks;
    }

pub returns-in_err-mark_one-clause-only : goal.returns-in_err-mark_one-clause-only
returns-in_err-mark_one-clause-only g c = λ honest sector marked.
    let inv = c.loop-one.invariant in
    let step = c.in_err-mark_one.ensures in
    let rows = c.args.held.now in
    let i = c.loop-one.one-index in
    let one = get_or rows i nothing_held in
    let turn = in_turn rows rows i one refl c.loop-one-test.true (get_or_default rows i nothing_held one c.loop-one-test.true) in
    only_turn (λ (seen : List ℕ). IsHeldBy (IsBlock seen)) _ rows _ i one sector _ _ inv.looks.reads.seen turn (inv.only (step.looks.reads.honest honest) sector) (step.only honest sector marked)

pub returns-in_err-mark_one-clause-more : goal.returns-in_err-mark_one-clause-more
returns-in_err-mark_one-clause-more g c = MarksMore-then _ _ _ c.loop-one.invariant.more c.in_err-mark_one.ensures.more

pub returns-in_err-mark_one-clause-stands : goal.returns-in_err-mark_one-clause-stands
returns-in_err-mark_one-clause-stands g c = λ honest stand.
    let inv = c.loop-one.invariant in
    let step = c.in_err-mark_one.ensures in
    let rows = c.args.held.now in
    let i = c.loop-one.one-index in
    let one = get_or rows i nothing_held in
    let turn = in_turn rows rows i one refl c.loop-one-test.true (get_or_default rows i nothing_held one c.loop-one-test.true) in
    let there = there_after inv.looks (λ (seen : List ℕ) (space : FreeSectors). HeldStands (Has seen space) one) (holds_in_turn (HeldStands (blocks_of c.args.io.now)) rows i one turn stand) in
    let p = err_from_is_err_and c.from_residual.result c.from_residual.ensures.1 in
    rw (p.1, p.2) (step.stands honest there)

pub returns-in_err-mark_one-clause-damaged : goal.returns-in_err-mark_one-clause-damaged
returns-in_err-mark_one-clause-damaged g c = λ honest.
    let inv = c.loop-one.invariant in
    let rows = c.args.held.now in
    let i = c.loop-one.one-index in
    let one = get_or rows i nothing_held in
    let turn = in_turn rows rows i one refl c.loop-one-test.true (get_or_default rows i nothing_held one c.loop-one-test.true) in
    let p = err_from_is_err_and c.from_residual.result c.from_residual.ensures.1 in
    rw (p.1, p.2) (told_turn (λ (seen : List ℕ) (size : ℕ). IsDamagedHeld (IsSeen seen) size) _ _ _ _ rows i one c.in_err-mark_one.field-0.0 inv.looks.reads.seen inv.looks.reads.size turn (c.in_err-mark_one.ensures.damaged honest))

pub returns-in_err-mark_one-clause-looks : goal.returns-in_err-mark_one-clause-looks
returns-in_err-mark_one-clause-looks g c =
    let p = err_from_is_err_and c.from_residual.result c.from_residual.ensures.1 in
    rw (p.1, p.2) (Looks-then c.loop-one.invariant.looks c.in_err-mark_one.ensures.looks)

pub returns-clause-all : goal.returns-clause-all
returns-clause-all g c = λ honest known.
    marked_all (λ (seen : List ℕ). IsHeldBy (IsBlock seen)) _ c.args.held.now c.args.end _ c.loop-one.one-index (omega (arith, c.loop-one-test.false)) (c.loop-one.invariant.all honest known)
