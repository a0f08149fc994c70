use Rattle.std.proofs.Common.{inl, ℕ, List, [], None, get_or, refl, arith}
use Rattle.std.proofs.lemmas.List.{get_or_default}
use Rattle.std.proofs.lemmas.List.Elements.{All-nil}
use Rattle.zst_marks.proofs.MoreMarks.{MarksMore-none, MarksMore-then}
use Rattle.zst_roots.specs.Held.{IsOfBlock}
use Rattle.zst_roots.proofs.RowTurns.{in_turn, marked_all, marked_turn, only_turn}
use Rattle.zst_roots.proofs.held.mark_blocks.Goals as goal

pub loop-block-init : goal.loop-block-init
loop-block-init c = record {
  all = All-nil _;
  more = MarksMore-none _;
  room = c.requires.room;
  only = λ sector marked. inl marked;
}

pub loop-block-preserved : goal.loop-block-preserved
loop-block-preserved c =
    let inv = c.loop-block.invariant in
    let step = c.mark_named.ensures in
    let rows = c.args.blocks.now in
    let i = c.loop-block.block-index in
    let block = get_or rows i None in
    let turn = in_turn rows rows i block refl c.loop-block-test.true (get_or_default rows i None block c.loop-block-test.true) in
    record {
      all = marked_turn (λ (seen : List ℕ). IsOfBlock) [] rows [] c.args.end _ _ i block refl turn step.more inv.all step.all;
      more = MarksMore-then _ _ _ inv.more step.more;
      room = omega (arith, inv.room, step.more.room);
      only = λ sector marked. only_turn (λ (seen : List ℕ). IsOfBlock) [] rows [] i block sector _ _ refl turn (inv.only sector) (step.only sector marked);
    }

pub returns-clause-all : goal.returns-clause-all
returns-clause-all c = marked_all (λ (seen : List ℕ). IsOfBlock) [] c.args.blocks.now c.args.end _ c.loop-block.block-index (omega (arith, c.loop-block-test.false)) c.loop-block.invariant.all
