use Rattle.std.proofs.Common.{rules, ◌≡◌, ◌∙◌, ◌+◌, ◌-◌, length, sym, ap, arith}
use Rattle.std.proofs.lemmas.Result.{IfOk-weaker, err_from_is_err_and}
use Rattle.zst_leaves.specs.Leaves.{blocks_for, bytes_below}
use Rattle.zst_tree.proofs.SubtreeCases.{kept_works}
use Rattle.zst_leaves.proofs.BlockCounts.{before_none, blocks_before, blocks_bottom, blocks_none, blocks_over, first_blocks, next_blocks}
use Rattle.zst_leaves.proofs.LevelCounts.{leaf_room}
use Rattle.zst_leaves.proofs.LeavesLaws.{LeavesBelow-grows, IsOver-grows, child_more, hole_below, laid_before, laid_kept, leaf_below, over_below}
use Rattle.zst_leaves.proofs.WrittenBlocks.{WritesBlocks-gives, WritesBlocks-none, WritesBlocks-refused, WritesBlocks-same, WritesBlocks-then}
use Rattle.zst_leaves.proofs.writes.+write_below.Goals as goal

pub returns-then-is_empty-clause-below : goal.returns-then-is_empty-clause-below
returns-then-is_empty-clause-below g t c = hole_below _ c.args.level c.hole.result c.args.bytes.now (search rules) c.hole.ensures

pub write_leaf-requires : goal.write_leaf-requires
write_leaf-requires g t c = record { room = leaf_room c.args.level (length c.args.bytes.now) (omega arith) c.requires.room }

pub returns-then-level-eq0-clause-below : goal.returns-then-level-eq0-clause-below
returns-then-level-eq0-clause-below g t c = IfOk-weaker c.write_leaf.result _ _ (λ ptr leaf. leaf_below _ c.args.level ptr c.args.bytes.now (omega arith) (search rules) leaf) c.write_leaf.ensures.leaf

pub returns-clause-below : goal.returns-clause-below
returns-clause-below g t c =
    IfOk-weaker c.save_over.result _ _
    (λ ptr over. over_below _ c.args.level ptr c.args.bytes.now c.loop-k.node (omega arith) (search rules) (IsOver-grows _ _ (laid_before c.args.number c.args.io.now.space c.loop-k.io.space _ c.loop-k.invariant.written.works.fills.fewer) c.args.level ptr c.loop-k.node over)
    (λ k less. LeavesBelow-grows _ _ (laid_kept c.args.number c.args.io.now.space _ _ _ _ (kept_works c.save_over.ensures.written.works)) _ _ _ (c.loop-k.invariant.children k (omega arith)))) c.save_over.ensures.over

pub returns-then-is_empty-clause-written : goal.returns-then-is_empty-clause-written
returns-then-is_empty-clause-written g t c =
    let none : length c.args.bytes.now ≡ 0 = search rules in
    WritesBlocks-none _ c.hole.result (ap (blocks_for c.args.level) none ∙ blocks_none c.args.level)

pub returns-then-level-eq0-clause-written : goal.returns-then-level-eq0-clause-written
returns-then-level-eq0-clause-written g t c = WritesBlocks-same c.write_leaf.result (sym (blocks_bottom c.args.level (length c.args.bytes.now) (omega arith) (search rules))) c.write_leaf.ensures.written

pub loop-k-init : goal.loop-k-init
loop-k-init g t c = record {
  children = λ j none. absurd (omega arith);
  written = WritesBlocks-none _ (tt {0}) (before_none (c.args.level - 1) (length c.args.bytes.now));
}

pub loop-k-preserved : goal.loop-k-preserved
loop-k-preserved g t c =
    let more = next_blocks (c.args.level - 1) c.loop-k.k c.args.bytes.now c.part_of.result.now c.part_of.ensures.part in
    record {
      children = child_more _ _ (laid_kept c.args.number c.args.io.now.space _ _ _ _ (kept_works c.in_ok-child.ensures.written.works)) (c.args.level - 1) (bytes_below (c.args.level - 1)) c.args.bytes.now c.loop-k.node c.put_child.new.node c.loop-k.k c.in_ok-child.child
          (omega arith) c.put_child.ensures.puts c.loop-k.invariant.children
          (LeavesBelow-grows _ _ (laid_before c.args.number c.args.io.now.space c.loop-k.io.space _ c.loop-k.invariant.written.works.fills.fewer) _ _ _ (rw c.part_of.ensures.part at c.in_ok-child.ensures.below));
      written = WritesBlocks-gives _ (tt {0}) (WritesBlocks-then (tt {0}) _ more c.loop-k.invariant.written c.in_ok-child.ensures.written);
    }

pub returns-in_err-child-clause-written : goal.returns-in_err-child-clause-written
returns-in_err-child-clause-written g t c =
    let more = next_blocks (c.args.level - 1) c.loop-k.k c.args.bytes.now c.part_of.result.now c.part_of.ensures.part in
    let first = first_blocks (c.args.level - 1) (length c.args.bytes.now) (c.loop-k.k + 1) (omega arith) in
    let all = blocks_over c.args.level (length c.args.bytes.now) (omega arith) (search rules) in
    let p = err_from_is_err_and c.from_residual.result c.from_residual.ensures.1 in
    rw (p.1, p.2) (WritesBlocks-refused _ (omega (arith, first, all)) (WritesBlocks-then (tt {0}) _ more c.loop-k.invariant.written c.in_err-child.ensures.written))

pub returns-clause-written : goal.returns-clause-written
returns-clause-written g t c =
    let whole : c.loop-k.k ≡ 128 = omega arith in
    let first : blocks_before (c.args.level - 1) (length c.args.bytes.now) c.loop-k.k ≡ blocks_before (c.args.level - 1) (length c.args.bytes.now) 128 = ap (blocks_before (c.args.level - 1) (length c.args.bytes.now)) whole in
    let all = blocks_over c.args.level (length c.args.bytes.now) (omega arith) (search rules) in
    WritesBlocks-then (tt {0}) c.save_over.result (omega (arith, all, first)) c.loop-k.invariant.written c.save_over.ensures.written
