use Rattle.std.proofs.Common.{rules, ◌≡◌, ◌+◌, ◌-◌, ◌*◌, inl, inr, [], length, List, ℕ, refl, sym, ◌∙◌, ap, arith}
use Rattle.std.proofs.lemmas.List.{append-nil}
use Rattle.std.proofs.lemmas.Result.{err_from_is_err_and}
use Rattle.zst_tree.proofs.StepLooks.{AtMost-more, AtMost-none, AtMost-then}
use Rattle.zst_space.specs.FreeSectors.{FreeSectors}
use Rattle.zst_tree.specs.Indices.{child}
use Rattle.zst_leaves.specs.Leaves.{bytes_below, part, part_length}
use Rattle.zst_tree.proofs.SubtreeCases.{kept_looks}
use Rattle.zst_leaves.proofs.BlockCounts.{before_more, blocks_before, blocks_bottom, blocks_over, first_blocks}
use Rattle.zst_leaves.proofs.GatheredTexts.{gathered_all, gathered_next, gathered_none}
use Rattle.zst_leaves.proofs.DamageLemmas.{TellsPtr-more, alike_told, told_below, told_here}
use Rattle.zst_leaves.proofs.LevelCounts.{leaf_room}
use Rattle.zst_leaves.proofs.LeavesLaws.{LeavesBelow-grows, hole_below, hole_of_none, over_of}
use Rattle.zst_leaves.proofs.LeavesRead.{block_fault}
use Rattle.zst_leaves.proofs.TextParts.{front_more, length-part}
use Rattle.zst_tree.proofs.Span.{span-over}
use Rattle.zst_leaves.proofs.reads.+read_below.Goals as goal

pub returns-then-eq-clause-only : goal.returns-then-eq-clause-only
returns-then-eq-clause-only g t c = λ honest.
    let same : c.args.ptr ≡ c.hole.result = search rules in
    record { text = []; long_is = omega arith; new_is = sym (append-nil c.args.text.now.items); below = hole_below _ c.args.level c.args.ptr [] refl (same ∙ c.hole.ensures) }

pub returns-else-eq-clause-there : goal.returns-else-eq-clause-there
returns-else-eq-clause-there g t c = λ leaves honest below long.
    let hole : c.args.ptr ≡ c.hole.result = hole_of_none _ c.args.level c.args.ptr leaves (omega arith) below ∙ sym c.hole.ensures in
    let other : c.args.ptr ≡ c.hole.result → ⊥ = search rules in
    absurd (other hole)

pub read_leaf-requires-clause-room : goal.read_leaf-requires-clause-room
read_leaf-requires-clause-room g t c = leaf_room c.args.level c.args.count (omega arith) c.requires.room

pub returns-in_err-load_named-clause-there : goal.returns-in_err-load_named-clause-there
returns-in_err-load_named-clause-there g t c = λ leaves honest below long.
    let all = over_of _ c.args.level c.args.ptr leaves (omega arith) (omega arith) below in
    let p = err_from_is_err_and c.from_residual.result c.from_residual.ensures.1 in
    rw (p.1, p.2) (block_fault all.node c.load_named.new.io.node c.in_err-load_named.field-0.0 (c.in_err-load_named.ensures.there all.node honest all.over.kind_is all.over.level_is all.over.there all.over.long))

pub loop-k-init : goal.loop-k-init
loop-k-init g t c = record {
  only = λ honest. gathered_none _ (c.args.level - 1) c.replace-node.result c.args.count c.args.text.now.items;
  long = omega arith;
  looks = AtMost-none _;
}

pub returns-in_err-read_below-clause-there : goal.returns-in_err-read_below-clause-there
returns-in_err-read_below-clause-there g t c = λ leaves honest below long.
    let was_honest = c.loop-k.invariant.looks.looks.reads.honest (c.in_err-read_below.ensures.looks.looks.reads.honest honest) in
    let all = over_of _ c.args.level c.args.ptr leaves (omega arith) (omega arith) below in
    let same : c.replace-node.result ≡ all.node = c.replace-node.ensures.value ∙ c.in_ok-load_named.ensures.there all.node was_honest all.over.kind_is all.over.level_is all.over.there all.over.long in
    let here : c.child_at-child.result ≡ child all.node c.loop-k.k = c.child_at-child.ensures.child ∙ ap (λ (node : List ℕ). child node c.loop-k.k) same in
    let loaded = kept_looks c.in_ok-load_named.ensures.looks.looks in
    let kept = kept_looks c.loop-k.invariant.looks.looks in
    let piece = part (bytes_below (c.args.level - 1)) leaves c.loop-k.k in
    let stands = LeavesBelow-grows _ _ kept (c.args.level - 1) (child all.node c.loop-k.k) piece (LeavesBelow-grows _ _ loaded (c.args.level - 1) (child all.node c.loop-k.k) piece (all.parts c.loop-k.k (omega arith))) in
    let size : length piece ≡ c.length_of.result = length-part (bytes_below (c.args.level - 1)) leaves c.loop-k.k ∙ ap (λ (n : ℕ). part_length (bytes_below (c.args.level - 1)) n c.loop-k.k) long ∙ sym c.length_of.ensures in
    let p = err_from_is_err_and c.from_residual-in_err-read_below.result c.from_residual-in_err-read_below.ensures.1 in
    rw (p.1, p.2) (c.in_err-read_below.ensures.there piece honest (rw here stands) size)

pub loop-k-preserved : goal.loop-k-preserved
loop-k-preserved g t c =
    let more = before_more (c.args.level - 1) c.args.count c.loop-k.k in
    record {
      only = λ honest.
          gathered_next _ _ _ _ (c.args.level - 1) c.replace-node.result c.args.count c.loop-k.k c.child_at-child.result c.length_of.result _ _ _ (ap (λ (space : FreeSectors). space.end) c.loop-k.invariant.looks.looks.space) c.loop-k.invariant.looks.looks.reads.seen c.child_at-child.ensures.child c.length_of.ensures
          (c.loop-k.invariant.only (c.in_ok-read_below.ensures.looks.looks.reads.honest honest)) (c.in_ok-read_below.ensures.only honest);
      long = omega (arith, c.in_ok-read_below.ensures.long, c.length_of.ensures, c.loop-k.invariant.long, front_more (bytes_below (c.args.level - 1)) c.args.count c.loop-k.k);
      looks = AtMost-then (omega (arith, more)) c.loop-k.invariant.looks (rw c.length_of.ensures at c.in_ok-read_below.ensures.looks);
    }

pub returns-clause-only : goal.returns-clause-only
returns-clause-only g t c = λ honest.
    let loaded = c.in_ok-load_named.ensures in
    gathered_all _ _ _ _ c.args.level c.args.ptr c.replace-node.result c.load_named.new.io.node c.args.count c.loop-k.k c.args.text.now.items c.loop-k.text.items (omega arith) (omega arith) c.requires.room (ap (λ (space : FreeSectors). space.end) loaded.looks.looks.space) loaded.looks.looks.reads.seen c.replace-node.ensures.value (omega arith)
    (loaded.block (c.loop-k.invariant.looks.looks.reads.honest honest)) loaded.long loaded.kind loaded.level (c.loop-k.invariant.only honest)

pub returns-clause-long : goal.returns-clause-long
returns-clause-long g t c =
    let whole : c.loop-k.k * bytes_below (c.args.level - 1) ≡ 128 * bytes_below (c.args.level - 1) = ap (λ (k : ℕ). k * bytes_below (c.args.level - 1)) (omega arith) in
    omega (arith, whole, c.loop-k.invariant.long, span-over c.args.level (omega arith), c.requires.room)

pub returns-else-eq-clause-damaged : goal.returns-else-eq-clause-damaged
returns-else-eq-clause-damaged g t c = λ honest.
    let other : c.args.ptr ≡ c.hole.result → ⊥ = search rules in
    told_here _ _ _ c.args.level c.args.ptr c.args.count c.of_layout.result (alike_told _ _ _ c.args.ptr c.of_layout.result c.of_layout.ensures (inl (omega arith, λ hole. other (hole ∙ sym c.hole.ensures))))

pub returns-in_err-load_named-clause-damaged : goal.returns-in_err-load_named-clause-damaged
returns-in_err-load_named-clause-damaged g t c = λ honest.
    let p = err_from_is_err_and c.from_residual.result c.from_residual.ensures.1 in
    rw (p.1, p.2) (told_here _ _ _ c.args.level c.args.ptr c.args.count c.in_err-load_named.field-0.0
    (TellsPtr-more _ _ _ _ _ (λ other. inr (inr (omega arith, omega arith, other))) _ (c.in_err-load_named.ensures.damaged honest)))

pub returns-in_err-read_below-clause-damaged : goal.returns-in_err-read_below-clause-damaged
returns-in_err-read_below-clause-damaged g t c = λ honest.
    let loaded = c.in_ok-load_named.ensures in
    let before = c.loop-k.invariant.looks.looks.reads in
    let end_is = ap (λ (space : FreeSectors). space.end) (c.loop-k.invariant.looks.looks.space ∙ loaded.looks.looks.space) in
    let block = rw (← c.replace-node.ensures.value) at (loaded.block (before.honest (c.in_err-read_below.ensures.looks.looks.reads.honest honest))).0 in
    let p = err_from_is_err_and c.from_residual-in_err-read_below.result c.from_residual-in_err-read_below.ensures.1 in
    rw (p.1, p.2) (told_below _ _ _ _ _ _ c.args.level c.args.ptr c.replace-node.result c.loop-k.k c.child_at-child.result c.args.count c.length_of.result c.in_err-read_below.field-0.0 (omega arith) end_is
    (before.seen ∙ loaded.looks.looks.reads.seen) (before.size ∙ loaded.looks.looks.reads.size) c.child_at-child.ensures.child c.length_of.ensures block (omega arith) (c.in_err-read_below.ensures.damaged honest))

pub returns-then-level-eq0-clause-looks : goal.returns-then-level-eq0-clause-looks
returns-then-level-eq0-clause-looks g t c = AtMost-more (omega (arith, blocks_bottom c.args.level c.args.count (omega arith) (omega arith))) c.read_leaf.ensures.looks

pub returns-in_err-load_named-clause-looks : goal.returns-in_err-load_named-clause-looks
returns-in_err-load_named-clause-looks g t c =
    let p = err_from_is_err_and c.from_residual.result c.from_residual.ensures.1 in
    rw (p.1, p.2) (AtMost-more (omega (arith, blocks_over c.args.level c.args.count (omega arith) (omega arith))) c.in_err-load_named.ensures.looks)

pub returns-in_err-read_below-clause-looks : goal.returns-in_err-read_below-clause-looks
returns-in_err-read_below-clause-looks g t c =
    let more = before_more (c.args.level - 1) c.args.count c.loop-k.k in
    let all = first_blocks (c.args.level - 1) c.args.count (c.loop-k.k + 1) (omega arith) in
    let so_far = AtMost-then {most = 1 + blocks_before (c.args.level - 1) c.args.count c.loop-k.k} (omega arith) c.in_ok-load_named.ensures.looks c.loop-k.invariant.looks in
    let p = err_from_is_err_and c.from_residual-in_err-read_below.result c.from_residual-in_err-read_below.ensures.1 in
    rw (p.1, p.2) (AtMost-then (omega (arith, more, all, blocks_over c.args.level c.args.count (omega arith) (omega arith))) so_far (rw c.length_of.ensures at c.in_err-read_below.ensures.looks))

pub returns-clause-looks : goal.returns-clause-looks
returns-clause-looks g t c =
    let whole : c.loop-k.k ≡ 128 = omega arith in
    let first : blocks_before (c.args.level - 1) c.args.count c.loop-k.k ≡ blocks_before (c.args.level - 1) c.args.count 128 = ap (blocks_before (c.args.level - 1) c.args.count) whole in
    AtMost-then (omega (arith, first, blocks_over c.args.level c.args.count (omega arith) (omega arith))) c.in_ok-load_named.ensures.looks c.loop-k.invariant.looks
