use Rattle.std.proofs.Common.{◌-◌, ◌<◌, ◌∙◌, inl, sym, arith}
use Rattle.std.proofs.lemmas.Result.{IfOk-weaker, err_from_is_err_and}
use Rattle.zst_block.proofs.BlocksLaws.{FillsFree-then}
use Rattle.zst_block.proofs.IoCallLemmas.{Works-after, Works-then, Works-more}
use Rattle.zst_tree.specs.Damage.{NamesNode}
use Rattle.zst_tree.specs.Leaves.{with_leaves}
use Rattle.zst_tree.proofs.IndicesLaws.{Subtree-grows}
use Rattle.zst_tree.proofs.SubtreeCases.{kept_looks, kept_works}
use Rattle.zst_tree.proofs.BuiltSubtrees.{Parts-grows, child_stands}
use Rattle.zst_tree.proofs.LaterDamage.{fills_looks, same_now, spares_before, told_after}
use Rattle.zst_tree.proofs.Results.{IfOk-both}
use Rattle.zst_tree.proofs.ChangedTrees.{IsSummedBelow-size, IsSummedBelow-stands, IsSummedBelow-then, node_summed, opened_summed}
use Rattle.zst_tree.proofs.LeafMaps.{beside, first_parts, part_at, part_ends}
use Rattle.zst_tree.proofs.leaf_puts.+put_leaves.Goals as goal

pub returns-then-level-eq1-clause-put : goal.returns-then-level-eq1-clause-put
returns-then-level-eq1-clause-put g t c = λ group base map honest at all s.
    let opened = c.in_ok-open.ensures in
    let kept = kept_looks opened.looks in
    c.close.ensures.whole base (with_leaves map c.args.leaves.now)
    (first_parts _ c.args.level c.args.part base group map (with_leaves map c.args.leaves.now) _ _ c.if-level-eq1.true c.requires.part at (c.put_each.ensures.parts _ _ group map all)
    (Parts-grows _ _ kept _ _ base map (opened.parts base map (c.close.ensures.works.fills.honest honest) s)))

pub returns-in_err-made-clause-put : goal.returns-in_err-made-clause-put
returns-in_err-made-clause-put g t c = λ group base map honest at all s.
    let place = c.place_of-place in
    let inner : 0 < c.args.level - 1 = omega (arith, c.if-level-eq1.false, c.requires.inner) in
    let parts = c.in_ok-open-2.ensures.parts base map (c.in_err-made.ensures.works.fills.honest honest) s in
    let low = child_stands _ map _ _ _ _ c.child_at-low.ensures.child (Subtree-grows _ _ (kept_looks c.in_ok-open-2.ensures.looks) _ _ _ map (parts.below place.result.child place.ensures.child)) in
    let p = err_from_is_err_and c.from_residual-in_err-made.result c.from_residual-in_err-made.ensures.1 in
    rw (p.1, p.2) (c.in_err-made.ensures.put group _ map honest (part_at c.args.level base c.args.part place.result.child place.result.rest group inner place.ensures.sum at) all low)

pub returns-clause-put : goal.returns-clause-put
returns-clause-put g t c = λ group base map honest at all s.
    let place = c.place_of-place in
    let inner : 0 < c.args.level - 1 = omega (arith, c.if-level-eq1.false, c.requires.inner) in
    let told = c.mend_one.ensures.works.fills.honest honest in
    let looked = kept_looks c.in_ok-open-2.ensures.looks in
    let worked = kept_works c.in_ok-made.ensures.works in
    let parts = c.in_ok-open-2.ensures.parts base map (c.in_ok-made.ensures.works.fills.honest told) s in
    let low = child_stands _ map _ _ _ _ c.child_at-low.ensures.child (Subtree-grows _ _ looked _ _ _ map (parts.below place.result.child place.ensures.child)) in
    let down = part_at c.args.level base c.args.part place.result.child place.result.rest group inner place.ensures.sum at in
    c.mend_one.ensures.mended base map (with_leaves map c.args.leaves.now) honest (Subtree-grows _ _ worked _ _ _ map (Subtree-grows _ _ looked _ _ _ map s))
    (c.in_ok-made.ensures.put group _ map told down all low)
    (beside group map c.args.leaves.now base _ _ _ all (omega (arith, down)) (part_ends c.args.level base place.result.child place.result.rest group inner place.ensures.rest down))

pub returns-clause-damaged : goal.returns-clause-damaged
returns-clause-damaged g t c = λ honest.
    let opened = fills_looks c.in_ok-open-2.ensures.looks in
    let filled = FillsFree-then _ _ _ _ _ _ opened c.in_ok-made.ensures.works.fills in
    told_after _ _ _ _ filled NamesNode c.args.level c.args.ptr c.args.level c.args.ptr (same_now _ _ _ _ filled NamesNode c.args.level c.args.ptr) c.mend_one.result (c.mend_one.ensures.damaged honest)

pub returns-then-level-eq1-clause-sums : goal.returns-then-level-eq1-clause-sums
returns-then-level-eq1-clause-sums g t c = λ honest.
    let fills = FillsFree-then _ _ _ _ _ _ (fills_looks c.in_ok-open.ensures.looks) c.close.ensures.works.fills in
    IfOk-both _ _ _ c.close.result
    (λ made wrote sums. node_summed _ _ _ (g.met.D.Disk.seen_size c.close.new.io.disk.now ∙ fills.size) made _ wrote _ c.args.level c.args.ptr c.args.level c.requires.inner sums
    (λ k under. IsSummedBelow-stands _ _ _ _ _ (c.args.level - 1) _ (inl (omega (arith, c.if-level-eq1.true)))))
    c.close.ensures.wrote c.close.ensures.sums

pub returns-clause-sums : goal.returns-clause-sums
returns-clause-sums g t c = λ honest.
    let place = c.place_of-place in
    let told = c.mend_one.ensures.works.fills.honest honest in
    let read = c.in_ok-made.ensures.works.fills.honest told in
    let opened = fills_looks c.in_ok-open-2.ensures.looks in
    let filled = FillsFree-then _ _ _ _ _ _ opened c.in_ok-made.ensures.works.fills in
    let low = opened_summed _ _ _ (λ image spares. spares) (spares_before _ _ _ _ opened) _ c.args.level c.args.ptr (c.args.level - 1) c.child_at-low.result
    (rw c.child_at-low.ensures.child (c.in_ok-open-2.ensures.sums read place.result.child place.ensures.child)) in
    let made = IsSummedBelow-then _ _ _ _ _ _ _ low _ _ _ (IsSummedBelow-size _ _ _ _ _ opened.size _ _ _ (c.in_ok-made.ensures.sums told)) in
    IfOk-weaker c.mend_one.result _ _ (λ done below. IsSummedBelow-size _ _ _ _ _ filled.size _ _ _ below)
    (c.mend_one.ensures.sums _ _ honest (spares_before _ _ _ _ filled) (IsSummedBelow-size _ _ _ _ _ (sym filled.size) _ _ _ made))

pub returns-clause-works : goal.returns-clause-works
returns-clause-works g t c =
    Works-more (omega (arith, c.requires.inner)) (Works-after c.in_ok-open-2.ensures.looks (Works-then c.in_ok-made.ensures.works c.mend_one.ensures.works))
