use Rattle.std.proofs.lemmas.Result.{err_from_is_err_and}
use Rattle.std.proofs.Common.{◌+◌, ◌-◌, ◌∙◌, ap}
use Rattle.zst_block.proofs.IoCallLemmas.{Works-looks, Works-after}
use Rattle.zst_tree.proofs.IndicesLaws.{Subtree-grows}
use Rattle.zst_tree.proofs.Span.{span-over}
use Rattle.zst_tree.proofs.ChangedNodes.{one_parts}
use Rattle.zst_tree.proofs.BuiltSubtrees.{Parts-grows}
use Rattle.zst_tree.proofs.SubtreeCases.{kept_looks}
use Rattle.zst_tree.proofs.LaterDamage.{NamesDamage-never}
use Rattle.zst_block.specs.Blocks.{SparesTaken}
use Rattle.zst_block.proofs.BlocksLaws.{FillsFree-then}
use Rattle.zst_tree.specs.Indices.{child}
use Rattle.zst_tree.proofs.Results.{IfOk-both}
use Rattle.zst_tree.proofs.LaterDamage.{fills_looks, spares_before}
use Rattle.zst_tree.proofs.ChangedTrees.{IsSummedBelow-fewer, IsWithin-fewer, node_summed, node_within, one_summed, one_within, opened_summed, opened_within}
use Rattle.zst_tree.proofs.puts.mend_one.Goals as goal

pub returns-clause-mended : goal.returns-clause-mended
returns-clause-mended g c = λ base map put honest s made beside.
    let opened = c.in_ok-open.ensures in
    let kept = kept_looks opened.looks in
    c.close.ensures.whole base put
    (one_parts _ map put (c.args.level - 1) base _ (ap (λ n. base + n) (span-over c.args.level c.requires.inner)) _ _ c.args.child c.args.new c.put_child.ensures.puts
    (Parts-grows _ _ kept _ _ base map (opened.parts base map (c.close.ensures.works.fills.honest honest) s))
    (Subtree-grows _ _ kept _ _ _ put made) beside)

pub returns-clause-damaged : goal.returns-clause-damaged
returns-clause-damaged g c = λ honest. NamesDamage-never _ _ _ _ _ c.close.result c.close.ensures.never_damaged

pub returns-clause-works : goal.returns-clause-works
returns-clause-works g c = Works-after c.in_ok-open.ensures.looks c.close.ensures.works

pub returns-clause-within : goal.returns-clause-within
returns-clause-within g c = λ leaf image space honest up within.
    let opened = c.in_ok-open.ensures in
    let read = c.close.ensures.works.fills.honest honest in
    let fills = FillsFree-then _ _ _ _ _ _ (fills_looks opened.looks) c.close.ensures.works.fills in
    let down = spares_before _ _ _ _ fills in
    IfOk-both _ _ _ c.close.result
    (λ made wrote sums. node_within _ _ _ (g.met.D.Disk.seen_size c.close.new.io.disk.now ∙ fills.size) made _ wrote (SparesTaken space image) c.args.level c.args.ptr leaf c.args.level c.requires.inner sums
    (one_within _ _ _ _ _ _ _ _ _ c.args.child c.args.new c.put_child.ensures.puts
    (λ k under. opened_within (SparesTaken space image) _ _ up down _ c.args.level c.args.ptr leaf (c.args.level - 1) (child c.open.new.io.node k) (opened.below read k under) (opened.hangs read k under) (opened.sums read k under))
    (IsWithin-fewer _ _ _ _ _ _ _ down _ _ within)))
    c.close.ensures.wrote c.close.ensures.sums

pub returns-clause-sums : goal.returns-clause-sums
returns-clause-sums g c = λ image space honest up below.
    let opened = c.in_ok-open.ensures in
    let read = c.close.ensures.works.fills.honest honest in
    let fills = FillsFree-then _ _ _ _ _ _ (fills_looks opened.looks) c.close.ensures.works.fills in
    let down = spares_before _ _ _ _ fills in
    IfOk-both _ _ _ c.close.result
    (λ made wrote sums. node_summed _ _ _ (g.met.D.Disk.seen_size c.close.new.io.disk.now ∙ fills.size) made _ wrote (SparesTaken space image) c.args.level c.args.ptr c.args.level c.requires.inner sums
    (one_summed _ _ _ _ _ _ _ _ c.args.child c.args.new c.put_child.ensures.puts
    (λ k under. opened_summed (SparesTaken space image) _ _ up down _ c.args.level c.args.ptr (c.args.level - 1) (child c.open.new.io.node k) (opened.sums read k under))
    (IsSummedBelow-fewer _ _ _ _ _ _ down _ _ below)))
    c.close.ensures.wrote c.close.ensures.sums

pub returns-in_err-open-clause-damaged : goal.returns-in_err-open-clause-damaged
returns-in_err-open-clause-damaged g c = λ honest.
    let p = err_from_is_err_and c.from_residual.result c.from_residual.ensures.1 in
    rw (p.1, p.2) (c.in_err-open.ensures.damaged honest)

pub returns-in_err-open-clause-names : goal.returns-in_err-open-clause-names
returns-in_err-open-clause-names g c =
    let p = err_from_is_err_and c.from_residual.result c.from_residual.ensures.1 in
    rw p.1 tt

pub returns-in_err-open-clause-within : goal.returns-in_err-open-clause-within
returns-in_err-open-clause-within g c = λ leaf image space honest spares within.
    let p = err_from_is_err_and c.from_residual.result c.from_residual.ensures.1 in
    rw p.1 tt

pub returns-in_err-open-clause-works : goal.returns-in_err-open-clause-works
returns-in_err-open-clause-works g c =
    let p = err_from_is_err_and c.from_residual.result c.from_residual.ensures.1 in
    rw (p.1, p.2) (Works-looks c.in_err-open.ensures.looks)

pub returns-clause-names : goal.returns-clause-names
returns-clause-names g c = c.close.ensures.names

pub returns-in_err-open-clause-sums : goal.returns-in_err-open-clause-sums
returns-in_err-open-clause-sums g c = λ image space honest spares below.
    let p = err_from_is_err_and c.from_residual.result c.from_residual.ensures.1 in
    rw p.1 tt
