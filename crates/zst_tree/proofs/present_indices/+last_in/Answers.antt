use Rattle.std.proofs.Common.{◌≡◌, ◌+◌, ◌-◌, true, refl, sym, ◌∙◌, arith}
use Rattle.std.proofs.lemmas.Result.{err_from_is_err_and}
use Rattle.zst_tree.specs.Indices.{span}
use Rattle.zst_tree.specs.Damage.{IsSeen, SumsUp}
use Rattle.zst_tree.specs.PathAnswer.{stands_throughout}
use Rattle.zst_tree.proofs.Damage.{alike_here, told_below, TellsNode-sums}
use Rattle.zst_tree.proofs.EmptyRanges.{at_present, last_leaf, last_under, some_present}
use Rattle.zst_tree.proofs.LoadedNodes.{loaded_is}
use Rattle.zst_tree.proofs.QuietRanges.{here}
use Rattle.zst_tree.proofs.Results.{delivers_if}
use Rattle.zst_tree.proofs.Span.{span-pos}
use Rattle.zst_tree.proofs.StepLooks.{AtMost-more, AtMost-none, AtMost-then}
use Rattle.zst_tree.proofs.present_indices.+last_in.Goals as goal

pub overflow_sub-result : goal.overflow_sub-result
overflow_sub-result g t c = omega (arith, c.span_of.ensures, span-pos c.args.level)

pub returns-then-stands_throughout-clause-last : goal.returns-then-stands_throughout-clause-last
returns-then-stands_throughout-clause-last g t c = λ map honest present stands.
    let throughout : stands_throughout c.args.level c.args.ptr ≡ true = sym c.stands_throughout.ensures.same ∙ c.if-stands_throughout.true in
    let some = span-pos c.args.level in
    rw c.span_of.ensures
    (last_leaf map c.args.level c.args.base (c.args.base + (span c.args.level - 1)) (omega arith)
    (at_present map (c.args.base + (span c.args.level - 1)) c.args.ptr (here _ map c.args.level c.args.ptr c.args.base (span c.args.level - 1) throughout (omega arith) stands) present))

pub returns-then-stands_throughout-clause-range : goal.returns-then-stands_throughout-clause-range
returns-then-stands_throughout-clause-range g t c = (omega arith, omega (arith, c.span_of.ensures, span-pos c.args.level))

pub returns-in_err-load_node-clause-last : goal.returns-in_err-load_node-clause-last
returns-in_err-load_node-clause-last g t c = λ map honest present stands.
    let inner = c.stands_throughout.ensures.inner c.if-stands_throughout.false in
    let p = err_from_is_err_and c.from_residual.result c.from_residual.ensures.1 in
    rw (p.1, p.2) (c.in_err-load_node.ensures.parts c.args.base map inner.0 inner.1 honest stands)

pub returns-in-None-clause-last : goal.returns-in-None-clause-last
returns-in-None-clause-last g t c = λ map honest present stands.
    let inner = c.stands_throughout.ensures.inner c.if-stands_throughout.false in
    let loaded = loaded_is _ c.args.level c.args.ptr c.args.base map c.load_node.new.io.node inner.0 inner.1 (λ bytes node. c.in_ok-load_node.ensures.there bytes honest node) stands in
    absurd (some_present c.args.ptr c.load_node.new.io.node loaded.node.kind_is present c.in-None.ensures)

pub returns-in-Some-clause-last : goal.returns-in-Some-clause-last
returns-in-Some-clause-last g t c = λ map honest present stands.
    let inner = c.stands_throughout.ensures.inner c.if-stands_throughout.false in
    let was_honest = c.last_in.ensures.looks.looks.reads.honest honest in
    let parts = c.in_ok-load_node.ensures.parts c.args.base map inner.0 inner.1 was_honest stands in
    delivers_if _ _ c.last_in.result
    (λ found last. last_under map _ c.args.level c.args.base c.in-Some.k found c.load_node.new.io.node inner.0 c.in-Some.ensures.0 parts c.in-Some.ensures.2 (rw c.start_of-start.ensures.value at last))
    (c.last_in.ensures.last map honest (rw c.child_at-child.ensures.child c.in-Some.ensures.1) (rw (c.child_at-child.ensures.child, c.start_of-start.ensures.value) (parts.below c.in-Some.k c.in-Some.ensures.0)))

pub returns-in_err-load_node-clause-damaged : goal.returns-in_err-load_node-clause-damaged
returns-in_err-load_node-clause-damaged g t c = λ present honest.
    let inner = c.stands_throughout.ensures.inner c.if-stands_throughout.false in
    let p = err_from_is_err_and c.from_residual.result c.from_residual.ensures.1 in
    rw (p.1, p.2) (TellsNode-sums _ _ _ _ _ (c.in_err-load_node.ensures.names inner.0 inner.1 honest))

pub returns-in-None-clause-damaged : goal.returns-in-None-clause-damaged
returns-in-None-clause-damaged g t c = λ present honest.
    let inner = c.stands_throughout.ensures.inner c.if-stands_throughout.false in
    rw c.of_layout.ensures (alike_here _ _ _ c.args.level c.args.ptr inner.0 inner.1
    (λ sums. some_present c.args.ptr c.load_node.new.io.node (sums.kind_is c.load_node.new.io.node (record { image = (g.D.Disk.state c.args.io.now.disk.now).seen; among = refl; block = c.in_ok-load_node.ensures.block honest })) present c.in-None.ensures))

pub returns-in-Some-clause-damaged : goal.returns-in-Some-clause-damaged
returns-in-Some-clause-damaged g t c = λ present honest.
    let inner = c.stands_throughout.ensures.inner c.if-stands_throughout.false in
    told_below c.in_ok-load_node.ensures.looks.looks (λ seen. SumsUp (IsSeen seen)) c.args.level c.args.ptr c.load_node.new.io.node c.in-Some.k inner.0 inner.1
    (c.in_ok-load_node.ensures.block (c.last_in.ensures.looks.looks.reads.honest honest)) c.in-Some.ensures.0 c.last_in.result
    (rw c.child_at-child.ensures.child at (c.last_in.ensures.damaged (rw c.child_at-child.ensures.child c.in-Some.ensures.1) honest))

pub returns-then-stands_throughout-clause-damaged : goal.returns-then-stands_throughout-clause-damaged
returns-then-stands_throughout-clause-damaged g t c = λ present honest. tt

pub returns-then-stands_throughout-clause-looks : goal.returns-then-stands_throughout-clause-looks
returns-then-stands_throughout-clause-looks g t c = AtMost-none _

pub returns-in_err-load_node-clause-range : goal.returns-in_err-load_node-clause-range
returns-in_err-load_node-clause-range g t c =
    let p = err_from_is_err_and c.from_residual.result c.from_residual.ensures.1 in
    rw p.1 tt

pub returns-in_err-load_node-clause-looks : goal.returns-in_err-load_node-clause-looks
returns-in_err-load_node-clause-looks g t c =
    let p = err_from_is_err_and c.from_residual.result c.from_residual.ensures.1 in
    rw (p.1, p.2) (AtMost-more (omega (arith, (c.stands_throughout.ensures.inner c.if-stands_throughout.false).0)) c.in_err-load_node.ensures.looks)

pub returns-in-None-clause-range : goal.returns-in-None-clause-range
returns-in-None-clause-range g t c = tt

pub returns-in-Some-clause-looks : goal.returns-in-Some-clause-looks
returns-in-Some-clause-looks g t c = AtMost-then (omega (arith, (c.stands_throughout.ensures.inner c.if-stands_throughout.false).0)) c.in_ok-load_node.ensures.looks c.last_in.ensures.looks
