use Rattle.std.proofs.Common.{◌≡◌, true, refl, sym, ◌∙◌, arith}
use Rattle.std.proofs.lemmas.Result.{err_from_is_err_and}
use Rattle.zst_tree.specs.Damage.{IsSeen, SumsUp}
use Rattle.zst_tree.specs.PathAnswer.{stands_throughout}
use Rattle.zst_tree.proofs.Damage.{alike_here, told_below, TellsNode-sums}
use Rattle.zst_tree.proofs.LoadedNodes.{loaded_is}
use Rattle.zst_tree.proofs.QuietRanges.{first_here, first_child, here, some_late}
use Rattle.zst_tree.proofs.Results.{delivers_if}
use Rattle.zst_tree.proofs.Span.{span-pos}
use Rattle.zst_tree.proofs.StepLooks.{InSteps-more, InSteps-none, InSteps-then}
use Rattle.zst_tree.proofs.late_indices.+first_in.Goals as goal

pub returns-then-stands_throughout-clause-first : goal.returns-then-stands_throughout-clause-first
returns-then-stands_throughout-clause-first g t c = λ map honest late stands.
    let throughout : stands_throughout c.args.level c.args.ptr ≡ true = sym c.stands_throughout.ensures.same ∙ c.if-stands_throughout.true in
    first_here map c.args.number c.args.level c.args.ptr c.args.base (here _ map c.args.level c.args.ptr c.args.base 0 throughout (span-pos c.args.level) stands) late

pub returns-then-stands_throughout-clause-range : goal.returns-then-stands_throughout-clause-range
returns-then-stands_throughout-clause-range g t c = (omega arith, omega (arith, span-pos c.args.level))

pub returns-in_err-load_counted-clause-first : goal.returns-in_err-load_counted-clause-first
returns-in_err-load_counted-clause-first g t c = λ map honest late stands.
    let inner = c.stands_throughout.ensures.inner c.if-stands_throughout.false in
    let p = err_from_is_err_and c.from_residual.result c.from_residual.ensures.1 in
    rw (p.1, p.2) (c.in_err-load_counted.ensures.parts c.args.base map inner.0 inner.1 honest stands)

pub returns-in-None-clause-first : goal.returns-in-None-clause-first
returns-in-None-clause-first g t c = λ map honest late stands.
    let inner = c.stands_throughout.ensures.inner c.if-stands_throughout.false in
    let loaded = loaded_is _ c.args.level c.args.ptr c.args.base map c.load_counted.new.io.node inner.0 inner.1 (λ bytes node. c.in_ok-load_counted.ensures.there bytes honest node) stands in
    absurd (some_late c.args.number c.args.ptr c.load_counted.new.io.node loaded.node.number_is late c.in-None.ensures)

pub returns-in-Some-clause-first : goal.returns-in-Some-clause-first
returns-in-Some-clause-first g t c = λ map honest late stands.
    let inner = c.stands_throughout.ensures.inner c.if-stands_throughout.false in
    let was_honest = c.first_in.ensures.looks.by_steps.looks.reads.honest honest in
    let parts = c.in_ok-load_counted.ensures.parts c.args.base map inner.0 inner.1 was_honest stands in
    delivers_if _ _ c.first_in.result
    (λ found first. first_child map c.args.number _ c.args.level c.args.base c.in-Some.k found c.load_counted.new.io.node inner.0 c.in-Some.ensures.1 parts c.in-Some.ensures.3 (rw c.start_of-start.ensures.value at first))
    (c.first_in.ensures.first map honest (rw c.child_at-child.ensures.child c.in-Some.ensures.2) (rw (c.child_at-child.ensures.child, c.start_of-start.ensures.value) (parts.below c.in-Some.k c.in-Some.ensures.1)))

pub returns-in_err-load_counted-clause-damaged : goal.returns-in_err-load_counted-clause-damaged
returns-in_err-load_counted-clause-damaged g t c = λ late honest.
    let inner = c.stands_throughout.ensures.inner c.if-stands_throughout.false in
    let p = err_from_is_err_and c.from_residual.result c.from_residual.ensures.1 in
    rw (p.1, p.2) (TellsNode-sums _ _ _ _ _ (c.in_err-load_counted.ensures.names inner.0 inner.1 honest))

pub returns-in-None-clause-damaged : goal.returns-in-None-clause-damaged
returns-in-None-clause-damaged g t c = λ late honest.
    let inner = c.stands_throughout.ensures.inner c.if-stands_throughout.false in
    rw c.of_layout.ensures (alike_here _ _ _ c.args.level c.args.ptr inner.0 inner.1
    (λ sums. some_late c.args.number c.args.ptr c.load_counted.new.io.node (sums.number_is c.load_counted.new.io.node (record { image = (g.D.Disk.state c.args.io.now.disk.now).seen; among = refl; block = c.in_ok-load_counted.ensures.block honest })) late c.in-None.ensures))

pub returns-in-Some-clause-damaged : goal.returns-in-Some-clause-damaged
returns-in-Some-clause-damaged g t c = λ late honest.
    let inner = c.stands_throughout.ensures.inner c.if-stands_throughout.false in
    told_below c.in_ok-load_counted.ensures.looks.by_steps.looks (λ seen. SumsUp (IsSeen seen)) c.args.level c.args.ptr c.load_counted.new.io.node c.in-Some.k inner.0 inner.1
    (c.in_ok-load_counted.ensures.block (c.first_in.ensures.looks.by_steps.looks.reads.honest honest)) c.in-Some.ensures.1 c.first_in.result
    (rw c.child_at-child.ensures.child at (c.first_in.ensures.damaged (rw c.child_at-child.ensures.child c.in-Some.ensures.2) honest))

pub returns-then-stands_throughout-clause-damaged : goal.returns-then-stands_throughout-clause-damaged
returns-then-stands_throughout-clause-damaged g t c = λ later honest. tt

pub returns-then-stands_throughout-clause-looks : goal.returns-then-stands_throughout-clause-looks
returns-then-stands_throughout-clause-looks g t c = InSteps-none _ _

pub returns-in_err-load_counted-clause-range : goal.returns-in_err-load_counted-clause-range
returns-in_err-load_counted-clause-range g t c =
    let p = err_from_is_err_and c.from_residual.result c.from_residual.ensures.1 in
    rw p.1 tt

pub returns-in_err-load_counted-clause-looks : goal.returns-in_err-load_counted-clause-looks
returns-in_err-load_counted-clause-looks g t c =
    let p = err_from_is_err_and c.from_residual.result c.from_residual.ensures.1 in
    rw (p.1, p.2) (InSteps-more (omega (arith, (c.stands_throughout.ensures.inner c.if-stands_throughout.false).0)) c.in_err-load_counted.ensures.looks)

pub returns-in-None-clause-range : goal.returns-in-None-clause-range
returns-in-None-clause-range g t c = tt

pub returns-in-Some-clause-looks : goal.returns-in-Some-clause-looks
returns-in-Some-clause-looks g t c = InSteps-then (omega (arith, (c.stands_throughout.ensures.inner c.if-stands_throughout.false).0)) c.in_ok-load_counted.ensures.looks c.first_in.ensures.looks
