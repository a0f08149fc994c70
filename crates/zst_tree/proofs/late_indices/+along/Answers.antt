use Rattle.std.proofs.Common.{◌≡◌, List, ◌+◌, ◌-◌, ◌<◌, ℕ, true, refl, sym, ◌∙◌, arith}
use Rattle.std.proofs.lemmas.Result.{err_from_is_err_and}
use Rattle.zst_space.specs.FreeSectors.{FreeSectors}
use Rattle.zst_block.specs.Blocks.{Has}
use Rattle.zst_tree.specs.Indices.{span}
use Rattle.zst_tree.specs.Changes.{Parts}
use Rattle.zst_tree.specs.Damage.{IsSeen, SumsUp}
use Rattle.zst_tree.specs.declared.path_answer.Branch.{Branch}
use Rattle.zst_tree.specs.PathAnswer.{stands_throughout}
use Rattle.zst_tree.specs.LateIndices.{Quiet}
use Rattle.zst_tree.proofs.Damage.{fault_below, beside_below, IfThere-nearer, TellsNode-sums}
use Rattle.zst_tree.proofs.LoadedNodes.{there_after}
use Rattle.zst_tree.proofs.QuietRanges.{quiet_below, at_late, here, later_nearer}
use Rattle.zst_tree.proofs.StepLooks.{InSteps-more, InSteps-none, InSteps-then}
use Rattle.zst_tree.proofs.late_indices.+along.Goals as goal

pub returns-then-ptr-number-clause-reaches : goal.returns-then-ptr-number-clause-reaches
returns-then-ptr-number-clause-reaches g t c = λ map honest stands.
    let quiet : Quiet map c.args.base (c.args.base + span c.args.level) c.args.number = quiet_below map c.args.number _ c.args.level c.args.ptr c.args.base (omega arith) stands in
    record { early = λ i from below. quiet.early i (omega arith) below }

pub returns-then-stands_throughout-clause-reaches : goal.returns-then-stands_throughout-clause-reaches
returns-then-stands_throughout-clause-reaches g t c = λ map honest stands.
    let throughout : stands_throughout c.args.level c.args.ptr ≡ true = sym c.stands_throughout.ensures.same ∙ c.if-stands_throughout.true in
    (refl, omega arith, at_late map c.args.number (c.args.base + c.args.offset) c.args.ptr (here _ map c.args.level c.args.ptr c.args.base c.args.offset throughout c.requires.offset stands) (omega arith))

pub returns-in_err-load_counted-clause-reaches : goal.returns-in_err-load_counted-clause-reaches
returns-in_err-load_counted-clause-reaches g t c = λ map honest stands.
    let inner = c.stands_throughout.ensures.inner c.if-stands_throughout.false in
    let p = err_from_is_err_and c.from_residual.result c.from_residual.ensures.1 in
    rw (p.1, p.2) (c.in_err-load_counted.ensures.parts c.args.base map inner.0 inner.1 honest stands)

pub returns-in_err-reach-clause-reaches : goal.returns-in_err-reach-clause-reaches
returns-in_err-reach-clause-reaches g t c = λ map honest stands.
    let inner = c.stands_throughout.ensures.inner c.if-stands_throughout.false in
    let p = err_from_is_err_and c.from_residual-in_err-reach.result c.from_residual-in_err-reach.ensures.1 in
    rw (p.1, p.2) (c.in_err-reach.ensures.reaches map honest (rw (c.child_at-child.ensures.child, c.start_of-start.ensures.value)
    ((c.in_ok-load_counted.ensures.parts c.args.base map inner.0 inner.1 (c.in_err-reach.ensures.looks.by_steps.looks.reads.honest honest) stands).below c.place_of-place.result.child c.place_of-place.ensures.child)))

pub returns-clause-reaches : goal.returns-clause-reaches
returns-clause-reaches g t c = λ map honest stands.
    let inner = c.stands_throughout.ensures.inner c.if-stands_throughout.false in
    let was_honest = c.in_ok-reach.ensures.looks.by_steps.looks.reads.honest honest in
    let parts = c.in_ok-load_counted.ensures.parts c.args.base map inner.0 inner.1 was_honest stands in
    let now = Has (g.D.Disk.state c.along.new.io.disk.now).seen c.along.new.io.space in
    let later : Parts now (c.args.level - 1) c.load_counted.new.io.node c.args.base map = there_after c.in_ok-reach.ensures.looks.by_steps.looks (λ (seen : List ℕ) (s : FreeSectors). Parts (Has seen s) (c.args.level - 1) c.load_counted.new.io.node c.args.base map) parts in
    rw c.nearer.ensures
    (later_nearer map c.args.number now c.args.level c.args.base c.place_of-place.result.child c.place_of-place.result.rest c.args.offset c.start_of-start.result c.in_ok-reach.reach c.later_from-behind.result inner.0 c.place_of-place.ensures.child c.place_of-place.ensures.rest c.place_of-place.ensures.sum c.start_of-start.ensures.value
    (c.in_ok-reach.ensures.reaches map honest (rw (c.child_at-child.ensures.child, c.start_of-start.ensures.value) (parts.below c.place_of-place.result.child c.place_of-place.ensures.child)))
    (c.later_from-behind.ensures.later _ _ map later (omega arith)))

pub returns-in_err-load_counted-clause-damaged : goal.returns-in_err-load_counted-clause-damaged
returns-in_err-load_counted-clause-damaged g t c = λ honest.
    let inner = c.stands_throughout.ensures.inner c.if-stands_throughout.false in
    let p = err_from_is_err_and c.from_residual.result c.from_residual.ensures.1 in
    rw (p.1, p.2) (TellsNode-sums _ _ _ _ _ (c.in_err-load_counted.ensures.names inner.0 inner.1 honest))

pub returns-in_err-reach-clause-damaged : goal.returns-in_err-reach-clause-damaged
returns-in_err-reach-clause-damaged g t c = λ honest.
    let inner = c.stands_throughout.ensures.inner c.if-stands_throughout.false in
    let p = err_from_is_err_and c.from_residual-in_err-reach.result c.from_residual-in_err-reach.ensures.1 in
    rw (p.1, p.2) (fault_below c.in_ok-load_counted.ensures.looks.by_steps.looks (λ seen. SumsUp (IsSeen seen)) c.args.level c.args.ptr c.load_counted.new.io.node c.place_of-place.result.child inner.0 inner.1
    (c.in_ok-load_counted.ensures.block (c.in_err-reach.ensures.looks.by_steps.looks.reads.honest honest)) c.place_of-place.ensures.child _ (rw c.child_at-child.ensures.child at (c.in_err-reach.ensures.damaged honest)))

pub returns-clause-late : goal.returns-clause-late
returns-clause-late g t c = rw c.nearer.ensures (IfThere-nearer (λ (beside : Branch). c.args.number < beside.ptr.number) c.in_ok-reach.reach c.later_from-behind.result c.in_ok-reach.ensures.late c.later_from-behind.ensures.late)

pub returns-clause-below : goal.returns-clause-below
returns-clause-below g t c = λ honest.
    let inner = c.stands_throughout.ensures.inner c.if-stands_throughout.false in
    rw c.nearer.ensures (beside_below c.in_ok-load_counted.ensures.looks.by_steps.looks (λ seen. SumsUp (IsSeen seen)) c.args.level c.args.ptr c.load_counted.new.io.node c.place_of-place.result.child inner.0 inner.1
    (c.in_ok-load_counted.ensures.block (c.in_ok-reach.ensures.looks.by_steps.looks.reads.honest honest)) c.place_of-place.ensures.child c.in_ok-reach.reach c.later_from-behind.result
    (rw c.child_at-child.ensures.child at (c.in_ok-reach.ensures.below honest)) c.later_from-behind.ensures.hangs)

pub returns-then-ptr-number-clause-damaged : goal.returns-then-ptr-number-clause-damaged
returns-then-ptr-number-clause-damaged g t c = λ honest. tt

pub returns-then-ptr-number-clause-looks : goal.returns-then-ptr-number-clause-looks
returns-then-ptr-number-clause-looks g t c = InSteps-none _ _

pub returns-then-stands_throughout-clause-damaged : goal.returns-then-stands_throughout-clause-damaged
returns-then-stands_throughout-clause-damaged g t c = λ honest. tt

pub returns-then-stands_throughout-clause-looks : goal.returns-then-stands_throughout-clause-looks
returns-then-stands_throughout-clause-looks g t c = InSteps-none _ _

pub returns-then-ptr-number-clause-inside : goal.returns-then-ptr-number-clause-inside
returns-then-ptr-number-clause-inside g t c = tt

pub returns-then-ptr-number-clause-late : goal.returns-then-ptr-number-clause-late
returns-then-ptr-number-clause-late g t c = tt

pub returns-then-ptr-number-clause-below : goal.returns-then-ptr-number-clause-below
returns-then-ptr-number-clause-below g t c = λ honest. tt

pub returns-then-stands_throughout-clause-late : goal.returns-then-stands_throughout-clause-late
returns-then-stands_throughout-clause-late g t c = tt

pub returns-then-stands_throughout-clause-below : goal.returns-then-stands_throughout-clause-below
returns-then-stands_throughout-clause-below g t c = λ honest. tt

pub returns-in_err-load_counted-clause-inside : goal.returns-in_err-load_counted-clause-inside
returns-in_err-load_counted-clause-inside g t c =
    let p = err_from_is_err_and c.from_residual.result c.from_residual.ensures.1 in
    rw p.1 tt

pub returns-in_err-load_counted-clause-late : goal.returns-in_err-load_counted-clause-late
returns-in_err-load_counted-clause-late g t c =
    let p = err_from_is_err_and c.from_residual.result c.from_residual.ensures.1 in
    rw p.1 tt

pub returns-in_err-load_counted-clause-below : goal.returns-in_err-load_counted-clause-below
returns-in_err-load_counted-clause-below g t c = λ honest.
    let p = err_from_is_err_and c.from_residual.result c.from_residual.ensures.1 in
    rw p.1 tt

pub returns-in_err-load_counted-clause-looks : goal.returns-in_err-load_counted-clause-looks
returns-in_err-load_counted-clause-looks g t c =
    let p = err_from_is_err_and c.from_residual.result c.from_residual.ensures.1 in
    rw (p.1, p.2) (InSteps-more (omega (arith, (c.stands_throughout.ensures.inner c.if-stands_throughout.false).0)) c.in_err-load_counted.ensures.looks)

pub returns-in_err-reach-clause-inside : goal.returns-in_err-reach-clause-inside
returns-in_err-reach-clause-inside g t c =
    let p = err_from_is_err_and c.from_residual-in_err-reach.result c.from_residual-in_err-reach.ensures.1 in
    rw p.1 tt

pub returns-in_err-reach-clause-late : goal.returns-in_err-reach-clause-late
returns-in_err-reach-clause-late g t c =
    let p = err_from_is_err_and c.from_residual-in_err-reach.result c.from_residual-in_err-reach.ensures.1 in
    rw p.1 tt

pub returns-in_err-reach-clause-below : goal.returns-in_err-reach-clause-below
returns-in_err-reach-clause-below g t c = λ honest.
    let p = err_from_is_err_and c.from_residual-in_err-reach.result c.from_residual-in_err-reach.ensures.1 in
    rw p.1 tt

pub returns-in_err-reach-clause-looks : goal.returns-in_err-reach-clause-looks
returns-in_err-reach-clause-looks g t c =
    let p = err_from_is_err_and c.from_residual-in_err-reach.result c.from_residual-in_err-reach.ensures.1 in
    rw (p.1, p.2) (InSteps-then (omega (arith, (c.stands_throughout.ensures.inner c.if-stands_throughout.false).0)) c.in_ok-load_counted.ensures.looks c.in_err-reach.ensures.looks)

pub returns-clause-damaged : goal.returns-clause-damaged
returns-clause-damaged g t c = λ honest. tt

pub returns-clause-looks : goal.returns-clause-looks
returns-clause-looks g t c = InSteps-then (omega (arith, (c.stands_throughout.ensures.inner c.if-stands_throughout.false).0)) c.in_ok-load_counted.ensures.looks c.in_ok-reach.ensures.looks
