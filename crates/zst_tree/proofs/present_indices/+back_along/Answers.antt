use Rattle.std.proofs.Common.{rules, ◌≡◌, List, ◌+◌, ◌-◌, ℕ, true, refl, sym, ◌∙◌, arith}
use Rattle.std.proofs.lemmas.Result.{err_from_is_err_and}
use Rattle.zst_space.specs.FreeSectors.{FreeSectors}
use Rattle.zst_block.specs.Blocks.{Has}
use Rattle.zst_block.specs.Ptr.{is_present}
use Rattle.zst_tree.specs.Indices.{span}
use Rattle.zst_tree.specs.Changes.{Parts}
use Rattle.zst_tree.specs.Damage.{IsSeen, SumsUp}
use Rattle.zst_tree.specs.declared.path_answer.Branch.{Branch}
use Rattle.zst_tree.specs.PathAnswer.{stands_throughout}
use Rattle.zst_tree.specs.PresentIndices.{Empty}
use Rattle.zst_tree.proofs.EmptyRanges.{empty_below, at_present, earlier_nearer}
use Rattle.zst_tree.proofs.Damage.{fault_below, beside_below, IfThere-nearer, TellsNode-sums}
use Rattle.zst_tree.proofs.LoadedNodes.{there_after}
use Rattle.zst_tree.proofs.QuietRanges.{here}
use Rattle.zst_tree.proofs.StepLooks.{AtMost-more, AtMost-none, AtMost-then}
use Rattle.zst_tree.proofs.present_indices.+back_along.Goals as goal

pub returns-then-not-is_present-clause-reaches : goal.returns-then-not-is_present-clause-reaches
returns-then-not-is_present-clause-reaches g t c = λ map honest stands.
    let empty : Empty map c.args.base (c.args.base + span c.args.level) = empty_below map _ c.args.level c.args.ptr c.args.base (search rules) stands in
    record { absent = λ i from below. empty.absent i from (omega arith) }

pub returns-then-stands_throughout-clause-reaches : goal.returns-then-stands_throughout-clause-reaches
returns-then-stands_throughout-clause-reaches g t c = λ map honest stands.
    let throughout : stands_throughout c.args.level c.args.ptr ≡ true = sym c.stands_throughout.ensures.same ∙ c.if-stands_throughout.true in
    (refl, omega arith, at_present map (c.args.base + c.args.offset) c.args.ptr (here _ map c.args.level c.args.ptr c.args.base c.args.offset throughout c.requires.offset stands) (search rules))

pub returns-in_err-load_node-clause-reaches : goal.returns-in_err-load_node-clause-reaches
returns-in_err-load_node-clause-reaches g t c = λ map honest stands.
    let inner = c.stands_throughout.ensures.inner c.if-stands_throughout.false in
    let p = err_from_is_err_and c.from_residual.result c.from_residual.ensures.1 in
    rw (p.1, p.2) (c.in_err-load_node.ensures.parts c.args.base map inner.0 inner.1 honest stands)

pub returns-in_err-reach-clause-reaches : goal.returns-in_err-reach-clause-reaches
returns-in_err-reach-clause-reaches g t c = λ map honest stands.
    let inner = c.stands_throughout.ensures.inner c.if-stands_throughout.false in
    let p = err_from_is_err_and c.from_residual-in_err-reach.result c.from_residual-in_err-reach.ensures.1 in
    rw (p.1, p.2) (c.in_err-reach.ensures.reaches map honest (rw (c.child_at-child.ensures.child, c.start_of-start.ensures.value)
    ((c.in_ok-load_node.ensures.parts c.args.base map inner.0 inner.1 (c.in_err-reach.ensures.looks.looks.reads.honest honest) stands).below c.place_of-place.result.child c.place_of-place.ensures.child)))

pub returns-clause-reaches : goal.returns-clause-reaches
returns-clause-reaches g t c = λ map honest stands.
    let inner = c.stands_throughout.ensures.inner c.if-stands_throughout.false in
    let was_honest = c.in_ok-reach.ensures.looks.looks.reads.honest honest in
    let parts = c.in_ok-load_node.ensures.parts c.args.base map inner.0 inner.1 was_honest stands in
    let now = Has (g.D.Disk.state c.back_along.new.io.disk.now).seen c.back_along.new.io.space in
    let later : Parts now (c.args.level - 1) c.load_node.new.io.node c.args.base map = there_after c.in_ok-reach.ensures.looks.looks (λ (seen : List ℕ) (s : FreeSectors). Parts (Has seen s) (c.args.level - 1) c.load_node.new.io.node c.args.base map) parts in
    rw c.nearer.ensures
    (earlier_nearer map now c.args.level c.args.base c.place_of-place.result.child c.place_of-place.result.rest c.args.offset c.start_of-start.result c.in_ok-reach.reach c.earlier_from-before.result inner.0 c.place_of-place.ensures.child c.place_of-place.ensures.rest c.place_of-place.ensures.sum c.start_of-start.ensures.value
    (c.in_ok-reach.ensures.reaches map honest (rw (c.child_at-child.ensures.child, c.start_of-start.ensures.value) (parts.below c.place_of-place.result.child c.place_of-place.ensures.child)))
    (c.earlier_from-before.ensures.earlier _ _ map later))

pub returns-in_err-load_node-clause-damaged : goal.returns-in_err-load_node-clause-damaged
returns-in_err-load_node-clause-damaged g t c = λ honest.
    let inner = c.stands_throughout.ensures.inner c.if-stands_throughout.false in
    let p = err_from_is_err_and c.from_residual.result c.from_residual.ensures.1 in
    rw (p.1, p.2) (TellsNode-sums _ _ _ _ _ (c.in_err-load_node.ensures.names inner.0 inner.1 honest))

pub returns-in_err-reach-clause-damaged : goal.returns-in_err-reach-clause-damaged
returns-in_err-reach-clause-damaged g t c = λ honest.
    let inner = c.stands_throughout.ensures.inner c.if-stands_throughout.false in
    let p = err_from_is_err_and c.from_residual-in_err-reach.result c.from_residual-in_err-reach.ensures.1 in
    rw (p.1, p.2) (fault_below c.in_ok-load_node.ensures.looks.looks (λ seen. SumsUp (IsSeen seen)) c.args.level c.args.ptr c.load_node.new.io.node c.place_of-place.result.child inner.0 inner.1
    (c.in_ok-load_node.ensures.block (c.in_err-reach.ensures.looks.looks.reads.honest honest)) c.place_of-place.ensures.child _ (rw c.child_at-child.ensures.child at (c.in_err-reach.ensures.damaged honest)))

pub returns-clause-present : goal.returns-clause-present
returns-clause-present g t c = rw c.nearer.ensures (IfThere-nearer (λ (beside : Branch). is_present beside.ptr ≡ true) c.in_ok-reach.reach c.earlier_from-before.result c.in_ok-reach.ensures.present c.earlier_from-before.ensures.present)

pub returns-clause-below : goal.returns-clause-below
returns-clause-below g t c = λ honest.
    let inner = c.stands_throughout.ensures.inner c.if-stands_throughout.false in
    rw c.nearer.ensures (beside_below c.in_ok-load_node.ensures.looks.looks (λ seen. SumsUp (IsSeen seen)) c.args.level c.args.ptr c.load_node.new.io.node c.place_of-place.result.child inner.0 inner.1
    (c.in_ok-load_node.ensures.block (c.in_ok-reach.ensures.looks.looks.reads.honest honest)) c.place_of-place.ensures.child c.in_ok-reach.reach c.earlier_from-before.result
    (rw c.child_at-child.ensures.child at (c.in_ok-reach.ensures.below honest)) c.earlier_from-before.ensures.hangs)

pub returns-then-not-is_present-clause-damaged : goal.returns-then-not-is_present-clause-damaged
returns-then-not-is_present-clause-damaged g t c = λ honest. tt

pub returns-then-not-is_present-clause-looks : goal.returns-then-not-is_present-clause-looks
returns-then-not-is_present-clause-looks g t c = AtMost-none _

pub returns-then-not-is_present-clause-present : goal.returns-then-not-is_present-clause-present
returns-then-not-is_present-clause-present g t c = tt

pub returns-then-not-is_present-clause-below : goal.returns-then-not-is_present-clause-below
returns-then-not-is_present-clause-below g t c = λ honest. tt

pub returns-then-stands_throughout-clause-damaged : goal.returns-then-stands_throughout-clause-damaged
returns-then-stands_throughout-clause-damaged g t c = λ honest. tt

pub returns-then-stands_throughout-clause-looks : goal.returns-then-stands_throughout-clause-looks
returns-then-stands_throughout-clause-looks g t c = AtMost-none _

pub returns-then-stands_throughout-clause-present : goal.returns-then-stands_throughout-clause-present
returns-then-stands_throughout-clause-present g t c = tt

pub returns-then-stands_throughout-clause-below : goal.returns-then-stands_throughout-clause-below
returns-then-stands_throughout-clause-below g t c = λ honest. tt

pub returns-then-not-is_present-clause-inside : goal.returns-then-not-is_present-clause-inside
returns-then-not-is_present-clause-inside g t c = tt

pub returns-in_err-load_node-clause-inside : goal.returns-in_err-load_node-clause-inside
returns-in_err-load_node-clause-inside g t c =
    let p = err_from_is_err_and c.from_residual.result c.from_residual.ensures.1 in
    rw p.1 tt

pub returns-in_err-load_node-clause-present : goal.returns-in_err-load_node-clause-present
returns-in_err-load_node-clause-present g t c =
    let p = err_from_is_err_and c.from_residual.result c.from_residual.ensures.1 in
    rw p.1 tt

pub returns-in_err-load_node-clause-below : goal.returns-in_err-load_node-clause-below
returns-in_err-load_node-clause-below g t c = λ honest.
    let p = err_from_is_err_and c.from_residual.result c.from_residual.ensures.1 in
    rw p.1 tt

pub returns-in_err-load_node-clause-looks : goal.returns-in_err-load_node-clause-looks
returns-in_err-load_node-clause-looks g t c =
    let p = err_from_is_err_and c.from_residual.result c.from_residual.ensures.1 in
    rw (p.1, p.2) (AtMost-more (omega (arith, (c.stands_throughout.ensures.inner c.if-stands_throughout.false).0)) c.in_err-load_node.ensures.looks)

pub returns-in_err-reach-clause-inside : goal.returns-in_err-reach-clause-inside
returns-in_err-reach-clause-inside g t c =
    let p = err_from_is_err_and c.from_residual-in_err-reach.result c.from_residual-in_err-reach.ensures.1 in
    rw p.1 tt

pub returns-in_err-reach-clause-present : goal.returns-in_err-reach-clause-present
returns-in_err-reach-clause-present g t c =
    let p = err_from_is_err_and c.from_residual-in_err-reach.result c.from_residual-in_err-reach.ensures.1 in
    rw p.1 tt

pub returns-in_err-reach-clause-below : goal.returns-in_err-reach-clause-below
returns-in_err-reach-clause-below g t c = λ honest.
    let p = err_from_is_err_and c.from_residual-in_err-reach.result c.from_residual-in_err-reach.ensures.1 in
    rw p.1 tt

pub returns-in_err-reach-clause-looks : goal.returns-in_err-reach-clause-looks
returns-in_err-reach-clause-looks g t c =
    let p = err_from_is_err_and c.from_residual-in_err-reach.result c.from_residual-in_err-reach.ensures.1 in
    rw (p.1, p.2) (AtMost-then (omega (arith, (c.stands_throughout.ensures.inner c.if-stands_throughout.false).0)) c.in_ok-load_node.ensures.looks c.in_err-reach.ensures.looks)

pub returns-clause-damaged : goal.returns-clause-damaged
returns-clause-damaged g t c = λ honest. tt

pub returns-clause-looks : goal.returns-clause-looks
returns-clause-looks g t c = AtMost-then (omega (arith, (c.stands_throughout.ensures.inner c.if-stands_throughout.false).0)) c.in_ok-load_node.ensures.looks c.in_ok-reach.ensures.looks
