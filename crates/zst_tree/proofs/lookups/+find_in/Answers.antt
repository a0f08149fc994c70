use Rattle.std.proofs.Common.{rules, ◌+◌, ◌-◌, ◌*◌, List, ℕ, arith}
use Rattle.std.proofs.lemmas.Result.{IfOk-weaker, err_from_is_err_and}
use Rattle.zst_space.specs.FreeSectors.{FreeSectors}
use Rattle.zst_block.specs.Blocks.{Has}
use Rattle.zst_tree.specs.Damage.{NamesNode}
use Rattle.zst_tree.specs.Lookups.{Finds}
use Rattle.zst_tree.specs.Indices.{span, child}
use Rattle.zst_tree.proofs.Damage.{hangs_below, hangs_flat, hangs_leaf, told_below}
use Rattle.zst_tree.proofs.LookupLemmas.{finds_leaf, finds_flat, finds_child, left_of_child}
use Rattle.zst_tree.proofs.LoadedNodes.{loaded_is, there_before}
use Rattle.zst_tree.proofs.Results.{delivers_if}
use Rattle.zst_tree.proofs.StepLooks.{InSteps-more, InSteps-none, InSteps-then}
use Rattle.zst_tree.proofs.lookups.+find_in.Goals as goal

pub returns-then-level-eq0-clause-finds : goal.returns-then-level-eq0-clause-finds
returns-then-level-eq0-clause-finds g t c = λ base map honest stands. finds_leaf _ c.args.level c.args.ptr c.args.offset (search rules)

pub returns-then-is_flat-clause-finds : goal.returns-then-is_flat-clause-finds
returns-then-is_flat-clause-finds g t c = λ base map honest stands.
    rw c.span_of.ensures (finds_flat _ c.args.level c.args.ptr c.args.offset (omega arith) (search rules))

pub returns-in_err-load_counted-clause-finds : goal.returns-in_err-load_counted-clause-finds
returns-in_err-load_counted-clause-finds g t c = λ base map honest stands.
    let p = err_from_is_err_and c.from_residual.result c.from_residual.ensures.1 in
    rw (p.1, p.2) (c.in_err-load_counted.ensures.parts base map (omega arith) (search rules) honest stands)

pub returns-clause-finds : goal.returns-clause-finds
returns-clause-finds g t c = λ base map honest stands.
    let before = c.in_ok-load_counted.ensures.looks.by_steps.looks in
    let was_honest = c.find_in.ensures.looks.by_steps.looks.reads.honest honest in
    let loaded = loaded_is _ c.args.level c.args.ptr base map c.load_counted.new.io.node (omega arith) (search rules) (λ bytes node. c.in_ok-load_counted.ensures.there bytes was_honest node) stands in
    let parts = c.in_ok-load_counted.ensures.parts base map (omega arith) (search rules) was_honest stands in
    delivers_if _ _ c.find_in.result
    (λ found finds. finds_child _ c.args.level c.args.ptr c.args.offset c.place_of-place.result.child c.place_of-place.result.rest c.load_counted.new.io.node found (omega arith) loaded.node c.place_of-place.ensures.rest c.place_of-place.ensures.sum
    (there_before before (λ (seen : List ℕ) (s : FreeSectors). Finds (Has seen s) (c.args.level - 1) (child c.load_counted.new.io.node c.place_of-place.result.child) c.place_of-place.result.rest found) (rw c.child_at-child.ensures.child at finds)))
    (c.find_in.ensures.finds (base + c.place_of-place.result.child * span (c.args.level - 1)) map honest (rw c.child_at-child.ensures.child (parts.below c.place_of-place.result.child c.place_of-place.ensures.child)))

pub returns-clause-range : goal.returns-clause-range
returns-clause-range g t c = IfOk-weaker c.find_in.result _ _
    (λ found is. (is.0, left_of_child c.args.level c.args.offset c.place_of-place.result.child c.place_of-place.result.rest found.1 (omega arith) c.place_of-place.ensures.child c.place_of-place.ensures.sum is.1))
    c.find_in.ensures.range

pub returns-in_err-load_counted-clause-damaged : goal.returns-in_err-load_counted-clause-damaged
returns-in_err-load_counted-clause-damaged g t c = λ honest.
    let p = err_from_is_err_and c.from_residual.result c.from_residual.ensures.1 in
    rw (p.1, p.2) (c.in_err-load_counted.ensures.names (omega arith) (search rules) honest)

pub returns-clause-damaged : goal.returns-clause-damaged
returns-clause-damaged g t c = λ honest.
    told_below c.in_ok-load_counted.ensures.looks.by_steps.looks (λ seen. NamesNode) c.args.level c.args.ptr c.load_counted.new.io.node c.place_of-place.result.child (omega arith) (search rules)
    (c.in_ok-load_counted.ensures.block (c.find_in.ensures.looks.by_steps.looks.reads.honest honest)) c.place_of-place.ensures.child c.find_in.result (rw c.child_at-child.ensures.child at (c.find_in.ensures.damaged honest))

pub returns-then-level-eq0-clause-hangs : goal.returns-then-level-eq0-clause-hangs
returns-then-level-eq0-clause-hangs g t c = λ honest. hangs_leaf _ c.args.level c.args.ptr (search rules)

pub returns-then-is_flat-clause-hangs : goal.returns-then-is_flat-clause-hangs
returns-then-is_flat-clause-hangs g t c = λ honest. hangs_flat _ c.args.level c.args.ptr (search rules)

pub returns-clause-hangs : goal.returns-clause-hangs
returns-clause-hangs g t c = λ honest. IfOk-weaker c.find_in.result _ _
    (λ found hangs. hangs_below c.in_ok-load_counted.ensures.looks.by_steps.looks (λ seen. NamesNode) c.args.level c.args.ptr c.load_counted.new.io.node c.place_of-place.result.child (omega arith) (search rules)
    (c.in_ok-load_counted.ensures.block (c.find_in.ensures.looks.by_steps.looks.reads.honest honest)) c.place_of-place.ensures.child found.0 hangs)
    (rw c.child_at-child.ensures.child at (c.find_in.ensures.hangs honest))

pub returns-then-level-eq0-clause-damaged : goal.returns-then-level-eq0-clause-damaged
returns-then-level-eq0-clause-damaged g t c = λ honest. tt

pub returns-then-level-eq0-clause-looks : goal.returns-then-level-eq0-clause-looks
returns-then-level-eq0-clause-looks g t c = InSteps-none _ _

pub returns-then-is_flat-clause-damaged : goal.returns-then-is_flat-clause-damaged
returns-then-is_flat-clause-damaged g t c = λ honest. tt

pub returns-then-is_flat-clause-looks : goal.returns-then-is_flat-clause-looks
returns-then-is_flat-clause-looks g t c = InSteps-none _ _

pub returns-in_err-load_counted-clause-range : goal.returns-in_err-load_counted-clause-range
returns-in_err-load_counted-clause-range g t c =
    let p = err_from_is_err_and c.from_residual.result c.from_residual.ensures.1 in
    rw p.1 tt

pub returns-in_err-load_counted-clause-hangs : goal.returns-in_err-load_counted-clause-hangs
returns-in_err-load_counted-clause-hangs g t c = λ honest.
    let p = err_from_is_err_and c.from_residual.result c.from_residual.ensures.1 in
    rw p.1 tt

pub returns-in_err-load_counted-clause-looks : goal.returns-in_err-load_counted-clause-looks
returns-in_err-load_counted-clause-looks g t c =
    let p = err_from_is_err_and c.from_residual.result c.from_residual.ensures.1 in
    rw (p.1, p.2) (InSteps-more (omega arith) c.in_err-load_counted.ensures.looks)

pub returns-clause-looks : goal.returns-clause-looks
returns-clause-looks g t c = InSteps-then (omega arith) c.in_ok-load_counted.ensures.looks c.find_in.ensures.looks
