use Rattle.std.proofs.Common.{arith, ℕ, inl, inr, subst, Option}
use Rattle.std.proofs.lemmas.Result.{err_from_is_err_and}
use Rattle.zst_block.specs.IoStates.{blocks_of}
use Rattle.zst_tree.specs.PresentIndices.{FindsLast}
use Rattle.zst_objset.proofs.EndLaws.{end_kept, end_last, end_none}
use Rattle.zst_objset.proofs.RangeLaws.{tree_is}
use Rattle.zst_objset.proofs.ranges.end_punched.Goals as goal
use Rattle.zst_objset.proofs.ranges.end_punched.Goals.{then-dnode-first-via-then-dnode-first, then-dnode-first-via-else-dnode-first+then-first-count}

pub returns-then-dnode-first-clause-end : goal.returns-then-dnode-first-clause-end
returns-then-dnode-first-clause-end g c = λ object date dates map honest is.
    end_kept (blocks_of c.args.io.now) c.args.dnode.now object date dates map c.args.first c.args.count is
    (elim c.then-dnode-first.branch [ then-dnode-first-via-then-dnode-first w ↦ inl (omega arith) | then-dnode-first-via-else-dnode-first+then-first-count w ↦ inr (omega arith) ])

pub returns-in_err-last-clause-end : goal.returns-in_err-last-clause-end
returns-in_err-last-clause-end g c = λ object date dates map honest is.
    let p = err_from_is_err_and c.from_residual.result c.from_residual.ensures.1 in
    let has = blocks_of c.args.io.now in
    rw (p.1, p.2) (c.in_err-last.ensures.last map honest (tree_is has c.args.dnode.now _ map c.tree_of.ensures is.tree))

pub returns-in-Some-clause-end : goal.returns-in-Some-clause-end
returns-in-Some-clause-end g c = λ object date dates map honest is.
    let has = blocks_of c.args.io.now in
    let found : FindsLast map 0 c.args.first c.in_ok-last.field-0 = c.in_ok-last.ensures.last map honest (tree_is has c.args.dnode.now _ map c.tree_of.ensures is.tree) in
    end_last has c.args.dnode.now object date dates map c.args.first c.args.count is c.in-Some.last (omega arith) (omega arith)
    (subst (λ (o : Option ℕ). FindsLast map 0 c.args.first o) c.in-Some.is found)

pub returns-in-None-clause-end : goal.returns-in-None-clause-end
returns-in-None-clause-end g c = λ object date dates map honest is.
    let has = blocks_of c.args.io.now in
    let found : FindsLast map 0 c.args.first c.in_ok-last.field-0 = c.in_ok-last.ensures.last map honest (tree_is has c.args.dnode.now _ map c.tree_of.ensures is.tree) in
    end_none has c.args.dnode.now object date dates map c.args.first c.args.count is (omega arith) (omega arith)
    (subst (λ (o : Option ℕ). FindsLast map 0 c.args.first o) c.in-None.is found)

pub returns-in_err-last-clause-looks : goal.returns-in_err-last-clause-looks
returns-in_err-last-clause-looks g c =
    let p = err_from_is_err_and c.from_residual.result c.from_residual.ensures.1 in
    rw (p.1, p.2) c.in_err-last.ensures.looks.looks
