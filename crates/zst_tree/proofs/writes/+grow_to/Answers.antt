use Rattle.std.proofs.Common.{arith}
use Rattle.std.proofs.lemmas.Result.{IfOk-weaker, err_from_is_err_and}
use Rattle.zst_block.proofs.IoCallLemmas.{Works-then, Works-more}
use Rattle.zst_tree.proofs.ChangedTrees.{IsWithin-self, IsWithin-size, IsWithin-then}
use Rattle.zst_tree.proofs.writes.+grow_to.Goals as goal

pub returns-clause-works : goal.returns-clause-works
returns-clause-works g t c = Works-more (omega (arith, c.in_ok-taller.ensures.taller, c.is_enough.ensures.short c.if-is_enough.false)) (Works-then c.in_ok-taller.ensures.works c.grow_to.ensures.works)

pub returns-then-is_enough-clause-within : goal.returns-then-is_enough-clause-within
returns-then-is_enough-clause-within g t c = λ leaf. IsWithin-self _ _ c.args.tree.levels c.args.tree.root leaf

pub returns-clause-within : goal.returns-clause-within
returns-clause-within g t c = λ leaf. IfOk-weaker c.grow_to.result _ _
    (λ grown within. IsWithin-then _ _ _ _ _ _ _ _ (c.in_ok-taller.ensures.within leaf) _ _ _ (IsWithin-size _ _ _ _ _ _ c.in_ok-taller.ensures.works.fills.size _ _ _ within))
    (c.grow_to.ensures.within leaf)

pub returns-in_err-taller-clause-never_damaged : goal.returns-in_err-taller-clause-never_damaged
returns-in_err-taller-clause-never_damaged g t c = λ sector stated found is.
    let p = err_from_is_err_and c.from_residual.result c.from_residual.ensures.1 in
    c.in_err-taller.ensures.never_damaged sector stated found (cc)

pub returns-then-is_enough-clause-never_damaged : goal.returns-then-is_enough-clause-never_damaged
returns-then-is_enough-clause-never_damaged g t c = λ sector stated found is. absurd (cc)

pub returns-in_err-taller-clause-size : goal.returns-in_err-taller-clause-size
returns-in_err-taller-clause-size g t c =
    let p = err_from_is_err_and c.from_residual.result c.from_residual.ensures.1 in
    rw p.1 tt

pub returns-in_err-taller-clause-within : goal.returns-in_err-taller-clause-within
returns-in_err-taller-clause-within g t c = λ leaf.
    let p = err_from_is_err_and c.from_residual.result c.from_residual.ensures.1 in
    rw p.1 tt

pub returns-in_err-taller-clause-root : goal.returns-in_err-taller-clause-root
returns-in_err-taller-clause-root g t c =
    let p = err_from_is_err_and c.from_residual.result c.from_residual.ensures.1 in
    rw p.1 tt

pub returns-clause-never_damaged : goal.returns-clause-never_damaged
returns-clause-never_damaged g t c = c.grow_to.ensures.never_damaged
