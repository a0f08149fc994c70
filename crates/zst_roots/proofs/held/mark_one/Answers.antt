use Rattle.std.proofs.Common.{inl, inr, ⊎_elim}
use Rattle.std.proofs.lemmas.Result.{err_from_is_err_and}
use Rattle.zst_block.specs.IoStates.{disk_of}
use Rattle.zst_marks.proofs.MoreMarks.{MarksMore-then}
use Rattle.zst_roots.proofs.HeldMarks.{one_marked, only_one}
use Rattle.zst_roots.proofs.held.mark_one.Goals as goal

pub returns-in_err-mark_set-clause-only : goal.returns-in_err-mark_set-clause-only
returns-in_err-mark_set-clause-only g c = λ honest sector marked. ⊎_elim inl (λ by. inr (inl by)) (c.in_err-mark_set.ensures.only honest sector marked)

pub returns-in_err-mark_set-clause-stands : goal.returns-in_err-mark_set-clause-stands
returns-in_err-mark_set-clause-stands g c = λ honest stands.
    let p = err_from_is_err_and c.from_residual.result c.from_residual.ensures.1 in
    rw (p.1, p.2) (c.in_err-mark_set.ensures.there stands.0 stands.1 honest stands.2)

pub returns-clause-all : goal.returns-clause-all
returns-clause-all g c = λ honest known.
    let set = c.in_ok-mark_set.ensures in
    let beside = c.same_objects-known.ensures (disk_of c.args.io.now).seen _ c.args.end known in
    one_marked (disk_of c.args.io.now).seen c.args.one.now c.args.end _ _ c.mark_blocks.ensures.more (set.all honest beside) c.mark_blocks.ensures.all

pub returns-clause-only : goal.returns-clause-only
returns-clause-only g c = λ honest sector marked.
    only_one (disk_of c.args.io.now).seen c.args.one.now sector _ _ (c.in_ok-mark_set.ensures.only honest sector) (c.mark_blocks.ensures.only sector marked)

pub returns-clause-more : goal.returns-clause-more
returns-clause-more g c = MarksMore-then _ _ _ c.in_ok-mark_set.ensures.more c.mark_blocks.ensures.more
