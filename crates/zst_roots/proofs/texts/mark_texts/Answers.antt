use Rattle.std.proofs.Common.{inl, inr, ⊎_elim, ℕ, List, refl, arith}
use Rattle.std.proofs.lemmas.Result.{err_from_is_err_and, on_ok_weaker}
use Rattle.zst_block.specs.Blocks.{Has}
use Rattle.zst_block.specs.IoStates.{disk_of}
use Rattle.zst_block.proofs.IoCallLemmas.{Looks-then}
use Rattle.zst_leaves.specs.Leaves.{HasLeaves}
use Rattle.zst_marks.proofs.MoreMarks.{MarksMore-none, MarksMore-then}
use Rattle.zst_space.specs.FreeSectors.{FreeSectors}
use Rattle.zst_tree.proofs.LoadedNodes.{there_after}
use Rattle.zst_roots.proofs.TextMarks.{dir_told, free_told, only_texts, texts_marked}
use Rattle.zst_roots.proofs.texts.mark_texts.Goals as goal

pub returns-in_err-mark_text-clause-only : goal.returns-in_err-mark_text-clause-only
returns-in_err-mark_text-clause-only g c = λ honest sector marked.
    ⊎_elim inl (λ by. inr (inl by)) (c.in_err-mark_text.ensures.only honest sector marked)

pub returns-in_err-mark_text-clause-stands : goal.returns-in_err-mark_text-clause-stands
returns-in_err-mark_text-clause-stands g c = λ honest stand.
    let p = err_from_is_err_and c.from_residual.result c.from_residual.ensures.1 in
    rw (p.1, p.2) (c.in_err-mark_text.ensures.there stand.0.0 honest stand.0.1)

pub returns-in_err-mark_text-clause-damaged : goal.returns-in_err-mark_text-clause-damaged
returns-in_err-mark_text-clause-damaged g c = λ honest.
    let p = err_from_is_err_and c.from_residual.result c.from_residual.ensures.1 in
    rw (p.1, p.2) (dir_told (disk_of c.args.io.now).seen (disk_of c.args.io.now).size c.args.uber.now c.in_err-mark_text.field-0.0 (c.in_err-mark_text.ensures.damaged honest))

pub returns-then-uber-eq0-clause-all : goal.returns-then-uber-eq0-clause-all
returns-then-uber-eq0-clause-all g c = λ honest.
    texts_marked (disk_of c.args.io.now).seen c.args.uber.now (disk_of c.args.io.now).seen _ _ refl (MarksMore-none _) (c.in_ok-mark_text.ensures.all honest) (λ some. absurd (omega (arith, some, c.if-uber-eq0.true)))

pub returns-then-uber-eq0-clause-only : goal.returns-then-uber-eq0-clause-only
returns-then-uber-eq0-clause-only g c = λ honest sector marked.
    ⊎_elim inl (λ by. inr (inl by)) (c.in_ok-mark_text.ensures.only honest sector marked)

pub returns-clause-all : goal.returns-clause-all
returns-clause-all g c = λ honest.
    let dir = c.in_ok-mark_text.ensures in
    let free = c.mark_text-2.ensures in
    on_ok_weaker c.mark_text-2.result
    (λ are. texts_marked (disk_of c.args.io.now).seen c.args.uber.now _ _ _ dir.looks.reads.seen free.more (dir.all (free.looks.reads.honest honest)) (λ some. are)) (free.all honest)

pub returns-clause-only : goal.returns-clause-only
returns-clause-only g c = λ honest sector marked.
    let dir = c.in_ok-mark_text.ensures in
    let free = c.mark_text-2.ensures in
    only_texts (disk_of c.args.io.now).seen c.args.uber.now _ sector _ _ dir.looks.reads.seen (omega (arith, c.if-uber-eq0.false)) (dir.only (free.looks.reads.honest honest) sector) (free.only honest sector marked)

pub returns-clause-more : goal.returns-clause-more
returns-clause-more g c = MarksMore-then _ _ _ c.in_ok-mark_text.ensures.more c.mark_text-2.ensures.more

pub returns-clause-stands : goal.returns-clause-stands
returns-clause-stands g c = λ honest stand.
    let uber = c.args.uber.now in
    let text = stand.1 (omega (arith, c.if-uber-eq0.false)) in
    c.mark_text-2.ensures.there text.0 honest (there_after c.in_ok-mark_text.ensures.looks (λ (seen : List ℕ) (space : FreeSectors). HasLeaves (Has seen space) uber.free_levels uber.free_root text.0) text.1)

pub returns-clause-damaged : goal.returns-clause-damaged
returns-clause-damaged g c = λ honest.
    let looks = c.in_ok-mark_text.ensures.looks in
    free_told (disk_of c.args.io.now).seen (disk_of c.args.io.now).size c.args.uber.now _ _ c.mark_text-2.result looks.reads.seen looks.reads.size (omega (arith, c.if-uber-eq0.false)) (c.mark_text-2.ensures.damaged honest)

pub returns-clause-looks : goal.returns-clause-looks
returns-clause-looks g c = Looks-then c.in_ok-mark_text.ensures.looks c.mark_text-2.ensures.looks
