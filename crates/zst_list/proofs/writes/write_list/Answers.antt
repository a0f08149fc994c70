use Rattle.std.proofs.Common.{rules, ◌≡◌, length, refl, ap, ◌∙◌, arith}
use Rattle.std.proofs.lemmas.Result.{err_from_is_err_and}
use Rattle.zst_block.proofs.IoCallLemmas.{Looks-none, Works-looks, Works-more}
use Rattle.zst_leaves.proofs.LeavesLaws.{HasLeaves-laid}
use Rattle.zst_list.specs.Spelling.{list_bytes}
use Rattle.zst_list.proofs.Sizes.{length-list}
use Rattle.zst_list.proofs.WrittenLists.{list_there}
use Rattle.zst_list.proofs.writes.write_list.Goals as goal

pub returns-in_err-bytes-clause-works : goal.returns-in_err-bytes-clause-works
returns-in_err-bytes-clause-works g c =
    let p = err_from_is_err_and c.from_residual.result c.from_residual.ensures.1 in
    rw (p.1, p.2) (Works-looks (Looks-none _))

pub returns-then-is_empty-clause-there : goal.returns-then-is_empty-clause-there
returns-then-is_empty-clause-there g c =
    let runs = c.args.list.now in
    let spelled : c.in_ok-bytes.bytes.items ≡ list_bytes runs = c.in_ok-bytes.ensures ∙ ap list_bytes c.runs.ensures.same in
    let empty : length c.in_ok-bytes.bytes.items ≡ 0 = search rules in
    record { lawful = c.runs.ensures.lawful; count_is = refl; leaves = λ some. absurd (omega (arith, some, ap length spelled, length-list runs, empty)) }

pub returns-then-is_empty-clause-nowhere : goal.returns-then-is_empty-clause-nowhere
returns-then-is_empty-clause-nowhere g c = λ none. record { levels = refl; root = c.hole.ensures }

pub returns-then-is_empty-clause-works : goal.returns-then-is_empty-clause-works
returns-then-is_empty-clause-works g c = Works-looks (Looks-none _)

pub write_leaves-requires-clause-small : goal.write_leaves-requires-clause-small
write_leaves-requires-clause-small g c =
    let runs = c.args.list.now in
    let spelled : c.deref.result.now ≡ list_bytes runs = c.deref.ensures.value ∙ c.in_ok-bytes.ensures ∙ ap list_bytes c.runs.ensures.same in
    omega (arith, ap length spelled, length-list runs, c.requires.few)

pub returns-in_err-tree-clause-works : goal.returns-in_err-tree-clause-works
returns-in_err-tree-clause-works g c =
    let runs = c.args.list.now in
    let spelled : c.deref.result.now ≡ list_bytes runs = c.deref.ensures.value ∙ c.in_ok-bytes.ensures ∙ ap list_bytes c.runs.ensures.same in
    let long = ap length spelled ∙ length-list runs in
    let p = err_from_is_err_and c.from_residual-in_err-tree.result c.from_residual-in_err-tree.ensures.1 in
    rw (p.1, p.2) (Works-more (omega (arith, long)) (c.in_err-tree.ensures.two_levels (omega (arith, long, c.requires.few))))

pub returns-clause-there : goal.returns-clause-there
returns-clause-there g c =
    let runs = c.args.list.now in
    let spelled : c.deref.result.now ≡ list_bytes runs = c.deref.ensures.value ∙ c.in_ok-bytes.ensures ∙ ap list_bytes c.runs.ensures.same in
    list_there _ c.in_ok-tree.tree.levels c.in_ok-tree.tree.root runs c.deref.result.now c.runs.ensures.lawful spelled
    (HasLeaves-laid c.args.number c.args.io.now.space _ c.in_ok-tree.tree.levels c.in_ok-tree.tree.root c.deref.result.now c.in_ok-tree.ensures.written.laid)

pub returns-clause-nowhere : goal.returns-clause-nowhere
returns-clause-nowhere g c = λ none.
    let runs = c.args.list.now in
    let spelled : c.deref.result.now ≡ list_bytes runs = c.deref.ensures.value ∙ c.in_ok-bytes.ensures ∙ ap list_bytes c.runs.ensures.same in
    absurd (omega (arith, ap length spelled, length-list runs, ap length none, c.in_ok-tree.ensures.written.laid.some))

pub returns-clause-low : goal.returns-clause-low
returns-clause-low g c = c.in_ok-tree.ensures.written.laid.least.few

pub returns-clause-works : goal.returns-clause-works
returns-clause-works g c =
    let runs = c.args.list.now in
    let spelled : c.deref.result.now ≡ list_bytes runs = c.deref.ensures.value ∙ c.in_ok-bytes.ensures ∙ ap list_bytes c.runs.ensures.same in
    let long = ap length spelled ∙ length-list runs in
    Works-more (omega (arith, long)) (c.in_ok-tree.ensures.two_levels (omega (arith, long, c.requires.few)))
