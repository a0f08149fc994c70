use Rattle.std.proofs.Common.{◌≡◌, inl, true, false, ◌++◌, List, ℕ, sym, ◌∙◌, ap, arith}
use Rattle.std.proofs.lemmas.Result.{err_from_is_err_and}
use Rattle.zst_tree.proofs.StepLooks.{AtMost-more}
use Rattle.zst_leaves.proofs.BlockCounts.{most_blocks}
use Rattle.zst_leaves.proofs.DamageLemmas.{alike_told, text_told}
use Rattle.zst_leaves.proofs.LeavesLaws.{HasLeaves-grows, LeavesBelow-grows}
use Rattle.zst_leaves.proofs.LeavesRead.{LeavesBelow-only}
use Rattle.zst_leaves.proofs.BlocksBeforeEnd.{Has-before}
use Rattle.zst_leaves.proofs.reads.read_leaves.Goals as goal

pub returns-in_err-read_below-clause-looks : goal.returns-in_err-read_below-clause-looks
returns-in_err-read_below-clause-looks g c =
    let least = c.is_least.ensures.0 c.if-not-is_least.false in
    let p = err_from_is_err_and c.from_residual.result c.from_residual.ensures.1 in
    rw (p.1, p.2) (AtMost-more (most_blocks c.args.levels c.args.count least.1.few least.0 least.1.enough) c.in_err-read_below.ensures.looks)

pub returns-clause-there : goal.returns-clause-there
returns-clause-there g c = λ text honest is long.
    let read = c.in_ok-read_below.ensures.only honest in
    let same : read.text ≡ text = LeavesBelow-only _ c.args.levels c.args.root read.text text (read.long_is ∙ sym long) (omega (arith, read.long_is, long, is.least.enough)) (LeavesBelow-grows _ _ (λ ptr bytes block. block.0) c.args.levels c.args.root read.text read.below) (LeavesBelow-grows _ _ (λ ptr bytes has. has.block) c.args.levels c.args.root text is.below) in
    read.new_is ∙ ap (λ (old : List ℕ). old ++ read.text) c.new-text.ensures.items ∙ same

pub returns-clause-only : goal.returns-clause-only
returns-clause-only g c = λ honest.
    let least = c.is_least.ensures.0 c.if-not-is_least.false in
    let read = c.in_ok-read_below.ensures.only honest in
    let same : c.read_below.new.text.items ≡ read.text = read.new_is ∙ ap (λ (old : List ℕ). old ++ read.text) c.new-text.ensures.items in
    rw same (record { some = omega (arith, read.long_is, least.0); least = rw read.long_is least.1; below = read.below })

pub returns-clause-stands : goal.returns-clause-stands
returns-clause-stands g c = λ honest none. HasLeaves-grows _ _ (Has-before _ c.args.io.now.space none) c.args.levels c.args.root _ (returns-clause-only g c honest)

pub returns-clause-looks : goal.returns-clause-looks
returns-clause-looks g c =
    let least = c.is_least.ensures.0 c.if-not-is_least.false in
    AtMost-more (most_blocks c.args.levels c.args.count least.1.few least.0 least.1.enough) c.in_ok-read_below.ensures.looks

pub returns-then-not-is_least-clause-damaged : goal.returns-then-not-is_least-clause-damaged
returns-then-not-is_least-clause-damaged g c = λ honest.
    let fails : c.is_least.result ≡ false = c.if-not-is_least.true in
    inl (alike_told _ _ _ c.args.root c.of_layout.result c.of_layout.ensures (λ least. let holds : c.is_least.result ≡ true = c.is_least.ensures.1 least in absurd (cc)))

pub returns-in_err-read_below-clause-damaged : goal.returns-in_err-read_below-clause-damaged
returns-in_err-read_below-clause-damaged g c = λ honest.
    let p = err_from_is_err_and c.from_residual.result c.from_residual.ensures.1 in
    text_told _ _ _ _ _ _ c.from_residual.result _ _ p.1 p.2 (c.in_err-read_below.ensures.damaged honest)
