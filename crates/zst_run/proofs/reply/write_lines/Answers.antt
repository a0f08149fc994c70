use Rattle.std.proofs.Common.{◌≡◌, ◌∙◌, List, ℕ, get_or, ap}
use Rattle.zst_outside.specs.Printing.{Prints-stop, Printed-then}
use Rattle.zst_run.proofs.ReplyLines.{reply_at, reply_more}
use Rattle.zst_run.proofs.reply.write_lines.Goals as goal

pub returns-in_err-write_line : goal.returns-in_err-write_line
returns-in_err-write_line g c =
    let i = c.loop-line.line-index in
    let d = c.line-item.result in
    let same : c.as_slice.result.now ≡ get_or c.args.reply.now i d = c.as_slice.ensures ∙ c.line-item.is ∙ ap (λ (l : List (List ℕ)). get_or l i d) c.lines-line-items.ensures in
    rw (reply_at c.args.reply.now i d (rw (c.lines-line-items.ensures) at c.loop-line-test.true))
    (Prints-stop _ _ _ _ _ _ c.in_err-write_line.field-0.0 _ c.from_residual.ensures.0 c.loop-line.invariant (rw (same) at c.in_err-write_line.ensures))

pub loop-line-preserved : goal.loop-line-preserved
loop-line-preserved g c =
    let i = c.loop-line.line-index in
    let d = c.line-item.result in
    let same : c.as_slice.result.now ≡ get_or c.args.reply.now i d = c.as_slice.ensures ∙ c.line-item.is ∙ ap (λ (l : List (List ℕ)). get_or l i d) c.lines-line-items.ensures in
    rw (reply_more c.args.reply.now i d (rw (c.lines-line-items.ensures) at c.loop-line-test.true))
    (Printed-then _ _ _ _ _ c.loop-line.invariant (rw (same) at c.in_ok-write_line.ensures.whole))
