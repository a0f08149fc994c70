use Rattle.std.proofs.Common.{take}
use Rattle.zst_outside.specs.Printing.{Printed}
use Rattle.zst_run.specs.Replies.{reply_text}
use Rattle.zst_run.proofs.reply.write_lines.Given as goal

-- the lines that came before are written
abbrev pub invariant-loop-line : goal.invariant-loop-line
invariant-loop-line g l =
    let sink = g.K.Sink in
    Printed (sink.state l.fn.out) (sink.state l.out) (reply_text (take l.line-index l.reply))
