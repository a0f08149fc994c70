use Rattle.std.proofs.Common.{◌∙◌}
use Rattle.std.proofs.lemmas.List.{take_rest}
use Rattle.zst_outside.specs.Printing.{Wrote-more}
use Rattle.zst_outside.proofs.sink.write_all.Goals as goal

pub loop-rest-preserved : goal.loop-rest-preserved
loop-rest-preserved g c =
    let rest = c.loop-rest.rest.now in
    let n = c.in_ok-count.count in
    let e = c.in_ok-count.ensures in
    (rw (take_rest rest n) (Wrote-more _ _ _ c.args.text.now rest n c.loop-rest.invariant.0 e.bytes e.cause.later), e.count_stays ∙ c.loop-rest.invariant.1)
