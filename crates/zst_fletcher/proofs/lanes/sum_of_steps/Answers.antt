use Rattle.std.proofs.Common.{◌∙◌, ◌*◌, ap, arith, sym, take}
use Rattle.std.proofs.lemmas.List.{take_all}
use Rattle.zst_fletcher.specs.WeightSum.{words, weight_sum}
use Rattle.zst_fletcher.specs.Pairs.{pairs_of}
use Rattle.zst_fletcher.proofs.Words.{steps-count, words-step}
use Rattle.zst_fletcher.proofs.lanes.sum_of_steps.Goals as goal

pub loop-step-preserved : goal.loop-step-preserved
loop-step-preserved c =
    let bytes = c.args.bytes.now in
    let step = c.loop-step.step in
    let added = c.add_step-pairs.ensures (words (take (128 * step) bytes)) (omega (arith, steps-count bytes step (omega arith))) c.loop-step.invariant in
    added ∙ ap pairs_of (sym (words-step bytes step (omega arith)))

pub returns : goal.returns
returns c =
    let bytes = c.args.bytes.now in
    let step = c.loop-step.step in
    let joined = c.join.ensures (words (take (128 * step) bytes)) (omega (arith, steps-count bytes step (omega arith))) c.loop-step.invariant in
    joined ∙ ap weight_sum (take_all (128 * step) bytes (omega arith))
