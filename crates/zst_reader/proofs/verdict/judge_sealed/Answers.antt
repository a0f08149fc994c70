use Rattle.std.proofs.Common.{rules, ◌≡◌, ◌+◌, ◌-◌, ◌++◌, take, drop, ap, ◌∙◌, arith, length-drop}
use Rattle.zst_fletcher.specs.WeightSum.{weight_sum}
use Rattle.zst_record.specs.Heads.{size_of}
use Rattle.zst_reader.proofs.VerdictLemmas.{two-parts, whole-part, sealed-refused, sealed-right}
use Rattle.zst_reader.proofs.verdict.judge_sealed.Goals as goal

pub returns-in-Some : goal.returns-in-Some
returns-in-Some c = record {
  rules = λ before is.
      let held = c.args.held.now in
      let head = c.args.head.now in
      let size = 312 + c.payload_len.result in
      let same : size ≡ size_of head = ap (λ n. 312 + n) c.payload_len.ensures in
      let with = c.sum_with-sum.ensures before is in
      let found = c.add.ensures (before ++ take size held) (whole-part before held size is.words (omega arith) (omega arith)) with ∙ ap weight_sum (two-parts before held size (size + 280) (omega arith)) in
      sealed-refused before held head c.in-Some.fault (omega arith) (rw same at (c.in-Some.ensures before (size + 280) found is.at));
  leads = search rules;
  fits = search rules;
}

pub returns-in-None : goal.returns-in-None
returns-in-None c =
    let held = c.args.held.now in
    let head = c.args.head.now in
    let size = 312 + c.payload_len.result in
    let same : size ≡ size_of head = ap (λ n. 312 + n) c.payload_len.ensures in
    record {
      rules = λ before is.
          let with = c.sum_with-sum.ensures before is in
          let found = c.add.ensures (before ++ take size held) (whole-part before held size is.words (omega arith) (omega arith)) with ∙ ap weight_sum (two-parts before held size (size + 280) (omega arith)) in
          sealed-right before held head (omega arith) (rw same at (c.in-None.ensures before (size + 280) found is.at));
      leads = λ before is.
          let sum = c.sum_with-sum.ensures before is in
          let count : size + 280 - size ≡ 280 = omega arith in
          let found = c.add.ensures (before ++ take size held) (whole-part before held size is.words (omega arith) (omega arith)) sum in
          rw same at (c.after.ensures.after before is sum (record {
            there = omega (arith, length-drop size held);
            sum = found ∙ ap (λ n. weight_sum ((before ++ take size held) ++ take n (drop size held))) count;
          }));
      fits = search rules;
    }
