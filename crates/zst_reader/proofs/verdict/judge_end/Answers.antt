use Rattle.std.proofs.Common.{rules, sym, ap, ◌∙◌, arith}
use Rattle.std.proofs.lemmas.List.{append-nil}
use Rattle.zst_stream.specs.Reading.{finish}
use Rattle.zst_fletcher.specs.WeightSum.{weight_sum}
use Rattle.zst_reader.proofs.verdict.judge_end.Goals as goal

pub returns : goal.returns
unfolding finish
returns c = record {
  rules = search rules;
  leads = λ before is.
      let sum = c.sum_with-sum.ensures before is in
      c.after.ensures.after before is sum (record { there = omega arith; sum = sum ∙ ap weight_sum (sym (append-nil _)) });
  fits = search rules;
}
