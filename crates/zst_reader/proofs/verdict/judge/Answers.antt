use Rattle.std.proofs.Common.{◌≡◌, ◌∙◌, None, rules, sym, ap}
use Rattle.zst_stream.specs.Reading.{closing, rule_by}
use Rattle.zst_reader.proofs.VerdictLemmas.{ruled-as, ruled-by}
use Rattle.zst_reader.proofs.verdict.judge.Goals as goal

pub returns-in-End-clause-judged : goal.returns-in-End-clause-judged
returns-in-End-clause-judged c = record {
  rules = λ before is.
      ruled-as before c.args.held.now c.args.place.now c.args.head.now _ c.judge_end.result c.in-End.is is c.requires.is (c.judge_end.ensures.rules before is);
  leads = rw c.in-End.is c.judge_end.ensures.leads;
  fits = rw c.in-End.is c.judge_end.ensures.fits;
}

pub returns-in_default : goal.returns-in_default
returns-in_default c =
    let held = c.args.held.now in
    let head = c.args.head.now in
    let later : closing head ≡ None = search rules in
    let judged = c.judge_later.ensures.judged in
    record {
      judged = record {
        rules = λ before is. judged.rules before is ∙ sym (ruled-by before held c.args.place.now head is c.requires.is ∙ ap (rule_by before held head) later);
        leads = judged.leads;
        fits = judged.fits;
      };
      kept = c.judge_later.ensures.kept;
    }
