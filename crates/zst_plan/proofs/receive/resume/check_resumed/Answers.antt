use Rattle.std.proofs.Common.{◌∙◌, sym}
use Rattle.zst_plan.proofs.ReceiveChecks.{resumes_elsewhere}
use Rattle.zst_plan.proofs.receive.resume.check_resumed.Goals as goal

pub returns-then-not-goes_on : goal.returns-then-not-goes_on
returns-then-not-goes_on c = λ kept names.
    resumes_elsewhere c.args.header.now kept c.wrong_resume.result (sym c.is_resumed.ensures ∙ c.if-not-is_resumed.false) (sym (c.goes_on.ensures kept names) ∙ c.if-not-goes_on.true) (c.wrong_resume.ensures kept names)
