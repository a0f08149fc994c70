use Rattle.std.proofs.Common.{refl, sym, ◌∙◌, ◌==◌}
use Rattle.std.specs.Prelude.{Ok}
use Rattle.std.proofs.lemmas.Bool.{true≢false}
use Rattle.zst_block.proofs.IoCallLemmas.{Looks-none}
use Rattle.zst_send.specs.Openings.{IsRedactedAt}
use Rattle.zst_send.proofs.PlanRows.{open_yet, passes_planned}
use Rattle.zst_send.proofs.StandingRows.{redacted_by_row}
use Rattle.zst_send.proofs.send.Send.resume.Goals as goal

pub returns-then-pool-clause-damaged : goal.returns-then-pool-clause-damaged
returns-then-pool-clause-damaged g c = λ honest sector stated found same. absurd (cc same)

pub returns-then-pool-clause-pool : goal.returns-then-pool-clause-pool
returns-then-pool-clause-pool g c = record {
  failed_pool = λ is. refl;
  open_still = λ still is. true≢false (sym c.if-pool.true ∙ still);
  looks = Looks-none _;
  kept = refl;
}

pub returns-clause-resumes : goal.returns-clause-resumes
returns-clause-resumes g c = λ running sent honest live named is stands. c.of_plan.ensures.starts running sent honest named is stands

pub returns-clause-tight : goal.returns-clause-tight
returns-clause-tight g c = λ image space running sent number runs is. c.of_plan.ensures.tight image space running sent number runs is

pub returns-clause-planned : goal.returns-clause-planned
returns-clause-planned g c = λ running sent live named is.
    let rows = c.args.pool.now.kept.dir in
    let from = c.args.plan.now.from_snap in
    passes_planned (Ok sent) sent (IsRedactedAt rows from) c.of_plan.result refl (redacted_by_row rows running from sent.source named is.source.snapshot) c.of_plan.ensures.unlisted

pub returns-clause-damaged : goal.returns-clause-damaged
returns-clause-damaged g c = λ honest. c.of_plan.ensures.damaged honest

pub returns-clause-set : goal.returns-clause-set
returns-clause-set g c = λ guid stands. c.of_plan.ensures.set (λ snapshot. snapshot.guid == guid) stands

pub returns-clause-pool : goal.returns-clause-pool
returns-clause-pool g c = record {
  failed_pool = λ failed. absurd (true≢false (sym failed ∙ c.if-pool.false));
  open_still = λ still is. open_yet (IsRedactedAt c.args.pool.now.kept.dir c.args.plan.now.from_snap) c.of_plan.result c.of_plan.ensures.unlisted is;
  looks = c.of_plan.ensures.looks;
  kept = refl;
}
