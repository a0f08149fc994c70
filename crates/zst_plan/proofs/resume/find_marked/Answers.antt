use Rattle.std.proofs.Common.{◌∙◌, ℕ, Bool, List, Option, None, Result, Ok, bytes_eq, if◌then◌else◌, sym, ap}
use Rattle.zst_model.specs.declared.refusals.plan_fault.PlanFault.{PlanFault}
use Rattle.zst_model.specs.pools.Pool.{Pool, Bookmark}
use Rattle.zst_plan.specs.Places.{FindAlike, StandsAt}
use Rattle.zst_plan.specs.ResumePlan.{find_mark, find_marked}
use Rattle.zst_plan.proofs.resume.find_marked.Goals as goal
use Rattle.zst_plan.proofs.AlikeAnswers.{answers, hands_on}
use Rattle.zst_token.specs.declared.token.Token.{Token}

-- none where the guids are the snapshot's own
abbrev if_other : Token → Pool → Bool → Result (Option Bookmark) PlanFault
if_other token pool own = if own then Ok None else find_mark token pool

pub returns-then-is_redacted_alike-clause-found : goal.returns-then-is_redacted_alike-clause-found
returns-then-is_redacted_alike-clause-found c = λ pool later are names.
    let token = c.args.token.now in
    let own = ap (λ (guids : List ℕ). bytes_eq guids token.redact) names.redact ∙ sym c.is_redacted_alike.ensures ∙ c.if-is_redacted_alike.true in
    answers (FindAlike (StandsAt c.args.dir.now.bookmarks pool.bookmarks)) None None (find_marked token pool later) (ap (if_other token pool) own) tt

pub returns-clause-found : goal.returns-clause-found
returns-clause-found c = λ pool later are names.
    let token = c.args.token.now in
    let other = ap (λ (guids : List ℕ). bytes_eq guids token.redact) names.redact ∙ sym c.is_redacted_alike.ensures ∙ c.if-is_redacted_alike.false in
    hands_on (FindAlike (StandsAt c.args.dir.now.bookmarks pool.bookmarks)) c.find_mark.result (find_marked token pool later) (find_mark token pool) (ap (if_other token pool) other)
    (c.find_mark.ensures.found pool are)
