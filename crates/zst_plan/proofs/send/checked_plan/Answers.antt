use Rattle.std.proofs.Common.{◌∙◌, List, Ok, sym, ap, subst, get_or, refl}
use Rattle.zst_dir.specs.declared.rows.Snapshot.{Snapshot}
use Rattle.zst_model.specs.sends.SendPlan.{sent_of}
use Rattle.zst_model.proofs.Results.{err_is}
use Rattle.zst_plan.specs.Places.{AnswerAlike}
use Rattle.zst_plan.specs.Plans.{IsPlanOf}
use Rattle.zst_plan.proofs.SendChecks.{after_before, after_redaction, the_sent}
use Rattle.zst_plan.proofs.LookupLemmas.{row_names}
use Rattle.zst_plan.proofs.SendPlans.{names_alike}
use Rattle.zst_plan.proofs.send.checked_plan.Goals as goal
use Rattle.zst_plan.proofs.AlikeAnswers.{both_refuse}

pub returns-in_err-check_before-clause-exact : goal.returns-in_err-check_before-clause-exact
returns-in_err-check_before-clause-exact c = λ pool snapshot source redaction are at from list.
    let rows = c.args.dir.now in
    let names = row_names rows pool are c.args.snap c.index-snapshots-snap.result snapshot at
    (c.index-snapshots-snap.is ∙ ap (λ (xs : List Snapshot). get_or xs c.args.snap c.index-snapshots-snap.result) c.snapshots.ensures) in
    let names_from = names_alike rows pool c.args.source.now source from in
    let fault = c.in_err-check_before.field-0.0 in
    both_refuse (IsPlanOf rows pool) c.from_residual.result (sent_of pool snapshot source redaction) fault (err_is c.from_residual.result fault c.from_residual.ensures.1)
    (c.in_err-check_before.ensures pool snapshot source (after_before pool snapshot source redaction) are names names_from)

pub returns-in_err-check_redaction-clause-exact : goal.returns-in_err-check_redaction-clause-exact
returns-in_err-check_redaction-clause-exact c = λ pool snapshot source redaction are at from list.
    let rows = c.args.dir.now in
    let names = row_names rows pool are c.args.snap c.index-snapshots-snap.result snapshot at
    (c.index-snapshots-snap.is ∙ ap (λ (xs : List Snapshot). get_or xs c.args.snap c.index-snapshots-snap.result) c.snapshots.ensures) in
    let names_from = names_alike rows pool c.args.source.now source from in
    let fault = c.in_err-check_redaction.field-0.0 in
    both_refuse (IsPlanOf rows pool) c.from_residual-in_err-check_redaction.result (sent_of pool snapshot source redaction) fault (err_is c.from_residual-in_err-check_redaction.result fault c.from_residual-in_err-check_redaction.ensures.1)
    (c.in_ok-check_before.ensures pool snapshot source (after_before pool snapshot source redaction) are names names_from
    ∙ c.in_err-check_redaction.ensures snapshot redaction (after_redaction pool snapshot source redaction) names (c.bookmark_at.ensures pool redaction are list))

pub returns-in_err-check_no_relay-clause-exact : goal.returns-in_err-check_no_relay-clause-exact
returns-in_err-check_no_relay-clause-exact c = λ pool snapshot source redaction are at from list.
    let rows = c.args.dir.now in
    let names = row_names rows pool are c.args.snap c.index-snapshots-snap.result snapshot at
    (c.index-snapshots-snap.is ∙ ap (λ (xs : List Snapshot). get_or xs c.args.snap c.index-snapshots-snap.result) c.snapshots.ensures) in
    let names_from = names_alike rows pool c.args.source.now source from in
    let fault = c.in_err-check_no_relay.field-0.0 in
    both_refuse (IsPlanOf rows pool) c.from_residual-in_err-check_no_relay.result (sent_of pool snapshot source redaction) fault (err_is c.from_residual-in_err-check_no_relay.result fault c.from_residual-in_err-check_no_relay.ensures.1)
    (c.in_ok-check_before.ensures pool snapshot source (after_before pool snapshot source redaction) are names names_from
    ∙ c.in_ok-check_redaction.ensures snapshot redaction (after_redaction pool snapshot source redaction) names (c.bookmark_at.ensures pool redaction are list)
    ∙ c.in_err-check_no_relay.ensures snapshot redaction (Ok (the_sent pool snapshot source redaction)) names (c.bookmark_at-2.ensures pool redaction are list))

pub returns-clause-exact : goal.returns-clause-exact
returns-clause-exact c = λ pool snapshot source redaction are at from list.
    let rows = c.args.dir.now in
    let names = row_names rows pool are c.args.snap c.index-snapshots-snap.result snapshot at
    (c.index-snapshots-snap.is ∙ ap (λ (xs : List Snapshot). get_or xs c.args.snap c.index-snapshots-snap.result) c.snapshots.ensures) in
    let names_from = names_alike rows pool c.args.source.now source from in
    subst (AnswerAlike (IsPlanOf rows pool) (Ok c.plan_of.result))
    (sym (c.in_ok-check_before.ensures pool snapshot source (after_before pool snapshot source redaction) are names names_from
    ∙ c.in_ok-check_redaction.ensures snapshot redaction (after_redaction pool snapshot source redaction) names (c.bookmark_at.ensures pool redaction are list)
    ∙ c.in_ok-check_no_relay.ensures snapshot redaction (Ok (the_sent pool snapshot source redaction)) names (c.bookmark_at-2.ensures pool redaction are list)))
    (c.plan_of.ensures.plan rows pool (the_sent pool snapshot source redaction) at names from list refl)
