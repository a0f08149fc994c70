use Rattle.std.specs.Prelude.{Ok, Err}
use Rattle.std.proofs.Common.{rules, subst}
use Rattle.std.proofs.lemmas.Result.{err_from_is_err_and}
use Rattle.zst_model.specs.refusals.Refusal.{refusal_of}
use Rattle.zst_run.specs.Tokens.{TellsToken}
use Rattle.zst_run.proofs.ImageTokens.{unopened, opened}
use Rattle.zst_run.proofs.tokens.token_of_image.Goals as goal

pub returns-in_err-kept : goal.returns-in_err-kept
returns-in_err-kept g c =
    let e = c.in_err-kept.ensures in
    let p = err_from_is_err_and c.from_residual.result c.from_residual.ensures.1 in
    rw (p.1, p.2) (unopened _ _ _ c.in_err-kept.field-0.0 e.there e.answer e.reads.reads e.reads.cause)

pub returns-in_err-told : goal.returns-in_err-told
returns-in_err-told g c =
    let e = c.in_ok-kept.ensures in
    let n = c.new-pool.ensures in
    let s = c.in_err-told.ensures in
    let p = err_from_is_err_and c.from_residual-in_err-told.result c.from_residual-in_err-told.ensures.1 in
    let tells = opened c.args.dataset.now (g.D.Disk.state c.args.here.now) (g.D.Disk.state c.open.new.disk) c.in_ok-kept.kept (Err c.in_err-told.field-0.0) e.there e.answer e.reads.reads e.reads.cause.later
    (λ pool named. s.named pool (rw (n.kept) named)) (λ bound image space pool runs. s.runs bound image space pool (rw (n.kept) runs)) s.known in
    rw (p.1, p.2)
    (subst (λ d. TellsToken c.args.dataset.now (g.D.Disk.state c.args.here.now) (g.D.Disk.state d) (Err (refusal_of c.in_err-told.field-0.0))) (search rules) tells)

pub returns : goal.returns
returns g c =
    let e = c.in_ok-kept.ensures in
    let n = c.new-pool.ensures in
    let s = c.in_ok-told.ensures in
    let tells = opened c.args.dataset.now (g.D.Disk.state c.args.here.now) (g.D.Disk.state c.open.new.disk) c.in_ok-kept.kept (Ok c.in_ok-told.field-0) e.there e.answer e.reads.reads e.reads.cause.later
    (λ pool named. s.named pool (rw (n.kept) named)) (λ bound image space pool runs. s.runs bound image space pool (rw (n.kept) runs)) s.known in
    subst (λ d. TellsToken c.args.dataset.now (g.D.Disk.state c.args.here.now) (g.D.Disk.state d) (Ok c.in_ok-told.field-0)) (search rules) tells
