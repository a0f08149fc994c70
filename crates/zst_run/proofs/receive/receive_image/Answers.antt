use Rattle.std.proofs.Common.{subst, sym, ◌∙◌}
use Rattle.std.proofs.lemmas.Result.{err_from_is_err_and}
use Rattle.zst_run.specs.Receives.{Receiving}
use Rattle.zst_run.specs.ReceiveTurns.{told}
use Rattle.zst_run.proofs.ImageReceives.{KeepsWhole, opened, unopened}
use Rattle.zst_run.proofs.receive.receive_image.Goals as goal

pub returns-in_err-kept : goal.returns-in_err-kept
returns-in_err-kept g c =
    let e = c.in_err-kept.ensures in
    let whole : KeepsWhole = (c.opened_is_at_rest.ensures.same, c.images_keep_partials.ensures) in
    let p = err_from_is_err_and c.from_residual.result c.from_residual.ensures.1 in
    rw (p.1, p.2) (unopened whole c.args.ask _ _ _ c.in_err-kept.field-0.0 e.there e.answer e.reads.reads (λ alive. e.synced (λ is. alive (cc is))) e.reads.cause)

pub returns : goal.returns
returns g c =
    subst (λ d. Receiving c.args.ask (g.D.Disk.state c.args.here.now) (g.D.Disk.state d) (g.S.Source.state c.args.input.now) (g.S.Source.state c.receive_into-result.new.input) (told c.receive_into-result.result))
    (sym c.into_disk.ensures.disk ∙ sym (c.here-1.given.1 (sym (c.into_disk.ensures.same ∙ (c.receive_into-result.ensures.later.same ∙ c.new-pool.ensures.same)))))
    (let e = c.in_ok-kept.ensures in
    let n = c.new-pool.ensures in
    let r = c.receive_into-result.ensures in
    opened c.args.ask (g.D.Disk.state c.args.here.now) (g.D.Disk.state c.new-pool.result.io.disk.now) (g.D.Disk.state c.receive_into-result.new.pool.io.disk.now) (g.S.Source.state c.args.input.now)
    (g.S.Source.state c.receive_into-result.new.input) c.in_ok-kept.kept c.receive_into-result.result (rw (sym n.disk) at e.there) (rw (sym n.disk) at e.answer) (rw (sym n.disk) at e.reads.reads) (rw (sym n.disk) at e.rests)
    (λ tight rows pool rests same. c.opened_is_at_rest.ensures.rests tight c.new-pool.result.io.disk.now c.in_ok-kept.kept rows pool rests same) (rw (sym n.disk) at e.reads.cause.later)
    r.later.honest (rw (n.kept) at r.fed) (rw (n.kept) at r.plans) (rw (n.kept) at r.why.damaged) (rw (n.kept) at r.why.stood) (g.met.D.Disk.only_now c.args.here.now) (g.met.D.Disk.counts_now c.receive_into-result.new.pool.io.disk.now)
    r.why.refused r.later.faults r.input_later)
