use Rattle.std.proofs.Common.{◌∙◌, rules, subst, sym}
use Rattle.std.proofs.lemmas.Result.{err_from_is_err_and}
use Rattle.zst_run.specs.Generating.{Generating}
use Rattle.zst_run.specs.GeneratorTurns.{lines_of}
use Rattle.zst_run.proofs.GeneratorImages.{opened, unopened}
use Rattle.zst_run.proofs.ImageReceives.{KeepsWhole}
use Rattle.zst_run.proofs.generate.generate_image.Goals as goal

pub returns-in_err-kept : goal.returns-in_err-kept
returns-in_err-kept g c =
    let e = c.in_err-kept.ensures in
    let whole : KeepsWhole = (c.opened_is_at_rest.ensures.same, c.images_keep_partials.ensures) in
    let p = err_from_is_err_and c.from_residual.result c.from_residual.ensures.1 in
    rw (p.1, p.2) (unopened whole c.args.now c.args.steps _ _ c.in_err-kept.field-0.0 e.there e.answer e.reads.reads (λ alive. e.synced (λ is. alive (cc is))) e.reads.cause)

pub returns : goal.returns
returns g c =
    subst (λ d. Generating c.args.now c.args.steps (g.D.Disk.state c.args.here.now) (g.D.Disk.state d) (lines_of c.args.steps c.make_all-result.result))
    (let same = c.into_disk.ensures.same ∙ (c.make_all-result.ensures.later.same ∙ c.new-pool.ensures.same) in search rules)
    (let e = c.in_ok-kept.ensures in
    let n = c.new-pool.ensures in
    let r = c.make_all-result.ensures in
    opened c.args.now c.args.steps (g.D.Disk.state c.args.here.now) (g.D.Disk.state c.new-pool.result.io.disk.now) (g.D.Disk.state c.make_all-result.new.pool.io.disk.now)
    c.in_ok-kept.kept c.make_all-result.result (rw (sym n.disk) at e.there) (rw (sym n.disk) at e.answer) (rw (sym n.disk) at e.reads.reads) (rw (sym n.disk) at e.rests)
    (λ tight rows pool rests same. c.opened_is_at_rest.ensures.rests tight c.new-pool.result.io.disk.now c.in_ok-kept.kept rows pool rests same) (rw (sym n.disk) at e.reads.cause.later)
    r.later.honest (rw (n.kept) at r.says) (rw (n.kept) at r.stood) (rw (n.kept) at r.full) r.why (g.met.D.Disk.only_now c.args.here.now) (g.met.D.Disk.counts_now c.make_all-result.new.pool.io.disk.now) r.later.faults)
