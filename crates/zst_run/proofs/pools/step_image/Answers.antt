use Rattle.std.specs.Prelude.{Ok, Err}
use Rattle.std.proofs.Common.{ap, subst, sym, ◌∙◌}
use Rattle.std.proofs.lemmas.List.Elements.{All-nil}
use Rattle.std.proofs.lemmas.Result.{err_from_is_err_and}
use Rattle.zst_pool.specs.Faults.{pool_refusal}
use Rattle.zst_run.specs.Commands.{Stepping}
use Rattle.zst_run.proofs.CommandLemmas.{KeepLaws, stepping_unopened, stepping_done, stepping_refused}
use Rattle.zst_run.proofs.pools.step_image.Goals as goal

pub returns-in_err-kept : goal.returns-in_err-kept
returns-in_err-kept g c =
    let e = c.in_err-kept.ensures in
    let p = err_from_is_err_and c.from_residual.result c.from_residual.ensures.1 in
    rw (p.1, p.2) (stepping_unopened c.args.now c.args.command _ _ c.in_err-kept.field-0.0 e.there e.answer e.reads.reads (λ alive. e.synced (λ is. alive (cc is))) e.reads.cause)

pub returns-in_err-reply : goal.returns-in_err-reply
returns-in_err-reply g c =
    let e = c.in_ok-kept.ensures in
    let s = c.in_err-reply.ensures in
    let n = c.new-pool.ensures in
    let rest = c.opened_is_at_rest.ensures in
    let p = err_from_is_err_and c.from_residual-in_err-reply.result c.from_residual-in_err-reply.ensures.1 in
    let laws : KeepLaws = (rest.same, c.steps_keep_partials.ensures.kept, c.images_keep_partials.ensures) in
    let stepping = stepping_refused laws c.reads_as_one.ensures.rows c.reads_are_kept.ensures c.args.now c.args.command
    (g.D.Disk.state c.args.here.now) (g.D.Disk.state c.new-pool.result.io.disk.now) (g.D.Disk.state c.step-reply.new.self.io.disk.now)
    c.in_ok-kept.kept c.step-reply.new.self.kept (rw (sym n.disk) at e.there) (λ told. s.settles.honest told) (rw (sym n.disk) at e.answer) (rw (sym n.disk) at e.reads.reads) (rw (sym n.disk) at e.rests)
    (λ tight rows pool rests same. rest.rests tight c.new-pool.result.io.disk.now c.in_ok-kept.kept rows pool rests same) (rw (sym n.disk) at e.reads.cause.later)
    (λ tight pool told rests. s.did.moments tight pool told (rw (n.kept) rests))
    (λ idle. (s.only_answers idle).reads)
    (g.met.D.Disk.only_now c.args.here.now) (g.met.D.Disk.counts_now c.step-reply.new.self.io.disk.now)
    c.in_err-reply.field-0.0 (s.settles.stays ∙ n.kept) s.settles.cause (λ is. s.did.open_still n.failed (ap (λ f. Err f) is))
    (λ other not. rw (n.kept) at (s.did.spares other (λ is. not (cc is))))
    (λ other. let most = s.did.spends other n.failed in (c.step-reply.new.self.io.space, most.0, most.1, rw (n.kept) at most.2.full))
    (λ one told. (c.step-reply.new.self.io.space, rw (n.kept) at (s.did.reclaims one told n.failed)))
    (λ told. rw (n.kept) at (s.did.damaged told))
    (λ memory. rw (n.kept) at (s.planned n.failed (λ is. memory (cc is))))
    (λ other pool told rests. (c.step-reply.new.self.io.space, rw (n.kept) at ((s.did.exact other pool told n.failed (rw (n.kept) rests)).full)))
    (λ other pool told rests. rw (n.kept) at (s.did.short other pool told n.failed (rw (n.kept) rests)))
    (λ tight pool told rests. s.did.answer tight pool told n.failed (rw (n.kept) rests) (All-nil _)) in
    rw (p.1, p.2) (subst (λ d. Stepping c.args.now c.args.command (g.D.Disk.state c.args.here.now) (g.D.Disk.state d) (Err (pool_refusal c.in_err-reply.field-0.0))) (sym c.into_disk.ensures.disk ∙ sym (c.here-1.given.1 (sym (c.into_disk.ensures.same ∙ (s.settles.same ∙ n.same))))) stepping)

pub returns : goal.returns
returns g c =
    let e = c.in_ok-kept.ensures in
    let s = c.in_ok-reply.ensures in
    let n = c.new-pool.ensures in
    let rest = c.opened_is_at_rest.ensures in
    let laws : KeepLaws = (rest.same, c.steps_keep_partials.ensures.kept, c.images_keep_partials.ensures) in
    let stepping = stepping_done laws c.reads_as_one.ensures.rows c.reads_are_kept.ensures c.args.now c.args.command
    (g.D.Disk.state c.args.here.now) (g.D.Disk.state c.new-pool.result.io.disk.now) (g.D.Disk.state c.step-reply.new.self.io.disk.now)
    c.in_ok-kept.kept c.step-reply.new.self.kept (rw (sym n.disk) at e.there) (λ told. s.settles.honest told) (rw (sym n.disk) at e.answer) (rw (sym n.disk) at e.reads.reads) (rw (sym n.disk) at e.rests)
    (λ tight rows pool rests same. rest.rests tight c.new-pool.result.io.disk.now c.in_ok-kept.kept rows pool rests same) (rw (sym n.disk) at e.reads.cause.later)
    (λ tight pool told rests. s.did.moments tight pool told (rw (n.kept) rests))
    (λ idle. (s.only_answers idle).reads)
    (g.met.D.Disk.only_now c.args.here.now) (g.met.D.Disk.counts_now c.step-reply.new.self.io.disk.now)
    c.in_ok-reply.field-0 s.settles.cause.later (rw (n.kept) at (s.planned n.failed (λ is. absurd (cc is))))
    (λ other pool told rests. rw (n.kept) at ((s.did.exact other pool told n.failed (rw (n.kept) rests)).grows))
    (λ one told. rw (n.kept) at ((s.did.reclaims one told n.failed).done))
    (λ tight pool told rests. s.did.answer tight pool told n.failed (rw (n.kept) rests) (All-nil _)) in
    subst (λ d. Stepping c.args.now c.args.command (g.D.Disk.state c.args.here.now) (g.D.Disk.state d) (Ok c.in_ok-reply.field-0)) (sym c.into_disk.ensures.disk ∙ sym (c.here-1.given.1 (sym (c.into_disk.ensures.same ∙ (s.settles.same ∙ n.same))))) stepping
