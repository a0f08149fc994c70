use Rattle.std.proofs.Common.{ap, subst, sym, ◌∙◌}
use Rattle.std.proofs.lemmas.Result.{err_from_is_err_and}
use Rattle.zst_run.specs.Replays.{Replays}
use Rattle.zst_run.proofs.ReplayImages.{IsOpenedPool, first_unopened, opened_pool, replayed, second_unopened, unroomed}
use Rattle.zst_run.proofs.replay.replay.Goals as goal

pub returns-in_default : goal.returns-in_default
returns-in_default g c = unroomed _ _ _ _ _ _ _

pub returns-in_default-new : goal.returns-in_default-new
returns-in_default-new g c = unroomed _ _ _ _ _ _ _

pub returns-in_err-kept : goal.returns-in_err-kept
returns-in_err-kept g c =
    let e = c.in_err-kept.ensures in
    let p = err_from_is_err_and c.from_residual.result c.from_residual.ensures.1 in
    rw (p.1, p.2) (first_unopened _ _ _ _ _ _ _ _ c.in_err-kept.field-0.0 (record { there = e.there; answer = e.answer; reads = e.reads.reads; cause = e.reads.cause }))

pub returns-in_err-other : goal.returns-in_err-other
returns-in_err-other g c =
    let f = c.in_ok-kept.ensures in
    let e = c.in_err-other.ensures in
    let p = err_from_is_err_and c.from_residual-in_err-other.result c.from_residual-in_err-other.ensures.1 in
    rw (p.1, p.2)
    (second_unopened _ _ _ _ _ _ _ _ _ c.in_ok-kept.kept c.in_err-other.field-0.0
    (record { there = f.there; answer = f.answer; stands = f.rests; ready = f.ready; reads = f.reads.reads; later = f.reads.cause.later })
    (record { there = e.there; answer = e.answer; reads = e.reads.reads; cause = e.reads.cause }))

pub returns : goal.returns
returns g c =
    let f = c.in_ok-kept.ensures in
    let s = c.in_ok-other.ensures in
    let n = c.new-first.ensures in
    let m = c.new-second.ensures in
    let made = c.new-engine.ensures.begins in
    let all = c.run_lines-result.ensures in
    let here = g.D.Disk.state c.args.here.now in
    let there = g.E.Disk.state c.args.there.now in
    let end = c.run_lines-result.new.engine in
    let first : IsOpenedPool here c.new-engine.result.here =
    subst (λ (p : _). IsOpenedPool here p) (sym made.here_is)
    (opened_pool here c.open.new.disk c.in_ok-kept.kept c.new-first.result n.disk n.kept n.failed
    (record { there = f.there; answer = f.answer; stands = f.rests; ready = f.ready; reads = f.reads.reads; later = f.reads.cause.later })) in
    let second : IsOpenedPool there c.new-engine.result.there =
    subst (λ (p : _). IsOpenedPool there p) (sym made.there_is)
    (opened_pool there c.open-2.new.disk c.in_ok-other.other c.new-second.result m.disk m.kept m.failed
    (record { there = s.there; answer = s.answer; stands = s.rests; ready = s.ready; reads = s.reads.reads; later = s.reads.cause.later })) in
    let did = replayed c.opened_is_at_rest.ensures.rests c.opened_is_at_rest-2.ensures.rests c.args.now here there c.new-engine.result end _ _ _ _ c.run_lines-result.result first second made.time made.sends made.receives
    (g.met.D.Disk.only_now c.args.here.now) (g.met.E.Disk.only_now c.args.there.now) (g.met.D.Disk.counts_now end.here.io.disk.now) (g.met.E.Disk.counts_now end.there.io.disk.now) all in
    let first_disk = ap (λ (p : _). p.io.disk) c.finish-first.ensures.here in
    let second_disk = ap (λ (p : _). p.io.disk) c.finish-first.ensures.there in
    let here_is = sym (ap (λ (d : _). d.now) first_disk) ∙ sym c.into_disk.ensures.disk
    ∙ sym (c.here-1.given.1 (sym (c.into_disk.ensures.same ∙ ap (λ (d : _). d.ghost_name) first_disk ∙ all.runs.here_later.same ∙ ap (λ (p : _). p.io.disk.ghost_name) made.here_is ∙ n.same))) in
    let there_is = sym (ap (λ (d : _). d.now) second_disk) ∙ sym c.into_disk-2.ensures.disk
    ∙ sym (c.there-1.given.1 (sym (c.into_disk-2.ensures.same ∙ ap (λ (d : _). d.ghost_name) second_disk ∙ all.runs.there_later.same ∙ ap (λ (p : _). p.io.disk.ghost_name) made.there_is ∙ m.same))) in
    subst (λ d. Replays c.args.now here (g.D.Disk.state d) g.D.Disk.tells_images there (g.E.Disk.state c.there-1.given.0) g.E.Disk.tells_images (g.S.Source.state c.args.input.now) (g.S.Source.state c.run_lines-result.new.input)
    (g.K.Sink.state c.args.out.now) (g.K.Sink.state c.run_lines-result.new.out) c.run_lines-result.result) here_is
    (subst (λ d. Replays c.args.now here (g.D.Disk.state end.here.io.disk.now) g.D.Disk.tells_images there (g.E.Disk.state d) g.E.Disk.tells_images (g.S.Source.state c.args.input.now) (g.S.Source.state c.run_lines-result.new.input)
    (g.K.Sink.state c.args.out.now) (g.K.Sink.state c.run_lines-result.new.out) c.run_lines-result.result) there_is did)
