use Rattle.std.proofs.Common.{subst, sym, ◌∙◌}
use Rattle.std.proofs.lemmas.Result.{err_from_is_err_and}
use Rattle.zst_block.specs.Blocks.{Has}
use Rattle.zst_dir.specs.RowNames.{AreNamed}
use Rattle.zst_send.specs.Openings.{StandsPlanned}
use Rattle.zst_space.specs.FreeSectors.{FreeSectors}
use Rattle.zst_image.specs.Bodies.{behind_end}
use Rattle.zst_image.specs.declared.pool_state.PoolState.{PoolState}
use Rattle.zst_run.specs.Sends.{IsDamagedRequest, Sends, TellsOf, to_send}
use Rattle.zst_run.proofs.ImageSends.{unopened, opened}
use Rattle.zst_run.proofs.NamedImages.{AreOne}
use Rattle.zst_run.proofs.send.send.Goals as goal

pub returns-in_err-kept : goal.returns-in_err-kept
returns-in_err-kept g c =
    let e = c.in_err-kept.ensures in
    let p = err_from_is_err_and c.from_residual.result c.from_residual.ensures.1 in
    rw (p.1, p.2)
    (unopened (record { text = c.root_has_one_text.ensures; extents = c.root_has_one_set_of_extents.ensures; directory = c.bytes_are_one_directory.ensures }) _ _ _ _ c.in_err-kept.field-0.0 (g.met.D.Disk.seen_size c.args.here.now) e.answer e.reads.reads e.reads.cause)

pub returns : goal.returns
returns g c =
    let e = c.in_ok-kept.ensures in
    let n = c.new-pool.ensures in
    let s = c.send_from-result.ensures in
    let here = g.D.Disk.state c.args.here.now in
    let mid = g.D.Disk.state c.new-pool.result.io.disk.now in
    let one : AreOne = record { text = c.root_has_one_text.ensures; extents = c.root_has_one_set_of_extents.ensures; directory = c.bytes_are_one_directory.ensures } in
    let sends = opened one c.args.request.now here mid (g.D.Disk.state c.send_from-result.new.pool.io.disk.now)
    (g.K.Sink.state c.args.out.now) (g.K.Sink.state c.send_from-result.new.out) c.in_ok-kept.kept c.send_from-result.result (g.met.D.Disk.seen_size c.args.here.now)
    (rw (sym n.disk) at e.answer) (rw (sym n.disk) at e.reads.reads) (rw (sym n.disk) at e.reads.cause.later)
    s.reads s.later.faults (λ pool told named stands.
    let kept_named : AreNamed c.new-pool.result.kept.dir pool = rw (n.kept) named in
    let kept_stands : StandsPlanned (Has mid.seen c.new-pool.result.io.space) c.new-pool.result.kept.dir pool (to_send c.args.request.now pool) = rw (n.space, n.kept) stands in
    s.sends pool told kept_named kept_stands) s.refused
    (record {
      planned = λ pool named. s.planned pool (rw (n.kept) named);
      because = λ pool fault named is. s.because pool fault (rw (n.kept) named) is;
      long = λ pool named. s.long pool (rw (n.kept) named);
      damaged = λ told.
          let told_of = λ (space : FreeSectors) (kept : PoolState). TellsOf (IsDamagedRequest c.args.request.now space.end kept.dir mid) c.send_from-result.result in
          subst (told_of (behind_end c.in_ok-kept.kept.body.uber)) n.kept (subst (λ (space : FreeSectors). told_of space c.new-pool.result.kept) n.space (s.damaged told));
    }) in
    subst (λ d. Sends c.args.request.now (g.D.Disk.state c.args.here.now) (g.D.Disk.state d) (g.K.Sink.state c.args.out.now) (g.K.Sink.state c.send_from-result.new.out) c.send_from-result.result)
    (sym c.into_disk.ensures.disk ∙ sym (c.here-1.given.1 (sym (c.into_disk.ensures.same ∙ (s.later.same ∙ n.same))))) sends
