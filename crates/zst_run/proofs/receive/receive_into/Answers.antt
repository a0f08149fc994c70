use Rattle.std.proofs.Common.{ℕ, ◌∙◌, List, Err, IfErr, refl, sym, subst, []}
use Rattle.std.proofs.lemmas.Result.{err_from_is_err_and}
use Rattle.zst_block.specs.Blocks.{KeepsBlocks}
use Rattle.zst_image.specs.Commits.{Ready}
use Rattle.zst_image.specs.declared.pool_state.PoolState.{PoolState}
use Rattle.zst_model.specs.declared.refusals.refusal.Refusal.TheVariants as refusals
use Rattle.zst_plan.specs.declared.receive.RecvAsk.{RecvAsk}
use Rattle.zst_run.specs.Receives.{SaysOfPlan, IsDamagedReceive}
use Rattle.zst_run.specs.ReceiveTurns.{told, Fed, IsEnd, IsReady, WaitsForMore}
use Rattle.zst_run.proofs.LaterDisks.{later_behind, later_none, later_still}
use Rattle.zst_run.proofs.ReceiveDamage.{memory_undamaged}
use Rattle.zst_run.proofs.ReceivePlans.{gave_none, none_covered, starts, unread_plans}
use Rattle.zst_run.proofs.ReceiveLemmas.{begins, fed_weaker, unread, without_memory}
use Rattle.std.specs.Prelude.{None}
use Rattle.zst_image.specs.Bodies.{free_by}
use Rattle.zst_run.proofs.receive.receive_into.Goals as goal

pub returns-in_default-clause-fed : goal.returns-in_default-clause-fed
returns-in_default-clause-fed g c = unread _ _ _ _

pub returns-in_err-recv-clause-fed : goal.returns-in_err-recv-clause-fed
returns-in_err-recv-clause-fed g c =
    let p = err_from_is_err_and c.from_residual.result c.from_residual.ensures.1 in
    let known = c.in_err-recv.ensures.known c.requires.works in
    let start = g.D.Disk.state c.args.pool.now.io.disk.now in
    let kept = c.args.pool.now.kept in
    let input = g.S.Source.state c.args.input.now in
    rw (p.1, p.2, known)
    (subst (λ d. Fed (λ tight. IsReady c.args.ask tight start kept) kept start (g.D.Disk.state d) c.args.ask input input (Err refusals.OutOfMemory)) (sym c.in_err-recv.ensures.disk) (unread start kept c.args.ask input))

pub returns-clause-fed : goal.returns-clause-fed
returns-clause-fed g c =
    let e = c.in_ok-recv.ensures in
    let start = g.D.Disk.state c.open.new.pool.io.disk.now in
    let kept = c.open.new.pool.kept in
    let recv = c.in_ok-recv.recv in
    let fed : Fed (λ tight pool. WaitsForMore tight start kept recv recv.ask pool [] 0) kept start (g.D.Disk.state c.feed_all.new.pool.io.disk.now) recv.ask (g.S.Source.state c.args.input.now)
    (g.S.Source.state c.feed_all.new.input) (told c.feed_all.result) = c.feed_all.ensures.fed in
    fed_weaker _ _ _ _ _ _ _ _ _ _ e.fresh.ask (λ tight pool ready. begins tight _ _ c.in_ok-recv.recv pool e.fresh.opens _ e.fresh.ask ready) (rw (e.disk, e.kept) at fed)

pub returns-in_default-clause-plans : goal.returns-in_default-clause-plans
returns-in_default-clause-plans g c = λ text gave.
    let rows = c.args.pool.now.kept.dir in
    subst (λ (t : List ℕ). SaysOfPlan rows c.args.ask t (Err refusals.OutOfMemory)) (sym (gave_none (g.S.Source.state c.args.input.now) text gave))
    (unread_plans rows c.args.ask refusals.OutOfMemory (λ fault is. absurd (cc is)) none_covered)

pub returns-in_err-recv-clause-plans : goal.returns-in_err-recv-clause-plans
returns-in_err-recv-clause-plans g c = λ text gave.
    let rows = c.args.pool.now.kept.dir in
    let p = err_from_is_err_and c.from_residual.result c.from_residual.ensures.1 in
    let known = c.in_err-recv.ensures.known c.requires.works in
    rw (p.1, p.2, known)
    (subst (λ (t : List ℕ). SaysOfPlan rows c.args.ask t (Err refusals.OutOfMemory)) (sym (gave_none (g.S.Source.state c.args.input.now) text gave))
    (unread_plans rows c.args.ask refusals.OutOfMemory (λ fault is. absurd (cc is)) none_covered))

pub returns-clause-plans : goal.returns-clause-plans
returns-clause-plans g c = λ text gave.
    let e = c.in_ok-recv.ensures in
    let kept = c.open.new.pool.kept in
    let recv = c.in_ok-recv.recv in
    let says = c.feed_all.ensures.plans kept.dir text gave (starts kept recv e.fresh.stands e.fresh.waiting none_covered) in
    subst (λ (k : PoolState). SaysOfPlan k.dir c.args.ask text (told c.feed_all.result)) e.kept (subst (λ (a : RecvAsk). SaysOfPlan kept.dir a text (told c.feed_all.result)) e.fresh.ask says)

pub returns-in_default-clause-why : goal.returns-in_default-clause-why
returns-in_default-clause-why g c =
    let here = g.D.Disk.state c.args.pool.now.io.disk.now in
    let input = g.S.Source.state c.args.input.now in
    record { refused = without_memory here here input input; told = λ whole. refl; damaged = λ text gave sector stated found honest is. absurd (cc is); stood = λ apart ptr bytes has. has }

pub returns-in_err-recv-clause-why : goal.returns-in_err-recv-clause-why
returns-in_err-recv-clause-why g c =
    let p = err_from_is_err_and c.from_residual.result c.from_residual.ensures.1 in
    let known = c.in_err-recv.ensures.known c.requires.works in
    let input = g.S.Source.state c.args.input.now in
    record {
      refused = rw (p.1, p.2, known) (without_memory (g.D.Disk.state c.args.pool.now.io.disk.now) (g.D.Disk.state c.open.new.pool.io.disk.now) input input);
      told = λ whole. c.in_err-recv.ensures.checksum_errors;
      damaged = λ text gave sector stated found honest is. absurd (memory_undamaged sector stated found (rw (p.1, p.2, known) at is));
      stood = λ apart.
          let seen = (g.D.Disk.state c.args.pool.now.io.disk.now).seen in
          let free = free_by c.args.pool.now.kept.body in
          subst (λ d. KeepsBlocks seen free (g.D.Disk.state d).seen free) (sym c.in_err-recv.ensures.disk) (λ ptr bytes has. has);
    }

pub returns-clause-why : goal.returns-clause-why
returns-clause-why g c =
    let e = c.in_ok-recv.ensures in
    let why = c.feed_all.ensures.why in
    let new = g.D.Disk.state c.feed_all.new.pool.io.disk.now in
    record {
      refused = subst (λ d. IfErr c.feed_all.result (IsEnd (g.D.Disk.state d) new (g.S.Source.state c.args.input.now) (g.S.Source.state c.feed_all.new.input))) e.disk why.refused;
      told = λ whole. why.told whole ∙ e.checksum_errors;
      damaged = λ text gave sector stated found honest is.
          let first = g.D.Disk.state c.open.new.pool.io.disk.now in
          let told : IsDamagedReceive first.seen first.size c.open.new.pool.kept.body c.open.new.pool.kept.dir c.in_ok-recv.recv.ask text sector stated found = why.damaged text gave sector stated found honest is in
          rw (e.fresh.ask, e.disk, e.kept) at told;
      stood = λ apart.
          subst (λ d. KeepsBlocks (g.D.Disk.state d).seen (free_by c.args.pool.now.kept.body) new.seen (free_by c.args.pool.now.kept.body)) e.disk
          (subst (λ (k : PoolState). KeepsBlocks (g.D.Disk.state c.open.new.pool.io.disk.now).seen (free_by k.body) new.seen (free_by k.body)) e.kept (why.stood apart));
    }

pub returns-in_default-clause-later : goal.returns-in_default-clause-later
returns-in_default-clause-later g c = later_none _

pub returns-in_err-recv-clause-later : goal.returns-in_err-recv-clause-later
returns-in_err-recv-clause-later g c = later_still c.args.pool.now.io c.open.new.pool.io c.in_err-recv.ensures.disk c.in_err-recv.ensures.same

pub returns-clause-later : goal.returns-clause-later
returns-clause-later g c = later_behind c.args.pool.now.io c.open.new.pool.io _ c.in_ok-recv.ensures.disk c.in_ok-recv.ensures.same c.feed_all.ensures.later

pub feed_all-requires-clause-can_feed : goal.feed_all-requires-clause-can_feed
feed_all-requires-clause-can_feed g c =
    let e = c.in_ok-recv.ensures in
    let disk = c.args.pool.now.io.disk.now in
    record {
      live = e.fresh.live;
      fits = e.fresh.fits;
      works = e.failed ∙ c.requires.works;
      ready =
          subst (λ d. Ready (g.D.Disk.state d) c.open.new.pool.kept.body) (sym e.disk)
          (subst (λ (k : PoolState). Ready (g.D.Disk.state disk) k.body) (sym e.kept) c.requires.ready);
    }

pub feed_all-requires-clause-unfed : goal.feed_all-requires-clause-unfed
feed_all-requires-clause-unfed g c =
    let fresh = c.in_ok-recv.ensures.fresh in
    let fed = fresh.opens None [] (free_by c.args.pool.now.kept.body) in
    record { reads = fresh.stands; hands = (fed.handed, fed.reads); waits = fresh.waiting }
