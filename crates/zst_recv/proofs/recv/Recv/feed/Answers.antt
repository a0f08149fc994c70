mod Pieces
use Rattle.std.proofs.Common.{◌≡◌, ◌≢◌, ◌&&◌, ◌++◌, ◌||◌, Bool, true, false, cond, Some, None, Ok, Err, refl, sym, ap, ◌∙◌, subst, arith, ◌⊎◌}
use Rattle.std.specs.Prelude.{◌+◌, ◌-◌, ◌<◌, ◌≤◌, ℕ, IfSome, IsSome, List, [], Result, find, length, not, sum_by}
use Rattle.std.proofs.lemmas.List.{length-append}
use Rattle.std.proofs.lemmas.Bool.{false_from_ne_true, not-true, not-false}
use Rattle.zst_space.specs.FreeSectors.{FreeSectors}
use Rattle.zst_reader.specs.InputReads.{stream_limit}
use Rattle.zst_reader.specs.StandsFor.{StandsFor, pushed_of, HandsOut}
use Rattle.zst_reader.specs.declared.reader.Reader.{Reader}
use Rattle.zst_record.specs.Heads.{Covered, size_of}
use Rattle.zst_outside.specs.Images.{DiskState}
use Rattle.zst_block.specs.Blocks.{FillsFree, Has, KeepsBlocks, SparesTaken}
use Rattle.zst_block.specs.IoCalls.{HasCause, fails, is_damage}
use Rattle.zst_dir.specs.Rows.{is_for}
use Rattle.zst_image.specs.Commits.{Ready}
use Rattle.zst_image.specs.Bodies.{free_by}
use Rattle.zst_image.specs.Reads.{bound_of}
use Rattle.zst_image.specs.declared.pool_state.PoolState.{PoolState}
use Rattle.zst_model.specs.pools.Pool.{Pool}
use Rattle.zst_plan.specs.declared.receive.RecvAsk.{RecvAsk}
use Rattle.zst_pool.specs.Calls.{CallGrows, CanCommit, IsAtRest, IsUnderWay}
use Rattle.zst_pool.specs.Partials.{without_unkept}
use Rattle.zst_pool.specs.declared.fault.PoolFault.{PoolFault}
use Rattle.zst_pool.specs.declared.fault.PoolFault.TheVariants as pools
use Rattle.zst_pool.proofs.PoolsAtRest.{commit_still, free_by_fits, rests_on, rests_still}
use Rattle.zst_model.specs.declared.refusals.faults.Quantity.TheVariants as quantities
use Rattle.zst_model.specs.declared.refusals.plan_fault.PlanFault.{PlanFault}
use Rattle.zst_model.specs.declared.refusals.plan_fault.PlanFault.TheVariants as plans
use Rattle.zst_recv.specs.Faults.{keeps_before, recv_refusal, stop_at, stop_of}
use Rattle.zst_recv.specs.FedPools.{LeavesPool}
use Rattle.zst_recv.specs.ReceiveSteps.{Batch, Stage, at_stage, is_kept, left_by, put}
use Rattle.zst_recv.specs.Answers.{is_done}
use Rattle.zst_recv.specs.Feeds.{new_records}
use Rattle.zst_recv.specs.GoingOn.{IsRow}
use Rattle.zst_recv.specs.Commits.{Puts}
use Rattle.zst_recv.specs.Damage.{ComesFrom, MakesStage}
use Rattle.zst_recv.specs.Stages.{HasRead, IsBatch, IsStage, Receives, StageFits, TellsBefore, has_partial, is_live, kept_without, received_at, waits_at}
use Rattle.zst_recv.specs.TakenRecords.{Reads, TakesAll, fault_in, taken_of}
use Rattle.zst_recv.specs.declared.batch.Batch as batches
use Rattle.zst_recv.specs.declared.recv.FeedReport as coded_recv
use Rattle.zst_recv.specs.declared.recv.Recv.{Recv}
use Rattle.zst_recv.specs.declared.stage.Stage as coded
use Rattle.zst_recv.specs.declared.stage.Stage.TheVariants as stages
use Rattle.zst_recv.proofs.BatchStages.{untaken}
use Rattle.zst_recv.proofs.FeedAnswers.{due_some}
use Rattle.zst_recv.proofs.FedPools.{behind_live, cause_none, cause_put, damage_put, failed_put, kept_none, leaves_body, leaves_failed, leaves_fed, leaves_refused, receive_over}
use Rattle.zst_recv.proofs.PieceStages.{done_is}
use Rattle.zst_recv.proofs.CommitLemmas.{put_none, put_stands, same_ok}
use Rattle.zst_recv.specs.declared.fault.RecvFault.{RecvFault}
use Rattle.zst_recv.specs.declared.fault.RecvFault.TheVariants as faults
use Rattle.zst_recv.proofs.DamageLemmas.{damaged_renewed, err_told, told_call}
use Rattle.zst_recv.proofs.HandedRecords.{over_reads}
use Rattle.zst_recv.proofs.FeedEnds.{behind_fits, both_false, by_test, fed_so, first_stage, first_way, fits_within, kept_is, known_call, left_rests, live_behind, live_fits, loose, lost, no_memory, over_fits, received_for, received_then, stopped, too_long, unmade, untaken_stands, waits_behind}
use Rattle.zst_stream.specs.Reading.{reading, waiting}
use Rattle.zst_recv.specs.Costs.{PieceIsShort, Spends, records_behind}
use Rattle.zst_recv.proofs.CostLemmas.{full_keeps_none, piece_grows, same_pool, short_read}
use Rattle.zst_recv.specs.Plans.{RefusesEach, is_planned}
use Rattle.zst_recv.proofs.KeptBlocks.{keeps_behind, partial_begun}
use Rattle.zst_recv.proofs.LeftRows.{ends_leave, row_behind}
use Rattle.zst_recv.proofs.SetOrigins.{comes_renewed, keeps_spared, keeps_written, makes_behind, piece_made}
use Rattle.zst_recv.proofs.PlanRefusals.{both_planned, call_unplanned, over_waits, waits_ahead, waits_kept}
use Rattle.zst_recv.proofs.recv.Recv.feed.Answers.Pieces.{at_err, renewed, can_commit, read_fits, read_failed, read_told, read_cause, read_honest, read_same, read_fills, read_stood, read_extents, taken_begun, put_blocks, began_at, read_comes, not_long, planned_so, short_by}
use Rattle.zst_recv.proofs.recv.Recv.feed.Given.{Over}
use Rattle.zst_recv.proofs.AnsweredFaults.{feed_answer, put_answer, put_told, read_answer, still_idle}
use Rattle.zst_recv.proofs.recv.Recv.feed.Goals as goal
use Rattle.zst_recv.proofs.recv.Recv.feed.Goals.{After-has_partial-held, After-read, Then-is_kept, then-keeps_before+else-is_kept, else-keeps_before}

-- how a piece was read: the pool is under way since it was at rest, and of the piece was taken what the definition takes before its first fault
record ReadsPiece (g : Over) (c : After-read g) (tight : Bool) (running : Pool) (text : List ℕ) (stage : Stage) (result : Result (Unit {0}) RecvFault) : Type 0 where
  way : IsUnderWay tight (g.D.Disk.state c.args.pool.now.io.disk.now) (g.D.Disk.state c.read.new.io.disk.now) c.read.new.io.space c.renew.new.self.kept running
  taken : Reads c.args.self.now.ask running c.read.new.reader text c.args.piece.now (IsBatch (bound_of tight (running.number + 1)) (Has (g.D.Disk.state c.read.new.io.disk.now).seen c.read.new.io.space) c.read.new.batch) (at_stage stage) result

-- so it was, where the disk told the truth until then
reads_piece : (g : Over) (c : After-read g) (tight : Bool) (running : Pool) (text : List ℕ) (stage : Stage) (result : Result (Unit {0}) RecvFault) → c.read.result ≡ result → (g.D.Disk.state c.read.new.io.disk.now).honest
    → IsAtRest tight (g.D.Disk.state c.args.pool.now.io.disk.now) c.args.pool.now.kept running → TellsBefore c.args.self.now.ask stage c.args.pool.now.kept.dir running
    → Receives (bound_of tight running.number) (Has (g.D.Disk.state c.args.pool.now.io.disk.now).seen (free_by c.args.pool.now.kept.body)) c.args.self.now text stage → ReadsPiece g c tight running text stage result
reads_piece g c tight running text stage result was honest rested tells is =
    let old = g.D.Disk.state c.args.pool.now.io.disk.now in
    let one = g.D.Disk.state c.renew.new.self.io.disk.now in
    let two = g.D.Disk.state c.read.new.io.disk.now in
    let kept = c.args.pool.now.kept in
    let same = c.renew.new.self.kept in
    let space = c.renew.new.self.io.space in
    let recv = c.args.self.now in
    let bound = bound_of tight (running.number + 1) in
    let disk = ap (λ (d : g.row.D.Denot). g.D.Disk.state d) c.renew.ensures.disk.now in
    let way = first_way old one kept same space disk c.renew.ensures.kept (renewed g c) running rested in
    let stands = first_stage old one kept same space disk c.renew.ensures.kept (renewed g c) tight running.number recv.stage stage is.stands in
    let plain = c.new-batch.ensures.batch bound one.seen space stage (subst (λ (s : coded.Stage). IsStage bound (Has one.seen space) s stage) (sym c.replace.ensures.value) stands) in
    let read = c.read.ensures.read tight c.args.pool.now.io.disk.now running (at_stage stage) text is.handed honest way (subst (λ (k : PoolState). TellsBefore recv.ask stage k.dir running) (sym c.renew.ensures.kept) tells) is.reads plain in
    record {
      way = rests_still old one space same running way two c.read.new.io.space c.read.ensures.writes.fills.fills;
      taken = subst (Reads recv.ask running c.read.new.reader text c.args.piece.now (IsBatch bound (Has two.seen c.read.new.io.space) c.read.new.batch) (at_stage stage)) was read;
    }

-- what was read before this fault is kept
keeps_read : (g : Over) (c : Then-is_kept g) (tight : Bool) (running : Pool) (text : List ℕ) (stage : Stage) → ReadsPiece g (goal.at.Then-is_kept g c).After-read tight running text stage (Err c.in-Err.fault)
    → (keeps_before c.in-Err.fault ≡ true)
    × (fault_in c.args.self.now.ask running text c.args.piece.now (at_stage stage) ≡ Some (recv_refusal c.in-Err.fault) → is_kept (taken_of c.args.self.now.ask running text c.args.piece.now (at_stage stage)).batch.stage ≡ true)
keeps_read g c tight running text stage read =
    let has = Has (g.D.Disk.state c.read.new.io.disk.now).seen c.read.new.io.space in
    let taken = (taken_of c.args.self.now.ask running text c.args.piece.now (at_stage stage)).batch in (
      sym c.keeps_before.ensures ∙ c.if-keeps_before.true,
      λ first. sym (kept_is (bound_of tight (running.number + 1)) has c.read.new.batch.stage taken.stage (let plain = read.taken.1 first in plain.stage)) ∙ sym c.is_kept.ensures ∙ c.if-is_kept.true,
    )

-- where it is given up, the receive leaves the pool at rest
left : (g : Over) (c : After-has_partial-held g) {tight : Bool} (running : Pool) (text : List ℕ) (stage : Stage)
    → Receives (bound_of tight running.number) (Has (g.D.Disk.state c.args.pool.now.io.disk.now).seen (free_by c.args.pool.now.kept.body)) c.args.self.now text stage → (now : DiskState) (after : PoolState)
    → IsAtRest tight now after (cond c.has_partial-held.result (without_unkept c.args.self.now.ask.target running) running) → IsAtRest tight now after (left_by stage running)
left g c {tight = tight} running text stage is now after rests =
    let recv = c.args.self.now in
    left_rests (bound_of tight running.number) (Has (g.D.Disk.state c.args.pool.now.io.disk.now).seen (free_by c.args.pool.now.kept.body)) c.args.pool.now.kept.dir recv.ask.target recv.stage stage running now after
    c.has_partial-held.result c.has_partial-held.ensures is.stands c.requires.recv.stage rests

-- and all that was kept, but for a partial state of the target that isn't kept
left_kept : (g : Over) (c : After-has_partial-held g) (before after : PoolState) → after ≡ kept_without c.has_partial-held.result c.args.self.now.ask.target before → before ≡ c.args.pool.now.kept
    → after ≡ kept_without (has_partial c.args.self.now.stage) c.args.self.now.ask.target c.args.pool.now.kept
left_kept g c before after left same =
    let target = c.args.self.now.ask.target in
    left ∙ ap (λ (k : PoolState). kept_without c.has_partial-held.result target k) same ∙ ap (λ (held : Bool). kept_without held target c.args.pool.now.kept) c.has_partial-held.ensures

-- so the rows of others are as they were
left_others : (g : Over) (c : After-has_partial-held g) (before after : PoolState) → after ≡ kept_without c.has_partial-held.result c.args.self.now.ask.target before → before ≡ c.args.pool.now.kept
    → (other : List ℕ) → other ≢ c.args.self.now.ask.target → find (is_for other) after.dir.partials ≡ find (is_for other) c.args.pool.now.kept.dir.partials
left_others g c before after left same = λ other apart.
    ap (λ (k : PoolState). find (is_for other) k.dir.partials) (left_kept g c before after left same) ∙ ends_leave (has_partial c.args.self.now.stage) c.args.self.now.ask.target other c.args.pool.now.kept apart

pub returns-then-piece-started-clause-feeds : goal.returns-then-piece-started-clause-feeds
returns-then-piece-started-clause-feeds g c = λ tight running text stage told alive rested tells is.
    let at = goal.at.returns-then-piece-started-clause-feeds g c in
    let old = g.D.Disk.state c.args.pool.now.io.disk.now in
    let last = ap (λ (io : _). g.D.Disk.state io.disk.now) c.give_up.ensures.io in
    too_long tight old (g.D.Disk.state c.give_up.new.pool.io.disk.now) c.give_up.new.pool.kept c.give_up.new.self text c.args.piece.now stage running last
    (left g at.After-has_partial-held running text stage is old c.give_up.new.pool.kept (c.give_up.ensures.rests tight c.args.pool.now.io.disk.now running rested))
    (omega (arith, c.if-piece-started.true, c.pushed-started.ensures, is.reads.stands.pushed)) c.give_up.result (c.give_up.ensures.fault ∙ c.too_long.ensures)

pub returns-then-is_err-clause-feeds : goal.returns-then-is_err-clause-feeds
returns-then-is_err-clause-feeds g c = λ tight running text stage told alive rested tells is.
    let at = goal.at.returns-then-is_err-clause-feeds g c in
    let gave = c.give_up-then-is_err in
    let pool = c.args.pool.now in
    let old = g.D.Disk.state pool.io.disk.now in
    let last = ap (λ (io : _). g.D.Disk.state io.disk.now) gave.ensures.io ∙ ap (λ (d : g.row.D.Denot). g.D.Disk.state d) c.renew.ensures.disk.now in
    let rests = subst (λ (k : PoolState). IsAtRest tight old k running) (sym c.renew.ensures.kept) rested in
    no_memory tight old (g.D.Disk.state gave.new.pool.io.disk.now) gave.new.pool.kept gave.new.self text c.args.piece.now stage running last
    (left g at.After-has_partial-held running text stage is old gave.new.pool.kept (gave.ensures.rests tight pool.io.disk.now running rests)) gave.result gave.ensures.fault

pub returns-in-Err-2-clause-feeds : goal.returns-in-Err-2-clause-feeds
returns-in-Err-2-clause-feeds g c = λ tight running text stage told alive rested tells is.
    let at = goal.at.returns-in-Err-2-clause-feeds g c in
    let gave = c.give_up-in-Err-2 in
    let last = ap (λ (io : _). g.D.Disk.state io.disk.now) gave.ensures.io in
    let fault = c.in-Err.fault in
    let read = reads_piece g at.After-read tight running text stage (Err fault) c.in-Err.is (subst (λ (d : DiskState). d.honest) last told) rested tells is in
    let old = g.D.Disk.state c.args.pool.now.io.disk.now in
    let two = g.D.Disk.state c.read.new.io.disk.now in
    let same = c.renew.new.self.kept in
    let recv = c.args.self.now in
    let piece = c.args.piece.now in
    let stays = (taken_of recv.ask running text piece (at_stage stage)).batch.stage in
    lost tight old (g.D.Disk.state gave.new.pool.io.disk.now) gave.new.pool.kept gave.new.self text piece stage running recv.ask two same c.read.new.io.space gave.result fault gave.ensures.ask read.way last gave.ensures.fault read.taken.0
    (λ first. elim c.if-keeps_before.branch [
      | then-keeps_before+else-is_kept w ↦
          both_false (keeps_before fault) (is_kept stays)
          (sym (kept_is (bound_of tight (running.number + 1)) (Has two.seen c.read.new.io.space) c.read.new.batch.stage stays (let plain = read.taken.1 first in plain.stage)) ∙ sym w.is_kept.ensures ∙ w.if-is_kept.false)
      | else-keeps_before w ↦ ap (λ (b : Bool). b && is_kept stays) (sym c.keeps_before.ensures ∙ w.if-keeps_before.false)
    ])
    (λ need largest full. let f = c.in-Err.ensures.writes.fills.full need largest (ap stop_at full) in f.0)
    (left g at.After-has_partial-held running text stage is two gave.new.pool.kept (gave.ensures.rests tight c.read.new.io.disk.now running (rests_on old two c.read.new.io.space same running read.way)))

pub returns-in-Err-put-clause-feeds : goal.returns-in-Err-put-clause-feeds
returns-in-Err-put-clause-feeds g c = λ tight running text stage told alive rested tells is.
    let at = goal.at.returns-in-Err-put-clause-feeds g c in
    let gave = c.give_up-in-Err-put in
    let three = g.D.Disk.state c.put.new.pool.io.disk.now in
    let last = ap (λ (io : _). g.D.Disk.state io.disk.now) gave.ensures.io in
    let honest = subst (λ (d : DiskState). d.honest) last told in
    let read = reads_piece g at.After-read tight running text stage (Ok c.in-Ok.field-0) c.in-Ok.is (c.put.ensures.commits.honest honest) rested tells is in
    let recv = c.args.self.now in
    let taken = (taken_of recv.ask running text c.args.piece.now (at_stage stage)).batch in
    unmade tight (g.D.Disk.state c.args.pool.now.io.disk.now) (g.D.Disk.state gave.new.pool.io.disk.now) gave.new.pool.kept gave.new.self text c.args.piece.now stage running recv.ask three c.put.new.pool.kept None gave.result c.in-Err-put.fault
    gave.ensures.ask read.taken.whole (c.in-Err-put.ensures.puts tight c.args.pool.now.io.disk.now running taken honest read.way read.taken.is) last gave.ensures.fault
    (λ rests. left g at.After-has_partial-held running text stage is three gave.new.pool.kept (gave.ensures.rests tight c.put.new.pool.io.disk.now running rests))

pub returns-in-Err-put-2-clause-feeds : goal.returns-in-Err-put-2-clause-feeds
returns-in-Err-put-2-clause-feeds g c = λ tight running text stage told alive rested tells is.
    let at = goal.at.returns-in-Err-put-2-clause-feeds g c in
    let gave = c.give_up-in-Err-put-2 in
    let three = g.D.Disk.state c.put-in-Err.new.pool.io.disk.now in
    let last = ap (λ (io : _). g.D.Disk.state io.disk.now) gave.ensures.io in
    let honest = subst (λ (d : DiskState). d.honest) last told in
    let fault = c.in-Err.fault in
    let read = reads_piece g at.After-read tight running text stage (Err fault) c.in-Err.is (c.put-in-Err.ensures.commits.honest honest) rested tells is in
    let keeps = keeps_read g at.Then-is_kept tight running text stage read in
    let recv = c.args.self.now in
    let due = due_some recv.ask text c.args.piece.now stage running fault read.taken.0 keeps.0 keeps.1 in
    let taken = (taken_of recv.ask running text c.args.piece.now (at_stage stage)).batch in
    unmade tight (g.D.Disk.state c.args.pool.now.io.disk.now) (g.D.Disk.state gave.new.pool.io.disk.now) gave.new.pool.kept gave.new.self text c.args.piece.now stage running recv.ask three c.put-in-Err.new.pool.kept (Some (recv_refusal fault)) gave.result c.in-Err-put-2.other
    gave.ensures.ask due (c.in-Err-put-2.ensures.puts tight c.args.pool.now.io.disk.now running taken honest read.way (read.taken.1 due.0)) last gave.ensures.fault
    (λ rests. left g at.After-has_partial-held running text stage is three gave.new.pool.kept (gave.ensures.rests tight c.put-in-Err.new.pool.io.disk.now running rests))

pub returns-in-Ok-put-2-clause-feeds : goal.returns-in-Ok-put-2-clause-feeds
returns-in-Ok-put-2-clause-feeds g c = λ tight running text stage told alive rested tells is.
    let at = goal.at.returns-in-Ok-put-2-clause-feeds g c in
    let fault = c.in-Err.fault in
    let read = reads_piece g at.After-read tight running text stage (Err fault) c.in-Err.is (c.put-in-Err.ensures.commits.honest told) rested tells is in
    let keeps = keeps_read g at.Then-is_kept tight running text stage read in
    let recv = c.args.self.now in
    let piece = c.args.piece.now in
    let due = due_some recv.ask text piece stage running fault read.taken.0 keeps.0 keeps.1 in
    let taken = (taken_of recv.ask running text piece (at_stage stage)).batch in
    let puts = c.in-Ok-put-2.ensures.puts tight c.args.pool.now.io.disk.now running taken told read.way (read.taken.1 due.0) in
    stopped tight (g.D.Disk.state c.args.pool.now.io.disk.now) (g.D.Disk.state c.put-in-Err.new.pool.io.disk.now) c.put-in-Err.new.pool.kept (record recv { reader = c.read.new.reader; run = c.read.new.run; stage = c.replace.new.dest }) text piece stage running fault read.taken.0 keeps.0 keeps.1 puts

pub returns-in-Ok-put-clause-feeds : goal.returns-in-Ok-put-clause-feeds
returns-in-Ok-put-clause-feeds g c = λ tight running text stage told alive rested tells is.
    let at = goal.at.returns-in-Ok-put-clause-feeds g c in
    let reads = reads_piece g at.After-read tight running text stage (Ok c.in-Ok.field-0) c.in-Ok.is (c.put.ensures.commits.honest told) rested tells is in
    let read = reads.taken in
    let old = g.D.Disk.state c.args.pool.now.io.disk.now in
    let two = g.D.Disk.state c.read.new.io.disk.now in
    let three = g.D.Disk.state c.put.new.pool.io.disk.now in
    let same = c.renew.new.self.kept in
    let recv = c.args.self.now in
    let batch = c.read.new.batch in
    let has = Has old.seen (free_by c.args.pool.now.kept.body) in
    let now = Has two.seen c.read.new.io.space in
    let bound = bound_of tight (running.number + 1) in
    let piece = c.args.piece.now in
    let after = c.put.new.pool.kept in
    let goes = c.go_on.new.self in
    let taken = (taken_of recv.ask running text piece (at_stage stage)).batch in
    let puts = c.in-Ok-put.ensures.puts tight c.args.pool.now.io.disk.now running taken told reads.way read.is in
    let live = sym (done_is (bound_of tight running.number) has recv.stage stage is.stands) ∙ ap not c.requires.live in
    let ends = λ (next : Pool) (made : put taken running ≡ Ok next) (going : is_done taken.stage ≡ false).
    by_test batch.taken (IsStage (bound_of tight next.number) (Has three.seen (free_by after.body)) batch.stage taken.stage)
    (λ was. let now3 = c.in-Ok-put.ensures.goes_on bound taken read.is in
    by_test (has_partial batch.stage) (IsStage (bound_of tight next.number) (Has three.seen (free_by after.body)) batch.stage taken.stage)
    (λ lives.
    let same = subst (λ (s : FreeSectors). IsStage bound (Has three.seen s) batch.stage taken.stage) ((c.in-Ok-put.ensures.free was (partial_begun batch.stage lives)).0) now3.stage in
    put_stands tight (Has three.seen (free_by after.body)) taken running next batch.stage lives (sym read.is.taken ∙ was) made same)
    (λ none. loose bound (bound_of tight next.number) (Has three.seen c.put.new.pool.io.space) (Has three.seen (free_by after.body)) batch.stage taken.stage none going now3.stage))
    (λ none.
    let unmade = untaken recv.ask running (new_records text piece) (at_stage stage) (sym read.is.taken ∙ none) in
    let code : batch.stage ≡ recv.stage = ap (λ (b : batches.Batch). b.stage) (c.read.ensures.gathers.idle none) ∙ c.new-batch.ensures.stage ∙ c.replace.ensures.value in
    let number = bound_of tight running.number in
    let first = subst (λ (k : PoolState). IsStage number (Has old.seen (free_by k.body)) recv.stage stage) (sym c.renew.ensures.kept) is.stands in
    let second = untaken_stands number old two c.read.new.io.space same running reads.way recv.stage stage first in
    let third = subst (λ (d : DiskState). IsStage number (Has d.seen (free_by same.body)) recv.stage stage) (sym (ap (λ (d : g.row.D.Denot). g.D.Disk.state d) (c.put.ensures.idle none).0)) second in
    let fourth = subst (λ (k : PoolState). IsStage number (Has three.seen (free_by k.body)) recv.stage stage) (sym (c.put.ensures.idle none).1) third in
    let still : running ≡ next = same_ok running next (sym (put_none taken running (sym read.is.taken ∙ none)) ∙ made) in
    let fifth = subst (λ (s : coded.Stage). IsStage number (Has three.seen (free_by after.body)) s taken.stage) (sym code)
    (subst (λ (w : Batch). IsStage number (Has three.seen (free_by after.body)) recv.stage w.stage) (sym unmade) fourth) in
    subst (λ (p : Pool). IsStage (bound_of tight p.number) (Has three.seen (free_by after.body)) batch.stage taken.stage) still fifth) in
    let all = subst (λ (a : RecvAsk). TakesAll a running c.read.new.reader text piece (IsBatch bound now batch) (at_stage stage) × Puts tight old three after running (put (taken_of a running text piece (at_stage stage)).batch running) (Ok tt)
    × ((next : Pool) → put (taken_of a running text piece (at_stage stage)).batch running ≡ Ok next → is_done (taken_of a running text piece (at_stage stage)).batch.stage ≡ false
    → IsStage (bound_of tight next.number) (Has three.seen (free_by after.body)) batch.stage (taken_of a running text piece (at_stage stage)).batch.stage)) (sym c.go_on.ensures.ask) (read, puts, ends) in
    fed_so tight old three after goes text piece stage running is.handed is.reads.whole (is.reads.stands.front piece) live is.waits now batch c.read.new.reader bound all.0 c.go_on.result all.1 c.go_on.ensures.reader c.go_on.ensures.stage all.2 c.go_on.ensures.all
    (λ read all stands over. c.go_on.ensures.front read all stands over ∙ ap (λ (n : ℕ). sum_by (λ c. size_of c.head) all - n) (c.pushed-started.ensures ∙ is.reads.stands.pushed))
    c.go_on.ensures.applied c.go_on.ensures.point c.go_on.ensures.done

pub renew-requires : goal.renew-requires
renew-requires g c = record { fits = free_by_fits (g.D.Disk.state c.args.pool.now.io.disk.now) c.args.pool.now.kept.body (c.requires.ready c.if-pool.false) }

pub put-requires-clause-stage : goal.put-requires-clause-stage
put-requires-clause-stage g c = (c.args.self.now.ask.target, read_fits g (goal.at.put-requires-clause-stage g c).After-read)

pub put-requires-clause-works : goal.put-requires-clause-works
put-requires-clause-works g c = can_commit g (goal.at.put-requires-clause-works g c).After-read

pub put-requires-in-Err-clause-stage : goal.put-requires-in-Err-clause-stage
put-requires-in-Err-clause-stage g c = (c.args.self.now.ask.target, read_fits g (goal.at.put-requires-in-Err-clause-stage g c).After-read)

pub put-requires-in-Err-clause-works : goal.put-requires-in-Err-clause-works
put-requires-in-Err-clause-works g c = can_commit g (goal.at.put-requires-in-Err-clause-works g c).After-read

pub read-requires-clause-reads : goal.read-requires-clause-reads
read-requires-clause-reads g c = subst (HasRead c.args.self.now.reader) (sym (c.new-batch.ensures.stage ∙ c.replace.ensures.value)) c.requires.recv.reads

pub read-requires-clause-stage : goal.read-requires-clause-stage
read-requires-clause-stage g c =
    let recv = c.args.self.now in
    let fits = live_fits c.args.pool.now.kept.dir recv.ask.target recv.stage c.requires.live c.requires.recv.stage in
    subst (λ (k : PoolState). StageFits k.dir recv.ask.target c.new-batch.result.stage) (sym c.renew.ensures.kept)
    (subst (StageFits c.args.pool.now.kept.dir recv.ask.target) (sym (c.new-batch.ensures.stage ∙ c.replace.ensures.value)) fits)

-- ---- the pool had failed

pub returns-then-pool-clause-texts : goal.returns-then-pool-clause-texts
returns-then-pool-clause-texts g c = λ alive. absurd (let both : true ≡ false = sym c.if-pool.true ∙ alive in cc both)

pub returns-then-pool-clause-costs : goal.returns-then-pool-clause-costs
returns-then-pool-clause-costs g c = λ text handed stands. record { short = λ need largest is. absurd (cc is); grows = tt }

-- ---- the stream would be too long

pub returns-then-piece-started-clause-texts : goal.returns-then-piece-started-clause-texts
returns-then-piece-started-clause-texts g c = λ alive ample text handed stands.
    let told = c.give_up.ensures.fault ∙ c.too_long.ensures in
    record {
      stream = λ fault is. absurd (cc (told, is));
      stands = tt;
      hands_out = tt;
      whole = λ was. tt;
      planned = λ fault waits none within refuses. absurd (let all = length-append text c.args.piece.now in omega (arith, c.if-piece-started.true, c.pushed-started.ensures, stands.pushed, all, within));
      because = λ fault kind is. absurd (both_planned fault kind (let same : plans.Limit quantities.Stream stream_limit ≡ fault = cc (told, is) in ap is_planned (sym same)));
      still = λ waits none. tt;
      uncovered = λ none waits. tt;
    }

pub returns-then-piece-started-clause-costs : goal.returns-then-piece-started-clause-costs
returns-then-piece-started-clause-costs g c = λ text handed stands.
    let told = c.give_up.ensures.fault ∙ c.too_long.ensures in
    record { short = λ need largest is. absurd (cc (told, is)); grows = tt }

-- ---- no memory was left for the free extents

pub returns-then-is_err-clause-texts : goal.returns-then-is_err-clause-texts
returns-then-is_err-clause-texts g c = λ alive ample. absurd (ample (let gave = c.give_up-then-is_err in ap feed_answer gave.ensures.fault))

pub returns-then-is_err-clause-costs : goal.returns-then-is_err-clause-costs
returns-then-is_err-clause-costs g c = λ text handed stands.
    let told = (let gave = c.give_up-then-is_err in gave.ensures.fault) in
    record { short = λ need largest is. absurd (cc (told, is)); grows = tt }

pub returns-then-is_err-clause-traces : goal.returns-then-is_err-clause-traces
returns-then-is_err-clause-traces g c = λ text handed stands honest.
    let told = (let gave = c.give_up-then-is_err in gave.ensures.fault) in
    record { damaged = λ alive sector stated found is. absurd (cc (told, is)); makes = λ goes. absurd (cc goes) }

pub returns-then-is_err-clause-leaves : goal.returns-then-is_err-clause-leaves
returns-then-is_err-clause-leaves g c =
    let at = goal.at.returns-then-is_err-clause-leaves g c in
    let gave = c.give_up-then-is_err in
    let pool = c.args.pool.now in
    let recv = c.args.self.now in
    let kept = c.renew.new.self.kept in
    let fault = faults.Pool pools.OutOfMemory in
    let io = gave.ensures.io ∙ ap (λ (p : _). p.io) (at_err c.renew.result (sym c.is_err.ensures.value ∙ c.if-is_err.true) c.renew.ensures.unchanged) in
    let body = gave.ensures.body ∙ ap (λ (k : PoolState). k.body) c.renew.ensures.kept in
    record {
      kept = record {
        waits = λ waits. absurd (over_waits gave.new.self.stage gave.ensures.over waits);
        refused = λ alive keeps. left_kept g at.After-has_partial-held kept gave.new.pool.kept gave.ensures.kept c.renew.ensures.kept;
      };
      pool =
          subst (λ (f : RecvFault). LeavesPool pool gave.new.pool (Err f)) (sym gave.ensures.fault)
          (leaves_body pool gave.new.pool c.if-pool.false fault pool.io io tt body
          (λ alive. subst (Ready (g.D.Disk.state pool.io.disk.now)) (sym body) (c.requires.ready c.if-pool.false)) (λ whole. refl) c.if-pool.false (record { later = omega arith; fault = λ is. absurd (cc is) }) (λ told. told) refl (λ apart ptr bytes has. has) refl);
      long = λ alive more. absurd (let within = fits_within pool.kept.dir recv c.requires.recv in omega (arith, c.if-piece-started.false, c.pushed-started.ensures, within, more));
      rows = record { others = left_others g at.After-has_partial-held kept gave.new.pool.kept gave.ensures.kept c.renew.ensures.kept; own = λ stood goes. absurd (cc goes) };
      receive =
          receive_over gave.new.pool.kept.dir c.args.piece.now recv gave.new.self gave.result gave.ensures.ask gave.ensures.over
          (over_fits _ gave.new.self recv.reader gave.ensures.over gave.ensures.reader (over_reads _ recv.stage c.requires.recv.reads));
    }

-- ---- the piece wasn't read, and no record of it stays

pub returns-in-Err-2-clause-texts : goal.returns-in-Err-2-clause-texts
returns-in-Err-2-clause-texts g c = λ alive ample text handed stands.
    let gave = c.give_up-in-Err-2 in
    let t = c.in-Err.ensures.texts text handed stands in
    let was = λ (fault : RecvFault) (is : feed_answer gave.result ≡ feed_answer fault). ap read_answer (sym gave.ensures.fault ∙ err_told coded_recv.FeedReport _ _ is) in
    record {
      stream = λ fault is. t.stream fault (was _ is);
      stands = tt;
      hands_out = tt;
      whole = λ lived. tt;
      planned = λ fault waits none within refuses.
          let told = planned_so g (goal.at.returns-in-Err-2-clause-texts g c).After-read text handed fault stands waits none within refuses in
          ap feed_answer (gave.ensures.fault ∙ err_told (Unit {0}) _ _ (sym c.in-Err.is ∙ told.0));
      because = λ fault kind is.
          let told = t.because fault kind (was _ is) in
          (ap waits_at (sym (c.new-batch.ensures.stage ∙ c.replace.ensures.value)) ∙ told.0, subst (λ (k : PoolState). RefusesEach k.dir c.args.self.now.ask (text ++ c.args.piece.now) fault) c.renew.ensures.kept told.1);
      still = λ waits none. tt;
      uncovered = λ none waits. tt;
    }

pub returns-in-Err-2-clause-costs : goal.returns-in-Err-2-clause-costs
returns-in-Err-2-clause-costs g c = λ text handed stands.
    let gave = c.give_up-in-Err-2 in
    let records = records_behind handed (text ++ c.args.piece.now) in
    let kept = c.args.pool.now.kept in
    record {
      short = λ need largest is.
          let full = ap stop_at (sym gave.ensures.fault ∙ err_told coded_recv.FeedReport _ _ is) in
          let told = c.in-Err.ensures.writes.fills.full need largest full in
          let spends = subst (λ (s : FreeSectors). Spends records s c.read.new.io.space (stop_at c.in-Err.fault)) (renewed g (goal.at.returns-in-Err-2-clause-costs g c).After-read) (c.in-Err.ensures.spends text handed stands) in
          subst (λ (s : FreeSectors). PieceIsShort records kept s need largest) (sym (ap (λ (io : _). io.space) gave.ensures.io))
          (short_read records kept c.read.new.io.space (stop_at c.in-Err.fault) need largest full told.0 told.1 spends);
      grows = tt;
    }

-- ---- its commit was refused

pub returns-in-Err-put-clause-texts : goal.returns-in-Err-put-clause-texts
returns-in-Err-put-clause-texts g c = λ alive ample text handed stands.
    let gave = c.give_up-in-Err-put in
    record {
      stream = λ fault is. absurd (cc (gave.ensures.fault, is));
      stands = tt;
      hands_out = tt;
      whole = λ lived. tt;
      planned = λ fault waits none within refuses.
          let told = planned_so g (goal.at.returns-in-Err-put-clause-texts g c).After-read text handed fault stands waits none within refuses in
          absurd (cc (told.0, c.in-Ok.is));
      because = λ fault kind is. absurd (both_planned fault kind (call_unplanned c.in-Err-put.fault fault c.in-Err-put.ensures.commits.known (sym gave.ensures.fault ∙ err_told coded_recv.FeedReport _ _ is)));
      still = λ waits none. tt;
      uncovered = λ none waits. tt;
    }

pub returns-in-Err-put-clause-costs : goal.returns-in-Err-put-clause-costs
returns-in-Err-put-clause-costs g c = λ text handed stands.
    let gave = c.give_up-in-Err-put in
    record {
      short = λ need largest is.
          let full = ap put_answer (same_pool _ _ (sym gave.ensures.fault ∙ err_told coded_recv.FeedReport _ _ is)) in
          short_by g (goal.at.returns-in-Err-put-clause-costs g c).After-read text handed need largest c.put.new.pool.io.space gave.new.pool.io.space stands (c.in-Err-put.ensures.commits.short need largest full) (ap (λ (io : _). io.space) gave.ensures.io);
      grows = tt;
    }

-- ---- the commit of the records before a fault was refused

pub returns-in-Err-put-2-clause-texts : goal.returns-in-Err-put-2-clause-texts
returns-in-Err-put-2-clause-texts g c = λ alive ample text handed stands.
    let gave = c.give_up-in-Err-put-2 in
    record {
      stream = λ fault is. absurd (cc (gave.ensures.fault, is));
      stands = tt;
      hands_out = tt;
      whole = λ lived. tt;
      planned = λ fault waits none within refuses.
          let told = planned_so g (goal.at.returns-in-Err-put-2-clause-texts g c).After-read text handed fault stands waits none within refuses in
          absurd (waits_kept c.read.new.batch.stage told.1 (sym c.is_kept.ensures ∙ c.if-is_kept.true));
      because = λ fault kind is. absurd (both_planned fault kind (call_unplanned c.in-Err-put-2.other fault c.in-Err-put-2.ensures.commits.known (sym gave.ensures.fault ∙ err_told coded_recv.FeedReport _ _ is)));
      still = λ waits none. tt;
      uncovered = λ none waits. tt;
    }

pub returns-in-Err-put-2-clause-costs : goal.returns-in-Err-put-2-clause-costs
returns-in-Err-put-2-clause-costs g c = λ text handed stands.
    let gave = c.give_up-in-Err-put-2 in
    record {
      short = λ need largest is.
          let full = ap put_answer (same_pool _ _ (sym gave.ensures.fault ∙ err_told coded_recv.FeedReport _ _ is)) in
          short_by g (goal.at.returns-in-Err-put-2-clause-costs g c).After-read text handed need largest c.put-in-Err.new.pool.io.space gave.new.pool.io.space stands (c.in-Err-put-2.ensures.commits.short need largest full) (ap (λ (io : _). io.space) gave.ensures.io);
      grows = tt;
    }

-- ---- the records before a fault were committed

pub returns-in-Ok-put-2-clause-texts : goal.returns-in-Ok-put-2-clause-texts
returns-in-Ok-put-2-clause-texts g c = λ alive ample text handed stands.
    let t = c.in-Err.ensures.texts text handed stands in
    let was = λ (fault : RecvFault) (is : feed_answer c.in-Err.fault ≡ feed_answer fault). ap read_answer (err_told coded_recv.FeedReport _ _ is) in
    record {
      stream = λ fault is. t.stream fault (was _ is);
      stands = tt;
      hands_out = tt;
      whole = λ lived. tt;
      planned = λ fault waits none within refuses.
          let told = planned_so g (goal.at.returns-in-Ok-put-2-clause-texts g c).After-read text handed fault stands waits none within refuses in
          absurd (waits_kept c.read.new.batch.stage told.1 (sym c.is_kept.ensures ∙ c.if-is_kept.true));
      because = λ fault kind is.
          let told = t.because fault kind (was _ is) in
          (ap waits_at (sym (c.new-batch.ensures.stage ∙ c.replace.ensures.value)) ∙ told.0, subst (λ (k : PoolState). RefusesEach k.dir c.args.self.now.ask (text ++ c.args.piece.now) fault) c.renew.ensures.kept told.1);
      still = λ waits none. tt;
      uncovered = λ none waits. tt;
    }

pub returns-in-Ok-put-2-clause-costs : goal.returns-in-Ok-put-2-clause-costs
returns-in-Ok-put-2-clause-costs g c = λ text handed stands.
    record {
      short = λ need largest is. absurd (full_keeps_none c.in-Err.fault need largest (sym c.keeps_before.ensures ∙ c.if-keeps_before.true) (err_told coded_recv.FeedReport c.in-Err.fault _ is));
      grows = tt;
    }

-- ---- all of it was taken and committed

pub returns-in-Ok-put-clause-texts : goal.returns-in-Ok-put-clause-texts
returns-in-Ok-put-clause-texts g c = λ alive ample text handed stands.
    let batch = c.read.new.batch in
    let recv = c.args.self.now in
    let t = c.in-Ok.ensures.texts text handed stands in
    let was : c.new-batch.result.stage ≡ recv.stage = c.new-batch.ensures.stage ∙ c.replace.ensures.value in
    let lives = λ (live : is_live c.go_on.new.self.stage ≡ true). sym (behind_live batch.stage) ∙ ap is_live (sym c.go_on.ensures.stage) ∙ live in
    record {
      stream = λ fault is. absurd (cc is);
      stands = λ live. let later = t.stands (lives live) in (later.0, subst (λ (r : Reader). StandsFor r (text ++ c.args.piece.now) later.0) (sym c.go_on.ensures.reader) later.1);
      hands_out = λ live all. let later = t.hands_out (lives live) all in (later.0, subst (λ (r : Reader). HandsOut r (text ++ c.args.piece.now) later.0 waiting) (sym c.go_on.ensures.reader) later.1);
      whole = λ lived over. t.whole (ap is_live was ∙ lived) (sym (behind_live batch.stage) ∙ ap is_live (sym c.go_on.ensures.stage) ∙ over);
      planned = λ fault waits none within refuses.
          let told = planned_so g (goal.at.returns-in-Ok-put-clause-texts g c).After-read text handed fault stands waits none within refuses in
          absurd (cc (told.0, c.in-Ok.is));
      because = λ fault kind is. absurd (cc is);
      still = λ waits none. ap waits_at c.go_on.ensures.stage ∙ waits_ahead batch.stage (t.still (ap waits_at was ∙ waits) none);
      uncovered = λ none waits. t.uncovered none (waits_behind batch.stage (ap waits_at (sym c.go_on.ensures.stage) ∙ waits));
    }

pub returns-in-Ok-put-clause-costs : goal.returns-in-Ok-put-clause-costs
returns-in-Ok-put-clause-costs g c = λ text handed stands.
    let records = records_behind handed (text ++ c.args.piece.now) in
    let spends = subst (λ (s : FreeSectors). Spends records s c.read.new.io.space None) (renewed g (goal.at.returns-in-Ok-put-clause-costs g c).After-read) (c.in-Ok.ensures.spends text handed stands) in
    record {
      short = λ need largest is. absurd (cc is);
      grows =
          piece_grows records c.args.pool.now.kept c.put.new.pool.kept c.read.new.io.space spends.takes
          (subst (λ (k : PoolState). (c.put.new.pool.kept ≡ k) ⊎ CallGrows c.read.new.io.space k c.put.new.pool.kept) c.renew.ensures.kept c.in-Ok-put.ensures.commits.grows);
    }

pub returns-in-Ok-put-clause-traces : goal.returns-in-Ok-put-clause-traces
returns-in-Ok-put-clause-traces g c = λ text handed stands honest. record {
  damaged = λ alive sector stated found is. absurd (cc is);
  makes = λ goes.
      let at = (goal.at.returns-in-Ok-put-clause-traces g c).After-read in
      let pool = c.args.pool.now in
      let put = c.put.new.pool in
      let recv = c.args.self.now in
      let read = text ++ c.args.piece.now in
      let old = g.D.Disk.state pool.io.disk.now in
      let three = g.D.Disk.state put.io.disk.now in
      let free = free_by pool.kept.body in
      let left = free_by put.kept.body in
      let batch = c.read.new.batch in
      let moved = λ (taken : batch.taken ≡ true). (c.in-Ok-put.ensures.free taken (taken_begun g at taken)).1 in
      let made =
      piece_made pool.kept.dir recv.ask read old (g.D.Disk.state c.read.new.io.disk.now) free c.read.new.io.space (read_fills g at) three.seen left recv.stage batch.stage batch.taken (read_comes g at text handed stands (c.in-Ok-put.ensures.commits.honest honest))
      (λ untaken_so. ap (λ (b : batches.Batch). b.stage) (c.read.ensures.gathers.idle untaken_so) ∙ began_at g at) (put_blocks g at put.io.disk.now put.kept c.put.ensures.idle moved)
      (λ taken lives. moved taken) in
      subst (λ (s : coded.Stage). MakesStage pool.kept.dir recv.ask read old.seen free old.size recv.stage three.seen left s) (sym c.go_on.ensures.stage)
      (makes_behind pool.kept.dir recv.ask read old.seen free old.size recv.stage three.seen left batch.stage made);
}

pub returns-then-pool-clause-traces : goal.returns-then-pool-clause-traces
returns-then-pool-clause-traces g c = λ text handed stands honest.
    record { damaged = λ alive sector stated found is. absurd (let failed = c.if-pool.true in cc); makes = λ goes. absurd (cc goes) }

pub returns-then-piece-started-clause-traces : goal.returns-then-piece-started-clause-traces
returns-then-piece-started-clause-traces g c = λ text handed stands honest.
    record { damaged = λ alive sector stated found is. absurd (cc (c.give_up.ensures.fault, c.too_long.ensures, is)); makes = λ goes. absurd (cc goes) }

pub returns-in-Err-2-clause-traces : goal.returns-in-Err-2-clause-traces
returns-in-Err-2-clause-traces g c = λ text handed stands honest. record {
  damaged = λ alive sector stated found is.
      let gave = c.give_up-in-Err-2 in
      let last = ap (λ (io : _). g.D.Disk.state io.disk.now) gave.ensures.io in
      let now = subst (λ (d : DiskState). d.honest) last honest in
      let told = (c.in-Err.ensures.leaves text handed stands).damaged sector stated found now (ap (λ (f : RecvFault). Err f) (sym gave.ensures.fault ∙ err_told coded_recv.FeedReport _ _ is)) in
      damaged_renewed (g.D.Disk.state c.args.pool.now.io.disk.now) (g.D.Disk.state c.renew.new.self.io.disk.now) c.renew.new.self.io.space c.args.pool.now.kept c.renew.new.self.kept c.args.self.now.ask (text ++ c.args.piece.now) c.new-batch.result.stage c.args.self.now.stage sector stated found
      (ap (λ (d : g.row.D.Denot). g.D.Disk.state d) c.renew.ensures.disk.now) (renewed g (goal.at.returns-in-Err-2-clause-traces g c).After-read) c.renew.ensures.kept (began_at g (goal.at.returns-in-Err-2-clause-traces g c).After-read) told;
  makes = λ goes. absurd (cc goes);
}

pub returns-in-Err-put-clause-traces : goal.returns-in-Err-put-clause-traces
returns-in-Err-put-clause-traces g c = λ text handed stands honest.
    record { damaged = λ alive sector stated found is. absurd (told_call c.in-Err-put.fault sector stated found c.in-Err-put.ensures.commits.known (sym c.give_up-in-Err-put.ensures.fault ∙ err_told coded_recv.FeedReport _ _ is)); makes = λ goes. absurd (cc goes) }

pub returns-in-Err-put-2-clause-traces : goal.returns-in-Err-put-2-clause-traces
returns-in-Err-put-2-clause-traces g c = λ text handed stands honest.
    record { damaged = λ alive sector stated found is. absurd (told_call c.in-Err-put-2.other sector stated found c.in-Err-put-2.ensures.commits.known (sym c.give_up-in-Err-put-2.ensures.fault ∙ err_told coded_recv.FeedReport _ _ is)); makes = λ goes. absurd (cc goes) }

pub returns-in-Ok-put-2-clause-traces : goal.returns-in-Ok-put-2-clause-traces
returns-in-Ok-put-2-clause-traces g c = λ text handed stands honest. record {
  damaged = λ alive sector stated found is.
      absurd (let keeps : keeps_before c.in-Err.fault ≡ true = sym c.keeps_before.ensures ∙ c.if-keeps_before.true in
      let none : keeps_before c.in-Err.fault ≡ false = ap keeps_before (err_told coded_recv.FeedReport c.in-Err.fault _ is) in cc);
  makes = λ goes. absurd (cc goes);
}

-- ---- what it leaves, at each of its ends

pub returns-then-pool-clause-leaves : goal.returns-then-pool-clause-leaves
returns-then-pool-clause-leaves g c =
    let recv = c.args.self.now in
    let after : Recv = record recv { stage = stages.Over } in
    record {
      kept = record { waits = λ waits. refl; refused = λ alive keeps. absurd (let both : true ≡ false = sym c.if-pool.true ∙ alive in cc both) };
      pool = leaves_failed c.args.pool.now c.if-pool.true;
      long = λ alive more. absurd (let both : true ≡ false = sym c.if-pool.true ∙ alive in cc both);
      rows = record { others = λ other apart. refl; own = λ stood goes. absurd (cc goes) };
      receive = receive_over c.args.pool.now.kept.dir c.args.piece.now recv after (faults.Pool pools.Failed) refl refl (over_fits _ after recv.reader refl refl (over_reads _ recv.stage c.requires.recv.reads));
    }

pub returns-then-piece-started-clause-leaves : goal.returns-then-piece-started-clause-leaves
returns-then-piece-started-clause-leaves g c =
    let at = goal.at.returns-then-piece-started-clause-leaves g c in
    let gave = c.give_up in
    let pool = c.args.pool.now in
    let recv = c.args.self.now in
    let fault = faults.Pool (pools.Plan (plans.Limit quantities.Stream stream_limit)) in
    let told = gave.ensures.fault ∙ c.too_long.ensures in
    record {
      kept = record {
        waits = λ waits. absurd (over_waits gave.new.self.stage gave.ensures.over waits);
        refused = λ alive keeps. left_kept g at.After-has_partial-held pool.kept gave.new.pool.kept gave.ensures.kept refl;
      };
      pool =
          subst (λ (f : RecvFault). LeavesPool pool gave.new.pool (Err f)) (sym told)
          (leaves_body pool gave.new.pool c.if-pool.false fault pool.io gave.ensures.io tt gave.ensures.body
          (λ alive. subst (Ready (g.D.Disk.state pool.io.disk.now)) (sym gave.ensures.body) (c.requires.ready c.if-pool.false)) (λ whole. refl) c.if-pool.false (record { later = omega arith; fault = λ is. absurd (cc is) }) (λ told. told) refl (λ apart ptr bytes has. has) refl);
      long = λ alive more. record { refused = ap feed_answer told; idle = ap (λ (io : _). io.disk.now) gave.ensures.io };
      rows = record { others = left_others g at.After-has_partial-held pool.kept gave.new.pool.kept gave.ensures.kept refl; own = λ stood goes. absurd (cc goes) };
      receive =
          receive_over gave.new.pool.kept.dir c.args.piece.now recv gave.new.self gave.result gave.ensures.ask gave.ensures.over
          (over_fits _ gave.new.self recv.reader gave.ensures.over gave.ensures.reader (over_reads _ recv.stage c.requires.recv.reads));
    }

pub returns-in-Err-2-clause-leaves : goal.returns-in-Err-2-clause-leaves
returns-in-Err-2-clause-leaves g c =
    let at = goal.at.returns-in-Err-2-clause-leaves g c in
    let read = at.After-read in
    let gave = c.give_up-in-Err-2 in
    let pool = c.args.pool.now in
    let fault = c.in-Err.fault in
    let stop = ap (λ (r : Result (Unit {0}) RecvFault). stop_of r) c.in-Err.is in
    let can = can_commit g read in
    let fills = read_fills g read in
    record {
      kept = record {
        waits = λ waits. absurd (over_waits gave.new.self.stage gave.ensures.over waits);
        refused = λ alive keeps. left_kept g at.After-has_partial-held c.renew.new.self.kept gave.new.pool.kept gave.ensures.kept c.renew.ensures.kept;
      };
      pool =
          subst (λ (f : RecvFault). LeavesPool pool gave.new.pool (Err f)) (sym gave.ensures.fault)
          (leaves_body pool gave.new.pool c.if-pool.false fault c.read.new.io gave.ensures.io c.in-Err.ensures.writes.known (gave.ensures.body ∙ ap (λ (k : PoolState). k.body) c.renew.ensures.kept)
          (λ alive. subst (Ready (g.D.Disk.state c.read.new.io.disk.now)) (sym gave.ensures.body) can.ready) (λ whole. read_told g read (ap is_damage stop ∙ whole)) (read_failed g read ∙ ap fails stop)
          (subst (HasCause (g.D.Disk.state pool.io.disk.now).faults (g.D.Disk.state c.read.new.io.disk.now).faults) stop (read_cause g read)) (read_honest g read) (read_same g read)
          (λ apart. keeps_spared (free_by pool.kept.body) (g.D.Disk.state pool.io.disk.now).seen (g.D.Disk.state c.read.new.io.disk.now).seen fills.seen) fills.size);
      long = λ alive more. absurd (not_long g read more);
      rows = record { others = left_others g at.After-has_partial-held c.renew.new.self.kept gave.new.pool.kept gave.ensures.kept c.renew.ensures.kept; own = λ stood goes. absurd (cc goes) };
      receive =
          receive_over gave.new.pool.kept.dir c.args.piece.now c.args.self.now gave.new.self gave.result gave.ensures.ask gave.ensures.over
          (over_fits _ gave.new.self c.read.new.reader gave.ensures.over gave.ensures.reader c.read.ensures.takes.reads);
    }

pub returns-in-Err-put-clause-leaves : goal.returns-in-Err-put-clause-leaves
returns-in-Err-put-clause-leaves g c =
    let at = goal.at.returns-in-Err-put-clause-leaves g c in
    let read = at.After-read in
    let gave = c.give_up-in-Err-put in
    let pool = c.args.pool.now in
    let put = c.put.new.pool in
    let fault = c.in-Err-put.fault in
    let e = c.in-Err-put.ensures.commits in
    let why = read_cause g read in
    let fills = read_fills g read in
    let stays = e.stays ∙ c.renew.ensures.kept in
    record {
      kept = record {
        waits = λ waits. absurd (over_waits gave.new.self.stage gave.ensures.over waits);
        refused = λ alive keeps. left_kept g at.After-has_partial-held put.kept gave.new.pool.kept gave.ensures.kept stays;
      };
      pool =
          subst (λ (f : RecvFault). LeavesPool pool gave.new.pool (Err f)) (sym gave.ensures.fault)
          (leaves_body pool gave.new.pool c.if-pool.false (faults.Pool fault) put.io gave.ensures.io (known_call fault e.known) (gave.ensures.body ∙ ap (λ (k : PoolState). k.body) stays)
          (λ alive. subst (Ready (g.D.Disk.state put.io.disk.now)) (sym gave.ensures.body) (e.ready alive))
          (λ whole. e.told (damage_put fault whole) ∙ read_told g read (ap (λ (r : Result (Unit {0}) RecvFault). is_damage (stop_of r)) c.in-Ok.is)) (e.failed ∙ failed_put fault)
          (cause_put fault (g.D.Disk.state pool.io.disk.now).faults (g.D.Disk.state c.read.new.io.disk.now).faults (g.D.Disk.state put.io.disk.now).faults why.later e.cause) (λ told. read_honest g read (e.honest told)) (e.same ∙ read_same g read)
          (λ apart. read_stood g read (g.D.Disk.state put.io.disk.now) (e.stood (λ told. apart (ap (λ (f : PoolFault). faults.Pool f) (put_told fault pools.DiskFault told))))) (e.size ∙ fills.size));
      long = λ alive more. absurd (not_long g read more);
      rows = record { others = left_others g at.After-has_partial-held put.kept gave.new.pool.kept gave.ensures.kept stays; own = λ stood goes. absurd (cc goes) };
      receive =
          receive_over gave.new.pool.kept.dir c.args.piece.now c.args.self.now gave.new.self gave.result gave.ensures.ask gave.ensures.over
          (over_fits _ gave.new.self c.read.new.reader gave.ensures.over gave.ensures.reader c.read.ensures.takes.reads);
    }

pub returns-in-Err-put-2-clause-leaves : goal.returns-in-Err-put-2-clause-leaves
returns-in-Err-put-2-clause-leaves g c =
    let at = goal.at.returns-in-Err-put-2-clause-leaves g c in
    let read = at.After-read in
    let gave = c.give_up-in-Err-put-2 in
    let pool = c.args.pool.now in
    let put = c.put-in-Err.new.pool in
    let fault = c.in-Err-put-2.other in
    let e = c.in-Err-put-2.ensures.commits in
    let why = read_cause g read in
    let fills = read_fills g read in
    let none = kept_none c.in-Err.fault (sym c.keeps_before.ensures ∙ c.if-keeps_before.true) in
    let stays = e.stays ∙ c.renew.ensures.kept in
    record {
      kept = record {
        waits = λ waits. absurd (over_waits gave.new.self.stage gave.ensures.over waits);
        refused = λ alive keeps. left_kept g at.After-has_partial-held put.kept gave.new.pool.kept gave.ensures.kept stays;
      };
      pool =
          subst (λ (f : RecvFault). LeavesPool pool gave.new.pool (Err f)) (sym gave.ensures.fault)
          (leaves_body pool gave.new.pool c.if-pool.false (faults.Pool fault) put.io gave.ensures.io (known_call fault e.known) (gave.ensures.body ∙ ap (λ (k : PoolState). k.body) stays)
          (λ alive. subst (Ready (g.D.Disk.state put.io.disk.now)) (sym gave.ensures.body) (e.ready alive))
          (λ whole. e.told (damage_put fault whole) ∙ read_told g read (ap (λ (r : Result (Unit {0}) RecvFault). is_damage (stop_of r)) c.in-Err.is ∙ ap is_damage none)) (e.failed ∙ failed_put fault)
          (cause_put fault (g.D.Disk.state pool.io.disk.now).faults (g.D.Disk.state c.read.new.io.disk.now).faults (g.D.Disk.state put.io.disk.now).faults why.later e.cause) (λ told. read_honest g read (e.honest told)) (e.same ∙ read_same g read)
          (λ apart. read_stood g read (g.D.Disk.state put.io.disk.now) (e.stood (λ told. apart (ap (λ (f : PoolFault). faults.Pool f) (put_told fault pools.DiskFault told))))) (e.size ∙ fills.size));
      long = λ alive more. absurd (not_long g read more);
      rows = record { others = left_others g at.After-has_partial-held put.kept gave.new.pool.kept gave.ensures.kept stays; own = λ stood goes. absurd (cc goes) };
      receive =
          receive_over gave.new.pool.kept.dir c.args.piece.now c.args.self.now gave.new.self gave.result gave.ensures.ask gave.ensures.over
          (over_fits _ gave.new.self c.read.new.reader gave.ensures.over gave.ensures.reader c.read.ensures.takes.reads);
    }

pub returns-in-Ok-put-2-clause-leaves : goal.returns-in-Ok-put-2-clause-leaves
returns-in-Ok-put-2-clause-leaves g c =
    let at = goal.at.returns-in-Ok-put-2-clause-leaves g c in
    let read = at.After-read in
    let pool = c.args.pool.now in
    let put = c.put-in-Err.new.pool in
    let recv = c.args.self.now in
    let after : Recv = record recv { reader = c.read.new.reader; run = c.read.new.run; stage = c.replace.new.dest } in
    let fault = c.in-Err.fault in
    let e = c.in-Ok-put-2.ensures.commits in
    let keeps = sym c.keeps_before.ensures ∙ c.if-keeps_before.true in
    let none = kept_none fault keeps in
    let why = read_cause g read in
    let fills = read_fills g read in
    let rows = c.in-Ok-put-2.ensures.rows recv.ask.target (read_fits g read) in
    record {
      kept = record {
        waits = λ waits. absurd (over_waits _ c.replace.ensures.after waits);
        refused = λ alive lost. absurd (let both : true ≡ false = sym keeps ∙ lost in cc both);
      };
      pool =
          leaves_refused pool put c.if-pool.false fault put.io refl c.in-Err.ensures.writes.known (λ lost. absurd (let both : true ≡ false = sym keeps ∙ lost in cc both))
          e.ready (λ whole. e.told refl ∙ read_told g read (ap (λ (r : Result (Unit {0}) RecvFault). is_damage (stop_of r)) c.in-Err.is ∙ whole)) (e.failed ∙ ap fails (sym none))
          (subst (HasCause (g.D.Disk.state pool.io.disk.now).faults (g.D.Disk.state put.io.disk.now).faults) (sym none)
          (cause_none (g.D.Disk.state pool.io.disk.now).faults (g.D.Disk.state c.read.new.io.disk.now).faults (g.D.Disk.state put.io.disk.now).faults _ why.later e.cause)) (λ told. read_honest g read (e.honest told)) (e.same ∙ read_same g read)
          (λ apart. put_blocks g read put.io.disk.now put.kept c.put-in-Err.ensures.idle (λ taken. (c.in-Ok-put-2.ensures.free taken (taken_begun g read taken)).1))
          (λ apart. read_stood g read (g.D.Disk.state put.io.disk.now) (e.stood (λ told. absurd (cc told)))) (λ apart has. e.extents (read_extents g read has)) (e.size ∙ fills.size);
      long = λ alive more. absurd (not_long g read more);
      rows = record { others = λ other apart. rows.others other apart ∙ ap (λ (k : PoolState). find (is_for other) k.dir.partials) c.renew.ensures.kept; own = λ stood goes. absurd (cc goes) };
      receive = receive_over put.kept.dir c.args.piece.now recv after fault refl c.replace.ensures.after (over_fits _ after c.read.new.reader c.replace.ensures.after refl c.read.ensures.takes.reads);
    }

pub returns-in-Ok-put-clause-leaves : goal.returns-in-Ok-put-clause-leaves
returns-in-Ok-put-clause-leaves g c =
    let read = (goal.at.returns-in-Ok-put-clause-leaves g c).After-read in
    let pool = c.args.pool.now in
    let put = c.put.new.pool in
    let recv = c.args.self.now in
    let target = recv.ask.target in
    let batch = c.read.new.batch in
    let after = c.go_on.new.self in
    let e = c.in-Ok-put.ensures.commits in
    let why = read_cause g read in
    let fills = read_fills g read in
    let three = g.D.Disk.state put.io.disk.now in
    let rows = c.in-Ok-put.ensures.rows target (read_fits g read) in
    let still = λ (waits : waits_at after.stage ≡ true). waits_behind batch.stage (ap waits_at (sym c.go_on.ensures.stage) ∙ waits) in
    let fits =
    behind_fits put.kept.dir after c.read.new.reader target batch.stage (ap (λ (a : RecvAsk). a.target) c.go_on.ensures.ask) c.go_on.ensures.stage c.go_on.ensures.reader
    (c.in-Ok-put.ensures.fits target (read_fits g read)) c.in-Ok.ensures.takes.behind in
    record {
      kept = record {
        waits = λ waits.
            let none = still_idle batch c.new-batch.result c.read.ensures.gathers.waits c.new-batch.ensures.taken (still waits) in
            (c.put.ensures.idle none).1 ∙ c.renew.ensures.kept;
        refused = λ alive. tt;
      };
      pool =
          leaves_fed pool put c.if-pool.false c.go_on.result
          (put_blocks g read put.io.disk.now put.kept c.put.ensures.idle (λ taken. (c.in-Ok-put.ensures.free taken (taken_begun g read taken)).1))
          e.ready (e.told refl ∙ read_told g read (ap (λ (r : Result (Unit {0}) RecvFault). is_damage (stop_of r)) c.in-Ok.is)) e.failed
          (cause_none (g.D.Disk.state pool.io.disk.now).faults (g.D.Disk.state c.read.new.io.disk.now).faults three.faults _ why.later e.cause) (λ told. read_honest g read (e.honest told)) (e.same ∙ read_same g read)
          (read_stood g read three (e.stood (λ told. absurd (cc told)))) (λ has. e.extents (read_extents g read has)) (e.size ∙ fills.size);
      long = λ alive more. absurd (not_long g read more);
      rows = record {
        others = λ other apart. rows.others other apart ∙ ap (λ (k : PoolState). find (is_for other) k.dir.partials) c.renew.ensures.kept;
        own = λ stood goes.
            subst (IsRow put.kept.dir target) (sym c.go_on.ensures.stage)
            (row_behind put.kept.dir target batch.stage
            (by_test batch.taken (IsRow put.kept.dir target batch.stage) rows.own
            (λ none.
            let same : put.kept ≡ pool.kept = (c.put.ensures.idle none).1 ∙ c.renew.ensures.kept in
            subst (IsRow put.kept.dir target) (sym (ap (λ (b : batches.Batch). b.stage) (c.read.ensures.gathers.idle none) ∙ began_at g read)) (subst (λ (k : PoolState). IsRow k.dir target recv.stage) (sym same) stood))));
      };
      receive = record {
        ask = c.go_on.ensures.ask;
        live = ap is_live c.go_on.ensures.stage ∙ live_behind batch.stage c.go_on.result.done c.go_on.ensures.done;
        fits = fits;
        fed = λ goes.
            let live : is_live batch.stage ≡ true = not-false (is_live batch.stage) (sym c.go_on.ensures.done ∙ not-true c.go_on.result.done goes) in
            ap pushed_of c.go_on.ensures.reader ∙ c.in-Ok.ensures.takes.all live;
        within = fits_within _ after fits;
        received = λ done.
            let over : is_live batch.stage ≡ false = not-true (is_live batch.stage) (sym c.go_on.ensures.done ∙ done) in
            subst (λ (s : coded.Stage). IsSome (received_at s)) (sym c.go_on.ensures.stage) (received_then c.renew.new.self.kept.dir target batch.stage (read_fits g read) over);
        of_target = λ done.
            subst (λ (s : coded.Stage). IfSome (received_at s) (λ made. made.target ≡ target)) (sym c.go_on.ensures.stage)
            (received_for c.renew.new.self.kept.dir target batch.stage (read_fits g read));
        waited = λ waits. ap waits_at (sym (ap (λ (b : batches.Batch). b.stage) (c.read.ensures.gathers.waits (still waits)) ∙ began_at g read)) ∙ still waits;
      };
    }
