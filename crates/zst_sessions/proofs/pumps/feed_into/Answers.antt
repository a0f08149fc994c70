use Rattle.std.proofs.Common.{◌≡◌, ◌||◌, ◌++◌, ℕ, Bool, true, false, List, drop, length, Result, Ok, Err, refl, sym, ap, ◌∙◌, subst}
use Rattle.std.specs.Prelude.{OnOk}
use Rattle.zst_outside.specs.Images.{Leaves, Leaves-none}
use Rattle.zst_block.specs.IoCalls.{fails}
use Rattle.zst_dir.specs.Rows.{Rows}
use Rattle.zst_image.specs.Bodies.{free_by}
use Rattle.zst_model.specs.pools.Pool.{Pool}
use Rattle.zst_plan.specs.Receipts.{TellsDates}
use Rattle.zst_plan.specs.declared.receive.RecvAsk.{RecvAsk}
use Rattle.zst_pool.specs.declared.fault.PoolFault.TheVariants as pools
use Rattle.zst_reader.specs.StandsFor.{HandsOut}
use Rattle.zst_record.specs.Heads.{Covered}
use Rattle.zst_recv.specs.Answers.{goes_on}
use Rattle.zst_recv.specs.Costs.{CostsPiece, records_behind}
use Rattle.zst_recv.specs.Faults.{stop_of}
use Rattle.zst_recv.specs.Feeds.{new_records}
use Rattle.zst_recv.specs.ReceiveSteps.{Stage, Waits, Lives, Ends}
use Rattle.zst_recv.specs.Stages.{TellsBefore, is_live, reader_of, stage_of}
use Rattle.zst_recv.specs.declared.fault.RecvFault.{RecvFault}
use Rattle.zst_recv.specs.declared.fault.RecvFault.TheVariants as faults
use Rattle.zst_recv.specs.declared.recv.FeedReport.{FeedReport}
use Rattle.zst_recv.specs.declared.recv.Recv.{Recv}
use Rattle.zst_stream.specs.Reading.{Reading, reading, waiting}
use Rattle.zst_sessions.specs.FullPools.{WasFed}
use Rattle.zst_sessions.proofs.pumps.feed_into.Goals as goal

-- tight sets tell the dates that a feed may look at
tells_before : (ask : RecvAsk) (stage : Stage) (rows : Rows) (pool : Pool) → TellsDates rows pool → TellsBefore ask stage rows pool
tells_before ask Waits rows pool dates = λ there. dates
tells_before ask (Lives flags partial) rows pool dates = tt
tells_before ask (Ends partial) rows pool dates = tt

-- a disk that works now worked before, and failed in no feed
worked : (new old fails_now : Bool) → new ≡ (old || fails_now) → new ≡ false → (old ≡ false) × (fails_now ≡ false)
worked new true fails_now is works = absurd (cc)
worked new false fails_now is works = (refl, sym is ∙ works)

no_fault : (result : Result FeedReport RecvFault) → fails (stop_of result) ≡ false → result ≡ Err (faults.Pool pools.DiskFault) → ⊥
no_fault result works is = let lost : fails (stop_of result) ≡ true = ap (λ (r : Result FeedReport RecvFault). fails (stop_of r)) is in cc

-- a feed that goes on is no refusal
gone_on : (result : Result FeedReport RecvFault) (fault : RecvFault) → goes_on result ≡ true → result ≡ Err fault → ⊥
gone_on (Ok report) fault on is = cc is
gone_on (Err other) fault on is = cc on

-- a receive that goes on has handed out all that its text covers, where it had before
hands_on : (before after : Recv) (text piece : List ℕ) (handed : List Covered) (result : Result FeedReport RecvFault) → goes_on result ≡ true → is_live (stage_of after) ≡ goes_on result → HandsOut (reader_of before) text handed waiting
    → OnOk result (is_live (stage_of after) ≡ true → reading text ≡ record { covered = handed; outcome = waiting } → (later : List Covered) × HandsOut (reader_of after) (text ++ piece) later waiting)
    → WasFed after (text ++ piece)
hands_on before after text piece handed (Ok report) on live hands told = told (live ∙ on) hands.whole
hands_on before after text piece handed (Err fault) on live hands told = absurd (cc on)

-- all that a text covers was handed out
covers_alike : (recv : Recv) (text piece : List ℕ) (has : WasFed recv text) → new_records text piece ≡ records_behind has.0 (text ++ piece)
covers_alike recv text piece has = ap (λ (cs : List Covered). drop (length cs) (reading (text ++ piece)).covered) (ap (λ (r : Reading). r.covered) has.1.whole)

works_by : (failed : Bool) → (failed ≡ true → ⊥) → failed ≡ false
works_by true never = absurd (never refl)
works_by false never = refl

pub returns-clause-reads : goal.returns-clause-reads
returns-clause-reads g c =
    let told = c.feed-fed.ensures in
    let result = c.feed-fed.result in
    let new = c.feed-fed.new.pool in
    let piece = c.args.piece.now in
    record {
      costs = λ text has.
          subst (λ (records : List Covered). CostsPiece records c.args.pool.now.kept new.kept new.io.space result) (sym (covers_alike c.args.recv.now text piece has)) (told.costs text has.0 has.1.stands);
      fed = λ text has on.
          let works = works_by c.args.pool.now.io.failed (λ fell. gone_on result (faults.Pool pools.Failed) on (told.leaves.pool.failed_pool fell)) in
          let reads = told.texts works (gone_on result (faults.Pool pools.OutOfMemory) on) text has.0 has.1.stands in
          hands_on c.args.recv.now c.feed-fed.new.self text piece has.0 result on told.leaves.receive.live has.1 reads.hands_out;
    }

pub returns-clause-fed : goal.returns-clause-fed
returns-clause-fed g c =
    let pool = c.feed-fed.ensures.leaves.pool in
    let rows = c.feed-fed.ensures.leaves.rows in
    let old = g.D.Disk.state c.args.pool.now.io.disk.now in
    let result = c.feed-fed.result in
    let worked_so = worked c.feed-fed.new.pool.io.failed c.args.pool.now.io.failed (fails (stop_of result)) pool.failed in
    record {
      feeds = λ running text stage honest works rests receives.
          c.feed-fed.ensures.feeds true running text stage honest works rests
          (tells_before c.args.recv.now.ask stage c.args.pool.now.kept.dir running
          (c.tight_sets_tell_dates.ensures running.number old.seen (free_by c.args.pool.now.kept.body) c.args.pool.now.kept.dir running rests.runs_by)) receives;
      long = λ works more.
          let is = c.feed-fed.ensures.leaves.long works more in
          (is.refused, subst (λ (d : g.row.D.Denot). Leaves old (g.D.Disk.state d) (λ bytes. ⊥)) (sym is.idle) (Leaves-none old (λ bytes. ⊥)));
      failed = pool.failed;
      cause = pool.cause;
      open_still = pool.open_still;
      lost = λ one other moments images tells. c.lost_disks_read.ensures true one other c.args.pool.now.io.disk.now c.feed-fed.new.pool.io.disk.now moments images tells;
      keeps = record {
        leaves = record { mark = λ works. (worked_so works).0; ready = pool.ready; lawful = c.datasets-lawful.ensures.lawful; rows = rows.others };
        blocks = λ works. pool.blocks (no_fault result (worked_so works).1);
        extents = λ works. pool.extents (no_fault result (worked_so works).1);
      };
      own = λ on row. rows.own row on;
      receive = c.feed-fed.ensures.leaves.receive;
    }
