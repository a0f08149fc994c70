use Rattle.std.proofs.Common.{◌≡◌, ◌+◌, ◌-◌, ◌<◌, Bool, ◌^◌, List, ℕ, false, true, []}
use Rattle.std.specs.Prelude.{None}
use Rattle.zst_block.specs.IoStates.{IsHonest, IsSparedBy, blocks_of, disk_of, io_of}
use Rattle.zst_image.specs.Reads.{bound_of}
use Rattle.zst_model.specs.declared.refusals.plan_fault.PlanFault.{PlanFault}
use Rattle.zst_model.specs.pools.Pool.{Pool}
use Rattle.zst_pool.specs.Calls.{IsUnderWay}
use Rattle.zst_reader.specs.StandsFor.{StandsFor, handed_of, pushed_of}
use Rattle.zst_record.specs.Heads.{Covered}
use Rattle.zst_stream.specs.Reading.{complete, reading}
use Rattle.zst_recv.specs.Damage.{ComesFrom}
use Rattle.zst_recv.specs.Faults.{Fills}
use Rattle.zst_recv.specs.Plans.{RefusesOne}
use Rattle.zst_recv.specs.PutOffWrites.{SpendsGathered, count_of}
use Rattle.zst_recv.specs.ReceiveSteps.{Batch}
use Rattle.zst_recv.specs.Stages.{IsBatch, StageFits, StandsBehind, TellsBefore, has_partial, is_live, waits_at}
use Rattle.zst_recv.proofs.Gatherings.{Gathering}
use Rattle.zst_recv.proofs.gathering.gather.Given as goal

-- what was handed out so far was taken, but for the last records, which are put off
abbrev pub invariant-records : goal.invariant-records
invariant-records g l =
    record {
      gathered : (tight : Bool) (start : g.row.D.Denot) (running : Pool) (plain : Batch) (text : List ℕ) (handed : List Covered) → IsHonest l.io
          → IsUnderWay tight (g.D.Disk.state start) (disk_of l.fn.io) l.fn.io.space l.kept running → TellsBefore l.ask plain.stage l.kept.dir running
          → StandsFor l.fn.reader text handed → IsBatch (bound_of tight (running.number + 1)) (blocks_of l.fn.io) l.fn.batch plain
          → Gathering l.ask running l.run l.reader text handed (IsBatch (bound_of tight (running.number + 1)) (blocks_of l.io) l.batch) plain;
      stage : StageFits l.kept.dir l.ask.target l.batch.stage;
      idle : l.batch.taken ≡ false → l.batch ≡ l.fn.batch;
      waits : waits_at l.batch.stage ≡ true → l.batch ≡ l.fn.batch;
      reads : (text : List ℕ) (handed : List Covered) → StandsFor l.fn.reader text handed → (later : List Covered) × StandsFor l.reader text later;
      over : (text : List ℕ) (handed : List Covered) → StandsFor l.fn.reader text handed → is_live l.fn.batch.stage ≡ true → is_live l.batch.stage ≡ false → (reading text).outcome ≡ complete;
      behind : (text : List ℕ) (handed : List Covered) → StandsFor l.fn.reader text handed → StandsBehind handed l.fn.batch.stage → (later : List Covered) × StandsFor l.reader text later × StandsBehind later l.batch.stage;
      planned : (text : List ℕ) (handed : List Covered) (fault : PlanFault) → StandsFor l.fn.reader text handed → waits_at l.fn.batch.stage ≡ true → RefusesOne l.kept.dir l.ask text fault → waits_at l.batch.stage ≡ true;
      still : (text : List ℕ) (handed : List Covered) → StandsFor l.fn.reader text handed → waits_at l.fn.batch.stage ≡ true → (reading text).covered ≡ [] → waits_at l.batch.stage ≡ true;
      pushed : pushed_of l.reader ≡ pushed_of l.fn.reader;
      fills : Fills (io_of l.fn.io) (io_of l.io) None;
      comes : (text : List ℕ) (handed : List Covered) → StandsFor l.fn.reader text handed → IsHonest l.io → ComesFrom l.kept.dir l.ask text (IsSparedBy l.fn.io) (disk_of l.fn.io).size l.fn.batch.stage (IsSparedBy l.io) l.batch.stage;
      spent : (text : List ℕ) (handed : List Covered) → StandsFor l.fn.reader text handed → SpendsGathered l.run l.reader text handed l.fn.io.space l.io.space None;
      lives : 0 < count_of l.run → has_partial l.batch.stage ≡ true;
    }

-- a stream has at most so many records
abbrev pub decreases-records : goal.decreases-records
decreases-records g l = 2 ^ 62 - handed_of l.reader
