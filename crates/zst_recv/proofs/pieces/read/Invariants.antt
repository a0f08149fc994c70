use Rattle.std.proofs.Common.{◌≡◌, ◌+◌, ◌-◌, ◌≤◌, Bool, ◌^◌, List, [], ℕ, false, true, ◌++◌, length}
use Rattle.std.specs.Prelude.{None}
use Rattle.zst_block.specs.IoStates.{IsHonest, IsSparedBy, blocks_of, disk_of, io_of}
use Rattle.zst_image.specs.Reads.{bound_of}
use Rattle.zst_model.specs.declared.refusals.plan_fault.PlanFault.{PlanFault}
use Rattle.zst_model.specs.pools.Pool.{Pool}
use Rattle.zst_model.specs.states.State.{AreBytes}
use Rattle.zst_pool.specs.Calls.{IsUnderWay}
use Rattle.zst_reader.specs.StandsFor.{HandsOut, StandsFor, pushed_of, room_of}
use Rattle.zst_record.specs.Heads.{Covered}
use Rattle.zst_stream.specs.Reading.{complete, reading, waiting}
use Rattle.zst_recv.specs.Costs.{Spends}
use Rattle.zst_recv.specs.Damage.{ComesFrom}
use Rattle.zst_recv.specs.Faults.{Fills}
use Rattle.zst_recv.specs.Plans.{RefusesOne}
use Rattle.zst_recv.specs.ReceiveSteps.{Batch}
use Rattle.zst_recv.specs.Stages.{HasRead, IsBatch, StageFits, TellsBefore, is_live, waits_at}
use Rattle.zst_recv.proofs.PieceFronts.{FrontIsTaken}
use Rattle.zst_recv.proofs.pieces.read.Given as goal

-- a front of the piece was read
abbrev pub invariant-pushes : goal.invariant-pushes
invariant-pushes g l =
    record {
      piece : (front : List ℕ) × (l.piece ≡ front ++ l.rest)
          × ((tight : Bool) (start : g.row.D.Denot) (running : Pool) (plain : Batch) (text : List ℕ) (handed : List Covered) → IsHonest l.io
          → IsUnderWay tight (g.D.Disk.state start) (disk_of l.fn.io) l.fn.io.space l.kept running → TellsBefore l.ask plain.stage l.kept.dir running
          → HandsOut l.fn.reader text handed waiting → IsBatch (bound_of tight (running.number + 1)) (blocks_of l.fn.io) l.fn.batch plain
          → FrontIsTaken l.ask running l.reader text front handed (IsBatch (bound_of tight (running.number + 1)) (blocks_of l.io) l.batch) plain);
      stage : StageFits l.kept.dir l.ask.target l.batch.stage;
      idle : l.batch.taken ≡ false → l.batch ≡ l.fn.batch;
      waits : waits_at l.batch.stage ≡ true → l.batch ≡ l.fn.batch;
      reads : HasRead l.reader l.batch.stage;
      front : (front : List ℕ) × (l.piece ≡ front ++ l.rest) × ((text : List ℕ) (handed : List Covered) → StandsFor l.fn.reader text handed → (later : List Covered) × StandsFor l.reader (text ++ front) later)
          × ((text : List ℕ) (handed : List Covered) → StandsFor l.fn.reader text handed → is_live l.fn.batch.stage ≡ true → is_live l.batch.stage ≡ false → (reading (text ++ front)).outcome ≡ complete);
      planned : (front : List ℕ) × (l.piece ≡ front ++ l.rest) × ((text : List ℕ) (handed : List Covered) → StandsFor l.fn.reader text handed → (later : List Covered) × StandsFor l.reader (text ++ front) later)
          × ((text : List ℕ) (handed : List Covered) → StandsFor l.fn.reader text handed → (reading text).covered ≡ [] → waits_at l.batch.stage ≡ true → (reading (text ++ front)).covered ≡ [])
          × ((text : List ℕ) (handed : List Covered) (fault : PlanFault) → StandsFor l.fn.reader text handed → waits_at l.fn.batch.stage ≡ true → RefusesOne l.kept.dir l.ask (text ++ l.piece) fault → waits_at l.batch.stage ≡ true)
          × ((text : List ℕ) (handed : List Covered) → StandsFor l.fn.reader text handed → waits_at l.fn.batch.stage ≡ true → (reading (text ++ l.piece)).covered ≡ [] → waits_at l.batch.stage ≡ true);
      told : pushed_of l.reader + length l.rest ≡ pushed_of l.fn.reader + length l.piece;
      bytes : AreBytes l.rest;
      limit : pushed_of l.reader + length l.rest ≤ 2 ^ 62;
      fills : Fills (io_of l.fn.io) (io_of l.io) None;
      comes : (text : List ℕ) (handed : List Covered) → StandsFor l.fn.reader text handed → IsHonest l.io → ComesFrom l.kept.dir l.ask (text ++ l.piece) (IsSparedBy l.fn.io) (disk_of l.fn.io).size l.fn.batch.stage (IsSparedBy l.io) l.batch.stage;
      spent : (front : List ℕ) × (l.piece ≡ front ++ l.rest)
          × ((text : List ℕ) (handed : List Covered) → StandsFor l.fn.reader text handed → (records : List Covered) × StandsFor l.reader (text ++ front) (handed ++ records) × Spends records l.fn.io.space l.io.space None);
      hands : (front : List ℕ) × (l.piece ≡ front ++ l.rest)
          × ((text : List ℕ) (handed : List Covered) → HandsOut l.fn.reader text handed waiting → (later : List Covered) × HandsOut l.reader (text ++ front) later waiting);
    }

-- what is left becomes shorter; only the first push may find no room
abbrev pub decreases-pushes : goal.decreases-pushes
decreases-pushes g l = length l.rest + (1 - room_of l.reader)
