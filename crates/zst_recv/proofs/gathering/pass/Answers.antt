use Rattle.std.proofs.Common.{◌≡◌, ◌+◌, ◌<◌, Bool, true, [], ◌∷◌, ◌++◌, Ok, Err, Result, refl, sym, ap, ◌∙◌, subst}
use Rattle.zst_block.specs.Blocks.{SparesTaken}
use Rattle.zst_block.specs.IoStates.{blocks_of, io_of}
use Rattle.zst_image.specs.Reads.{bound_of}
use Rattle.zst_model.proofs.Results.{err_is}
use Rattle.zst_record.specs.Heads.{covered_of}
use Rattle.zst_recv.specs.Batches.{MovesOn, PlansBegin}
use Rattle.zst_recv.specs.Faults.{Fills, stop_of}
use Rattle.zst_recv.specs.Plans.{BeginsAt}
use Rattle.zst_recv.specs.PutOffWrites.{IsDue, IsPutOff, JoinsRun, Passes, SpendsFirst, count_of}
use Rattle.zst_recv.specs.Stages.{IsBatch, has_partial, waits_at}
use Rattle.zst_recv.specs.ReceiveSteps.{taken}
use Rattle.zst_recv.specs.declared.batch.Batch as batches
use Rattle.zst_recv.specs.declared.block_run.BlockRun.{BlockRun}
use Rattle.zst_recv.specs.declared.fault.RecvFault.{RecvFault}
use Rattle.zst_recv.proofs.CostLemmas.{spends_front, spends_then}
use Rattle.zst_recv.proofs.DamageLemmas.{err_told, refused}
use Rattle.zst_recv.proofs.DrainLemmas.{Fills-then, goes_under}
use Rattle.zst_recv.proofs.HandedRecords.{tells_on}
use Rattle.zst_recv.proofs.PassedRuns.{batch_still, comes_still, due_more, moves_alone, moves_failed, moves_stopped, moves_taken, passes_taken, plans_never, spends_all, spends_begun, spends_on, spends_put, stops_any, stops_block, taken_none, waits_same}
use Rattle.zst_recv.proofs.RecordEffects.{next_number}
use Rattle.zst_recv.proofs.SetOrigins.{comes_then, comes_with, damaged_then, stays_same}
use Rattle.zst_recv.proofs.gathering.pass.Goals as goal

-- a fault that looking for its object answers
abbrev begun_so : RecvFault → Result Bool RecvFault
begun_so fault = Err fault

told_so : (one other : RecvFault) → refused (Unit {0}) one ≡ refused (Unit {0}) other → one ≡ other
told_so one other is = err_told (Unit {0}) one other is

-- ---- it is put off behind the others

pub returns-then-follows-clause-passed : goal.returns-then-follows-clause-passed
returns-then-follows-clause-passed g c = λ tight start running plain records honest way tells due is.
    let covered = covered_of c.args.covered.now in
    let joins = subst (λ (b : Bool). JoinsRun c.args.run.now c.follows.new.self covered b) c.if-follows.true c.follows.ensures.joins in
    record {
      first = [];
      put_off = records ++ covered ∷ [];
      all = refl;
      after = plain;
      were_taken = taken_none c.args.ask.now running plain;
      is = is;
      due = due_more c.args.run.now c.follows.new.self records covered plain due joins;
    }

pub returns-then-follows-clause-comes : goal.returns-then-follows-clause-comes
returns-then-follows-clause-comes g c = λ text begins honest.
    let io = c.args.io.now in
    let now = g.D.Disk.state io.disk.now in
    let stage = c.args.batch.now.stage in
    comes_with c.args.kept.now.dir c.args.ask.now text (SparesTaken io.space now.seen) now.size stage stage (stays_same c.args.kept.now.dir c.args.ask.now text stage)

pub returns-then-follows-clause-spends : goal.returns-then-follows-clause-spends
returns-then-follows-clause-spends g c = λ records put.
    let covered = covered_of c.args.covered.now in
    let joins = subst (λ (b : Bool). JoinsRun c.args.run.now c.follows.new.self covered b) c.if-follows.true c.follows.ensures.joins in
    spends_put c.follows.new.self (records ++ covered ∷ []) c.args.io.now.space (joins.put_off refl records put)

-- ---- a block stops those that were put off

pub returns-in_err-settle-clause-passed : goal.returns-in_err-settle-clause-passed
returns-in_err-settle-clause-passed g c = λ tight start running plain records honest way tells due is.
    let io = c.args.io.now in
    let last = c.settle.new.io in
    let ask = c.args.ask.now in
    let covered = covered_of c.args.covered.now in
    let fault = c.in_err-settle.field-0.0 in
    let same : c.follows.new.self ≡ c.args.run.now = c.follows.ensures.joins.stays c.if-follows.false in
    let number = next_number (g.D.Disk.state start) (g.D.Disk.state io.disk.now) io.space c.args.kept.now running way c.saturating_add.result (rw c.uber.ensures at c.saturating_add.ensures) in
    let is_now = IsBatch (bound_of tight (running.number + 1)) (blocks_of last) c.settle.new.batch in
    let s = c.in_err-settle.ensures.settled tight running ask plain records honest number (subst (λ (r : BlockRun). IsDue r records plain) (sym same) due) is in
    subst (Passes ask running c.settle.new.self records covered is_now plain) (sym (err_is c.from_residual.result fault c.from_residual.ensures.1)) (record {
      after = s.after;
      were_taken = s.were_taken;
      refused = stops_any s.after (taken ask running covered s.after) fault s.ends;
      is = λ none. absurd (stops_block s.after fault s.ends none);
    })

pub returns-in_err-settle-clause-moves : goal.returns-in_err-settle-clause-moves
returns-in_err-settle-clause-moves g c =
    let rows = c.args.kept.now.dir in
    let target = c.args.ask.now.target in
    let head = c.args.covered.now.head.now in
    let batch = c.args.batch.now in
    let fault = c.in_err-settle.field-0.0 in
    let same : c.follows.new.self ≡ c.args.run.now = c.follows.ensures.joins.stays c.if-follows.false in
    let alive = subst (λ (r : BlockRun). 0 < count_of r → has_partial batch.stage ≡ true) (sym same) c.requires.lives in
    subst (λ (r : Result (Unit {0}) RecvFault). MovesOn rows target head batch c.settle.new.batch r) (sym (err_is c.from_residual.result fault c.from_residual.ensures.1))
    (moves_stopped rows target (count_of c.follows.new.self) batch c.settle.new.batch alive head fault (c.in_err-settle.ensures.moves rows target))

pub returns-in_err-settle-clause-plans : goal.returns-in_err-settle-clause-plans
returns-in_err-settle-clause-plans g c =
    let rows = c.args.kept.now.dir in
    let ask = c.args.ask.now in
    let batch = c.args.batch.now in
    let fault = c.in_err-settle.field-0.0 in
    let same : c.follows.new.self ≡ c.args.run.now = c.follows.ensures.joins.stays c.if-follows.false in
    let alive = subst (λ (r : BlockRun). 0 < count_of r → has_partial batch.stage ≡ true) (sym same) c.requires.lives in
    subst (λ (r : Result (Unit {0}) RecvFault). PlansBegin rows ask c.args.covered.now.head.now (waits_at batch.stage) r) (sym (err_is c.from_residual.result fault c.from_residual.ensures.1))
    (plans_never rows ask c.args.covered.now.head.now batch.stage (Err fault) (alive (c.in_err-settle.ensures.moves rows ask.target).some) c.in_err-settle.ensures.unplanned)

pub returns-in_err-settle-clause-comes : goal.returns-in_err-settle-clause-comes
returns-in_err-settle-clause-comes g c = λ text begins honest. c.in_err-settle.ensures.comes c.args.kept.now.dir c.args.ask.now text honest

pub returns-in_err-settle-clause-spends : goal.returns-in_err-settle-clause-spends
returns-in_err-settle-clause-spends g c = λ records put.
    let covered = covered_of c.args.covered.now in
    let fault = c.in_err-settle.field-0.0 in
    let e = c.in_err-settle.ensures in
    let old = c.args.io.now.space in
    let new = c.settle.new.io.space in
    let same : c.follows.new.self ≡ c.args.run.now = c.follows.ensures.joins.stays c.if-follows.false in
    subst (λ (r : Result (Unit {0}) RecvFault). SpendsFirst c.settle.new.self (records ++ covered ∷ []) old new (stop_of r)) (sym (err_is c.from_residual.result fault c.from_residual.ensures.1))
    (spends_all c.settle.new.self (records ++ covered ∷ []) old new _ e.none (spends_front records (covered ∷ []) old new _ (e.spends records (subst (λ (r : BlockRun). IsPutOff r records) (sym same) put))))

-- ---- or the disk fails where its object is looked for

pub returns-in_err-begins-clause-passed : goal.returns-in_err-begins-clause-passed
returns-in_err-begins-clause-passed g c = λ tight start running plain records honest way tells due is.
    let bound = bound_of tight (running.number + 1) in
    let io = c.args.io.now in
    let last = c.begins.new.io in
    let ask = c.args.ask.now in
    let covered = covered_of c.args.covered.now in
    let fault = c.in_err-begins.field-0.0 in
    let b = c.in_err-begins.ensures in
    let same : c.follows.new.self ≡ c.args.run.now = c.follows.ensures.joins.stays c.if-follows.false in
    let number = next_number (g.D.Disk.state start) (g.D.Disk.state io.disk.now) io.space c.args.kept.now running way c.saturating_add.result (rw c.uber.ensures at c.saturating_add.ensures) in
    let is_now = IsBatch bound (blocks_of last) c.settle.new.batch in
    let s = c.in_ok-settle.ensures.settled tight running ask plain records (b.fills.fills.honest honest) number (subst (λ (r : BlockRun). IsDue r records plain) (sym same) due) is in
    let stops = b.found bound s.after.stage honest s.ends.stage in
    subst (Passes ask running c.begins.new.self records covered is_now plain) (sym (err_is c.from_residual-in_err-begins.result fault c.from_residual-in_err-begins.ensures.1)) (record {
      after = s.after;
      were_taken = s.were_taken;
      refused = stops_any tt (taken ask running covered s.after) fault stops;
      is = λ none. absurd (stops_block tt fault stops none);
    })

pub returns-in_err-begins-clause-moves : goal.returns-in_err-begins-clause-moves
returns-in_err-begins-clause-moves g c =
    let rows = c.args.kept.now.dir in
    let target = c.args.ask.now.target in
    let head = c.args.covered.now.head.now in
    let batch = c.args.batch.now in
    let fault = c.in_err-begins.field-0.0 in
    let same : c.follows.new.self ≡ c.args.run.now = c.follows.ensures.joins.stays c.if-follows.false in
    let alive = subst (λ (r : BlockRun). 0 < count_of r → has_partial batch.stage ≡ true) (sym same) c.requires.lives in
    subst (λ (r : Result (Unit {0}) RecvFault). MovesOn rows target head batch c.settle.new.batch r) (sym (err_is c.from_residual-in_err-begins.result fault c.from_residual-in_err-begins.ensures.1))
    (moves_failed rows target (count_of c.follows.new.self) batch c.settle.new.batch alive head tt fault (c.in_ok-settle.ensures.moves rows target))

pub returns-in_err-begins-clause-plans : goal.returns-in_err-begins-clause-plans
returns-in_err-begins-clause-plans g c =
    let rows = c.args.kept.now.dir in
    let ask = c.args.ask.now in
    let batch = c.args.batch.now in
    let head = c.args.covered.now.head.now in
    let fault = c.in_err-begins.field-0.0 in
    let same : c.follows.new.self ≡ c.args.run.now = c.follows.ensures.joins.stays c.if-follows.false in
    let alive = subst (λ (r : BlockRun). 0 < count_of r → has_partial batch.stage ≡ true) (sym same) c.requires.lives in
    let waits = waits_same rows ask.target (count_of c.follows.new.self) batch c.settle.new.batch alive (Ok tt) (c.in_ok-settle.ensures.moves rows ask.target) in
    subst (λ (r : Result (Unit {0}) RecvFault). PlansBegin rows ask head (waits_at batch.stage) r) (sym (err_is c.from_residual-in_err-begins.result fault c.from_residual-in_err-begins.ensures.1))
    (subst (λ (b : Bool). PlansBegin rows ask head b (Err fault)) waits (plans_never rows ask head c.settle.new.batch.stage (Err fault) c.in_err-begins.ensures.stays.1 (λ f is. c.in_err-begins.ensures.unplanned f (ap begun_so (told_so fault _ is)))))

pub returns-in_err-begins-clause-damaged : goal.returns-in_err-begins-clause-damaged
returns-in_err-begins-clause-damaged g c = λ text sector stated found honest is.
    let rows = c.args.kept.now.dir in
    let ask = c.args.ask.now in
    let first = c.args.io.now in
    let mid = c.settle.new.io in
    let s = c.in_ok-settle.ensures in
    let b = c.in_err-begins.ensures in
    let fault = c.in_err-begins.field-0.0 in
    let waited = λ (waits : waits_at c.settle.new.batch.stage ≡ true). ap (λ (b : batches.Batch). b.stage) ((s.moves rows ask.target).gathers.waits waits) in
    damaged_then rows ask text (g.D.Disk.state first.disk.now) (g.D.Disk.state mid.disk.now) first.space mid.space s.fills.fills c.args.batch.now.stage c.settle.new.batch.stage waited (s.comes rows ask text (b.fills.fills.honest honest)) sector stated found
    (b.damaged rows ask text sector stated found honest (ap begun_so (told_so fault _ (sym (err_is c.from_residual-in_err-begins.result fault c.from_residual-in_err-begins.ensures.1) ∙ is))))

pub returns-in_err-begins-clause-comes : goal.returns-in_err-begins-clause-comes
returns-in_err-begins-clause-comes g c = λ text begins honest.
    let rows = c.args.kept.now.dir in
    let ask = c.args.ask.now in
    let first = c.args.io.now in
    let mid = c.settle.new.io in
    let last = c.begins.new.io in
    let old = g.D.Disk.state first.disk.now in
    let now = g.D.Disk.state mid.disk.now in
    let new = g.D.Disk.state last.disk.now in
    let s = c.in_ok-settle.ensures in
    let b = c.in_err-begins.ensures in
    let stage = c.settle.new.batch.stage in
    let waited = λ (waits : waits_at stage ≡ true). ap (λ (b : batches.Batch). b.stage) ((s.moves rows ask.target).gathers.waits waits) in
    comes_then rows ask text old now first.space mid.space s.fills.fills c.args.batch.now.stage stage waited (s.comes rows ask text (b.fills.fills.honest honest)) (SparesTaken last.space new.seen) stage
    (comes_still rows ask text now new mid.space last.space b.fills.fills stage)

pub returns-in_err-begins-clause-fills : goal.returns-in_err-begins-clause-fills
returns-in_err-begins-clause-fills g c =
    let first = c.args.io.now in
    let last = c.begins.new.io in
    let fault = c.in_err-begins.field-0.0 in
    subst (λ (r : Result (Unit {0}) RecvFault). Fills (io_of first) (io_of last) (stop_of r)) (sym (err_is c.from_residual-in_err-begins.result fault c.from_residual-in_err-begins.ensures.1)) (Fills-then c.in_ok-settle.ensures.fills c.in_err-begins.ensures.fills)

pub returns-in_err-begins-clause-spends : goal.returns-in_err-begins-clause-spends
returns-in_err-begins-clause-spends g c = λ records put.
    let covered = covered_of c.args.covered.now in
    let fault = c.in_err-begins.field-0.0 in
    let s = c.in_ok-settle.ensures in
    let b = c.in_err-begins.ensures in
    let old = c.args.io.now.space in
    let mid = c.settle.new.io.space in
    let new = c.begins.new.io.space in
    let run = c.begins.new.self in
    let same : c.follows.new.self ≡ c.args.run.now = c.follows.ensures.joins.stays c.if-follows.false in
    let none = subst (λ (r : BlockRun). IsPutOff r []) (sym b.stays.0) s.none in
    subst (λ (r : Result (Unit {0}) RecvFault). SpendsFirst run (records ++ covered ∷ []) old new (stop_of r)) (sym (err_is c.from_residual-in_err-begins.result fault c.from_residual-in_err-begins.ensures.1))
    (spends_all run (records ++ covered ∷ []) old new _ none (spends_then records (covered ∷ []) old mid new _ (s.spends records (subst (λ (r : BlockRun). IsPutOff r records) (sym same) put)) (b.spends (covered ∷ []))))

-- ---- those that were put off are applied, and it is put off

pub returns-then-branch-clause-passed : goal.returns-then-branch-clause-passed
returns-then-branch-clause-passed g c = λ tight start running plain records honest way tells due is.
    let bound = bound_of tight (running.number + 1) in
    let io = c.args.io.now in
    let mid = c.settle.new.io in
    let last = c.begins.new.io in
    let ask = c.args.ask.now in
    let covered = covered_of c.args.covered.now in
    let b = c.in_ok-begins.ensures in
    let same : c.follows.new.self ≡ c.args.run.now = c.follows.ensures.joins.stays c.if-follows.false in
    let number = next_number (g.D.Disk.state start) (g.D.Disk.state io.disk.now) io.space c.args.kept.now running way c.saturating_add.result (rw c.uber.ensures at c.saturating_add.ensures) in
    let s = c.in_ok-settle.ensures.settled tight running ask plain records (b.fills.fills.honest honest) number (subst (λ (r : BlockRun). IsDue r records plain) (sym same) due) is in
    record {
      first = records;
      put_off = covered ∷ [];
      all = refl;
      after = s.after;
      were_taken = s.were_taken;
      is = batch_still bound (g.D.Disk.state mid.disk.now) (g.D.Disk.state last.disk.now) mid.space last.space b.fills.fills c.settle.new.batch s.after s.ends;
      due = record { put_off = b.begins.put_off c.if-branch.true; there = λ some. b.found bound s.after.stage honest s.ends.stage c.if-branch.true };
    }

pub returns-then-branch-clause-moves : goal.returns-then-branch-clause-moves
returns-then-branch-clause-moves g c =
    let rows = c.args.kept.now.dir in
    let target = c.args.ask.now.target in
    let batch = c.args.batch.now in
    let same : c.follows.new.self ≡ c.args.run.now = c.follows.ensures.joins.stays c.if-follows.false in
    let alive = subst (λ (r : BlockRun). 0 < count_of r → has_partial batch.stage ≡ true) (sym same) c.requires.lives in
    moves_alone rows target (count_of c.follows.new.self) batch c.settle.new.batch alive (Ok tt) (c.in_ok-settle.ensures.moves rows target) c.args.covered.now.head.now (c.in_ok-begins.ensures.begins.between c.if-branch.true)

pub returns-then-branch-clause-comes : goal.returns-then-branch-clause-comes
returns-then-branch-clause-comes g c = λ text begins honest.
    let rows = c.args.kept.now.dir in
    let ask = c.args.ask.now in
    let first = c.args.io.now in
    let mid = c.settle.new.io in
    let last = c.begins.new.io in
    let old = g.D.Disk.state first.disk.now in
    let now = g.D.Disk.state mid.disk.now in
    let new = g.D.Disk.state last.disk.now in
    let s = c.in_ok-settle.ensures in
    let b = c.in_ok-begins.ensures in
    let stage = c.settle.new.batch.stage in
    let waited = λ (waits : waits_at stage ≡ true). ap (λ (b : batches.Batch). b.stage) ((s.moves rows ask.target).gathers.waits waits) in
    comes_then rows ask text old now first.space mid.space s.fills.fills c.args.batch.now.stage stage waited (s.comes rows ask text (b.fills.fills.honest honest)) (SparesTaken last.space new.seen) stage
    (comes_still rows ask text now new mid.space last.space b.fills.fills stage)

pub returns-then-branch-clause-fills : goal.returns-then-branch-clause-fills
returns-then-branch-clause-fills g c = Fills-then c.in_ok-settle.ensures.fills c.in_ok-begins.ensures.fills

pub returns-then-branch-clause-spends : goal.returns-then-branch-clause-spends
returns-then-branch-clause-spends g c = λ records put.
    let covered = covered_of c.args.covered.now in
    let s = c.in_ok-settle.ensures in
    let b = c.in_ok-begins.ensures in
    let same : c.follows.new.self ≡ c.args.run.now = c.follows.ensures.joins.stays c.if-follows.false in
    spends_begun c.begins.new.self records covered c.args.io.now.space c.settle.new.io.space c.begins.new.io.space (b.begins.put_off c.if-branch.true) (s.spends records (subst (λ (r : BlockRun). IsPutOff r records) (sym same) put)) (b.spends [])

-- ---- those that were put off are applied, and it is taken

pub take-requires-clause-stage : goal.take-requires-clause-stage
take-requires-clause-stage g c = (c.in_ok-settle.ensures.moves c.args.kept.now.dir c.args.ask.now.target).gathers.fits c.requires.stage

pub returns-clause-passed : goal.returns-clause-passed
returns-clause-passed g c = λ tight start running plain records honest way tells due is.
    let bound = bound_of tight (running.number + 1) in
    let io = c.args.io.now in
    let mid = c.settle.new.io in
    let last = c.begins.new.io in
    let new = c.take.new.io in
    let ask = c.args.ask.now in
    let rows = c.args.kept.now.dir in
    let covered = covered_of c.args.covered.now in
    let b = c.in_ok-begins.ensures in
    let same : c.follows.new.self ≡ c.args.run.now = c.follows.ensures.joins.stays c.if-follows.false in
    let number = next_number (g.D.Disk.state start) (g.D.Disk.state io.disk.now) io.space c.args.kept.now running way c.saturating_add.result (rw c.uber.ensures at c.saturating_add.ensures) in
    let looked = c.take.ensures.fills.fills.honest honest in
    let s = c.in_ok-settle.ensures.settled tight running ask plain records (b.fills.fills.honest looked) number (subst (λ (r : BlockRun). IsDue r records plain) (sym same) due) is in
    let stands = batch_still bound (g.D.Disk.state mid.disk.now) (g.D.Disk.state last.disk.now) mid.space last.space b.fills.fills c.settle.new.batch s.after s.ends in
    let none = subst (λ (r : BlockRun). IsPutOff r []) (sym (b.begins.stays c.if-branch.false)) c.in_ok-settle.ensures.none in
    passes_taken ask running c.begins.new.self records covered (IsBatch bound (blocks_of new) c.take.new.self) plain s.after c.take.result none s.were_taken
    (c.take.ensures.took tight start running s.after honest (goes_under c.args.kept.now running way (Fills-then c.in_ok-settle.ensures.fills b.fills)) (tells_on rows running ask records plain s.after s.were_taken tells) stands)

pub returns-clause-moves : goal.returns-clause-moves
returns-clause-moves g c =
    let rows = c.args.kept.now.dir in
    let target = c.args.ask.now.target in
    let batch = c.args.batch.now in
    let same : c.follows.new.self ≡ c.args.run.now = c.follows.ensures.joins.stays c.if-follows.false in
    let alive = subst (λ (r : BlockRun). 0 < count_of r → has_partial batch.stage ≡ true) (sym same) c.requires.lives in
    moves_taken rows target (count_of c.follows.new.self) batch c.settle.new.batch alive c.args.covered.now.head.now tt c.take.new.self c.take.result (c.in_ok-settle.ensures.moves rows target) c.take.ensures.moves

pub returns-clause-plans : goal.returns-clause-plans
returns-clause-plans g c =
    let rows = c.args.kept.now.dir in
    let ask = c.args.ask.now in
    let batch = c.args.batch.now in
    let same : c.follows.new.self ≡ c.args.run.now = c.follows.ensures.joins.stays c.if-follows.false in
    let alive = subst (λ (r : BlockRun). 0 < count_of r → has_partial batch.stage ≡ true) (sym same) c.requires.lives in
    let waits = waits_same rows ask.target (count_of c.follows.new.self) batch c.settle.new.batch alive (Ok tt) (c.in_ok-settle.ensures.moves rows ask.target) in
    subst (λ (b : Bool). PlansBegin rows ask c.args.covered.now.head.now b c.take.result) waits c.take.ensures.plans

pub returns-clause-damaged : goal.returns-clause-damaged
returns-clause-damaged g c = λ text sector stated found honest is.
    let rows = c.args.kept.now.dir in
    let ask = c.args.ask.now in
    let first = c.args.io.now in
    let mid = c.settle.new.io in
    let last = c.begins.new.io in
    let old = g.D.Disk.state first.disk.now in
    let now = g.D.Disk.state mid.disk.now in
    let looked = g.D.Disk.state last.disk.now in
    let s = c.in_ok-settle.ensures in
    let b = c.in_ok-begins.ensures in
    let stage = c.settle.new.batch.stage in
    let told = c.take.ensures.fills.fills.honest honest in
    let waited = λ (waits : waits_at stage ≡ true). ap (λ (b : batches.Batch). b.stage) ((s.moves rows ask.target).gathers.waits waits) in
    let comes = comes_then rows ask text old now first.space mid.space s.fills.fills c.args.batch.now.stage stage waited (s.comes rows ask text (b.fills.fills.honest told)) (SparesTaken last.space looked.seen) stage
    (comes_still rows ask text now looked mid.space last.space b.fills.fills stage) in
    let both = Fills-then s.fills b.fills in
    damaged_then rows ask text old looked first.space last.space both.fills c.args.batch.now.stage stage waited comes sector stated found (c.take.ensures.damaged text sector stated found honest is)

pub returns-clause-comes : goal.returns-clause-comes
returns-clause-comes g c = λ text begins honest.
    let rows = c.args.kept.now.dir in
    let ask = c.args.ask.now in
    let first = c.args.io.now in
    let mid = c.settle.new.io in
    let last = c.begins.new.io in
    let new = c.take.new.io in
    let old = g.D.Disk.state first.disk.now in
    let now = g.D.Disk.state mid.disk.now in
    let looked = g.D.Disk.state last.disk.now in
    let s = c.in_ok-settle.ensures in
    let b = c.in_ok-begins.ensures in
    let batch = c.args.batch.now in
    let stage = c.settle.new.batch.stage in
    let told = c.take.ensures.fills.fills.honest honest in
    let same : c.follows.new.self ≡ c.args.run.now = c.follows.ensures.joins.stays c.if-follows.false in
    let alive = subst (λ (r : BlockRun). 0 < count_of r → has_partial batch.stage ≡ true) (sym same) c.requires.lives in
    let waits = waits_same rows ask.target (count_of c.follows.new.self) batch c.settle.new.batch alive (Ok tt) (s.moves rows ask.target) in
    let waited = λ (waits : waits_at stage ≡ true). ap (λ (b : batches.Batch). b.stage) ((s.moves rows ask.target).gathers.waits waits) in
    let comes = comes_then rows ask text old now first.space mid.space s.fills.fills batch.stage stage waited (s.comes rows ask text (b.fills.fills.honest told)) (SparesTaken last.space looked.seen) stage
    (comes_still rows ask text now looked mid.space last.space b.fills.fills stage) in
    let both = Fills-then s.fills b.fills in
    comes_then rows ask text old looked first.space last.space both.fills batch.stage stage waited comes (SparesTaken new.space (g.D.Disk.state new.disk.now).seen) c.take.new.self.stage
    (c.take.ensures.comes text (subst (λ (b : Bool). BeginsAt b text c.args.covered.now.head.now) (sym waits) begins) honest)

pub returns-clause-fills : goal.returns-clause-fills
returns-clause-fills g c = Fills-then (Fills-then c.in_ok-settle.ensures.fills c.in_ok-begins.ensures.fills) c.take.ensures.fills

pub returns-clause-spends : goal.returns-clause-spends
returns-clause-spends g c = λ records put.
    let covered = covered_of c.args.covered.now in
    let s = c.in_ok-settle.ensures in
    let b = c.in_ok-begins.ensures in
    let old = c.args.io.now.space in
    let mid = c.settle.new.io.space in
    let last = c.begins.new.io.space in
    let new = c.take.new.io.space in
    let same : c.follows.new.self ≡ c.args.run.now = c.follows.ensures.joins.stays c.if-follows.false in
    let none = subst (λ (r : BlockRun). IsPutOff r []) (sym (b.begins.stays c.if-branch.false)) s.none in
    spends_all c.begins.new.self (records ++ covered ∷ []) old new _ none
    (spends_then records (covered ∷ []) old last new _ (spends_on records old mid last (s.spends records (subst (λ (r : BlockRun). IsPutOff r records) (sym same) put)) (b.spends [])) c.take.ensures.spends)
