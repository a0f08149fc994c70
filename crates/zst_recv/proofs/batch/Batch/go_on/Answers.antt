use Rattle.std.proofs.Common.{◌≡◌, ◌+◌, ℕ, Option, Ok, Err, Result, true, false, ap, sym, ◌∙◌, subst, refl, rules, [], ◌∷◌}
use Rattle.zst_image.specs.Reads.{PartialIs, bound_of}
use Rattle.zst_block.specs.Blocks.{Has, SparesTaken}
use Rattle.zst_objset.specs.Damage.{AreTreesWithin}
use Rattle.zst_record.specs.Heads.{covered_of}
use Rattle.zst_model.specs.states.AppliedItems.{◌>>=◌}
use Rattle.zst_model.specs.pools.Pool as models
use Rattle.zst_model.specs.declared.refusals.refusal.Refusal.{Refusal}
use Rattle.zst_model.proofs.Results.{err_is}
use Rattle.zst_recv.specs.ReceiveSteps.{moved_by, taken, with_applied}
use Rattle.zst_recv.specs.Stages.{IsBatch}
use Rattle.zst_recv.specs.TakenRecords.{Takes}
use Rattle.zst_recv.specs.declared.batch.Batch as batches
use Rattle.zst_recv.specs.declared.stage.Stage as coded
use Rattle.zst_recv.specs.declared.stage.Stage.TheVariants as stages
use Rattle.zst_dir.specs.declared.rows.Partial.{Partial as Row}
use Rattle.zst_recv.specs.Batches.{Moves}
use Rattle.zst_recv.specs.Damage.{BeginsWith}
use Rattle.zst_recv.proofs.SetOrigins.{comes_kept, same_trees}
use Rattle.zst_recv.proofs.BatchMoves.{moves_gone, moves_kept, moves_refused, neither_is}
use Rattle.zst_recv.proofs.RecordEffects.{one_more, refuses_on, taken_is, under_way, batch_stays}
use Rattle.zst_recv.specs.Costs.{Spends}
use Rattle.zst_recv.specs.Faults.{stop_of}
use Rattle.zst_recv.specs.declared.fault.RecvFault.{RecvFault}
use Rattle.zst_recv.proofs.batch.Batch.go_on.Goals as goal

pub returns-in_err-move_by-in-Lives-clause-took : goal.returns-in_err-move_by-in-Lives-clause-took
returns-in_err-move_by-in-Lives-clause-took g c = λ tight running ask plain honest number is.
    let bound = bound_of tight (running.number + 1) in
    let same : bound_of tight c.args.number ≡ bound = ap (bound_of tight) number in
    let covered = covered_of c.args.covered.now in
    let old = c.args.io.now in
    let new = c.move_by.new.io in
    let flags = c.in-Lives.flags in
    let under = under_way bound (Has (g.D.Disk.state old.disk.now).seen old.space) c.args.self.now plain flags c.in-Lives.partial c.in-Lives.is is in
    let fault = c.in_err-move_by-in-Lives.field-0.0 in
    let row = c.move_by.new.partial in
    let batch : batches.Batch = record { stage = stages.Lives flags row; rolls = c.args.self.now.rolls; taken = c.args.self.now.taken; applied = c.args.self.now.applied } in
    subst (Takes (IsBatch bound (Has (g.D.Disk.state new.disk.now).seen new.space) batch) plain (taken ask running covered plain)) (sym (err_is c.from_residual.result fault c.from_residual.ensures.1)) (
      refuses_on (moved_by c.args.number covered flags under.0) (λ next. Ok (with_applied flags next plain)) (taken ask running covered plain) fault
          (taken_is ask running covered plain c.args.number flags under.0 under.1 number c.requires.covered.1 c.requires.not_last) (c.in_err-move_by-in-Lives.ensures.moved tight under.0 honest (subst (λ (b : Option ℕ). PartialIs b (Has (g.D.Disk.state old.disk.now).seen old.space) c.in-Lives.partial under.0) (sym same) under.2)),
      batch_stays bound (g.D.Disk.state old.disk.now) (g.D.Disk.state new.disk.now) old.space new.space c.args.self.now plain flags c.in-Lives.partial row under.0 c.in_err-move_by-in-Lives.ensures.fills.fills under.2 under.1
          c.in_err-move_by-in-Lives.ensures.stays is,
    )

pub returns-clause-took : goal.returns-clause-took
returns-clause-took g c = λ tight running ask plain honest number is.
    let bound = bound_of tight (running.number + 1) in
    let same : bound_of tight c.args.number ≡ bound = ap (bound_of tight) number in
    let covered = covered_of c.args.covered.now in
    let old = c.args.io.now in
    let new = c.move_by.new.io in
    let flags = c.in-Lives.flags in
    let under = under_way bound (Has (g.D.Disk.state old.disk.now).seen old.space) c.args.self.now plain flags c.in-Lives.partial c.in-Lives.is is in
    let moved =
    c.in_ok-move_by-in-Lives.ensures.moved tight under.0 honest (subst (λ (b : Option ℕ). PartialIs b (Has (g.D.Disk.state old.disk.now).seen old.space) c.in-Lives.partial under.0) (sym same) under.2) in (
      with_applied flags moved.0 plain,
      taken_is ask running covered plain c.args.number flags under.0 under.1 number c.requires.covered.1 c.requires.not_last
          ∙ ap (λ (r : Result models.Partial Refusal). r >>= λ next. Ok (with_applied flags next plain)) moved.1,
      one_more bound (Has (g.D.Disk.state new.disk.now).seen new.space) c.args.self.now plain flags c.saturating_add-self.result c.move_by.new.partial moved.0 (subst (λ (b : Option ℕ). PartialIs b (Has (g.D.Disk.state new.disk.now).seen new.space) c.move_by.new.partial moved.0) same moved.2) is.rolls is.applied c.saturating_add-self.ensures,
    )

pub returns-in_err-move_by-in-Lives-clause-damaged : goal.returns-in_err-move_by-in-Lives-clause-damaged
returns-in_err-move_by-in-Lives-clause-damaged g c = λ rows ask text sector stated found honest is.
    let fault = c.in_err-move_by-in-Lives.field-0.0 in
    record {
      set = c.in-Lives.partial.objects;
      begins = subst (λ (s : coded.Stage). BeginsWith rows ask text s c.in-Lives.partial.objects) (sym c.in-Lives.is) refl;
      damaged = c.in_err-move_by-in-Lives.ensures.damaged sector stated found honest (sym (err_is c.from_residual.result fault c.from_residual.ensures.1) ∙ is);
    }

pub returns-clause-comes : goal.returns-clause-comes
returns-clause-comes g c = λ rows ask text honest. (
  c.in-Lives.partial.objects,
  subst (λ (s : coded.Stage). BeginsWith rows ask text s c.in-Lives.partial.objects) (sym c.in-Lives.is) refl,
  c.in_ok-move_by-in-Lives.ensures.within honest,
)

pub returns-in_err-move_by-in-Lives-clause-comes : goal.returns-in_err-move_by-in-Lives-clause-comes
returns-in_err-move_by-in-Lives-clause-comes g c = λ rows ask text honest.
    let io = c.args.io.now in
    let last = c.move_by.new.io in
    let old = g.D.Disk.state io.disk.now in
    let new = g.D.Disk.state last.disk.now in
    let set = c.in-Lives.partial.objects in (
      set,
      subst (λ (s : coded.Stage). BeginsWith rows ask text s set) (sym c.in-Lives.is) refl,
      subst (λ (r : Row). AreTreesWithin (SparesTaken io.space old.seen) old.size set (SparesTaken last.space new.seen) r.objects) (sym c.in_err-move_by-in-Lives.ensures.stays)
          (same_trees old new io.space last.space c.in_err-move_by-in-Lives.ensures.fills.fills set),
    )

pub returns-in-Waits-clause-comes : goal.returns-in-Waits-clause-comes
returns-in-Waits-clause-comes g c = λ rows ask text honest.
    let io = c.args.io.now in
    let now = g.D.Disk.state io.disk.now in
    comes_kept rows ask text (SparesTaken io.space now.seen) now.size c.args.self.now.stage _ (first_of (cc, search rules))

pub returns-in_err-move_by-in-Lives-clause-spends : goal.returns-in_err-move_by-in-Lives-clause-spends
returns-in_err-move_by-in-Lives-clause-spends g c =
    let covered = covered_of c.args.covered.now in
    subst (λ (r : Result (Unit {0}) RecvFault). Spends (covered ∷ []) c.args.io.now.space c.move_by.new.io.space (stop_of r)) (sym (err_is c.from_residual.result c.in_err-move_by-in-Lives.field-0.0 c.from_residual.ensures.1)) c.in_err-move_by-in-Lives.ensures.spends

pub returns-in_err-move_by-in-Lives-clause-unplanned : goal.returns-in_err-move_by-in-Lives-clause-unplanned
returns-in_err-move_by-in-Lives-clause-unplanned g c = λ fault is.
    c.in_err-move_by-in-Lives.ensures.unplanned fault (sym (err_is c.from_residual.result c.in_err-move_by-in-Lives.field-0.0 c.from_residual.ensures.1) ∙ is)

pub returns-in-Waits-clause-moves : goal.returns-in-Waits-clause-moves
returns-in-Waits-clause-moves g c = λ rows target.
    let head = c.args.covered.now.head.now in
    let kind = neither_is head c.requires.covered.1 c.requires.not_last in
    moves_kept rows target head c.args.self.now _ tt (first_of (cc, search rules)) (λ begin. absurd (let both : true ≡ false = sym begin ∙ kind.0 in cc both)) (λ end. absurd (let both : true ≡ false = sym end ∙ kind.1 in cc both))

pub returns-in_err-move_by-in-Lives-clause-moves : goal.returns-in_err-move_by-in-Lives-clause-moves
returns-in_err-move_by-in-Lives-clause-moves g c = λ rows target.
    let head = c.args.covered.now.head.now in
    let old = c.args.self.now in
    let fault = c.in_err-move_by-in-Lives.field-0.0 in
    let batch : batches.Batch = record old { stage = stages.Lives c.in-Lives.flags c.move_by.new.partial } in
    let kind = neither_is head c.requires.covered.1 c.requires.not_last in
    let same : old ≡ batch = ap (λ (s : coded.Stage). record old { stage = s }) (c.in-Lives.is ∙ ap (λ (r : Row). stages.Lives c.in-Lives.flags r) (sym c.in_err-move_by-in-Lives.ensures.stays)) in
    subst (λ (r : Result (Unit {0}) RecvFault). Moves rows target head old batch r) (sym (err_is c.from_residual.result fault c.from_residual.ensures.1))
    (subst (λ (b : batches.Batch). Moves {A = Unit {0}} rows target head old b (Err fault)) same (moves_refused rows target head old fault kind.1))

pub returns-clause-moves : goal.returns-clause-moves
returns-clause-moves g c = λ rows target.
    let head = c.args.covered.now.head.now in
    let kind = neither_is head c.requires.covered.1 c.requires.not_last in
    moves_gone rows target head c.args.self.now _ tt c.in-Lives.flags c.in-Lives.partial c.move_by.new.partial c.in-Lives.is refl refl kind.1 (λ can. c.in_ok-move_by-in-Lives.ensures.puts rows target can)
