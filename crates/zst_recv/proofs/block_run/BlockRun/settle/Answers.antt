use Rattle.std.proofs.Common.{◌≡◌, ℕ, ◌+◌, ◌<◌, Ok, Option, refl, sym, ap, ◌∙◌, subst}
use Rattle.std.proofs.lemmas.Bool.{eqb-true}
use Rattle.zst_block.specs.Blocks.{Has, SparesTaken}
use Rattle.zst_dir.specs.declared.rows.Partial.{Partial as Row}
use Rattle.zst_image.specs.Reads.{PartialIs, bound_of}
use Rattle.zst_model.proofs.Results.{err_is}
use Rattle.zst_objset.specs.Damage.{AreTreesWithin}
use Rattle.zst_recv.specs.Damage.{BeginsWith}
use Rattle.zst_recv.specs.PutOffWrites.{Settles, WritesRun}
use Rattle.zst_recv.specs.declared.stage.Stage as coded
use Rattle.zst_recv.proofs.RunSettles.{has_there, moves_run, none_is, settles_none, settles_run, settles_stopped}
use Rattle.zst_recv.proofs.RecordEffects.{under_way}
use Rattle.zst_recv.proofs.SetOrigins.{comes_with, same_trees, stays_same}
use Rattle.zst_recv.proofs.block_run.BlockRun.settle.Goals as goal

pub returns-then-is_empty-clause-settled : goal.returns-then-is_empty-clause-settled
returns-then-is_empty-clause-settled g c = λ tight running ask plain records honest number due is.
    settles_none ask running c.args.self.now records _ plain due (eqb-true c.args.self.now.count 0 (sym c.is_empty.ensures ∙ c.if-is_empty.true)) is

pub returns-then-is_empty-clause-comes : goal.returns-then-is_empty-clause-comes
returns-then-is_empty-clause-comes g c = λ rows ask text honest.
    let io = c.args.io.now in
    let now = g.D.Disk.state io.disk.now in
    let stage = c.args.batch.now.stage in
    comes_with rows ask text (SparesTaken io.space now.seen) now.size stage stage (stays_same rows ask text stage)

pub returns-in_err-write-in-Lives-clause-settled : goal.returns-in_err-write-in-Lives-clause-settled
returns-in_err-write-in-Lives-clause-settled g c = λ tight running ask plain records honest number due is.
    let bound = bound_of tight (running.number + 1) in
    let same : bound_of tight c.args.number ≡ bound = ap (bound_of tight) number in
    let old = c.args.io.now in
    let last = c.write.new.io in
    let before = Has (g.D.Disk.state old.disk.now).seen old.space in
    let after = Has (g.D.Disk.state last.disk.now).seen last.space in
    let run = c.args.self.now in
    let flags = c.in-Lives.flags in
    let some : 0 < run.count = none_is run.count c.is_empty.result c.is_empty.ensures c.if-is_empty.false in
    let under = under_way bound before c.args.batch.now plain flags c.in-Lives.partial c.in-Lives.is is in
    let fault = c.in_err-write-in-Lives.field-0.0 in
    let stands = subst (λ (b : Option ℕ). PartialIs b before c.in-Lives.partial under.0) (sym same) under.2 in
    let writes = c.in_err-write-in-Lives.ensures.made tight under.0 records honest due.put_off (has_there run records plain flags under.0 due some under.1) stands in
    subst (Settles ask running records _ plain) (sym (err_is c.from_residual.result fault c.from_residual.ensures.1))
    (settles_stopped ask running c.args.number flags number (bound_of tight c.args.number) after run c.write.new.partial records c.args.batch.now plain under.0 due some under.1 _ fault writes)

pub returns-in_err-write-in-Lives-clause-damaged : goal.returns-in_err-write-in-Lives-clause-damaged
returns-in_err-write-in-Lives-clause-damaged g c = λ rows ask text sector stated found honest is.
    let fault = c.in_err-write-in-Lives.field-0.0 in
    record {
      set = c.in-Lives.partial.objects;
      begins = subst (λ (s : coded.Stage). BeginsWith rows ask text s c.in-Lives.partial.objects) (sym c.in-Lives.is) refl;
      damaged = c.in_err-write-in-Lives.ensures.damaged sector stated found honest (sym (err_is c.from_residual.result fault c.from_residual.ensures.1) ∙ is);
    }

pub returns-in_err-write-in-Lives-clause-comes : goal.returns-in_err-write-in-Lives-clause-comes
returns-in_err-write-in-Lives-clause-comes g c = λ rows ask text honest.
    let io = c.args.io.now in
    let last = c.write.new.io in
    let old = g.D.Disk.state io.disk.now in
    let new = g.D.Disk.state last.disk.now in
    let set = c.in-Lives.partial.objects in (
      set,
      subst (λ (s : coded.Stage). BeginsWith rows ask text s set) (sym c.in-Lives.is) refl,
      subst (λ (r : Row). AreTreesWithin (SparesTaken io.space old.seen) old.size set (SparesTaken last.space new.seen) r.objects) (sym c.in_err-write-in-Lives.ensures.stays)
          (same_trees old new io.space last.space c.in_err-write-in-Lives.ensures.fills.fills set),
    )

pub returns-clause-comes : goal.returns-clause-comes
returns-clause-comes g c = λ rows ask text honest. (
  c.in-Lives.partial.objects,
  subst (λ (s : coded.Stage). BeginsWith rows ask text s c.in-Lives.partial.objects) (sym c.in-Lives.is) refl,
  c.in_ok-write-in-Lives.ensures.within honest,
)

pub returns-clause-settled : goal.returns-clause-settled
returns-clause-settled g c = λ tight running ask plain records honest number due is.
    let bound = bound_of tight (running.number + 1) in
    let same : bound_of tight c.args.number ≡ bound = ap (bound_of tight) number in
    let old = c.args.io.now in
    let last = c.write.new.io in
    let before = Has (g.D.Disk.state old.disk.now).seen old.space in
    let after = Has (g.D.Disk.state last.disk.now).seen last.space in
    let run = c.args.self.now in
    let flags = c.in-Lives.flags in
    let some : 0 < run.count = none_is run.count c.is_empty.result c.is_empty.ensures c.if-is_empty.false in
    let under = under_way bound before c.args.batch.now plain flags c.in-Lives.partial c.in-Lives.is is in
    let stands = subst (λ (b : Option ℕ). PartialIs b before c.in-Lives.partial under.0) (sym same) under.2 in
    let writes = c.in_ok-write-in-Lives.ensures.made tight under.0 records honest due.put_off (has_there run records plain flags under.0 due some under.1) stands in
    settles_run ask running c.args.number flags number bound after run c.write.new.partial records c.args.batch.now plain under.0 due some under.1 c.saturating_add-batch.result
    (subst (λ (b : Option ℕ). WritesRun c.args.number run records (PartialIs b after c.write.new.partial) under.0 (Ok tt)) same writes) is.rolls is.applied c.saturating_add-batch.ensures

pub returns-clause-moves : goal.returns-clause-moves
returns-clause-moves g c = λ rows target.
    moves_run rows target _ c.args.batch.now _ c.in-Lives.flags c.in-Lives.partial c.write.new.partial (none_is c.args.self.now.count c.is_empty.result c.is_empty.ensures c.if-is_empty.false) c.in-Lives.is refl refl (λ can. c.in_ok-write-in-Lives.ensures.puts rows target can)
