use Rattle.std.proofs.Common.{rules, arith, ℕ, List, refl, ap, sym, ◌∙◌, subst, Bool}
use Rattle.std.specs.Prelude.{Err}
use Rattle.std.proofs.lemmas.Result.{err_from_is_err_and}
use Rattle.zst_outside.specs.Causes.{Rose-earlier}
use Rattle.zst_outside.specs.Images.{Leaves}
use Rattle.zst_space.specs.FreeSectors.{FreeSectors}
use Rattle.zst_block.specs.Blocks.{FitsDisk, Has}
use Rattle.zst_block.specs.IoStates.{IsHonest, disk_of}
use Rattle.zst_block.specs.declared.ptr.Ptr.{Ptr}
use Rattle.zst_block.proofs.BlocksLaws.{Has-label, IsTaken-label}
use Rattle.zst_extents.proofs.ExtentGrowth.{HasExtents-grows}
use Rattle.zst_model.specs.pools.Pool.{Pool}
use Rattle.zst_uber.specs.Body.{InRange, UberFits}
use Rattle.zst_uber.specs.declared.fault.UberFault.{UberFault}
use Rattle.zst_uber.specs.Commit.{HasOldOrNew}
use Rattle.zst_uber.specs.Slots.{IsNext, Stands, latest}
use Rattle.zst_uber.specs.declared.uber.Uber.{Uber}
use Rattle.zst_image.specs.Bodies.{free_by}
use Rattle.zst_image.specs.Commits.{NextIs, OldOrNext, Ready}
use Rattle.zst_image.specs.FreedCommits.{AreAllUnmarked}
use Rattle.zst_image.proofs.CommitLemmas.{IsPrepared, next_in_range, prepared, commit-moments, commit-rests, over-refused, Ready-committed, Ready-fills, Stays-from, never_sound}
use Rattle.zst_image.proofs.Causes.{commit_cause}
use Rattle.zst_image.proofs.FreedSectors.{FitsDisk-next}
use Rattle.zst_image.proofs.SettledLabels.{latest-spared}
use Rattle.zst_image.proofs.freed_commits.commit_unmarked.Given.{Over}
use Rattle.zst_image.proofs.freed_commits.commit_unmarked.Goals as goal
use Rattle.zst_image.proofs.freed_commits.commit_unmarked.Goals.{After-commit_event, After-write_freed}

-- once the directory and the extents are written, the disk is as ready as it was
written : (g : Over) (c : After-write_freed g) → Ready (disk_of c.write_freed.new.io) c.args.body.now
written g c =
    let old = disk_of c.args.io.now in
    let space = c.args.io.now.space in
    Ready-fills old (disk_of c.write_freed.new.io) space c.write_freed.new.io.space c.args.body.now (IsTaken-label old.size space c.args.io.now.fits) c.write_freed.ensures.fills.fills c.requires.ready

pub commit_event-requires : goal.commit_event-requires
commit_event-requires g c =
    let ready = written g (goal.at.commit_event-requires g c).After-write_freed in
    let number = ap (λ (u : Uber). u.number) c.uber.ensures ∙ c.in_ok-next.ensures.next.is_next.number in
    record {
      body = record {
        next = λ told. subst (λ (n : ℕ). IsNext n (latest (disk_of c.write_freed.new.io).seen)) (sym number) (ready.next told);
        settled = λ told. ready.label told;
      };
    }

pub returns-in_err-next-clause-over : goal.returns-in_err-next-clause-over
returns-in_err-next-clause-over g c = λ tight all next told are is.
    let old = disk_of c.args.io.now in
    let space = c.args.io.now.space in
    let p = err_from_is_err_and c.from_residual.result c.from_residual.ensures.1 in
    rw (p.1, p.2) (over-refused old _ space c.write_freed.new.io.space next c.in_err-next.field-0.0 (IsTaken-label old.size space c.args.io.now.fits) c.write_freed.ensures.fills.fills)

pub returns-in_err-next-clause-made : goal.returns-in_err-next-clause-made
returns-in_err-next-clause-made g c =
    let p = err_from_is_err_and c.from_residual.result c.from_residual.ensures.1 in
    rw (p.1) tt

pub returns-in_err-next-clause-full : goal.returns-in_err-next-clause-full
returns-in_err-next-clause-full g c =
    let p = err_from_is_err_and c.from_residual.result c.from_residual.ensures.1 in
    rw (p.1) (λ need largest is. c.in_err-next.ensures.full need largest (sym p.2 ∙ is))

pub returns-in_err-next-clause-refused : goal.returns-in_err-next-clause-refused
returns-in_err-next-clause-refused g c =
    let old = disk_of c.args.io.now in
    let space = c.args.io.now.space in
    let fills = c.write_freed.ensures.fills.fills in
    let p = err_from_is_err_and c.from_residual.result c.from_residual.ensures.1 in
    rw (p.1, p.2) (record {
      fills = λ apart. fills;
      refused = Stays-from _ c.in_err-next.field-0.0 (latest-spared space old.seen _ (IsTaken-label old.size space c.args.io.now.fits) fills.seen);
      stays = λ sound. written g (goal.at.returns-in_err-next-clause-refused g c).After-write_freed;
    })

pub returns-in_err-next-clause-disk : goal.returns-in_err-next-clause-disk
returns-in_err-next-clause-disk g c =
    let p = err_from_is_err_and c.from_residual.result c.from_residual.ensures.1 in
    rw (p.1, p.2) c.in_err-next.ensures.fills.disk

pub returns-in_err-next-clause-cause : goal.returns-in_err-next-clause-cause
returns-in_err-next-clause-cause g c =
    let p = err_from_is_err_and c.from_residual.result c.from_residual.ensures.1 in
    rw (p.1, p.2) (commit_cause (disk_of c.args.io.now).faults (disk_of c.write_freed.new.io).faults (Err c.in_err-next.field-0.0) c.in_err-next.ensures.fills.cause)

-- what the next body leaves free fits a disk that what is left of the free sectors fits
fits_next : (g : Over) (c : After-commit_event g) (size : ℕ) → FitsDisk size c.write_freed.new.io.space → FitsDisk size (free_by c.in_ok-next.next)
fits_next g c size fits =
    let freed = c.in_ok-next.ensures.next in
    let sectors = freed.is_next.sectors ∙ sym c.requires.space.sectors ∙ sym freed.takes.takes.sectors in
    FitsDisk-next size c.write_freed.new.io.space c.in_ok-next.next freed.end sectors freed.is_next.apart fits

pub invariant_of-io-clause-fits : goal.invariant_of-io-clause-fits
invariant_of-io-clause-fits g c =
    let new = disk_of c.commit_event.new.io in
    subst (FitsDisk new.size) (sym c.in_ok-next.ensures.space) (fits_next g (goal.at.invariant_of-io-clause-fits g c).After-commit_event new.size (subst (FitsDisk new.size) c.commit_event.ensures.space c.commit_event.new.io.fits))

-- what the event was begun with, and what each image inside it reads as
began : {tight : Bool} (g : Over) (c : After-commit_event g) (all : FreeSectors) (next : Pool) → IsHonest c.commit_event.new.io → AreAllUnmarked c.args.body.now c.args.marks all
    → NextIs tight (Has (disk_of c.args.io.now).seen all) c.args.body.now c.args.body.now.uber.guids c.args.dir next
    → IsPrepared tight c.in_ok-next.next c.args.dir next (disk_of c.write_freed.new.io).seen
    × Leaves (disk_of c.args.io.now) (disk_of c.commit_event.new.io) (OldOrNext tight c.args.io.now.space (disk_of c.args.io.now) next)
began g c all next told are is =
    let old = disk_of c.args.io.now in
    let mid = disk_of c.write_freed.new.io in
    let new = disk_of c.commit_event.new.io in
    let space = c.args.io.now.space in
    let body = c.args.body.now in
    let made = c.in_ok-next.next in
    let freed = c.in_ok-next.ensures.next in
    let fills = c.write_freed.ensures.fills.fills in
    let event = c.commit_event.ensures.commits in
    let fits = subst UberFits c.uber.ensures event.written.fits in
    let moments = subst (λ (u : Uber). Leaves mid new (HasOldOrNew u mid)) c.uber.ensures (event.written.moments told) in
    let in_range = subst (λ (n : ℕ). InRange n body.uber) (sym fills.size) c.requires.ready.in_range in
    let ready = prepared old mid all (free_by made) body made body.uber.guids c.args.dir next freed.is_next freed.is_next.sectors in_range (freed.blocks all are) (fits_next g c mid.size c.write_freed.new.io.fits)
    (g.met.D.Disk.seen_size c.write_freed.new.io.disk.now) fits is in
    (ready, commit-moments old mid new space c.write_freed.new.io.space made c.args.dir next (IsTaken-label old.size space c.args.io.now.fits) fills ready moments)

pub returns-in-Ok-clause-over : goal.returns-in-Ok-clause-over
returns-in-Ok-clause-over g c = λ tight all next told are is.
    let prepared_event = began g (goal.at.returns-in-Ok-clause-over g c).After-commit_event all next told are is in
    let new = disk_of c.commit_event.new.io in
    let stands = subst (λ (u : Uber). Stands u new.seen) c.uber.ensures (c.in-Ok.ensures.commits.written.stands told) in
    record {
      moments = prepared_event.1;
      answer = commit-rests (disk_of c.write_freed.new.io) new c.in_ok-next.next c.args.dir next prepared_event.0 c.commit_event.ensures.commits.written.writes stands c.in-Ok.ensures.commits.written.durable;
    }

-- the disk failed when the body was written, after what was written before
pub returns-in-Err-clause-cause : goal.returns-in-Err-clause-cause
returns-in-Err-clause-cause g c =
    let first = c.in_ok-next.ensures.fills.cause.later in
    let event = c.in-Err.ensures.commits in
    let only = event.only c.in-Err.field-0 refl in
    record { later = omega (arith, first, event.cause.later); fault = λ is. Rose-earlier _ _ _ first (event.cause.fault (ap (λ (f : UberFault). Err f) only)) }

pub returns-in-Err-clause-over : goal.returns-in-Err-clause-over
returns-in-Err-clause-over g c = λ tight all next told are is.
    let prepared_event = began g (goal.at.returns-in-Err-clause-over g c).After-commit_event all next told are is in
    record { moments = prepared_event.1; answer = tt }

pub returns-in-Ok-clause-made : goal.returns-in-Ok-clause-made
returns-in-Ok-clause-made g c =
    let mid = disk_of c.write_freed.new.io in
    let new = disk_of c.commit_event.new.io in
    let body = c.args.body.now in
    let next = c.in_ok-next.next in
    let freed = c.in_ok-next.ensures.next in
    let is = freed.is_next in
    let event = c.in-Ok.ensures.commits in
    let size = event.written.writes.size ∙ c.write_freed.ensures.fills.fills.size in
    let fits = fits_next g (goal.at.returns-in-Ok-clause-made g c).After-commit_event new.size (subst (FitsDisk new.size) c.commit_event.ensures.space c.commit_event.new.io.fits) in
    let stays : (ptr : Ptr) (bytes : List ℕ) → Has mid.seen (free_by next) ptr bytes → Has new.seen (free_by next) ptr bytes = λ ptr bytes has. Has-label (free_by next) mid.seen new.seen ptr bytes event.written.writes.seen has in
    let in_range = next_in_range (Has mid.seen (free_by next)) new.size body next (free_by next) body.uber.guids c.args.dir is is.sectors (subst (λ (n : ℕ). InRange n body.uber) (sym size) c.requires.ready.in_range) fits in
    record {
      number = is.number;
      sectors = is.sectors;
      dir = refl;
      left = c.write_freed.new.io.space;
      takes = freed.takes;
      end = freed.end;
      exact = freed.exact;
      blocks = λ all are ptr bytes has. stays ptr bytes (freed.blocks all are ptr bytes has);
      extents = HasExtents-grows (Has mid.seen (free_by next)) (Has new.seen (free_by next)) stays next.uber.free_levels next.uber.free_root next.uber.free_count next.free is.extents;
      space = sym c.in_ok-next.ensures.space;
      ready = Ready-committed mid new next c.uber.result.now _ c.uber.ensures in_range is.apart event;
    }

pub returns-in-Ok-clause-refused : goal.returns-in-Ok-clause-refused
returns-in-Ok-clause-refused g c = record { fills = λ apart. tt; refused = tt; stays = λ sound. tt }

pub returns-in-Ok-clause-disk : goal.returns-in-Ok-clause-disk
returns-in-Ok-clause-disk g c =
    let disk = c.write_freed.ensures.fills.disk in
    let writes = c.commit_event.ensures.commits.written.writes in
    record { size = writes.size ∙ disk.size; failed = search rules; told = λ whole. c.commit_event.ensures.counts ∙ disk.told refl; honest = λ told. disk.honest (writes.honest told); same = c.commit_event.ensures.same ∙ disk.same }

pub returns-in-Err-clause-disk : goal.returns-in-Err-clause-disk
returns-in-Err-clause-disk g c =
    let disk = c.write_freed.ensures.fills.disk in
    let writes = c.commit_event.ensures.commits.written.writes in
    record { size = writes.size ∙ disk.size; failed = search rules; told = λ whole. c.commit_event.ensures.counts ∙ disk.told refl; honest = λ told. disk.honest (writes.honest told); same = c.commit_event.ensures.same ∙ disk.same }

pub returns-in-Err-clause-refused : goal.returns-in-Err-clause-refused
returns-in-Err-clause-refused g c =
    record { fills = λ apart. absurd (apart refl); refused = tt; stays = λ sound. absurd (never_sound c.commit_event.new.io.failed c.args.io.now.failed (returns-in-Err-clause-disk g c).failed sound) }
