use Rattle.std.proofs.Common.{◌≡◌, ℕ, ◌+◌, List, length, refl, ap, sym, ◌∙◌, subst, rules, Bool}
use Rattle.std.proofs.lemmas.Result.{err_from_is_err_and}
use Rattle.zst_outside.specs.Images.{Leaves}
use Rattle.zst_space.specs.FreeSectors.{FreeSectors, room}
use Rattle.zst_block.specs.Blocks.{FitsDisk, Has}
use Rattle.zst_block.specs.IoCalls.{IsBlockLength, TakesAtMost}
use Rattle.zst_block.specs.IoStates.{IsHonest, blocks_of, disk_of}
use Rattle.zst_block.proofs.BlocksLaws.{Has-label, IsTaken-label, KeepsBlocks-fills}
use Rattle.zst_block.specs.declared.ptr.Ptr.{Ptr}
use Rattle.zst_extents.proofs.ExtentGrowth.{HasExtents-grows}
use Rattle.zst_model.specs.pools.Pool.{Pool}
use Rattle.zst_uber.specs.Body.{InRange, UberFits}
use Rattle.zst_uber.specs.Commit.{HasOldOrNew}
use Rattle.zst_uber.specs.Slots.{IsNext, Stands, latest}
use Rattle.zst_uber.specs.declared.uber.Uber.{Uber}
use Rattle.zst_dir.specs.Spelling.{dir_bytes}
use Rattle.zst_image.specs.Bodies.{Body, free_by}
use Rattle.zst_image.specs.Commits.{NextIs, OldOrNext, Ready, commit_sectors}
use Rattle.zst_image.proofs.CommitLemmas.{IsPrepared, next_in_range, prepared, free_by-next, commit-moments, commit-rests, over-refused, Ready-committed, Ready-fills, Commits-over, Stays-from, never_sound}
use Rattle.zst_image.proofs.Causes.{never_damaged}
use Rattle.zst_image.proofs.CommitSectors.{takes-refused}
use Rattle.zst_image.proofs.SettledLabels.{latest-spared}
use Rattle.zst_image.proofs.commits.commit_dir.Given.{Over}
use Rattle.zst_image.proofs.commits.commit_dir.Goals as goal
use Rattle.zst_image.proofs.commits.commit_dir.Goals.{After-commit_event, After-write_next}

-- once the directory and the extents are written, the disk is as ready as it was
written : (g : Over) (c : After-write_next g) → Ready (disk_of c.write_next.new.io) c.args.body.now
written g c =
    let old = disk_of c.args.io.now in
    let space = c.args.io.now.space in
    Ready-fills old (disk_of c.write_next.new.io) space c.write_next.new.io.space c.args.body.now (IsTaken-label old.size space c.args.io.now.fits) c.write_next.ensures.works.fills c.requires.ready

pub commit_event-requires : goal.commit_event-requires
commit_event-requires g c =
    let ready = written g (goal.at.commit_event-requires g c).After-write_next in
    let number = ap (λ (u : Uber). u.number) c.uber.ensures ∙ c.in_ok-next.ensures.next.number in
    record {
      body = record {
        next = λ told. subst (λ (n : ℕ). IsNext n (latest (disk_of c.write_next.new.io).seen)) (sym number) (ready.next told);
        settled = λ told. ready.label told;
      };
    }

pub returns-in_err-next-clause-over : goal.returns-in_err-next-clause-over
returns-in_err-next-clause-over g c = λ tight next told is.
    let old = disk_of c.args.io.now in
    let space = c.args.io.now.space in
    let p = err_from_is_err_and c.from_residual.result c.from_residual.ensures.1 in
    rw (p.1, p.2) (over-refused old _ space c.write_next.new.io.space next c.in_err-next.field-0.0 (IsTaken-label old.size space c.args.io.now.fits) c.write_next.ensures.works.fills)

pub returns-in_err-next-clause-commits : goal.returns-in_err-next-clause-commits
returns-in_err-next-clause-commits g c = λ tight start rows pool next told rests fills is.
    Commits-over (g.D.Disk.state start) _ _ _ c.write_next.new.io.space c.args.body.now rows pool next _ rests fills (returns-in_err-next-clause-over g c tight next told is)

pub returns-in_err-next-clause-made : goal.returns-in_err-next-clause-made
returns-in_err-next-clause-made g c =
    let p = err_from_is_err_and c.from_residual.result c.from_residual.ensures.1 in
    rw (p.1) tt

pub returns-in_err-next-clause-takes : goal.returns-in_err-next-clause-takes
returns-in_err-next-clause-takes g c =
    let p = err_from_is_err_and c.from_residual.result c.from_residual.ensures.1 in
    rw (p.1, p.2) (takes-refused c.args.dir _ c.write_next.new.io.space c.in_err-next.field-0.0 c.write_next.ensures.works.takes c.in_err-next.ensures.works.full)

pub returns-in_err-next-clause-refused : goal.returns-in_err-next-clause-refused
returns-in_err-next-clause-refused g c =
    let old = disk_of c.args.io.now in
    let space = c.args.io.now.space in
    let fills = c.write_next.ensures.works.fills in
    let p = err_from_is_err_and c.from_residual.result c.from_residual.ensures.1 in
    rw (p.1, p.2) (record {
      fills = λ apart. fills;
      refused = Stays-from _ c.in_err-next.field-0.0 (latest-spared space old.seen _ (IsTaken-label old.size space c.args.io.now.fits) fills.seen);
      stays = λ sound. written g (goal.at.returns-in_err-next-clause-refused g c).After-write_next;
    })

pub returns-in_err-next-clause-disk : goal.returns-in_err-next-clause-disk
returns-in_err-next-clause-disk g c =
    let works = c.write_next.ensures.works in
    record { size = works.fills.size; failed = search rules; told = λ whole. works.told (never_damaged c.write_next.result); honest = works.fills.honest; same = works.same }

-- the sectors that are left have the number that the body says
left_sectors : (g : Over) (c : After-write_next g) → c.write_next.new.io.space.sectors ≡ c.args.body.now.uber.sectors
left_sectors g c = c.write_next.ensures.works.takes.sectors ∙ c.requires.sectors

-- what the event was begun with, and what each image inside it reads as
began : {tight : Bool} (g : Over) (c : After-commit_event g) (next : Pool) → IsHonest c.commit_event.new.io
    → NextIs tight (blocks_of c.args.io.now) c.args.body.now c.args.guids c.args.dir next
    → IsPrepared tight c.in_ok-next.next c.args.dir next (disk_of c.write_next.new.io).seen
    × Leaves (disk_of c.args.io.now) (disk_of c.commit_event.new.io) (OldOrNext tight c.args.io.now.space (disk_of c.args.io.now) next)
began g c next told is =
    let old = disk_of c.args.io.now in
    let mid = disk_of c.write_next.new.io in
    let new = disk_of c.commit_event.new.io in
    let space = c.args.io.now.space in
    let less = c.write_next.new.io.space in
    let works = c.write_next.ensures.works in
    let event = c.commit_event.ensures.commits in
    let fits = subst UberFits c.uber.ensures event.written.fits in
    let moments = subst (λ (u : Uber). Leaves mid new (HasOldOrNew u mid)) c.uber.ensures (event.written.moments told) in
    let ready = prepared old mid space less c.args.body.now c.in_ok-next.next c.args.guids c.args.dir next c.in_ok-next.ensures.next (works.takes.sectors ∙ c.requires.sectors)
    (subst (λ (n : ℕ). InRange n c.args.body.now.uber) (sym works.fills.size) c.requires.ready.in_range) (KeepsBlocks-fills old mid space less works.fills) c.write_next.new.io.fits (g.met.D.Disk.seen_size c.write_next.new.io.disk.now) fits is in
    (ready, commit-moments old mid new space less c.in_ok-next.next c.args.dir next (IsTaken-label old.size space c.args.io.now.fits) works.fills ready moments)

pub returns-in-Ok-clause-over : goal.returns-in-Ok-clause-over
returns-in-Ok-clause-over g c = λ tight next told is.
    let prepared_event = began g (goal.at.returns-in-Ok-clause-over g c).After-commit_event next told is in
    let new = disk_of c.commit_event.new.io in
    let stands = subst (λ (u : Uber). Stands u new.seen) c.uber.ensures (c.in-Ok.ensures.commits.written.stands told) in
    record {
      moments = prepared_event.1;
      answer = commit-rests (disk_of c.write_next.new.io) new c.in_ok-next.next c.args.dir next prepared_event.0 c.commit_event.ensures.commits.written.writes stands c.in-Ok.ensures.commits.written.durable;
    }

pub returns-in-Ok-clause-commits : goal.returns-in-Ok-clause-commits
returns-in-Ok-clause-commits g c = λ tight start rows pool next told rests fills is.
    Commits-over (g.D.Disk.state start) _ _ _ c.commit_event.new.io.space c.args.body.now rows pool next _ rests fills (returns-in-Ok-clause-over g c tight next told is)

pub returns-in-Err-clause-over : goal.returns-in-Err-clause-over
returns-in-Err-clause-over g c = λ tight next told is.
    let prepared_event = began g (goal.at.returns-in-Err-clause-over g c).After-commit_event next told is in
    record { moments = prepared_event.1; answer = tt }

pub returns-in-Err-clause-commits : goal.returns-in-Err-clause-commits
returns-in-Err-clause-commits g c = λ tight start rows pool next told rests fills is.
    Commits-over (g.D.Disk.state start) _ _ _ c.commit_event.new.io.space c.args.body.now rows pool next _ rests fills (returns-in-Err-clause-over g c tight next told is)

pub returns-in-Ok-clause-made : goal.returns-in-Ok-clause-made
returns-in-Ok-clause-made g c =
    let old = disk_of c.args.io.now in
    let mid = disk_of c.write_next.new.io in
    let new = disk_of c.commit_event.new.io in
    let space = c.args.io.now.space in
    let less = c.write_next.new.io.space in
    let next : Body = c.in_ok-next.next in
    let is = c.in_ok-next.ensures.next in
    let works = c.write_next.ensures.works in
    let event = c.in-Ok.ensures.commits in
    let sectors = works.takes.sectors ∙ c.requires.sectors in
    let same : free_by next ≡ less = free_by-next (Has mid.seen less) less c.args.body.now next c.args.guids c.args.dir is sectors in
    let size = event.written.writes.size ∙ works.fills.size in
    let fits = subst (FitsDisk new.size) c.commit_event.ensures.space c.commit_event.new.io.fits in
    let stays : (ptr : Ptr) (bytes : List ℕ) → Has mid.seen less ptr bytes → Has new.seen (free_by next) ptr bytes =
    λ ptr bytes has. Has-label (free_by next) mid.seen new.seen ptr bytes event.written.writes.seen (subst (λ (s : FreeSectors). Has mid.seen s ptr bytes) (sym same) has) in
    record {
      number = is.number;
      dir = refl;
      blocks = λ ptr bytes has. stays ptr bytes (KeepsBlocks-fills old mid space less works.fills ptr bytes has);
      extents = HasExtents-grows (Has mid.seen less) (Has new.seen (free_by next)) stays next.uber.free_levels next.uber.free_root next.uber.free_count next.free is.extents;
      space = same ∙ sym c.commit_event.ensures.space;
      ready =
          let in_range = next_in_range (Has mid.seen less) new.size c.args.body.now next less c.args.guids c.args.dir is sectors (subst (λ (n : ℕ). InRange n c.args.body.now.uber) (sym size) c.requires.ready.in_range) fits in
          Ready-committed mid new next c.uber.result.now _ c.uber.ensures in_range is.apart event;
    }

pub returns-in-Ok-clause-takes : goal.returns-in-Ok-clause-takes
returns-in-Ok-clause-takes g c =
    let space = c.args.io.now.space in
    let same = sym c.commit_event.ensures.space in
    record {
      takes = subst (λ (less : FreeSectors). TakesAtMost (commit_sectors (length (dir_bytes c.args.dir)) (length space.free)) (IsBlockLength 16) space less) same c.write_next.ensures.works.takes;
      one_leaf = λ none small. subst (λ (less : FreeSectors). room less + 16 ≡ room space) same (c.in_ok-next.ensures.one_leaf none small);
      full = λ need largest is. absurd (cc (is));
    }

pub returns-in-Ok-clause-refused : goal.returns-in-Ok-clause-refused
returns-in-Ok-clause-refused g c = record { fills = λ apart. tt; refused = tt; stays = λ sound. tt }

pub returns-in-Ok-clause-disk : goal.returns-in-Ok-clause-disk
returns-in-Ok-clause-disk g c =
    let works = c.write_next.ensures.works in
    let writes = c.commit_event.ensures.commits.written.writes in
    record { size = writes.size ∙ works.fills.size; failed = search rules; told = λ whole. c.commit_event.ensures.counts ∙ works.told (never_damaged c.write_next.result); honest = λ told. works.fills.honest (writes.honest told); same = c.commit_event.ensures.same ∙ works.same }

pub returns-in-Err-clause-made : goal.returns-in-Err-clause-made
returns-in-Err-clause-made g c = tt

pub returns-in-Err-clause-takes : goal.returns-in-Err-clause-takes
returns-in-Err-clause-takes g c =
    let space = c.args.io.now.space in
    record {
      takes = subst (λ (less : FreeSectors). TakesAtMost (commit_sectors (length (dir_bytes c.args.dir)) (length space.free)) (IsBlockLength 16) space less) (sym c.commit_event.ensures.space) c.write_next.ensures.works.takes;
      one_leaf = λ none small. tt;
      full = λ need largest is. absurd (cc (is));
    }

pub returns-in-Err-clause-disk : goal.returns-in-Err-clause-disk
returns-in-Err-clause-disk g c =
    let works = c.write_next.ensures.works in
    let writes = c.commit_event.ensures.commits.written.writes in
    record { size = writes.size ∙ works.fills.size; failed = search rules; told = λ whole. c.commit_event.ensures.counts ∙ works.told (never_damaged c.write_next.result); honest = λ told. works.fills.honest (writes.honest told); same = c.commit_event.ensures.same ∙ works.same }

pub returns-in-Err-clause-refused : goal.returns-in-Err-clause-refused
returns-in-Err-clause-refused g c =
    record { fills = λ apart. absurd (apart refl); refused = tt; stays = λ sound. absurd (never_sound c.commit_event.new.io.failed c.args.io.now.failed (returns-in-Err-clause-disk g c).failed sound) }
