-- How a commit follows on what was written before it, and what an image then reads as.
use Rattle.std.specs.Prelude.{Result, Ok, Err, Option, Some}
use Rattle.std.proofs.Common.{◌≡◌, ◌⊎◌, inl, inr, ⊎_elim, ℕ, ◌+◌, List, length, sym, ◌∙◌, ap, subst, arith, ◌||◌, Bool, true, false}
use Rattle.zst_outside.specs.Images.{DiskState, Leaves, WritesIn, IsSynced, Leaves-weaker, Leaves-then}
use Rattle.zst_outside.specs.Ranges.{Torn}
use Rattle.zst_space.specs.FreeSectors.{FreeSectors, IsFree}
use Rattle.zst_space.proofs.FreeSectorsLaws.{Rise-end}
use Rattle.zst_block.specs.Blocks.{Has, IsTaken, FitsDisk, FillsFree, KeepsBlocks, SparesTaken, Spared}
use Rattle.zst_block.proofs.BlocksLaws.{Has-fewer, Has-spared, Has-label, SparesTaken-fewer, FillsFree-then}
use Rattle.zst_uber.proofs.BodyLaws.{uber_at-body_bytes}
use Rattle.zst_uber.specs.Body.{UberFits, InRange, body_bytes, uber_at}
use Rattle.zst_uber.specs.OpenAnswers.{IsLatest}
use Rattle.zst_uber.specs.declared.uber.Uber.{Uber}
use Rattle.zst_uber.specs.Slots.{Stands, latest, IsNext}
use Rattle.zst_uber.specs.Commit.{CommitsBody, HasOldOrNew}
use Rattle.zst_marks.specs.Marks.{Apart}
use Rattle.zst_model.specs.pools.Pool.{Pool}
use Rattle.zst_tree.specs.Indices.{Blocks}
use Rattle.zst_dir.specs.Rows.{Rows}
use Rattle.zst_image.specs.Bodies.{Body, free_by}
use Rattle.zst_image.specs.Commits.{CommitAnswer, Commits, CommitsOver, IsNextBody, KeepsImage, NextIs, OldOrNext, Ready, Stays}
use Rattle.zst_image.specs.Reads.{Describes, ReadsAs, Reads, Rests, kept_rows}
use Rattle.zst_image.specs.declared.commit_fault.CommitFault.{CommitFault}
use Rattle.zst_image.specs.declared.commit_fault.CommitFault.TheVariants.{Full, DiskFault, OutOfMemory}
use Rattle.zst_image.specs.declared.pool_state.PoolState.{PoolState}
use Rattle.zst_image.proofs.Directories.{DirStands-lawful}
use Rattle.zst_image.proofs.Extents.{HasExtents-lawful, IsTaken-free_by}
use Rattle.zst_image.proofs.Growth.{Describes-grows, RunsBy-grows}
use Rattle.zst_image.proofs.SettledLabels.{LabelSettled-fills, latest-spared}

-- each sector that is free in the first is free in the second
abbrev pub AreFewer : FreeSectors → FreeSectors → Type 0
AreFewer fewer more = (sector : ℕ) → IsFree fewer sector → IsFree more sector

pub KeepsImage-spared : (space : FreeSectors) (d c : List ℕ) → IsTaken space 0 4096 → SparesTaken space d c → KeepsImage space d c
KeepsImage-spared space d c label spares = record {
  size = spares.size;
  latest_stays = latest-spared space d c label spares;
  blocks = λ more less ptr bytes has. Has-spared more d c ptr bytes (SparesTaken-fewer more space d c less spares) has;
}

KeepsImage-label : (space : FreeSectors) (d c : List ℕ) → latest c ≡ latest d → Torn 0 4096 d c → KeepsImage space d c
KeepsImage-label space d c same torn = record {
  size = torn.size;
  latest_stays = same;
  blocks = λ more less ptr bytes has. Has-label more d c ptr bytes torn has;
}

KeepsImage-then : (space : FreeSectors) (d mid c : List ℕ) → KeepsImage space d mid → KeepsImage space mid c → KeepsImage space d c
KeepsImage-then space d mid c first second = record {
  size = second.size ∙ first.size;
  latest_stays = second.latest_stays ∙ first.latest_stays;
  blocks = λ more less ptr bytes has. second.blocks more less ptr bytes (first.blocks more less ptr bytes has);
}

-- an image that keeps another reads as it does
pub ReadsAs-keeps : {tight : Bool} (space : FreeSectors) (body : Body) (rows : Rows) (pool : Pool) (d c : List ℕ) → AreFewer space (free_by body) → KeepsImage space d c → ReadsAs tight body rows pool d → ReadsAs tight body rows pool c
ReadsAs-keeps space body rows pool d c less keeps reads = record {
  stands = keeps.latest_stays ∙ reads.stands;
  fits = reads.fits;
  in_range = subst (λ (size : ℕ). InRange size body.uber) (sym keeps.size) reads.in_range;
  described = Describes-grows d (free_by body) c (free_by body) (keeps.blocks (free_by body) less) body rows pool reads.described;
}

-- what is written into free sectors alone leaves the reading
pub ReadsAs-spared : {tight : Bool} (body : Body) (rows : Rows) (pool : Pool) (d c : List ℕ) → SparesTaken (free_by body) d c → ReadsAs tight body rows pool d → ReadsAs tight body rows pool c
ReadsAs-spared body rows pool d c spares reads =
    ReadsAs-keeps (free_by body) body rows pool d c (λ sector free. free) (KeepsImage-spared (free_by body) d c (IsTaken-free_by (length d) body reads.in_range reads.described.apart) spares) reads

pub Rests-fills : {tight : Bool} (start now : DiskState) (space : FreeSectors) (body : Body) (rows : Rows) (pool : Pool) → FillsFree start (free_by body) now space → Rests tight start body rows pool → Rests tight now body rows pool
Rests-fills start now space body rows pool fills rests = record {
  reads = ReadsAs-spared body rows pool start.seen now.seen fills.seen rests.reads;
  each = λ c image. let was = fills.crash c image in ReadsAs-spared body rows pool was.0 c was.2 (rests.each was.0 was.1);
}

-- the image has the blocks that a body describes, and not yet the body
pub record IsPrepared (tight : Bool) (next : Body) (rows : Rows) (pool : Pool) (image : List ℕ) : Type 0 where
  pub fits : UberFits next.uber
  pub in_range : InRange (length image) next.uber
  pub described : Describes tight next rows pool (Has image (free_by next))

-- once the body stands, it reads as the pool
prepared-reads : {tight : Bool} (next : Body) (rows : Rows) (pool : Pool) (image c : List ℕ) → IsPrepared tight next rows pool image → Torn 0 4096 image c → Stands next.uber c → ReadsAs tight next rows pool c
prepared-reads next rows pool image c prepared torn stands = record {
  stands = stands;
  fits = prepared.fits;
  in_range = subst (λ (size : ℕ). InRange size next.uber) (sym torn.size) prepared.in_range;
  described = Describes-grows image (free_by next) c (free_by next) (λ ptr bytes has. Has-label (free_by next) image c ptr bytes torn has) next rows pool prepared.described;
}

pub commit-rests : {tight : Bool} (mid new : DiskState) (next : Body) (rows : Rows) (pool : Pool) → IsPrepared tight next rows pool mid.seen → WritesIn 0 4096 mid new → Stands next.uber new.seen → IsSynced new → Rests tight new next rows pool
commit-rests {tight = tight} mid new next rows pool prepared writes stands synced =
    let reads = prepared-reads next rows pool mid.seen new.seen prepared writes.seen stands in
    record { reads = reads; each = λ c image. subst (ReadsAs tight next rows pool) (sym (synced c image)) reads }

-- where free sectors alone were written, each image keeps one from before
pub fills-moments : {tight : Bool} (old mid : DiskState) (space less : FreeSectors) (pool : Pool) → IsTaken space 0 4096 → FillsFree old space mid less → Leaves old mid (OldOrNext tight space old pool)
fills-moments {tight = tight} old mid space less pool label fills =
    Leaves-weaker old mid (Spared space old) (OldOrNext tight space old pool) fills.time (λ c was. inl (was.0, was.1, KeepsImage-spared space was.0 c label was.2))

-- and so it does once the body was committed too, or it reads as the pool
pub commit-moments : {tight : Bool} (old mid new : DiskState) (space less : FreeSectors) (next : Body) (rows : Rows) (pool : Pool) → IsTaken space 0 4096 → FillsFree old space mid less
    → IsPrepared tight next rows pool mid.seen → Leaves mid new (HasOldOrNew next.uber mid) → Leaves old new (OldOrNext tight space old pool)
commit-moments {tight = tight} old mid new space less next rows pool label fills prepared leaves =
    Leaves-then old mid new (OldOrNext tight space old pool) (HasOldOrNew next.uber mid) (fills-moments old mid space less pool label fills) leaves both
  where
    past : (c : List ℕ) → (d : List ℕ) × mid.images d × (latest c ≡ latest d) × Torn 0 4096 d c → OldOrNext tight space old pool c
    past c is =
        let was = fills.crash is.0 is.1 in
        inl (was.0, was.1, KeepsImage-then space was.0 is.0 c (KeepsImage-spared space was.0 is.0 label was.2) (KeepsImage-label space is.0 c is.2 is.3))

    both : (c : List ℕ) → HasOldOrNew next.uber mid c → OldOrNext tight space old pool c
    both c is = ⊎_elim (past c) (λ new. inr (next, rows, prepared-reads next rows pool mid.seen c prepared new.1 new.0)) is

-- the sectors that are left are those that are free by the next body
pub free_by-next : (has : Blocks) (left : FreeSectors) (body next : Body) (guids : ℕ) (rows : Rows) → IsNextBody has left body guids rows next → left.sectors ≡ body.uber.sectors → free_by next ≡ left
free_by-next has left body next guids rows is sectors =
    let end = is.end in
    let free = is.free in
    let as_left : next.uber.sectors ≡ left.sectors = is.sectors ∙ sym sectors in
    let made : ◌≡◌ {A = FreeSectors} (record { end = next.uber.end; sectors = next.uber.sectors; free = next.free }) (record { end = left.end; sectors = left.sectors; free = left.free }) = cc (end, free, as_left) in
    made

-- the body of the next commit is in its ranges
pub next_in_range : (has : Blocks) (size : ℕ) (body next : Body) (left : FreeSectors) (guids : ℕ) (rows : Rows) → IsNextBody has left body guids rows next → left.sectors ≡ body.uber.sectors → InRange size body.uber → FitsDisk size left → InRange size next.uber
next_in_range has size body next left guids rows is sectors in_range fits =
    let behind = Rise-end 8 left.end left.free fits.extents.extents in
    let uber = next.uber in
    let free = HasExtents-lawful has uber.free_levels uber.free_root uber.free_count next.free is.extents in
    record {
      version = is.version ∙ in_range.version;
      id = rw is.id in_range.id;
      end = (omega (arith, behind, is.end), omega (arith, fits.extents.end, is.end, is.sectors, sectors));
      sectors = omega (arith, in_range.sectors, is.sectors);
      levels = (omega (arith, is.directory.leaves.least.few), omega (arith, free.1));
      dir_root = DirStands-lawful has uber.dir_levels uber.dir_root uber.dir_bytes rows is.directory;
      free_root = free.0;
    }

-- what is written before the body of the next commit is what it describes: the rows stood over the blocks of the image from before, and these are kept
pub prepared : {tight : Bool} (old mid : DiskState) (space less : FreeSectors) (body next : Body) (guids : ℕ) (rows : Rows) (pool : Pool) → IsNextBody (Has mid.seen less) less body guids rows next → less.sectors ≡ body.uber.sectors
    → InRange mid.size body.uber → KeepsBlocks old.seen space mid.seen less → FitsDisk mid.size less → length mid.seen ≡ mid.size → UberFits next.uber
    → NextIs tight (Has old.seen space) body guids rows pool → IsPrepared tight next rows pool mid.seen
prepared {tight = tight} old mid space less body next guids rows pool next_is sectors in_range keeps fits long next_fits is = record {
  fits = next_fits;
  in_range = subst (λ (size : ℕ). InRange size next.uber) (sym long) (next_in_range (Has mid.seen less) mid.size body next less guids rows next_is sectors in_range fits);
  described = subst (λ (s : FreeSectors). Describes tight next rows pool (Has mid.seen s)) (sym (free_by-next (Has mid.seen less) less body next guids rows next_is sectors)) (record {
    id = is.id ∙ sym next_is.id;
    number = is.number ∙ sym next_is.number;
    guids = is.guid_counter ∙ sym next_is.guid_counter;
    extents = next_is.extents;
    apart = next_is.apart;
    directory = next_is.directory;
    rows_are = RunsBy-grows old.seen space mid.seen less keeps (kept_rows rows) pool is.rows_are;
    lawful = is.lawful;
  });
}

Stays-weaker : (before after : Type 0) (fault : CommitFault) → (before → after) → Stays before fault → Stays after fault
Stays-weaker before after (Full need largest) is stays = is stays
Stays-weaker before after DiskFault is stays = tt
Stays-weaker before after OutOfMemory is stays = is stays

pub Stays-from : (before : Type 0) (fault : CommitFault) → before → Stays before fault
Stays-from before (Full need largest) is = is
Stays-from before DiskFault is = tt
Stays-from before OutOfMemory is = is

CommitAnswer-weaker : (after : PoolState → Type 0) (before weaker : Type 0) (result : Result PoolState CommitFault) → (before → weaker) → CommitAnswer after before result → CommitAnswer after weaker result
CommitAnswer-weaker after before weaker (Ok kept) is answer = answer
CommitAnswer-weaker after before weaker (Err fault) is answer = Stays-weaker before weaker fault is answer

-- a commit on a disk where free sectors alone were written since a start
pub Commits-over : {tight : Bool} (start old new : DiskState) (space less : FreeSectors) (body : Body) (rows : Rows) (pool next : Pool) (result : Result PoolState CommitFault) → Rests tight start body rows pool
    → FillsFree start (free_by body) old space → CommitsOver tight old space new less next result → Commits tight start new body rows pool next result
Commits-over {tight = tight} start old new space less body rows pool next result rests fills over = record {
  moments = Leaves-then start old new (λ c. Reads tight pool c ⊎ Reads tight next c) (OldOrNext tight space old next)
      (Leaves-weaker start old (Spared (free_by body) start) (λ c. Reads tight pool c ⊎ Reads tight next c) fills.time (λ c was. inl (body, rows, ReadsAs-spared body rows pool was.0 c was.2 (rests.each was.0 was.1))))
      over.moments both;
  answer = CommitAnswer-weaker (λ kept. Rests tight new kept.body kept.dir next) (FillsFree old space new less) (Rests tight new body rows pool) result
      (λ later. Rests-fills start new less body rows pool (FillsFree-then start old new (free_by body) space less fills later) rests) over.answer;
}
  where
    past : (c : List ℕ) → (d : List ℕ) × old.images d × KeepsImage space d c → Reads tight pool c
    past c is =
        let was = fills.crash is.0 is.1 in
        (body, rows, ReadsAs-keeps space body rows pool is.0 c fills.fewer is.2 (ReadsAs-spared body rows pool was.0 is.0 was.2 (rests.each was.0 was.1)))

    both : (c : List ℕ) → OldOrNext tight space old next c → Reads tight pool c ⊎ Reads tight next c
    both c is = ⊎_elim (λ keeps. inl (past c keeps)) (λ new. inr new) is

-- what is answered where free sectors alone were written
pub over-refused : {tight : Bool} (old mid : DiskState) (space less : FreeSectors) (pool : Pool) (fault : CommitFault) → IsTaken space 0 4096 → FillsFree old space mid less → CommitsOver tight old space mid less pool (Err fault)
over-refused old mid space less pool fault label fills = record {
  moments = fills-moments old mid space less pool label fills;
  answer = Stays-from (FillsFree old space mid less) fault fills;
}

-- an image that keeps another reads as that does where more sectors are free, in none of which anything stands that it reads by
ReadsAs-over : {tight : Bool} (space more : FreeSectors) (body : Body) (rows : Rows) (pool : Pool) (d c : List ℕ) → AreFewer space more → AreFewer (free_by body) more → KeepsImage space d c → ReadsAs tight body rows pool d → Describes tight body rows pool (Has d more)
    → ReadsAs tight body rows pool c
ReadsAs-over space more body rows pool d c written less keeps reads stands = record {
  stands = keeps.latest_stays ∙ reads.stands;
  fits = reads.fits;
  in_range = subst (λ (size : ℕ). InRange size body.uber) (sym keeps.size) reads.in_range;
  described = Describes-grows d more c (free_by body) (λ ptr bytes has. Has-fewer c more (free_by body) ptr bytes less (keeps.blocks more written ptr bytes has)) body rows pool stands;
}

-- a commit that wrote into such sectors, whether or not they are free by the body, from a start at which nothing was pending
pub Commits-over-more : {tight : Bool} (start old new : DiskState) (more space less : FreeSectors) (body : Body) (rows : Rows) (pool next : Pool) (result : Result PoolState CommitFault) → Rests tight start body rows pool → IsSynced start
    → IsTaken more 0 4096 → AreFewer (free_by body) more → Describes tight body rows pool (Has start.seen more) → FillsFree start more old space → CommitsOver tight old space new less next result → Commits tight start new body rows pool next result
Commits-over-more {tight = tight} start old new more space less body rows pool next result rests synced label fewer stands fills over = record {
  moments = Leaves-then start old new (λ c. Reads tight pool c ⊎ Reads tight next c) (OldOrNext tight space old next)
      (Leaves-weaker start old (Spared more start) (λ c. Reads tight pool c ⊎ Reads tight next c) fills.time (λ c was. inl (body, rows, spared_reads was.0 c was.1 was.2)))
      over.moments both;
  answer = CommitAnswer-weaker (λ kept. Rests tight new kept.body kept.dir next) (FillsFree old space new less) (Rests tight new body rows pool) result
      (λ later. rests_still (FillsFree-then start old new more space less fills later)) over.answer;
}
  where
    keeps_seen : (c : List ℕ) → SparesTaken more start.seen c → ReadsAs tight body rows pool c
    keeps_seen c spares = ReadsAs-over more more body rows pool start.seen c (λ sector free. free) fewer (KeepsImage-spared more start.seen c label spares) rests.reads stands

    spared_reads : (d c : List ℕ) → start.images d → SparesTaken more d c → ReadsAs tight body rows pool c
    spared_reads d c image spares = keeps_seen c (subst (λ (seen : List ℕ). SparesTaken more seen c) (synced d image) spares)

    described_in : (d c : List ℕ) → start.images d → SparesTaken more d c → Describes tight body rows pool (Has c more)
    described_in d c image spares =
        let same = subst (λ (seen : List ℕ). SparesTaken more seen c) (synced d image) spares in
        Describes-grows start.seen more c more (λ ptr bytes has. Has-spared more start.seen c ptr bytes same has) body rows pool stands

    rests_still : FillsFree start more new less → Rests tight new body rows pool
    rests_still all = record { reads = keeps_seen new.seen all.seen; each = λ c image. let was = all.crash c image in spared_reads was.0 c was.1 was.2 }

    past : (c : List ℕ) → (d : List ℕ) × old.images d × KeepsImage space d c → Reads tight pool c
    past c is =
        let was = fills.crash is.0 is.1 in
        (body, rows, ReadsAs-over space more body rows pool is.0 c fills.fewer fewer is.2 (spared_reads was.0 is.0 was.1 was.2) (described_in was.0 is.0 was.1 was.2))

    both : (c : List ℕ) → OldOrNext tight space old next c → Reads tight pool c ⊎ Reads tight next c
    both c is = ⊎_elim (λ before. inl (past c before)) (λ after. inr after) is

-- what was written into free sectors alone leaves the disk ready for the next commit
pub Ready-fills : (old new : DiskState) (space less : FreeSectors) (body : Body) → IsTaken space 0 4096 → FillsFree old space new less → Ready old body → Ready new body
Ready-fills old new space less body label fills ready = record {
  in_range = subst (λ (size : ℕ). InRange size body.uber) (sym fills.size) ready.in_range;
  apart = ready.apart;
  next = λ told. subst (λ (l : Option (List ℕ)). IsNext (body.uber.number + 1) l) (sym (latest-spared space old.seen new.seen label fills.seen)) (ready.next (fills.honest told));
  label = λ told. LabelSettled-fills old new space less label fills (ready.label (fills.honest told));
  only = λ told found is.
      ready.only (fills.honest told) found
      (record { stands = sym (latest-spared space old.seen new.seen label fills.seen) ∙ is.stands; fits = is.fits; in_range = subst (λ (size : ℕ). InRange size found) fills.size is.in_range });
}

-- where the body of a commit stands, no other is read as the latest
only_latest : (size : ℕ) (next found : Uber) (image : List ℕ) → UberFits next → Stands next image → IsLatest size found image → found ≡ next
only_latest size next found image fits stands is =
    let same : body_bytes found ≡ body_bytes next = some_same (sym is.stands ∙ stands) in
    sym (uber_at-body_bytes found is.fits) ∙ ap uber_at same ∙ uber_at-body_bytes next fits
  where
    some_same : {a b : List ℕ} → (let one : Option (List ℕ) = Some a in one) ≡ Some b → a ≡ b
    some_same is = cc

-- once the next body is the latest, the disk is ready for the one behind it
pub Ready-committed : (mid new : DiskState) (next : Body) (uber : Uber) (done : Unit {0}) → uber ≡ next.uber → InRange new.size next.uber → Apart 8 next.free next.uber.end → CommitsBody uber mid new (Ok done) → Ready new next
Ready-committed mid new next uber done same in_range apart event = record {
  in_range = in_range;
  apart = apart;
  next = λ told. subst (λ (u : Uber). IsNext (u.number + 1) (latest new.seen)) same (event.following told);
  label = λ told. event.label;
  only = λ told found one. subst (λ (u : Uber). found ≡ u) same (only_latest new.size uber found new.seen event.written.fits (event.written.stands told) one);
}

-- a disk that failed isn't sound
pub never_sound : (now before : Bool) → now ≡ (before || true) → now ≡ false → ⊥
never_sound now true is sound = let both : true ≡ false = sym is ∙ sound in cc both
never_sound now false is sound = let both : true ≡ false = sym is ∙ sound in cc both
