-- What opening a pool answers, from what its body and its directory are.
use Rattle.std.specs.Prelude.{Option, Some, None, Result, Err}
use Rattle.std.proofs.Common.{inl, inr, ⊎_elim, ◌≡◌, ◌≢◌, ◌+◌, List, ℕ, length, refl, sym, ap, subst, ◌∙◌, Bool}
use Rattle.zst_bytes.specs.Bytes.{number_at}
use Rattle.zst_outside.specs.Ranges.{bytes_at}
use Rattle.zst_marks.specs.Marks.{Apart}
use Rattle.zst_outside.specs.Images.{DiskState, IsSynced, OnlyReads}
use Rattle.zst_space.specs.declared.space.Extent.{Extent}
use Rattle.zst_block.specs.Blocks.{Has}
use Rattle.zst_block.specs.declared.ptr.Ptr.{Ptr}
use Rattle.zst_block.proofs.BlocksLaws.{Has-fewer}
use Rattle.zst_block.specs.declared.fault.BlockFault.TheVariants as block_faults
use Rattle.zst_leaves.specs.Damage.{TellsText}
use Rattle.zst_leaves.specs.Leaves.{BlocksBefore, HasLeaves}
use Rattle.zst_leaves.proofs.BlocksBeforeEnd.{Has-before}
use Rattle.zst_extents.specs.ExtentReads.{TellsExtents}
use Rattle.zst_extents.specs.StoredExtents.{HasExtents}
use Rattle.zst_extents.proofs.ExtentGrowth.{HasExtents-grows}
use Rattle.zst_tree.specs.declared.or_memory.OrMemory.{OrMemory}
use Rattle.zst_block.specs.declared.fault.BlockFault.{BlockFault}
use Rattle.zst_tree.specs.declared.or_memory.OrMemory.TheVariants.{Fault}
use Rattle.zst_uber.specs.Body.{IsBody, InRange, body_bytes}
use Rattle.zst_uber.specs.Commit.{LabelSettled}
use Rattle.zst_uber.specs.OpenAnswers.{Answers, GivesUber, Opens, IsLatest}
use Rattle.zst_uber.specs.Slots.{IsNext, latest}
use Rattle.zst_uber.specs.declared.TheConstants.{VERSION}
use Rattle.zst_uber.specs.declared.fault.UberFault.{UberFault}
use Rattle.zst_uber.specs.declared.fault.UberFault.TheVariants as ubers
use Rattle.zst_uber.specs.declared.uber.Uber.{Uber}
use Rattle.zst_model.specs.pools.Pool.{Pool}
use Rattle.zst_dir.specs.Rows.{Rows}
use Rattle.zst_image.specs.Faults.{of_uber}
use Rattle.zst_image.specs.Bodies.{Body, behind_end, free_by}
use Rattle.zst_image.specs.Commits.{Ready}
use Rattle.zst_image.specs.OpenAnswers.{IsOpened, LoadFault, OpenAnswers, ReadFault, TellsFault, TellsBlock, TellsBody}
use Rattle.zst_image.specs.Reads.{ReadsAs, HasDir, Rests}
use Rattle.zst_image.specs.declared.open_fault.OpenFault.{OpenFault}
use Rattle.zst_image.specs.declared.open_fault.OpenFault.TheVariants.{Damaged, NoPool, BadVersion, DiskFault, OutOfMemory}
use Rattle.zst_image.proofs.Directories.{DirStands-grows}
use Rattle.zst_image.proofs.Extents.{behind_end-fewer}

-- the body by which an image reads as a pool is its latest
pub IsLatest-reads : {tight : Bool} (size : ℕ) (body : Body) (rows : Rows) (pool : Pool) (image : List ℕ) → length image ≡ size → ReadsAs tight body rows pool image → IsLatest size body.uber image
IsLatest-reads size body rows pool image long reads = record {
  stands = reads.stands;
  fits = reads.fits;
  in_range = subst (λ (n : ℕ). InRange n body.uber) long reads.in_range;
}

-- what an image has by a body stands before the body's end
has_behind : (image : List ℕ) (body : Body) (ptr : Ptr) (bytes : List ℕ) → Has image (free_by body) ptr bytes → Has image (behind_end body.uber) ptr bytes
has_behind image body ptr bytes has = Has-fewer image (free_by body) (behind_end body.uber) ptr bytes (behind_end-fewer body) has

-- extents that are there by a body are there before the end of an equal one, in an equal image
pub extents_there : (body : Body) (uber : Uber) (image seen : List ℕ) → uber ≡ body.uber → seen ≡ image → HasExtents (Has image (free_by body)) body.uber.free_levels body.uber.free_root body.uber.free_count body.free
    → HasExtents (Has seen (behind_end uber)) uber.free_levels uber.free_root uber.free_count body.free
extents_there body uber image seen same_uber same has =
    let named = body.uber in
    let stand = HasExtents-grows (Has image (free_by body)) (Has image (behind_end named)) (has_behind image body) named.free_levels named.free_root named.free_count body.free has in
    subst (λ (u : Uber). HasExtents (Has seen (behind_end u)) u.free_levels u.free_root u.free_count body.free) (sym same_uber)
    (subst (λ (l : List ℕ). HasExtents (Has l (behind_end named)) named.free_levels named.free_root named.free_count body.free) (sym same) stand)

-- and so is a directory
pub dir_there : (body : Body) (uber : Uber) (rows : Rows) (image seen : List ℕ) → uber ≡ body.uber → seen ≡ image → HasDir (Has image (free_by body)) body.uber rows → HasDir (Has seen (behind_end uber)) uber rows
dir_there body uber rows image seen same_uber same has =
    let named = body.uber in
    let stands = DirStands-grows (Has image (free_by body)) (Has image (behind_end named)) (has_behind image body) named.dir_levels named.dir_root named.dir_bytes rows has in
    subst (λ (u : Uber). HasDir (Has seen (behind_end u)) u rows) (sym same_uber) (subst (λ (l : List ℕ). HasDir (Has l (behind_end named)) named rows) (sym same) stands)

-- what stands before the end is there, whichever sectors are free behind it
pub extents_before : (uber : Uber) (free : List Extent) (image seen : List ℕ) → seen ≡ image → HasExtents (BlocksBefore uber.end image) uber.free_levels uber.free_root uber.free_count free
    → HasExtents (Has seen (behind_end uber)) uber.free_levels uber.free_root uber.free_count free
extents_before uber free image seen same has =
    HasExtents-grows (BlocksBefore uber.end seen) (Has seen (behind_end uber)) (Has-before seen (behind_end uber) refl) uber.free_levels uber.free_root uber.free_count free
    (subst (λ (l : List ℕ). HasExtents (BlocksBefore uber.end l) uber.free_levels uber.free_root uber.free_count free) (sym same) has)

pub dir_before : (uber : Uber) (rows : Rows) (image seen : List ℕ) → seen ≡ image → HasDir (BlocksBefore uber.end image) uber rows → HasDir (Has seen (behind_end uber)) uber rows
dir_before uber rows image seen same has =
    DirStands-grows (BlocksBefore uber.end seen) (Has seen (behind_end uber)) (Has-before seen (behind_end uber) refl) uber.dir_levels uber.dir_root uber.dir_bytes rows
    (subst (λ (l : List ℕ). HasDir (BlocksBefore uber.end l) uber rows) (sym same) has)

-- a body that is read, and what it is a body of
pub IsBody-latest : (size : ℕ) (uber : Uber) (image : List ℕ) → IsLatest size uber image → IsBody size uber (body_bytes uber)
IsBody-latest size uber image is = record { spelled = refl; fits = is.fits; in_range = is.in_range }

-- what is told of the blocks of a disk is told of those of an equal one
on_equal : (P : List ℕ → ℕ → Type 0) (old new : DiskState) → new.seen ≡ old.seen → new.size ≡ old.size → P new.seen new.size → P old.seen old.size
on_equal P old new seen size told = subst (λ (n : ℕ). P old.seen n) size (subst (λ (l : List ℕ). P l new.size) seen told)

TellsBlock-same : (old new : DiskState) (uber : Uber) (sector : ℕ) (stated found : List ℕ) → new.seen ≡ old.seen → new.size ≡ old.size → TellsBlock new uber sector stated found → TellsBlock old uber sector stated found
TellsBlock-same old new uber sector stated found seen size tells =
    let fault : Result (Unit {0}) (OrMemory BlockFault) = Err (Fault (block_faults.Damaged sector stated found)) in
    ⊎_elim
    (λ extents. inl (on_equal (λ image long. TellsExtents uber.end image long uber.free_levels uber.free_root uber.free_count uber.end fault) old new seen size extents))
    (λ directory. ⊎_elim
    (λ text. inr (inl (on_equal (λ image long. TellsText uber.end image long uber.dir_levels uber.dir_root uber.dir_bytes fault) old new seen size text)))
    (λ root. inr (inr (record {
      why = record {
        text = root.why.text;
        leaves = subst (λ (image : List ℕ). HasLeaves (BlocksBefore uber.end image) uber.dir_levels uber.dir_root root.why.text) seen root.why.leaves;
        long = root.why.long;
        no_dir = root.why.no_dir;
      };
      sector_is = root.sector_is;
      stated_is = root.stated_is;
      found_is = root.found_is;
    }))) directory) tells

pub TellsFault-reads : (old new : DiskState) (uber : Uber) (fault : OpenFault) → OnlyReads old new → TellsFault new uber fault → TellsFault old uber fault
TellsFault-reads old new uber (Damaged sector stated found) reads tells = TellsBlock-same old new uber sector stated found reads.seen reads.size tells
TellsFault-reads old new uber NoPool reads tells = tt
TellsFault-reads old new uber (BadVersion number) reads tells = tt
TellsFault-reads old new uber DiskFault reads tells = tt
TellsFault-reads old new uber OutOfMemory reads tells = tt

-- the extents or the directory are damaged only where none are there
pub OpenAnswers-refused : (disk : DiskState) (uber : Uber) (fault : OpenFault) → IsLatest disk.size uber disk.seen → LoadFault fault → TellsFault disk uber fault
    → ((free : List Extent) (rows : Rows) → IsOpened disk (body_bytes uber) (record { uber = uber; free = free }) rows → ReadFault fault) → OpenAnswers disk (Err fault)
OpenAnswers-refused disk uber (Damaged sector stated found) last is tells read = inr (record {
  uber = uber;
  body = body_bytes uber;
  there = last.stands;
  is_body = IsBody-latest disk.size uber disk.seen last;
  no_dir = λ free rows opened. read free rows opened;
  block = tells;
})
OpenAnswers-refused disk uber NoPool last is tells read = absurd is
OpenAnswers-refused disk uber (BadVersion number) last is tells read = absurd is
OpenAnswers-refused disk uber DiskFault last is tells read = tt
OpenAnswers-refused disk uber OutOfMemory last is tells read = tt

-- where the latest body gives no answer but that there is none
module _ (disk : DiskState) where
  no_body : (found : Option (List ℕ)) → Opens disk found (Err ubers.NoPool) → found ≡ None
  no_body None is = refl
  no_body (Some body) is = absurd is

  bad_version : (version : ℕ) (found : Option (List ℕ)) → Opens disk found (Err (ubers.BadVersion version)) → (body : List ℕ) × (found ≡ Some body) × (version ≡ number_at body 8 4) × (version ≢ VERSION)
  bad_version version None is = absurd (cc)
  bad_version version (Some body) is = (body, refl, is.0, is.1)

  damaged_body : (sector : ℕ) (stated parts : List ℕ) (found : Option (List ℕ)) → latest disk.seen ≡ found → Opens disk found (Err (ubers.Damaged sector stated parts)) → TellsBody disk sector stated parts
  damaged_body sector stated parts None same is = absurd (cc)
  damaged_body sector stated parts (Some body) same is = record { body = body; there = same; version = is.1; no_body = is.4; sector_is = is.0; stated_is = is.2; found_is = is.3 }

  -- what a body that can't be read answers
  pub OpenAnswers-body : (fault : UberFault) → Answers disk (Err fault) → OpenAnswers disk (Err (of_uber fault))
  OpenAnswers-body (ubers.Damaged sector stated parts) is = inl (damaged_body sector stated parts (latest disk.seen) refl is)
  OpenAnswers-body ubers.NoPool is = no_body (latest disk.seen) is
  OpenAnswers-body (ubers.BadVersion version) is = bad_version version (latest disk.seen) is
  OpenAnswers-body ubers.DiskFault is = tt

-- where nothing is pending, nothing is after reads
pub IsSynced-reads : (old new : DiskState) → OnlyReads old new → IsSynced old → IsSynced new
IsSynced-reads old new reads synced c image = synced c (reads.crash c image) ∙ sym reads.seen

-- a disk that reads as a pool and was opened rests as that pool, by the body that is kept of it
pub Rests-opened : {tight : Bool} (old new : DiskState) (body kept : Body) (rows : Rows) (pool : Pool) → ReadsAs tight body rows pool old.seen → OnlyReads old new → IsSynced new → kept ≡ body → Rests tight new kept rows pool
Rests-opened {tight = tight} old new body kept rows pool is reads synced same =
    let read : ReadsAs tight kept rows pool new.seen = rw (same, reads.seen) is in
    record { reads = read; each = λ c image. subst (λ (bytes : List ℕ). ReadsAs tight kept rows pool bytes) (sym (synced c image)) read }

-- where this body is the latest, what a refusal to read it tells
pub uber_read : (uber : Uber) (fault : UberFault) → GivesUber uber (Err fault) → ReadFault (of_uber fault)
uber_read uber (ubers.Damaged sector stated parts) given = given
uber_read uber ubers.NoPool given = given
uber_read uber (ubers.BadVersion version) given = given
uber_read uber ubers.DiskFault given = tt

-- the latest body of what reads left is the one that was there before
IsLatest-back : (old new : DiskState) (found : Uber) → OnlyReads old new → IsLatest new.size found new.seen → IsLatest old.size found old.seen
IsLatest-back old new found reads is = record {
  stands = sym (ap latest reads.seen) ∙ is.stands;
  fits = is.fits;
  in_range = subst (λ (size : ℕ). InRange size found) reads.size is.in_range;
}

-- the next commit can follow on a body that was read
pub Ready-latest : (old new : DiskState) (body : Body) → OnlyReads old new → InRange new.size body.uber → Apart 8 body.free body.uber.end → (new.honest → IsNext (body.uber.number + 1) (latest old.seen)) → LabelSettled new
    → (new.honest → (found : Uber) → IsLatest old.size found old.seen → found ≡ body.uber) → Ready new body
Ready-latest old new body reads in_range apart next label only = record {
  in_range = in_range;
  apart = apart;
  next = λ told. subst (λ (image : List ℕ). IsNext (body.uber.number + 1) (latest image)) (sym reads.seen) (next told);
  label = λ told. label;
  only = λ told found is. only told found (IsLatest-back old new found reads is);
}

-- also after reads
pub Ready-reads : (old new : DiskState) (body : Body) → OnlyReads old new → Ready old body → Ready new body
Ready-reads old new body reads ready = record {
  in_range = subst (λ (size : ℕ). InRange size body.uber) (sym reads.size) ready.in_range;
  apart = ready.apart;
  next = λ told. subst (λ (image : List ℕ). IsNext (body.uber.number + 1) (latest image)) (sym reads.seen) (ready.next (reads.honest told));
  label = λ told c image p n le. ready.label (reads.honest told) c (reads.crash c image) p n le ∙ ap (λ (bytes : List ℕ). bytes_at bytes p n) (sym reads.seen);
  only = λ told found is. ready.only (reads.honest told) found (IsLatest-back old new found reads is);
}
