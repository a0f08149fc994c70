-- What is free once a commit has made free what isn't marked.
use Rattle.std.specs.Prelude.{Option, Some, None, Err}
use Rattle.std.proofs.Common.{◌≡◌, inl, inr, ⊎_elim, ℕ, ◌+◌, ◌*◌, ◌/◌, ◌<◌, ◌≤◌, ◌||◌, Bool, true, false, List, [], ◌∷◌, length, refl, sym, ◌∙◌, ap, subst, arith}
use Rattle.std.proofs.lemmas.Bool.{cases_lt}
use Rattle.zst_outside.specs.Images.{OnlyReads-none}
use Rattle.zst_space.specs.FreeSectors.{FreeSectors, IsFree, IsSpaceFrom, largest_of}
use Rattle.zst_space.specs.declared.space.Extent.{Extent}
use Rattle.zst_space.specs.declared.space.SpaceFault.{SpaceFault}
use Rattle.zst_space.proofs.FreeSectorsLaws.{IsFree-from, IsSpaceFrom-earlier}
use Rattle.zst_marks.specs.Marks.{Apart, Follow, IsMarked}
use Rattle.zst_block.specs.Blocks.{FitsDisk, Has, SparesTaken}
use Rattle.zst_block.specs.IoCalls.{IsBlockLength, IsFull, TakesAtMost, Works, fails, is_damage}
use Rattle.zst_block.specs.IoStates.{IoState}
use Rattle.zst_block.specs.declared.fault.BlockFault.{BlockFault}
use Rattle.zst_block.specs.declared.fault.BlockFault.TheVariants as blocks
use Rattle.zst_block.specs.declared.ptr.Ptr.{Ptr}
use Rattle.zst_block.proofs.BlocksLaws.{FillsFree-reads, Has-fewer, Has-spared, SparesTaken-fewer}
use Rattle.zst_block.proofs.IoCallLemmas.{Looks-none}
use Rattle.zst_block.proofs.TakenSectors.{takes_more}
use Rattle.zst_tree.specs.Faults.{IfFault}
use Rattle.zst_tree.specs.declared.or_memory.OrMemory.{OrMemory}
use Rattle.zst_tree.specs.declared.or_memory.OrMemory.TheVariants.{Fault}
use Rattle.zst_leaves.specs.Leaves.{Laid, leaves_for}
use Rattle.zst_dir.specs.Rows.{Rows}
use Rattle.zst_dir.specs.Spelling.{dir_bytes}
use Rattle.zst_extents.specs.StoredExtents.{extent_blocks, tree_blocks}
use Rattle.zst_extents.specs.UnmarkedExtents.{AreUnmarked, IsFullAfter, IsFullFor, MarksTaken, MayLeave, TakesEnough}
use Rattle.zst_extents.proofs.ApartExtents.{IsSpaceFrom-apart}
use Rattle.zst_extents.proofs.BlocksInTurn.{stops_behind}
use Rattle.zst_extents.proofs.MarkedBlocks.{MayLeave-unmarked}
use Rattle.zst_extents.proofs.Stored.{FillsFree-less}
use Rattle.zst_extents.proofs.TakenWorks.{left_with}
use Rattle.zst_extents.proofs.TreeBlocks.{few_above}
use Rattle.zst_image.specs.Bodies.{Body, free_by}
use Rattle.zst_image.specs.Commits.{commit_sectors}
use Rattle.zst_image.specs.Faults.{stop_of_commit}
use Rattle.zst_image.specs.FreedCommits.{AreAllUnmarked, AreLeftFree, AreSomeUnmarked, Fills, IsFreedFull, KeepsMarked, TakesForFreed}
use Rattle.zst_image.specs.declared.commit_fault.CommitFault.{CommitFault}
use Rattle.zst_image.specs.declared.commit_fault.CommitFault.TheVariants as commits

-- ---- extents up to a later end

Follow-later : (from : ℕ) (extents : List Extent) (end later : ℕ) → end ≤ later → Follow from extents end → Follow from extents later
Follow-later from [] end later le rise = omega (arith, le, rise)
Follow-later from (e ∷ es) end later le rise = (rise.0, rise.1, Follow-later (e.first + e.count) es end later le rise.2)

-- extents that are apart up to an end are so up to each later one
pub Apart-later : (extents : List Extent) (end later : ℕ) → end ≤ later → Apart 8 extents end → Apart 8 extents later
Apart-later [] end later le rise = omega (arith, le, rise)
Apart-later (e ∷ es) end later le rise = (rise.0, rise.1, Follow-later (e.first + e.count) es end later le rise.2)

-- so that what the next body leaves free fits the disk
pub FitsDisk-next : (size : ℕ) (left : FreeSectors) (next : Body) → next.uber.end ≡ left.end → next.uber.sectors ≡ left.sectors → Apart 8 next.free next.uber.end → FitsDisk size left → FitsDisk size (free_by next)
FitsDisk-next size left next end sectors apart fits = record {
  extents = IsSpaceFrom-apart 8 (free_by next) (omega (arith, fits.extents.end, end, sectors)) apart;
  sectors = omega (arith, fits.sectors, sectors);
}

-- ---- what is left, and what is free by the next body

-- of sectors none of which was marked some were taken and marked, and these extents are those of the sectors that aren't marked then
pub record IsLeft (body : Body) (marks later : List ℕ) (space left : FreeSectors) (extents : List Extent) : Type 0 where
  pub before : AreSomeUnmarked body marks space
  pub is_space : IsSpaceFrom 8 space
  pub no_earlier : body.uber.end ≤ left.end
  pub taken : MarksTaken body.uber.end space left marks later
  pub unmarked : AreUnmarked later body.uber.end extents

module _ (body next : Body) (marks later : List ℕ) (space left : FreeSectors) (end : next.uber.end ≡ left.end) (is : IsLeft body marks later space left next.free) where
  stays : (sector : ℕ) → IsMarked marks sector → IsMarked later sector
  stays sector marked = (is.taken.marked sector).1 (inr marked)

  -- what was free and was taken isn't free by the next body
  gone : (sector : ℕ) → IsFree space sector → ¬ IsFree left sector → ¬ IsFree (free_by next) sector
  gone sector was taken free =
      ⊎_elim
      (λ some. let un = (is.unmarked.are sector).0 some in un.unmarked ((is.taken.marked sector).1 (inl (record { under = un.under; was_free = was; taken = taken }))))
      (λ past. taken (inr (omega (arith, past, end)))) free

  pub AreLeftFree-left : AreLeftFree body marks space left next
  AreLeftFree-left sector under = (
    (λ free. ⊎_elim
        (λ some. let un = (is.unmarked.are sector).0 some in (un.from_on, (λ marked. un.unmarked (stays sector marked)), (λ both. gone sector both.0 both.1 free)))
        (λ past. absurd (omega (arith, past, end, is.no_earlier, under))) free),
    (λ those. inl ((is.unmarked.are sector).1 (record {
      from_on = those.0;
      under = under;
      unmarked = λ marked. ⊎_elim (λ taken. those.2 (taken.was_free, taken.taken)) those.1 ((is.taken.marked sector).0 marked);
    }))),
  )

  module _ (all : FreeSectors) (are : AreAllUnmarked body marks all) where
    -- all that isn't marked was free among all that isn't
    was_unmarked : (sector : ℕ) → IsFree space sector → IsFree all sector
    was_unmarked sector free = elim (cases_lt sector body.uber.end) [
      | inl under ↦ inl ((are.extents.are sector).1 (record { from_on = IsFree-from 8 sector space is.is_space free; under = under; unmarked = is.before.unmarked sector free under }))
      | inr past ↦ inr (omega (arith, past, are.end))
    ]

    is_unmarked : (sector : ℕ) → IsFree (free_by next) sector → IsFree all sector
    is_unmarked sector free =
        ⊎_elim
        (λ some. let un = (is.unmarked.are sector).0 some in inl ((are.extents.are sector).1 (record { from_on = un.from_on; under = un.under; unmarked = λ marked. un.unmarked (stays sector marked) })))
        (λ past. inr (omega (arith, past, end, is.no_earlier, are.end))) free

  -- what stood over all that isn't marked still stands
  pub KeepsMarked-spared : (old mid : List ℕ) → SparesTaken space old mid → KeepsMarked body marks old mid next
  KeepsMarked-spared old mid spares = λ all are ptr bytes has.
      Has-fewer mid all (free_by next) ptr bytes (is_unmarked all are) (Has-spared all old mid ptr bytes (SparesTaken-fewer all space old mid (was_unmarked all are) spares) has)

  -- and so does what was laid in sectors of which no more were taken
  pub Has-laid : (number : ℕ) (image : List ℕ) (real : FreeSectors) → ((sector : ℕ) → IsFree left sector → IsFree real sector) → (ptr : Ptr) (bytes : List ℕ) → Laid number space (Has image real) ptr bytes → Has image (free_by next) ptr bytes
  Has-laid number image real fewer ptr bytes laid = record {
    block = laid.0.block;
    behind = laid.0.behind;
    taken = λ byte starts ends free. gone (byte / 512) (laid.2 byte starts ends) (λ still. laid.0.taken byte starts ends (fewer (byte / 512) still)) free;
  }

-- ---- how many sectors it takes

-- the blocks of a directory of so many bytes and those of so many extents are no more than a commit takes
few_sectors : (bytes count taken : ℕ) → bytes ≤ 134217728 → taken ≤ tree_blocks (leaves_for bytes) + extent_blocks count → 16 * taken ≤ commit_sectors bytes count
few_sectors bytes count taken small few = omega (arith, few, few_above (leaves_for bytes) (omega (arith, small)))

module _ (rows : Rows) (marks : List ℕ) (bytes : ℕ) (long : bytes ≡ length (dir_bytes rows)) (small : bytes ≤ 134217728) (old new : FreeSectors) where
  pub TakesForFreed-enough : (count : ℕ) → TakesEnough (tree_blocks (leaves_for bytes)) count marks old new → TakesForFreed rows count marks old new
  TakesForFreed-enough count enough =
      let few = takes_more (16 * enough.taken) (commit_sectors bytes enough.most) old new (few_sectors bytes enough.most enough.taken small enough.few) enough.takes in
      let both = subst (λ (n : ℕ). (e : TakesEnough (tree_blocks (leaves_for n)) count marks old new) × TakesAtMost (commit_sectors n e.most) (IsBlockLength 16) old new) long (enough, few) in
      record { enough = both.0; takes = both.1 }

  -- so many blocks are fewer than a commit takes
  IsFreedFull-after : (taken count need largest : ℕ) → IsFullAfter taken old new need largest → MayLeave marks old taken count → taken ≤ tree_blocks (leaves_for bytes) + extent_blocks count
      → largest_of old < 16 * (tree_blocks (leaves_for bytes) + extent_blocks count) → IsFreedFull rows marks old new need largest
  IsFreedFull-after taken count need largest full may_leave few before = record {
    taken = taken;
    full_after = full;
    count = count;
    may_leave = may_leave;
    few = subst (λ (n : ℕ). taken ≤ tree_blocks (leaves_for n) + extent_blocks count) long few;
    before = subst (λ (n : ℕ). largest_of old < commit_sectors n count) long (omega (arith, before, few_sectors bytes count (tree_blocks (leaves_for bytes) + extent_blocks count) small (omega arith)));
  }

  IsFreedFull-copy : (full : SpaceFault) → IsFullFor (tree_blocks (leaves_for bytes)) marks old new full → IsFreedFull rows marks old new full.need full.largest
  IsFreedFull-copy full is = IsFreedFull-after is.full_within.taken is.count full.need full.largest is.full_within.full_after is.may_leave (omega (arith, is.full_within.fewer)) is.full_within.before

  -- E24 while blocks are taken
  pub IsFreedFull-taken : (need largest : ℕ) (fault : OrMemory SpaceFault) → fault ≡ Fault (record { need = need; largest = largest }) → IfFault {T = Unit {0}} (Err fault) (IsFullFor (tree_blocks (leaves_for bytes)) marks old new)
      → IsFreedFull rows marks old new need largest
  IsFreedFull-taken need largest fault is told =
      let full : SpaceFault = record { need = need; largest = largest } in
      IsFreedFull-copy full (subst (λ (f : OrMemory SpaceFault). IfFault {T = Unit {0}} (Err f) (IsFullFor (tree_blocks (leaves_for bytes)) marks old new)) is told)

  -- and while they are written, where they could all be taken
  pub IsFreedFull-written : (count need largest : ℕ) (left : FreeSectors) (later : List ℕ) (extents : List Extent) → IsSpaceFrom 8 old → (enough : TakesEnough (tree_blocks (leaves_for bytes)) count marks old left) → MarksTaken old.end old left marks later
      → AreUnmarked later old.end extents → length extents ≡ count → TakesAtMost (16 * (tree_blocks (leaves_for bytes) + extent_blocks count)) (IsBlockLength 16) old new
      → IsFull (16 * (tree_blocks (leaves_for bytes) + extent_blocks count)) 16 old new need largest → IsFreedFull rows marks old new need largest
  IsFreedFull-written count need largest left later extents is enough marked are counted takes full =
      let stops = stops_behind (tree_blocks (leaves_for bytes) + extent_blocks count) (tree_blocks (leaves_for bytes)) count _ need largest marks old new left (IsSpaceFrom-earlier 8 0 old (omega arith) is) enough takes full in
      IsFreedFull-after stops.taken count need largest stops.full_after (MayLeave-unmarked enough.taken stops.taken count old left marks later extents stops.behind enough.after marked are counted) stops.few full.before

-- ---- calls that write into free sectors alone

pub Fills-works : {most : ℕ} (old new : IoState) (stop : Option BlockFault) → is_damage stop ≡ false → Works most 16 old new stop → Fills old new stop
Fills-works old new stop whole works = record {
  fills = works.fills;
  disk = record { size = works.fills.size; failed = works.failed; told = λ told. works.told whole; honest = works.fills.honest; same = works.same };
  cause = works.cause;
}

-- fewer sectors are left than what is free afterwards
pub Fills-left : (old new : IoState) (left : FreeSectors) (stop : Option BlockFault) → ((sector : ℕ) → IsFree left sector → IsFree new.space sector) → Fills old new stop → Fills old (left_with left new) stop
Fills-left old new left stop fewer is = record {
  fills = FillsFree-less old.disk new.disk old.space new.space left fewer is.fills;
  disk = record { size = is.disk.size; failed = is.disk.failed; told = is.disk.told; honest = is.disk.honest; same = is.disk.same };
  cause = is.cause;
}

-- nothing is written
Fills-stop : (io : IoState) (stop : Option BlockFault) → fails stop ≡ false → Fills io io stop
Fills-stop io stop sure = record {
  fills = FillsFree-reads io.disk io.disk io.space (OnlyReads-none io.disk);
  disk = record { size = refl; failed = (Looks-none io).failed ∙ ap (λ (b : Bool). io.failed || b) (sym sure); told = λ whole. refl; honest = λ told. told; same = refl };
  cause = record { later = omega arith; fault = λ is. let failed : fails stop ≡ true = ap fails is in absurd (cc (failed, sure)) };
}

pub Fills-none : (io : IoState) (fault : CommitFault) → ¬ (fault ≡ commits.DiskFault) → Fills io io (stop_of_commit {T = Unit {0}} (Err fault))
Fills-none io (commits.Full need largest) sure = Fills-stop io (Some (blocks.Full need largest)) refl
Fills-none io commits.DiskFault sure = absurd (sure refl)
Fills-none io commits.OutOfMemory sure = Fills-stop io None refl

-- what is told of E24 is told of the fault of a commit
pub stop_full : (fault : CommitFault) (need largest : ℕ) → fault ≡ commits.Full need largest → stop_of_commit {T = Unit {0}} (Err fault) ≡ Some (blocks.Full need largest)
stop_full fault need largest is = ap (λ (f : CommitFault). stop_of_commit {T = Unit {0}} (Err f)) is
