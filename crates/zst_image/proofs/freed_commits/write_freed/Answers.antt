use Rattle.std.proofs.Common.{rules, ◌≡◌, ◌+◌, ◌<◌, ◌≤◌, ℕ, List, length, refl, sym, ◌∙◌, ap, subst, arith}
use Rattle.std.specs.Prelude.{None, Err}
use Rattle.std.proofs.lemmas.Result.{err_from_is_err_and}
use Rattle.zst_space.specs.FreeSectors.{FreeSectors, IsFree}
use Rattle.zst_block.specs.Blocks.{Has}
use Rattle.zst_block.specs.IoStates.{disk_of, io_of}
use Rattle.zst_block.specs.declared.ptr.Ptr.{Ptr}
use Rattle.zst_leaves.specs.Leaves.{Laid, leaves_for}
use Rattle.zst_leaves.proofs.LeavesLaws.{HasLeaves-grows}
use Rattle.zst_dir.specs.Spelling.{dir_bytes}
use Rattle.zst_extents.specs.StoredExtents.{tree_blocks}
use Rattle.zst_extents.specs.UnmarkedExtents.{AreUnmarked, MarksTaken, TakesEnough}
use Rattle.zst_extents.proofs.ExtentGrowth.{HasExtents-grows}
use Rattle.zst_extents.proofs.FewerSectors.{blocks_fewer_of, blocks_later}
use Rattle.zst_image.specs.Bodies.{Body, free_by}
use Rattle.zst_image.specs.Faults.{stop_of_commit}
use Rattle.zst_image.specs.declared.commit_fault.CommitFault.TheVariants.{OutOfMemory}
use Rattle.zst_image.proofs.Causes.{never_damaged}
use Rattle.zst_image.proofs.Directories.{DirStands-bytes, IsDir-some}
use Rattle.zst_image.proofs.FreedSectors.{Apart-later, AreLeftFree-left, Fills-left, Fills-none, Fills-works, Has-laid, IsFreedFull-taken, IsFreedFull-written, IsLeft, KeepsMarked-spared, TakesForFreed-enough, stop_full}
use Rattle.zst_image.proofs.freed_commits.write_freed.Given.{Over}
use Rattle.zst_image.proofs.freed_commits.write_freed.Goals as goal
use Rattle.zst_image.proofs.freed_commits.write_freed.Goals.{After-text_blocks-blocks, In-Ok, In_ok-tree}

pub returns-in_err-bytes-clause-fills : goal.returns-in_err-bytes-clause-fills
returns-in_err-bytes-clause-fills g c =
    let p = err_from_is_err_and c.from_residual.result c.from_residual.ensures.1 in
    rw (p.1, p.2, c.in_err-bytes.ensures.memory) (Fills-none (io_of c.args.io.now) OutOfMemory (λ is. absurd (cc)))

pub returns-in_err-left-clause-fills : goal.returns-in_err-left-clause-fills
returns-in_err-left-clause-fills g c =
    let p = err_from_is_err_and c.from_residual-in_err-left.result c.from_residual-in_err-left.ensures.1 in
    rw (p.1, p.2) (Fills-none (io_of c.args.io.now) OutOfMemory (λ is. absurd (cc)))

-- so many bytes the directory has
long : (g : Over) (c : After-text_blocks-blocks g) → length c.in_ok-bytes.bytes.items ≡ length (dir_bytes c.args.dir.now)
long g c = ap length c.in_ok-bytes.ensures.spelled.spelled

-- and so many blocks are asked for it
blocks_are : (g : Over) (c : After-text_blocks-blocks g) → c.text_blocks-blocks.result ≡ tree_blocks (leaves_for (length c.in_ok-bytes.bytes.items))
blocks_are g c =
    let many : c.len.result ≡ length c.in_ok-bytes.bytes.items = search rules in
    c.text_blocks-blocks.ensures ∙ ap (λ (n : ℕ). tree_blocks (leaves_for n)) many

pub returns-in-Err-clause-full : goal.returns-in-Err-clause-full
returns-in-Err-clause-full g c = λ need largest is.
    let before = (goal.at.returns-in-Err-clause-full g c).After-text_blocks-blocks in
    let told = rw (c.in_ok-left.ensures, blocks_are g before) at c.in-Err.ensures.full in
    IsFreedFull-taken c.args.dir.now c.args.marks (length c.in_ok-bytes.bytes.items) (long g before) c.in_ok-bytes.ensures.few c.args.io.now.space c.leave_unmarked.new.space
    need largest c.in-Err.fault (c.of_space.ensures.full need largest is) told

pub returns-in-Err-clause-fills : goal.returns-in-Err-clause-fills
returns-in-Err-clause-fills g c =
    let fewer = rw c.in_ok-left.ensures at c.leave_unmarked.ensures.fewer in
    Fills-left (io_of c.args.io.now) (io_of c.args.io.now) c.leave_unmarked.new.space _ fewer (Fills-none (io_of c.args.io.now) c.of_space.result c.of_space.ensures.never_failed)

-- what is left, and the extents of what isn't marked
is_left : (g : Over) (c : In-Ok g) → IsLeft c.args.body.now c.args.marks c.leave_unmarked.new.marks c.args.io.now.space c.leave_unmarked.new.space c.in-Ok.free.items
is_left g c =
    let space = c.args.io.now.space in
    let end = c.requires.space.end in
    let enough = rw c.in_ok-left.ensures at c.in-Ok.ensures.enough in
    let after = enough.after in
    let later = blocks_later enough.taken space in
    record {
      before = c.requires.space;
      is_space = c.args.io.now.fits.extents;
      no_earlier = omega (arith, end, later, ap (λ (s : FreeSectors). s.end) after);
      taken = subst (λ (n : ℕ). MarksTaken n space c.leave_unmarked.new.space c.args.marks c.leave_unmarked.new.marks) end (rw c.in_ok-left.ensures at c.in-Ok.ensures.marked);
      unmarked = subst (λ (n : ℕ). AreUnmarked c.leave_unmarked.new.marks n c.in-Ok.free.items) end (rw c.in_ok-left.ensures at c.in-Ok.ensures.extents);
    }

-- enough blocks were taken for the directory and the extents
enough_for : (g : Over) (c : In-Ok g) → TakesEnough (tree_blocks (leaves_for (length c.in_ok-bytes.bytes.items))) (length c.in-Ok.free.items) c.args.marks c.args.io.now.space c.leave_unmarked.new.space
enough_for g c =
    let many : c.len.result ≡ length c.in_ok-bytes.bytes.items = search rules in
    let blocks = c.text_blocks-blocks.ensures ∙ ap (λ (n : ℕ). tree_blocks (leaves_for n)) many in
    rw (c.in_ok-left.ensures, blocks) at c.in-Ok.ensures.enough

pub returns-in_err-tree-clause-full : goal.returns-in_err-tree-clause-full
returns-in_err-tree-clause-full g c =
    let before = goal.at.returns-in_err-tree-clause-full g c in
    let p = err_from_is_err_and c.from_residual-in_err-tree.result c.from_residual-in_err-tree.ensures.1 in
    let space = c.args.io.now.space in
    let free = c.in-Ok.free.items in
    let bytes = length c.in_ok-bytes.bytes.items in
    let works = c.in_err-tree.ensures.works in
    let takes = rw (c.deref.ensures.value, c.deref-2.ensures.value) at works.takes in
    rw p.1 (λ need largest is.
    let stop = stop_full c.in_err-tree.field-0.0 need largest (sym p.2 ∙ is) in
    let full = rw (c.deref.ensures.value, c.deref-2.ensures.value) at (works.full need largest stop) in
    IsFreedFull-written c.args.dir.now c.args.marks bytes (long g before.After-text_blocks-blocks) c.in_ok-bytes.ensures.few space c.write_texts.new.io.space
    (length free) need largest c.leave_unmarked.new.space c.leave_unmarked.new.marks free c.args.io.now.fits.extents (enough_for g before.In-Ok) (rw c.in_ok-left.ensures at c.in-Ok.ensures.marked)
    (rw c.in_ok-left.ensures at c.in-Ok.ensures.extents) refl takes full)

pub returns-in_err-tree-clause-fills : goal.returns-in_err-tree-clause-fills
returns-in_err-tree-clause-fills g c =
    let p = err_from_is_err_and c.from_residual-in_err-tree.result c.from_residual-in_err-tree.ensures.1 in
    rw (p.1, p.2) (Fills-works (io_of c.args.io.now) (io_of c.write_texts.new.io) (stop_of_commit {T = Unit {0}} (Err c.in_err-tree.field-0.0)) (never_damaged {T = Unit {0}} (Err c.in_err-tree.field-0.0)) c.in_err-tree.ensures.works)

pub write_texts-requires-clause-some : goal.write_texts-requires-clause-some
write_texts-requires-clause-some g c = subst (λ (l : List ℕ). 0 < length l) (sym c.deref.ensures.value) (IsDir-some c.args.dir.now c.in_ok-bytes.bytes.items c.in_ok-bytes.ensures.spelled)

-- so it is once they were written
enough_still : (g : Over) (c : In_ok-tree g) → TakesEnough (tree_blocks (leaves_for (length c.in_ok-bytes.bytes.items))) (length c.in-Ok.free.items) c.args.marks c.args.io.now.space c.leave_unmarked.new.space
enough_still g c =
    let many : c.len.result ≡ length c.in_ok-bytes.bytes.items = search rules in
    let blocks = c.text_blocks-blocks.ensures ∙ ap (λ (n : ℕ). tree_blocks (leaves_for n)) many in
    rw (c.in_ok-left.ensures, blocks) at c.in-Ok.ensures.enough

-- so that what is left wasn't taken when they were written
still_free : (g : Over) (c : In_ok-tree g) → (sector : ℕ) → IsFree c.leave_unmarked.new.space sector → IsFree c.write_texts.new.io.space sector
still_free g c = λ sector free.
    let space = c.args.io.now.space in
    let written = c.in_ok-tree.ensures.written in
    let enough = enough_still g c in
    let few = rw (c.deref.ensures.value, c.deref-2.ensures.value) at written.few in
    let le : written.taken ≤ enough.taken = omega (arith, few, enough.enough) in
    let left = subst (λ (s : FreeSectors). IsFree s sector) enough.after free in
    subst (λ (s : FreeSectors). IsFree s sector) (sym written.after) (blocks_fewer_of written.taken enough.taken space sector le left)

pub returns-in_err-space-clause-fills : goal.returns-in_err-space-clause-fills
returns-in_err-space-clause-fills g c =
    let before = (goal.at.returns-in_err-space-clause-fills g c).In_ok-tree in
    let p = err_from_is_err_and c.from_residual-in_err-space.result c.from_residual-in_err-space.ensures.1 in
    let mid = io_of c.write_texts.new.io in
    rw (p.1, p.2) (Fills-left (io_of c.args.io.now) mid c.leave_unmarked.new.space None (still_free g before) (Fills-works (io_of c.args.io.now) mid None refl c.in_ok-tree.ensures.works))

pub returns-clause-fills : goal.returns-clause-fills
returns-clause-fills g c =
    let before = (goal.at.returns-clause-fills g c).In_ok-tree in
    let mid = io_of c.write_texts.new.io in
    Fills-left (io_of c.args.io.now) mid c.leave_unmarked.new.space None (still_free g before) (Fills-works (io_of c.args.io.now) mid None refl c.in_ok-tree.ensures.works)

-- what the next body names stands there, in sectors that it doesn't leave free
pub returns-clause-next : goal.returns-clause-next
returns-clause-next g c =
    let before = goal.at.returns-clause-next g c in
    let body = c.args.body.now in
    let marks = c.args.marks in
    let later = c.leave_unmarked.new.marks in
    let space = c.args.io.now.space in
    let left = c.leave_unmarked.new.space in
    let real = c.write_texts.new.io.space in
    let image = (disk_of c.write_texts.new.io).seen in
    let tree = c.in_ok-tree.tree in
    let stored = c.in_ok-tree.stored in
    let free = c.in-Ok.free.items in
    let made : Body = record {
      uber = record body.uber {
        number = body.uber.number + 1;
        guids = body.uber.guids;
        end = left.end;
        dir_levels = tree.levels;
        dir_bytes = c.len-2.result;
        dir_root = tree.root;
        free_count = stored.count;
        free_levels = stored.levels;
        free_root = stored.root;
      };
      free = free;
    } in
    let same : c.new-next.result ≡ made = rw (c.new-next.ensures, c.naming.ensures, c.next_uber-uber.ensures, c.uber-2.ensures, c.uber-3.ensures, c.end.ensures) refl in
    let is = is_left g before.In-Ok in
    let written = rw (c.deref.ensures.value, c.deref-2.ensures.value) at c.in_ok-tree.ensures.written in
    let number = c.uber.result.now.number + 1 in
    let stands : (ptr : Ptr) (bytes : List ℕ) → Laid number space (Has image real) ptr bytes → Has image (free_by made) ptr bytes =
    Has-laid body made marks later space left refl is number image real (still_free g before.In_ok-tree) in
    let count : length c.in_ok-bytes.bytes.items ≡ c.len-2.result = search rules in
    rw same (record {
      is_next = record {
        version = refl;
        id = refl;
        number = refl;
        guid_counter = refl;
        sectors = refl;
        end = refl;
        free = refl;
        directory =
            DirStands-bytes (Has image (free_by made)) tree.levels tree.root c.len-2.result c.args.dir.now c.in_ok-bytes.bytes.items c.in_ok-bytes.ensures.spelled count
            (HasLeaves-grows (Laid number space (Has image real)) (Has image (free_by made)) stands tree.levels tree.root c.in_ok-bytes.bytes.items written.directory);
        extents = HasExtents-grows (Laid number space (Has image real)) (Has image (free_by made)) stands stored.levels stored.root stored.count free written.extents;
        apart = Apart-later free body.uber.end left.end is.no_earlier is.unmarked.apart;
      };
      takes = TakesForFreed-enough c.args.dir.now marks (length c.in_ok-bytes.bytes.items) (long g before.After-text_blocks-blocks) c.in_ok-bytes.ensures.few space left (length free) (enough_for g before.In-Ok);
      end = refl;
      exact = AreLeftFree-left body made marks later space left refl is;
      blocks = KeepsMarked-spared body made marks later space left refl is (disk_of c.args.io.now).seen image c.in_ok-tree.ensures.works.fills.seen;
    })
