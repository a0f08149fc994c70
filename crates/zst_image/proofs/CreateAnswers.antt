-- What making a pool leaves.
use Rattle.std.specs.Prelude.{Option, None, Result, Ok, Err, IfOk, IfErr}
use Rattle.std.proofs.Common.{◌≡◌, ◌⊎◌, inl, inr, ⊎_elim, ℕ, ◌-◌, ◌*◌, ◌<◌, ◌≤◌, ◌^◌, List, [], length, refl, sym, ◌∙◌, ap, subst, arith, Bool}
use Rattle.std.proofs.lemmas.List.Elements.{All-nil}
use Rattle.zst_outside.specs.Causes.{Rose-earlier}
use Rattle.zst_outside.specs.Images.{DiskState, Leaves, OnlyReads, Leaves-weaker, Leaves-then}
use Rattle.zst_space.specs.FreeSectors.{FreeSectors, largest_of}
use Rattle.zst_block.specs.IoStates.{IoState}
use Rattle.zst_uber.specs.DiskCalls.{HasDiskCause}
use Rattle.zst_uber.specs.Slots.{latest}
use Rattle.zst_image.specs.Bodies.{Body}
use Rattle.zst_model.specs.pools.Limits.{last_number, last_guid}
use Rattle.zst_model.specs.pools.Pool.{Pool, IsPool}
use Rattle.zst_dir.specs.Rows.{Rows, no_rows}
use Rattle.zst_dir.specs.Spelling.{dir_bytes}
use Rattle.zst_tree.specs.Indices.{Blocks}
use Rattle.zst_image.specs.Commits.{CommitAnswer, CommittedDir, NextIs, OldOrNext, Stays, TakesForDir}
use Rattle.zst_image.specs.CreateAnswers.{CreateAnswers, IsMade, IsNew, RefusedLeaves}
use Rattle.zst_extents.specs.StoredExtents.{extent_blocks}
use Rattle.zst_image.specs.Reads.{Reads, RowsAre, bound_of, dir_sectors, new_pool}
use Rattle.zst_image.specs.declared.commit_fault.CommitFault.{CommitFault}
use Rattle.zst_image.specs.declared.commit_fault.CommitFault.TheVariants as commits
use Rattle.zst_image.specs.declared.create_fault.CreateFault.{CreateFault}
use Rattle.zst_image.specs.declared.create_fault.CreateFault.TheVariants.{Exists, TooSmall, DiskFault, OutOfMemory}
use Rattle.zst_image.specs.declared.pool_state.PoolState.{PoolState}
use Rattle.zst_image.proofs.Directories.{dir_sectors-none, length-no_rows}
use Rattle.zst_image.proofs.CommitSectors.{end_moved}

IsPool-new : (id : ℕ) → (0 < id) × (id < 2 ^ 31) → IsPool (new_pool id)
unfolding last_number last_guid
IsPool-new id is = record {
  id = is;
  number = omega arith;
  guids = omega arith;
  named = record {
    dataset_names = All-nil _;
    datasets = λ i j d below inside. absurd (omega (arith, inside));
    snapshot_names = All-nil _;
    snapshots = λ i j d below inside. absurd (omega (arith, inside));
    snapshots_differ = λ i j d below inside. absurd (omega (arith, inside));
    bookmark_names = All-nil _;
    bookmarks = λ i j d below inside. absurd (omega (arith, inside));
    targets = All-nil _;
    partials = λ i j d below inside. absurd (omega (arith, inside));
  };
  linked = record { snapshots = All-nil _; origins = All-nil _; bases = All-nil _; components = All-nil _ };
  datasets = All-nil _;
  snapshots = All-nil _;
  bookmarks = All-nil _;
  partials = All-nil _;
}

RowsAre-new : {bound : Option ℕ} (has : Blocks) (id : ℕ) → RowsAre bound has no_rows (new_pool id)
RowsAre-new has id = record { datasets = tt; snapshots = tt; bookmarks = tt; partials = tt }

-- a directory without rows is the new pool, behind a body without a number
pub NextIs-new : {tight : Bool} (has : Blocks) (body : Body) (rows : Rows) (id : ℕ) → (0 < id) × (id < 2 ^ 31) → body.uber.id ≡ id → body.uber.number ≡ 0 → rows ≡ no_rows → NextIs tight has body 0 rows (new_pool id)
NextIs-new {tight = tight} has body rows id is same none same_rows = record {
  id = sym same;
  number = omega (arith, none);
  guid_counter = refl;
  rows_are = subst (λ (r : Rows). RowsAre (bound_of tight 1) has r (new_pool id)) (sym same_rows) (RowsAre-new has id);
  lawful = IsPool-new id is;
}

-- what is answered once no pool was found
pub CreateAnswers-made : (size : ℕ) (body : Option (List ℕ)) (sectors : ℕ) (made : Result PoolState CommitFault) (answer : Result PoolState CreateFault) → body ≡ None → ¬ (size < 512 * sectors) → IsMade made answer
    → CreateAnswers size body sectors answer
CreateAnswers-made size body sectors (Ok kept) answer none room is = subst (CreateAnswers size body sectors) (sym is) (none, room)
CreateAnswers-made size body sectors (Err (commits.Full need largest)) answer none room is = absurd is
CreateAnswers-made size body sectors (Err commits.DiskFault) answer none room is = subst (CreateAnswers size body sectors) (sym is) tt
CreateAnswers-made size body sectors (Err commits.OutOfMemory) answer none room is = subst (CreateAnswers size body sectors) (sym is) (none, room)

-- what holds of a commit's value holds of the answer's
pub IfOk-made : (P : PoolState → Type 0) (made : Result PoolState CommitFault) (answer : Result PoolState CreateFault) → IsMade made answer → IfOk made P → IfOk answer P
IfOk-made P (Ok kept) answer is holds = subst (λ (r : Result PoolState CreateFault). IfOk r P) (sym is) holds
IfOk-made P (Err (commits.Full need largest)) answer is holds = absurd is
IfOk-made P (Err commits.DiskFault) answer is holds = subst (λ (r : Result PoolState CreateFault). IfOk r P) (sym is) tt
IfOk-made P (Err commits.OutOfMemory) answer is holds = subst (λ (r : Result PoolState CreateFault). IfOk r P) (sym is) tt

-- and the disk failed where it did in the commit
pub made-cause : (before mid now : ℕ) (made : Result PoolState CommitFault) (answer : Result PoolState CreateFault) → IsMade made answer → before ≤ mid → HasDiskCause commits.DiskFault mid now made
    → HasDiskCause DiskFault before now answer
made-cause before mid now (Ok kept) answer is later cause = record { later = omega (arith, later, cause.later); fault = λ fell. absurd (cc (is, fell)) }
made-cause before mid now (Err (commits.Full need largest)) answer is later cause = absurd is
made-cause before mid now (Err commits.DiskFault) answer is later cause = record { later = omega (arith, later, cause.later); fault = λ fell. Rose-earlier before mid now later (cause.fault refl) }
made-cause before mid now (Err commits.OutOfMemory) answer is later cause = record { later = omega (arith, later, cause.later); fault = λ fell. absurd (cc (is, fell)) }

-- the directory without rows has room behind sectors 0 to 7 of at least 128
pub never-full : (space less : FreeSectors) (sectors : ℕ) (rows : Rows) (result : Result PoolState CommitFault) → space ≡ record { end = 8; sectors = sectors; free = [] } → rows ≡ no_rows → 128 ≤ sectors
    → TakesForDir rows space less result → (need largest : ℕ) → ¬ (result ≡ Err (commits.Full need largest))
never-full space less sectors rows result same none many takes need largest is =
    let before = (takes.full need largest is).before in
    let most : dir_sectors (length (dir_bytes rows)) ≡ 64 = ap (λ (r : Rows). dir_sectors (length (dir_bytes r))) none ∙ dir_sectors-none in
    let left : largest_of space ≡ sectors - 8 = ap largest_of same in
    let blocks : extent_blocks (length space.free) ≡ 0 = ap (λ (s : FreeSectors). extent_blocks (length s.free)) same in
    omega (arith, many, before, most, left, blocks)

-- what stands where it only read
pub RefusedLeaves-reads : (old new : DiskState) (fault : CreateFault) → OnlyReads old new → RefusedLeaves old new fault
RefusedLeaves-reads old new Exists reads = reads
RefusedLeaves-reads old new (TooSmall sectors) reads = reads
RefusedLeaves-reads old new DiskFault reads = tt
RefusedLeaves-reads old new OutOfMemory reads = ap latest reads.seen

-- and where its commit was refused
refused-made : (old mid new : DiskState) (made : Result PoolState CommitFault) (answer : Result PoolState CreateFault) → IsMade made answer → OnlyReads old mid → IfErr made (Stays (latest new.seen ≡ latest mid.seen))
    → IfErr answer (RefusedLeaves old new)
refused-made old mid new (Ok kept) answer is reads stays = subst (λ (r : Result PoolState CreateFault). IfErr r (RefusedLeaves old new)) (sym is) tt
refused-made old mid new (Err (commits.Full need largest)) answer is reads stays = absurd is
refused-made old mid new (Err commits.DiskFault) answer is reads stays = subst (λ (r : Result PoolState CreateFault). IfErr r (RefusedLeaves old new)) (sym is) tt
refused-made old mid new (Err commits.OutOfMemory) answer is reads stays = subst (λ (r : Result PoolState CreateFault). IfErr r (RefusedLeaves old new)) (sym is) (stays ∙ ap latest reads.seen)

pub create-refused : (old mid new last : DiskState) (made : Result PoolState CommitFault) (answer : Result PoolState CreateFault) → new ≡ last → IsMade made answer → OnlyReads old mid
    → IfErr made (Stays (latest new.seen ≡ latest mid.seen)) → IfErr answer (RefusedLeaves old last)
create-refused old mid new last made answer same is reads stays = subst (λ (now : DiskState). IfErr answer (RefusedLeaves old now)) same (refused-made old mid new made answer is reads stays)

pub IfOk-commit : (after : PoolState → Type 0) (before : Type 0) (result : Result PoolState CommitFault) → CommitAnswer after before result → IfOk result after
IfOk-commit after before (Ok kept) is = is
IfOk-commit after before (Err fault) is = tt

-- each image from the first sync on has a latest body from before it, or reads as the pool
pub create-moments : {tight : Bool} (old mid new last : DiskState) (space : FreeSectors) (pool : Pool) → new ≡ last → OnlyReads old mid → Leaves mid new (OldOrNext tight space mid pool)
    → Leaves old last (λ c. ((d : List ℕ) × old.images d × (latest c ≡ latest d)) ⊎ Reads tight pool c)
create-moments {tight = tight} old mid new last space pool same reads leaves =
    let Fits : List ℕ → Type 0 = λ c. ((d : List ℕ) × old.images d × (latest c ≡ latest d)) ⊎ Reads tight pool c in
    subst (λ (now : DiskState). Leaves old now Fits) same (Leaves-then old mid new Fits (OldOrNext tight space mid pool)
    (Leaves-weaker old mid old.images Fits reads.time (λ c image. inl (c, image, refl))) leaves
    (λ c is. ⊎_elim (λ past. inl (past.0, reads.crash past.0 past.1, past.2.latest_stays)) (λ next. inr next) is))

-- what is kept of the new pool
pub new-made : (sectors : ℕ) (old new : IoState) (body : Body) (rows : Rows) (made : Result PoolState CommitFault) → old.space ≡ record { end = 8; sectors = sectors; free = [] } → rows ≡ no_rows → 128 ≤ sectors
    → TakesForDir rows old.space new.space made → IfOk made (CommittedDir body rows old new) → IfOk made (IsNew sectors)
new-made sectors old new body rows (Err fault) same none many takes committed = tt
new-made sectors old new body rows (Ok kept) same none many takes committed =
    let space = old.space in
    let less = new.space in
    let none_free : space.free ≡ [] = ap (λ (s : FreeSectors). s.free) same in
    let end = ap (λ (s : FreeSectors). s.end) committed.space in
    let as_left = ap (λ (s : FreeSectors). s.sectors) committed.space in
    let small : length (dir_bytes rows) ≤ 8192 = omega (arith, ap (λ (r : Rows). length (dir_bytes r)) none, length-no_rows) in
    let was_end : space.end ≡ 8 = ap (λ (s : FreeSectors). s.end) same in
    let was_all : space.sectors ≡ sectors = ap (λ (s : FreeSectors). s.sectors) same in
    let inside : less.end ≤ less.sectors = omega (arith, end, as_left, committed.ready.in_range.end.1) in
    let moved = end_moved 16 _ space less none_free takes.takes inside (takes.one_leaf none_free small) (omega (arith, many, was_end, was_all)) in
    record { sectors_are = as_left ∙ takes.takes.sectors ∙ was_all; end = omega (arith, end, moved, was_end); free = ap (λ (s : FreeSectors). s.free) committed.space ∙ takes.takes.unbroken none_free }
