-- How many sectors a commit takes.
use Rattle.std.specs.Prelude.{Some, Err}
use Rattle.std.proofs.Common.{◌≡◌, ℕ, ◌+◌, ◌-◌, ◌≤◌, List, [], length, ⊎_elim, ap, arith}
use Rattle.zst_space.specs.declared.space.Extent.{Extent}
use Rattle.zst_space.specs.FreeSectors.{FreeSectors, room, total}
use Rattle.zst_block.specs.IoCalls.{IsBlockLength, IsFull, TakesAtMost}
use Rattle.zst_block.specs.declared.fault.BlockFault.TheVariants as blocks
use Rattle.zst_dir.specs.Rows.{Rows}
use Rattle.zst_dir.specs.Spelling.{dir_bytes}
use Rattle.zst_image.specs.Commits.{IsDirFull, TakesForDir, commit_sectors}
use Rattle.zst_image.specs.Faults.{stop_of_commit}
use Rattle.zst_image.specs.declared.commit_fault.CommitFault.{CommitFault}
use Rattle.zst_image.specs.declared.commit_fault.CommitFault.TheVariants.{Full, DiskFault, OutOfMemory}

-- where no extents are free below the end, all that is free is behind it
room_behind : (space : FreeSectors) → space.free ≡ [] → room space ≡ space.sectors - space.end
room_behind space none = let empty : total space.free ≡ 0 = ap (λ (l : List Extent). total l) none in omega (arith, empty)

-- so that what is taken moves the end
pub end_moved : {IsLength : ℕ → Type 0} → (taken most : ℕ) (old new : FreeSectors) → old.free ≡ [] → TakesAtMost most IsLength old new → new.end ≤ new.sectors → room new + taken ≡ room old → taken + old.end ≤ old.sectors → new.end ≡ old.end + taken
end_moved taken most old new none takes inside took enough =
    omega (arith, room_behind old none, room_behind new (takes.unbroken none), took, takes.sectors, inside, enough)

IsDirFull-written : (rows : Rows) (old new : FreeSectors) (need largest : ℕ) → IsFull (commit_sectors (length (dir_bytes rows)) (length old.free)) 16 old new need largest → IsDirFull old new rows need largest
IsDirFull-written rows old new need largest full = record { shorter = full.shorter; needed = ⊎_elim (λ node. node) (λ leaf. leaf) full.needed; is_longest = full.is_longest; before = full.before }

-- where the directory or the extents weren't written, the commit takes what these took
pub takes-refused : (rows : Rows) (old new : FreeSectors) (fault : CommitFault) → TakesAtMost (commit_sectors (length (dir_bytes rows)) (length old.free)) (IsBlockLength 16) old new
    → ((need largest : ℕ) → stop_of_commit {T = Rows} (Err fault) ≡ Some (blocks.Full need largest) → IsFull (commit_sectors (length (dir_bytes rows)) (length old.free)) 16 old new need largest) → TakesForDir rows old new (Err fault)
takes-refused rows old new (Full need largest) takes full = record {
  takes = takes;
  one_leaf = λ none small. tt;
  full = λ n l is.
      let needed : need ≡ n = cc in
      let left : largest ≡ l = cc in
      IsDirFull-written rows old new n l (full n l (cc (needed, left)));
}
takes-refused rows old new DiskFault takes full = record { takes = takes; one_leaf = λ none small. tt; full = λ n l is. absurd (cc) }
takes-refused rows old new OutOfMemory takes full = record { takes = takes; one_leaf = λ none small. tt; full = λ n l is. absurd (cc) }
