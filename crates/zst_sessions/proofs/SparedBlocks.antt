-- Which blocks stand behind an event, and that no disk failed in one that doesn't answer so.
use Rattle.std.proofs.Common.{◌≡◌, ◌||◌, ℕ, Bool, true, false, List, Result, Ok, Err, refl, sym, ap, ◌∙◌, subst}
use Rattle.zst_outside.specs.Images.{OnlyReads}
use Rattle.zst_block.specs.Blocks.{Has, KeepsBlocks}
use Rattle.zst_block.specs.IoCalls.{fails}
use Rattle.zst_image.specs.Commits.{HasItsExtents}
use Rattle.zst_image.specs.Bodies.{Body, free_by}
use Rattle.zst_image.specs.declared.pool_state.PoolState.{PoolState}
use Rattle.zst_image.proofs.Growth.{HasItsExtents-kept}
use Rattle.zst_pool.specs.Queries.{stop_of}
use Rattle.zst_pool.specs.declared.fault.PoolFault.{PoolFault}
use Rattle.zst_pool.specs.declared.fault.PoolFault.TheVariants as faults
use Rattle.zst_sessions.specs.EngineSteps.{KeepsSessions, SparesBlocks}
use Rattle.zst_sessions.specs.Engines.{Kept}
use Rattle.zst_sessions.specs.Takes.{WasOnlyRead}

-- ---- blocks

-- what was there over the sectors that are free then also stands in those that were taken before
pub spares : {again : Type 0} (old new : Kept) → (new.failed ≡ false → KeepsBlocks old.disk.seen (free_by old.state.body) new.disk.seen (free_by new.state.body))
    → (new.failed ≡ false → HasItsExtents old.disk old.state.body → HasItsExtents new.disk new.state.body) → SparesBlocks again old new
spares old new blocks extents = record {
  stood = λ works ptr bytes has. let is = blocks works ptr bytes has in record { block = is.block; behind = has.behind; taken = has.taken };
  blocks = λ known works. blocks works;
  extents = λ known works. extents works;
}

-- a pool whose sessions are kept
pub kept_spares : {again : Type 0} (own : List ℕ → Type 0) (old new : Kept) → KeepsSessions own old new → SparesBlocks again old new
kept_spares own old new keeps = spares old new keeps.blocks keeps.extents

-- one that was only read
pub read_blocks : (old new : Kept) → WasOnlyRead old new → KeepsBlocks old.disk.seen (free_by old.state.body) new.disk.seen (free_by new.state.body)
read_blocks old new read ptr bytes has =
    subst (λ (state : PoolState). Has new.disk.seen (free_by state.body) ptr bytes) (sym read.state)
    (subst (λ (seen : List ℕ). Has seen (free_by old.state.body) ptr bytes) (sym read.reads.seen) has)

pub read_extents : (old new : Kept) → WasOnlyRead old new → HasItsExtents old.disk old.state.body → HasItsExtents new.disk new.state.body
read_extents old new read has =
    subst (λ (state : PoolState). HasItsExtents new.disk state.body) (sym read.state)
    (HasItsExtents-kept old.disk new.disk old.state.body (λ ptr bytes there. subst (λ (seen : List ℕ). Has seen (free_by old.state.body) ptr bytes) (sym read.reads.seen) there) has)

pub read_spares : {again : Type 0} (old new : Kept) → WasOnlyRead old new → SparesBlocks again old new
read_spares old new read = spares old new (λ works. read_blocks old new read) (λ works. read_extents old new read)

-- one that nothing was done to
pub none_spares : {again : Type 0} (kept : Kept) → SparesBlocks again kept kept
none_spares kept = spares kept kept (λ works ptr bytes has. has) (λ works has. has)

-- and one that was opened again
pub opens_spares : {again : Type 0} (old new : Kept) → again → OnlyReads old.disk new.disk → (old.failed ≡ false → new.disk.honest → HasItsExtents old.disk old.state.body → new.state.body ≡ old.state.body) → SparesBlocks again old new
opens_spares old new is reads same = record {
  stood = λ works. still;
  blocks = λ known works ptr bytes has. let all = known is in subst (λ (body : Body). Has new.disk.seen (free_by body) ptr bytes) (sym (same all.0 all.1 all.2)) (still ptr bytes has);
  extents = λ known works has.
      let all = known is in
      subst (λ (body : Body). HasItsExtents new.disk body) (sym (same all.0 all.1 has)) (HasItsExtents-kept old.disk new.disk old.state.body still has);
}
  where
    still : KeepsBlocks old.disk.seen (free_by old.state.body) new.disk.seen (free_by old.state.body)
    still ptr bytes has = subst (λ (seen : List ℕ). Has seen (free_by old.state.body) ptr bytes) (sym reads.seen) has

-- ---- marks

-- a disk that didn't fail now works where it worked
pub still_works : (failed fell now : Bool) → now ≡ (failed || fell) → ¬ (fell ≡ true) → failed ≡ false → now ≡ false
still_works failed true now is alive works = absurd (alive refl)
still_works failed false now is alive works = is ∙ ap (λ (b : Bool). b || false) works

-- a call of a pool in which the disk failed answers so
pub fell_as : {T : Type 0} (result : Result T PoolFault) → fails (stop_of result) ≡ true → result ≡ Err faults.DiskFault
fell_as (Ok value) fell = absurd (cc)
fell_as (Err (faults.Plan fault)) fell = absurd (cc)
fell_as (Err (faults.CannotApply fault)) fell = absurd (cc)
fell_as (Err (faults.Redacted object block)) fell = absurd (cc)
fell_as (Err (faults.Full need largest)) fell = absurd (cc)
fell_as (Err (faults.Damaged sector stated found)) fell = absurd (cc)
fell_as (Err faults.DiskFault) fell = refl
fell_as (Err faults.Failed) fell = absurd (cc)
fell_as (Err faults.OutOfMemory) fell = absurd (cc)
