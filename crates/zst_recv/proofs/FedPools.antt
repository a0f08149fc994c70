-- What a feed leaves of its pool and of the receive, at each of its ends.
use Rattle.std.proofs.Common.{◌≡◌, ◌≤◌, ◌||◌, ℕ, Bool, true, false, List, Some, None, Result, Ok, Err, refl, sym, ap, ◌∙◌, subst, arith}
use Rattle.zst_outside.specs.Causes.{Rose-earlier}
use Rattle.zst_outside.specs.declared.disk.Disk.{Ghosts}
use Rattle.zst_block.specs.Blocks.{KeepsBlocks}
use Rattle.zst_block.specs.IoCalls.{HasCause, fails, is_damage}
use Rattle.zst_block.specs.IoStates.{IsHonest, disk_of}
use Rattle.zst_block.specs.declared.fault.BlockFault.TheVariants as blocks
use Rattle.zst_block.specs.declared.io.Io.{Io}
use Rattle.zst_dir.specs.Rows.{Rows}
use Rattle.zst_image.specs.Commits.{HasItsExtents, Ready}
use Rattle.zst_image.specs.Bodies.{free_by}
use Rattle.zst_image.proofs.Growth.{HasItsExtents-kept}
use Rattle.zst_pool.specs.Faults.{HasDiskCause, is_disk_fault}
use Rattle.zst_pool.specs.Queries as queries
use Rattle.zst_pool.specs.declared.fault.PoolFault.{PoolFault}
use Rattle.zst_pool.specs.declared.fault.PoolFault.TheVariants as pools
use Rattle.zst_pool.specs.declared.pool.Pool.{Pool}
use Rattle.zst_recv.specs.Faults.{IsFeedFault, keeps_before, stop_at}
use Rattle.zst_recv.specs.FedPools.{LeavesPool}
use Rattle.zst_recv.specs.FedReceives.{LeavesReceive}
use Rattle.zst_recv.specs.Stages.{RecvFits, ask_of, is_live, stage_behind, stage_of}
use Rattle.zst_recv.specs.declared.fault.RecvFault.{RecvFault}
use Rattle.zst_recv.specs.declared.fault.RecvFault.TheVariants as faults
use Rattle.zst_recv.specs.declared.recv.FeedReport as coded_recv
use Rattle.zst_recv.specs.declared.recv.Recv.{Recv}
use Rattle.zst_recv.specs.declared.stage.Stage as coded
use Rattle.zst_recv.specs.declared.stage.Stage.TheVariants as stages
use Rattle.zst_recv.proofs.FeedEnds.{fits_within, still_open}
use Rattle.zst_recv.proofs.PlanRefusals.{over_waits}

-- ---- where the disk failed

-- an answer of a commit
abbrev committed : PoolFault → Result (Unit {0}) PoolFault
committed fault = Err fault

-- a commit that was refused failed where the feed says so
pub failed_put : (fault : PoolFault) → is_disk_fault (committed fault) ≡ fails (stop_at (faults.Pool fault))
failed_put (pools.Plan fault) = refl
failed_put (pools.CannotApply fault) = refl
failed_put (pools.Redacted object block) = refl
failed_put (pools.Full need largest) = refl
failed_put (pools.Damaged sector stated found) = refl
failed_put pools.DiskFault = refl
failed_put pools.Failed = refl
failed_put pools.OutOfMemory = refl

-- and stopped at a damaged block where the feed says so
pub damage_put : (fault : PoolFault) → is_damage (stop_at (faults.Pool fault)) ≡ false → is_damage (queries.stop_at fault) ≡ false
damage_put (pools.Plan fault) whole = whole
damage_put (pools.CannotApply fault) whole = whole
damage_put (pools.Redacted object block) whole = whole
damage_put (pools.Full need largest) whole = whole
damage_put (pools.Damaged sector stated found) whole = whole
damage_put pools.DiskFault whole = whole
damage_put pools.Failed whole = whole
damage_put pools.OutOfMemory whole = whole

stopped_put : (fault : PoolFault) → stop_at (faults.Pool fault) ≡ Some blocks.DiskFault → fault ≡ pools.DiskFault
stopped_put (pools.Plan fault) is = absurd (cc is)
stopped_put (pools.CannotApply fault) is = absurd (cc is)
stopped_put (pools.Redacted object block) is = absurd (cc is)
stopped_put (pools.Full need largest) is = absurd (cc is)
stopped_put (pools.Damaged sector stated found) is = absurd (cc is)
stopped_put pools.DiskFault is = refl
stopped_put pools.Failed is = absurd (cc is)
stopped_put pools.OutOfMemory is = absurd (cc is)

pub cause_put : (fault : PoolFault) (before mid now : ℕ) → before ≤ mid → HasDiskCause mid now (committed fault) → HasCause before now (stop_at (faults.Pool fault))
cause_put fault before mid now earlier cause = record {
  later = omega (arith, earlier, cause.later);
  fault = λ is. Rose-earlier before mid now earlier (cause.fault (ap committed (stopped_put fault is)));
}

-- nothing failed
pub cause_none : {T : Type 0} (before mid now : ℕ) (result : Result T PoolFault) → before ≤ mid → HasDiskCause mid now result → HasCause before now None
cause_none before mid now result earlier cause = record { later = omega (arith, earlier, cause.later); fault = λ is. absurd (cc is) }

-- no block stopped what is kept before a fault
pub kept_none : (fault : RecvFault) → keeps_before fault ≡ true → stop_at fault ≡ None
kept_none (faults.Pool (pools.Plan fault)) keeps = refl
kept_none (faults.Pool (pools.CannotApply fault)) keeps = refl
kept_none (faults.Pool (pools.Redacted object block)) keeps = refl
kept_none (faults.Pool (pools.Full need largest)) keeps = absurd (cc keeps)
kept_none (faults.Pool (pools.Damaged sector stated found)) keeps = absurd (cc keeps)
kept_none (faults.Pool pools.DiskFault) keeps = absurd (cc keeps)
kept_none (faults.Pool pools.Failed) keeps = refl
kept_none (faults.Pool pools.OutOfMemory) keeps = refl
kept_none (faults.Stream fault) keeps = refl
kept_none (faults.CannotApply index fault) keeps = refl

-- ---- the pool

-- the answer of a feed that was refused
abbrev pub answer : RecvFault → Result coded_recv.FeedReport RecvFault
answer fault = Err fault

module _ {D : Type 0} {g : Ghosts D} where
  -- one that had failed
  pub leaves_failed : (pool : Pool D g) → pool.io.failed ≡ true → LeavesPool pool pool (answer (faults.Pool pools.Failed))
  leaves_failed pool failed = record {
    failed_pool = λ is. refl;
    idle_disk = λ is. refl;
    idle_kept = λ is. refl;
    known = λ alive. absurd (let both : true ≡ false = sym failed ∙ alive in cc both);
    open_still = λ alive is. let both : true ≡ false = sym failed ∙ alive in cc both;
    stays = λ fault is keeps. refl;
    blocks = λ apart ptr bytes has. has;
    stood = λ apart ptr bytes has. has;
    extents = λ apart has. has;
    size = refl;
    ready = λ alive. absurd (let both : true ≡ false = sym failed ∙ alive in cc both);
    failed = failed ∙ ap (λ (b : Bool). b || false) (sym failed);
    told = λ whole. refl;
    cause = record { later = omega arith; fault = λ is. absurd (cc is) };
    honest = λ told. told;
    same = refl;
  }

  module _ (old new : Pool D g) (alive : old.io.failed ≡ false) where
    -- a piece was refused, and the disk is as it was then: what was committed before that leaves the blocks that were there
    pub leaves_refused : (fault : RecvFault) (io : Io D g) → new.io ≡ io → IsFeedFault fault → (keeps_before fault ≡ false → new.kept.body ≡ old.kept.body)
        → (io.failed ≡ false → Ready (disk_of io) new.kept.body) → (is_damage (stop_at fault) ≡ false → io.checksum_errors ≡ old.io.checksum_errors) → io.failed ≡ fails (stop_at fault) → HasCause (disk_of old.io).faults (disk_of io).faults (stop_at fault)
        → (IsHonest io → IsHonest old.io) → io.disk.ghost_name ≡ old.io.disk.ghost_name
        → (¬ (fault ≡ faults.Pool pools.DiskFault) → KeepsBlocks (disk_of old.io).seen (free_by old.kept.body) (disk_of io).seen (free_by new.kept.body))
        → (¬ (fault ≡ faults.Pool pools.DiskFault) → KeepsBlocks (disk_of old.io).seen (free_by old.kept.body) (disk_of io).seen (free_by old.kept.body))
        → (¬ (fault ≡ faults.Pool pools.DiskFault) → HasItsExtents (disk_of old.io) old.kept.body → HasItsExtents (disk_of io) new.kept.body) → (disk_of io).size ≡ (disk_of old.io).size → LeavesPool old new (answer fault)
    leaves_refused fault io is known stays ready counts failed cause honest same blocks stood extents size = record {
      failed_pool = λ fell. absurd (let both : true ≡ false = sym fell ∙ alive in cc both);
      idle_disk = λ fell. absurd (let both : true ≡ false = sym fell ∙ alive in cc both);
      idle_kept = λ fell. absurd (let both : true ≡ false = sym fell ∙ alive in cc both);
      known = λ open_pool. known;
      open_still = λ open_pool told. still_open (answer fault) known told;
      stays = λ other told keeps. stays (ap keeps_before (told_fault fault other told) ∙ keeps);
      blocks = λ apart. subst (λ (i : Io D g). KeepsBlocks (disk_of old.io).seen (free_by old.kept.body) (disk_of i).seen (free_by new.kept.body)) (sym is) (blocks (λ told. apart (ap answer told)));
      stood = λ apart. subst (λ (i : Io D g). KeepsBlocks (disk_of old.io).seen (free_by old.kept.body) (disk_of i).seen (free_by old.kept.body)) (sym is) (stood (λ told. apart (ap answer told)));
      extents = λ apart has. subst (λ (i : Io D g). HasItsExtents (disk_of i) new.kept.body) (sym is) (extents (λ told. apart (ap answer told)) has);
      size = ap (λ (i : Io D g). (disk_of i).size) is ∙ size;
      ready = λ still. subst (λ (i : Io D g). Ready (disk_of i) new.kept.body) (sym is) (ready (sym (ap (λ (i : Io D g). i.failed) is) ∙ still));
      failed = ap (λ (i : Io D g). i.failed) is ∙ failed ∙ ap (λ (b : Bool). b || fails (stop_at fault)) (sym alive);
      told = λ whole. ap (λ (i : Io D g). i.checksum_errors) is ∙ counts whole;
      cause = subst (λ (i : Io D g). HasCause (disk_of old.io).faults (disk_of i).faults (stop_at fault)) (sym is) cause;
      honest = λ told. honest (subst (λ (i : Io D g). IsHonest i) is told);
      same = ap (λ (i : Io D g). i.disk.ghost_name) is ∙ same;
    }
      where
        told_fault : (one other : RecvFault) → answer one ≡ answer other → one ≡ other
        told_fault one other e = cc

    -- or nothing was committed
    pub leaves_body : (fault : RecvFault) (io : Io D g) → new.io ≡ io → IsFeedFault fault → new.kept.body ≡ old.kept.body
        → (io.failed ≡ false → Ready (disk_of io) new.kept.body) → (is_damage (stop_at fault) ≡ false → io.checksum_errors ≡ old.io.checksum_errors) → io.failed ≡ fails (stop_at fault) → HasCause (disk_of old.io).faults (disk_of io).faults (stop_at fault)
        → (IsHonest io → IsHonest old.io) → io.disk.ghost_name ≡ old.io.disk.ghost_name
        → (¬ (fault ≡ faults.Pool pools.DiskFault) → KeepsBlocks (disk_of old.io).seen (free_by old.kept.body) (disk_of io).seen (free_by old.kept.body)) → (disk_of io).size ≡ (disk_of old.io).size → LeavesPool old new (answer fault)
    leaves_body fault io is known body ready counts failed cause honest same stood size =
        leaves_refused fault io is known (λ keeps. body) ready counts failed cause honest same
        (λ apart. subst (KeepsBlocks (disk_of old.io).seen (free_by old.kept.body) (disk_of io).seen) (sym (ap free_by body)) (stood apart)) stood
        (λ apart has. subst (HasItsExtents (disk_of io)) (sym body) (HasItsExtents-kept (disk_of old.io) (disk_of io) old.kept.body (stood apart) has)) size

    -- or it was taken and committed
    pub leaves_fed : (told : coded_recv.FeedReport) → KeepsBlocks (disk_of old.io).seen (free_by old.kept.body) (disk_of new.io).seen (free_by new.kept.body)
        → (new.io.failed ≡ false → Ready (disk_of new.io) new.kept.body) → new.io.checksum_errors ≡ old.io.checksum_errors → new.io.failed ≡ false → HasCause (disk_of old.io).faults (disk_of new.io).faults None
        → (IsHonest new.io → IsHonest old.io) → new.io.disk.ghost_name ≡ old.io.disk.ghost_name
        → KeepsBlocks (disk_of old.io).seen (free_by old.kept.body) (disk_of new.io).seen (free_by old.kept.body) → (HasItsExtents (disk_of old.io) old.kept.body → HasItsExtents (disk_of new.io) new.kept.body)
        → (disk_of new.io).size ≡ (disk_of old.io).size → LeavesPool old new (Ok told)
    leaves_fed told blocks ready counts failed cause honest same stood extents size = record {
      failed_pool = λ fell. absurd (let both : true ≡ false = sym fell ∙ alive in cc both);
      idle_disk = λ fell. absurd (let both : true ≡ false = sym fell ∙ alive in cc both);
      idle_kept = λ fell. absurd (let both : true ≡ false = sym fell ∙ alive in cc both);
      known = λ open_pool. tt;
      open_still = λ open_pool is. cc is;
      stays = λ fault is keeps. absurd (cc is);
      blocks = λ apart. blocks;
      stood = λ apart. stood;
      extents = λ apart. extents;
      size = size;
      ready = ready;
      failed = failed ∙ ap (λ (b : Bool). b || false) (sym alive);
      told = λ whole. counts;
      cause = cause;
      honest = honest;
      same = same;
    }

-- ---- the receive

-- it is over for this fault
pub receive_over : (rows : Rows) (piece : List ℕ) (old new : Recv) (fault : RecvFault) → ask_of new ≡ ask_of old → stage_of new ≡ stages.Over → RecvFits rows new → LeavesReceive rows piece old new (answer fault)
receive_over rows piece old new fault ask over fits = record {
  ask = ask;
  live = ap is_live over;
  fits = fits;
  fed = λ goes. absurd (cc goes);
  within = fits_within rows new fits;
  received = tt;
  of_target = tt;
  waited = λ waits. absurd (over_waits (stage_of new) over waits);
}

-- behind a commit it is live where it was before
pub behind_live : (stage : coded.Stage) → is_live (stage_behind stage) ≡ is_live stage
behind_live stages.Waits = refl
behind_live (stages.Lives flags row) = refl
behind_live (stages.Ends row) = refl
behind_live (stages.Done received) = refl
behind_live stages.Over = refl
