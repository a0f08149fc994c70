-- What the end of a receive makes of its pool.
use Rattle.std.proofs.Common.{◌≡◌, ◌≤◌, ℕ, Bool, true, false, List, find, sym, ap, ◌∙◌, subst, arith}
use Rattle.zst_outside.specs.Images.{Leaves, Leaves-none}
use Rattle.zst_outside.specs.declared.disk.Disk.{Ghosts}
use Rattle.zst_space.specs.FreeSectors.{FreeSectors}
use Rattle.zst_block.specs.Blocks.{Has, KeepsBlocks}
use Rattle.zst_block.specs.IoStates.{disk_of}
use Rattle.zst_block.specs.declared.io.Io.{Io}
use Rattle.zst_image.specs.Bodies.{Body, free_by}
use Rattle.zst_dir.specs.Rows.{IsLawful, is_for}
use Rattle.zst_image.specs.Commits.{HasItsExtents, Ready}
use Rattle.zst_image.specs.Reads.{bound_of}
use Rattle.zst_image.specs.declared.pool_state.PoolState.{PoolState}
use Rattle.zst_model.specs.pools.Pool.{Pool}
use Rattle.zst_pool.specs.Calls.{IsAtRest}
use Rattle.zst_pool.specs.declared.pool.Pool as pools
use Rattle.zst_recv.specs.GoingOn.{EndsLeaveRows}
use Rattle.zst_recv.specs.ReceiveSteps.{Stage, left_by}
use Rattle.zst_recv.specs.Stages.{Receives, ask_of, has_partial, kept_without, stage_of}
use Rattle.zst_recv.specs.declared.recv.Recv.{Recv}
use Rattle.zst_sessions.specs.Endings.{EndsReceive}
use Rattle.zst_sessions.specs.EngineSteps.{IsLaterPool, kept_pool}
use Rattle.std.specs.Prelude.{Option}

module _ {D : Type 0} {g : Ghosts D} (old new : pools.Pool D g) (io : new.io ≡ old.io) where
  works_as : new.io.failed ≡ false → old.io.failed ≡ false
  works_as works = sym (ap (λ (i : Io D g). i.failed) io) ∙ works

  pub same_later : IsLaterPool old new
  same_later = record {
    faults = subst (λ (i : Io D g). (disk_of old.io).faults ≤ (disk_of i).faults) (sym io) (omega arith);
    honest = λ is. subst (λ (i : Io D g). (disk_of i).honest) io is;
    same = ap (λ (i : Io D g). i.disk.ghost_name) io;
  }

  pub receive_ended : (recv : Recv) → EndsLeaveRows → (old.io.failed ≡ false → Ready (disk_of old.io) old.kept.body) → new.kept ≡ kept_without (has_partial (stage_of recv)) (ask_of recv).target old.kept
      → new.kept.body ≡ old.kept.body → IsLawful new.kept.dir
      → ((tight : Bool) (bound : Option ℕ) (disk : D) (running : Pool) (image : List ℕ) (space : FreeSectors) (stage : Stage) (text : List ℕ) → IsAtRest tight (g.state disk) old.kept running
      → Receives bound (Has image space) recv text stage → IsAtRest tight (g.state disk) new.kept (left_by stage running)) → EndsReceive (kept_pool old) (kept_pool new) recv
  receive_ended recv leave ready kept body lawful rests = record {
    failed = ap (λ (i : Io D g). i.failed) io;
    seen = ap (λ (i : Io D g). (disk_of i).seen) io;
    moments = subst (λ (i : Io D g). Leaves (disk_of old.io) (disk_of i) (λ c. ⊥)) (sym io) (Leaves-none (disk_of old.io) (λ c. ⊥));
    rests = λ running text stage rested is.
        subst (λ (i : Io D g). IsAtRest true (disk_of i) new.kept (left_by stage running)) (sym io)
        (rests true (bound_of true running.number) old.io.disk.now running (disk_of old.io).seen (free_by old.kept.body) stage text rested is);
    keeps = record {
      leaves = record {
        mark = works_as;
        ready = λ works.
            subst (λ (i : Io D g). Ready (disk_of i) new.kept.body) (sym io) (subst (λ (b : Body). Ready (disk_of old.io) b) (sym body) (ready (works_as works)));
        lawful = lawful;
        rows = λ target other.
            ap (λ (k : PoolState). find (is_for target) k.dir.partials) kept ∙ leave (has_partial (stage_of recv)) (ask_of recv).target target old.kept other;
      };
      blocks = λ works.
          subst (λ (i : Io D g). KeepsBlocks (disk_of old.io).seen (free_by old.kept.body) (disk_of i).seen (free_by new.kept.body)) (sym io)
          (subst (λ (b : Body). KeepsBlocks (disk_of old.io).seen (free_by old.kept.body) (disk_of old.io).seen (free_by b)) (sym body) (λ ptr bytes has. has));
      extents = λ works has.
          subst (λ (i : Io D g). HasItsExtents (disk_of i) new.kept.body) (sym io) (subst (λ (b : Body). HasItsExtents (disk_of old.io) b) (sym body) has);
    };
  }
