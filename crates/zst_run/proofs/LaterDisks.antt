-- How disks at later moments follow one another.
use Rattle.std.proofs.Common.{◌≡◌, ◌≤◌, ℕ, Option, refl, ◌∙◌, subst, sym, arith}
use Rattle.zst_outside.specs.Images.{OnlyReads, OnlyReads-none}
use Rattle.zst_outside.specs.declared.disk.Disk.{Ghosts}
use Rattle.zst_block.specs.IoCalls.{Looks}
use Rattle.zst_block.specs.IoStates.{IoState, disk_of, io_of}
use Rattle.zst_block.specs.declared.fault.BlockFault.{BlockFault}
use Rattle.zst_block.specs.declared.io.Io.{Io}
use Rattle.zst_pool.specs.declared.pool.Pool.{Pool}
use Rattle.zst_run.specs.LaterDisks.{IsLater}

≤_same : (n : ℕ) → n ≤ n
≤_same n = omega arith

-- nothing was done
pub later_none : (io : IoState) → IsLater io io
later_none io = record { faults = omega arith; honest = λ told. told; same = refl }

-- one part and then another
pub later_then : (old mid new : IoState) → IsLater old mid → IsLater mid new → IsLater old new
later_then old mid new first next = record {
  faults = let before = first.faults in let behind = next.faults in omega arith;
  honest = λ told. first.honest (next.honest told);
  same = next.same ∙ first.same;
}

-- a call that looks
pub later_looked : (old new : IoState) (stop : Option BlockFault) → Looks old new stop → IsLater old new
later_looked old new stop looks = record { faults = looks.cause.later; honest = looks.reads.honest; same = looks.same }

-- an Io or a pool that is as it was, or whose disk is
module _ {D : Type 0} {g : Ghosts D} where
  pub later_io : (old : IoState) (mid new : Io D g) → new ≡ mid → IsLater old (io_of mid) → IsLater old (io_of new)
  later_io old mid new same later = subst (λ (io : Io D g). IsLater old (io_of io)) (sym same) later

  pub later_still : (old new : Io D g) → new.disk.now ≡ old.disk.now → new.disk.ghost_name ≡ old.disk.ghost_name → IsLater (io_of old) (io_of new)
  later_still old new disk same = record {
    faults = subst (λ (d : D). (g.state old.disk.now).faults ≤ (g.state d).faults) (sym disk) (≤_same (g.state old.disk.now).faults);
    honest = subst (λ (d : D). (g.state d).honest → (g.state old.disk.now).honest) (sym disk) (λ told. told);
    same = same;
  }

  pub later_behind : (old mid : Io D g) (new : IoState) → mid.disk.now ≡ old.disk.now → mid.disk.ghost_name ≡ old.disk.ghost_name → IsLater (io_of mid) new → IsLater (io_of old) new
  later_behind old mid new disk same later = record {
    faults = subst (λ (d : D). (g.state d).faults ≤ new.disk.faults) disk later.faults;
    honest = subst (λ (d : D). new.disk.honest → (g.state d).honest) disk later.honest;
    same = later.same ∙ same;
  }

  pub later_same : (old new : Pool D g) → new ≡ old → IsLater (io_of old.io) (io_of new.io)
  later_same old new same = subst (λ (p : Pool D g). IsLater (io_of old.io) (io_of p.io)) (sym same) (later_none (io_of old.io))

  pub later_from : (old mid : Pool D g) (new : IoState) → mid ≡ old → IsLater (io_of mid.io) new → IsLater (io_of old.io) new
  later_from old mid new same later = subst (λ (p : Pool D g). IsLater (io_of p.io) new) same later

  pub reads_same : (old new : Pool D g) → new ≡ old → OnlyReads (disk_of old.io) (disk_of new.io)
  reads_same old new same = subst (λ (p : Pool D g). OnlyReads (disk_of old.io) (disk_of p.io)) (sym same) (OnlyReads-none (disk_of old.io))
