use Rattle.std.specs.Prelude.{Vec, Err}
use Rattle.std.specs.declared.alloc.Global.{Global}
use Rattle.std.proofs.Common.{rules, ◌≡◌, ◌∙◌, ℕ, List, refl, sym, ap, subst}
use Rattle.zst_outside.specs.Images.{DiskState}
use Rattle.zst_space.specs.FreeSectors.{FreeSectors}
use Rattle.zst_block.specs.Blocks.{Has}
use Rattle.zst_block.specs.IoStates.{IsHonest, disk_of}
use Rattle.zst_leaves.specs.Damage.{TellsText}
use Rattle.zst_leaves.specs.Leaves.{BlocksBefore, HasLeaves}
use Rattle.zst_tree.specs.Faults.{fault_of}
use Rattle.zst_tree.specs.declared.or_memory.OrMemory.{OrMemory}
use Rattle.zst_block.specs.declared.fault.BlockFault.{BlockFault}
use Rattle.zst_image.specs.Bodies.{behind_end}
use Rattle.zst_image.proofs.Causes.{leaves_cause, leaves_load, leaves_read, tells_leaves}
use Rattle.zst_image.proofs.pool_reads.read_bytes.Goals as goal

-- what stands on a disk over its free sectors stands on the same disk over the same sectors
on_same : (P : List ℕ → FreeSectors → Type 0) (old new : DiskState) (space left : FreeSectors) → new ≡ old → left ≡ space → P old.seen space → P new.seen left
on_same P old new space left disk sectors is = subst (λ (d : DiskState). P d.seen left) (sym disk) (subst (P old.seen) (sym sectors) is)

pub new-io-requires : goal.new-io-requires
new-io-requires g c =
    let space : c.new-space.result ≡ behind_end c.args.uber.now = rw (c.new-space.ensures, c.new.ensures.items) refl in
    rw space (record { extents = record { end = c.requires.end.1; extents = c.requires.end.0 }; sectors = c.requires.sectors })

pub returns-in-Ok-clause-there : goal.returns-in-Ok-clause-there
returns-in-Ok-clause-there g c = λ text told has long.
    let here : IsHonest c.read_leaves-read.new.io = search (rules, told) in
    let space : c.new-space.result ≡ behind_end c.args.uber.now = rw (c.new-space.ensures, c.new.ensures.items) refl in
    c.in-Ok.ensures.there text here (on_same (λ (seen : List ℕ) (left : FreeSectors). HasLeaves (Has seen left) c.args.uber.now.dir_levels c.args.uber.now.dir_root text) (g.D.Disk.state c.args.disk.now) (disk_of c.new-io.result) (behind_end c.args.uber.now) c.new-io.result.space
    (ap g.D.Disk.state c.new-io.ensures.disk) (c.new-io.ensures.space ∙ space) has) long

pub returns-in-Ok-clause-only : goal.returns-in-Ok-clause-only
returns-in-Ok-clause-only g c = λ told.
    let here : IsHonest c.read_leaves-read.new.io = search (rules, told) in
    let space : c.new-space.result ≡ behind_end c.args.uber.now = rw (c.new-space.ensures, c.new.ensures.items) refl in
    on_same (λ (seen : List ℕ) (left : FreeSectors). HasLeaves (BlocksBefore left.end seen) c.args.uber.now.dir_levels c.args.uber.now.dir_root c.in-Ok.bytes.items) (disk_of c.new-io.result) (g.D.Disk.state c.args.disk.now) c.new-io.result.space (behind_end c.args.uber.now)
    (sym (ap g.D.Disk.state c.new-io.ensures.disk)) (sym (c.new-io.ensures.space ∙ space)) (c.in-Ok.ensures.only here)

pub of_leaves-requires : goal.of_leaves-requires
of_leaves-requires g c = λ need largest is. c.in-Err.ensures.looks.looks.never_full need largest (ap (λ (f : OrMemory BlockFault). fault_of {T = Vec ℕ Global} (Err f)) is)

pub returns-in-Err-clause-there : goal.returns-in-Err-clause-there
returns-in-Err-clause-there g c = λ text told has long.
    let here : IsHonest c.read_leaves-read.new.io = search (rules, told) in
    let space : c.new-space.result ≡ behind_end c.args.uber.now = rw (c.new-space.ensures, c.new.ensures.items) refl in
    leaves_read (Vec ℕ Global) (λ read. read.items ≡ text) c.in-Err.fault c.of_leaves.result c.of_leaves.ensures
    (c.in-Err.ensures.there text here (on_same (λ (seen : List ℕ) (left : FreeSectors). HasLeaves (Has seen left) c.args.uber.now.dir_levels c.args.uber.now.dir_root text) (g.D.Disk.state c.args.disk.now) (disk_of c.new-io.result) (behind_end c.args.uber.now) c.new-io.result.space
    (ap g.D.Disk.state c.new-io.ensures.disk) (c.new-io.ensures.space ∙ space) has) long)

pub returns-in-Err-clause-fault : goal.returns-in-Err-clause-fault
returns-in-Err-clause-fault g c = leaves_load c.in-Err.fault c.of_leaves.result c.of_leaves.ensures

pub returns-in-Err-clause-damaged : goal.returns-in-Err-clause-damaged
returns-in-Err-clause-damaged g c = λ told.
    let here : IsHonest c.read_leaves-read.new.io = search (rules, told) in
    let space : c.new-space.result ≡ behind_end c.args.uber.now = rw (c.new-space.ensures, c.new.ensures.items) refl in
    let uber = c.args.uber.now in
    let disk = g.D.Disk.state c.args.disk.now in
    tells_leaves (Vec ℕ Global) disk uber c.in-Err.fault c.of_leaves.result c.of_leaves.ensures
    (subst (λ (s : FreeSectors). TellsText {T = Vec ℕ Global} s.end disk.seen disk.size uber.dir_levels uber.dir_root uber.dir_bytes (Err c.in-Err.fault)) (c.new-io.ensures.space ∙ space)
    (subst (λ (d : DiskState). TellsText {T = Vec ℕ Global} c.new-io.result.space.end d.seen d.size uber.dir_levels uber.dir_root uber.dir_bytes (Err c.in-Err.fault)) (ap g.D.Disk.state c.new-io.ensures.disk)
    (c.in-Err.ensures.damaged here)))

pub returns-in-Ok-clause-length : goal.returns-in-Ok-clause-length
returns-in-Ok-clause-length g c = search rules

pub returns-in-Ok-clause-damaged : goal.returns-in-Ok-clause-damaged
returns-in-Ok-clause-damaged g c = search rules

pub returns-in-Ok-clause-fault : goal.returns-in-Ok-clause-fault
returns-in-Ok-clause-fault g c = search rules

pub returns-in-Ok-clause-reads : goal.returns-in-Ok-clause-reads
returns-in-Ok-clause-reads g c = search rules

pub returns-in-Err-clause-only : goal.returns-in-Err-clause-only
returns-in-Err-clause-only g c = search rules

pub returns-in-Err-clause-length : goal.returns-in-Err-clause-length
returns-in-Err-clause-length g c = search rules

pub returns-in-Err-clause-reads : goal.returns-in-Err-clause-reads
returns-in-Err-clause-reads g c =
    let made = leaves_cause (Vec ℕ Global) (Vec ℕ Global) _ _ c.in-Err.fault c.of_leaves.result c.of_leaves.ensures c.in-Err.ensures.looks.looks.cause in
    record { reads = search rules; cause = search (rules, made) }
