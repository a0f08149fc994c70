-- That the blocks that were there still are, behind a feed.
use Rattle.std.proofs.Common.{◌≡◌, Bool, true, false, refl, sym, subst}
use Rattle.zst_outside.specs.Images.{DiskState}
use Rattle.zst_space.specs.FreeSectors.{FreeSectors}
use Rattle.zst_block.specs.Blocks.{FillsFree, KeepsBlocks}
use Rattle.zst_block.proofs.BlocksLaws.{Has-spared, KeepsBlocks-fills}
use Rattle.zst_recv.specs.Stages.{has_partial, waits_at}
use Rattle.zst_recv.specs.declared.stage.Stage as coded
use Rattle.zst_recv.specs.declared.stage.Stage.TheVariants as stages

-- blocks were written into free sectors, and then committed; or nothing was taken, and nothing was committed
pub keeps_behind : (old mid now : DiskState) (free less after : FreeSectors) (taken : Bool) → FillsFree old free mid less → (taken ≡ false → (now ≡ mid) × (after ≡ free))
    → (taken ≡ true → KeepsBlocks mid.seen less now.seen after) → KeepsBlocks old.seen free now.seen after
keeps_behind old mid now free less after true fills idle moved = λ ptr bytes has. moved refl ptr bytes (KeepsBlocks-fills old mid free less fills ptr bytes has)
keeps_behind old mid now free less after false fills idle moved =
    let none = idle refl in
    let stays : KeepsBlocks old.seen free mid.seen free = λ ptr bytes has. Has-spared free old.seen mid.seen ptr bytes fills.seen has in
    subst (λ (s : FreeSectors). KeepsBlocks old.seen free now.seen s) (sym none.1) (subst (λ (d : DiskState). KeepsBlocks old.seen free d.seen free) (sym none.0) stays)

-- a partial state that is under way is behind BEGIN
pub partial_begun : (stage : coded.Stage) → has_partial stage ≡ true → waits_at stage ≡ false
partial_begun stages.Waits lives = absurd (cc lives)
partial_begun (stages.Lives flags row) lives = refl
partial_begun (stages.Ends row) lives = refl
partial_begun (stages.Done received) lives = refl
partial_begun stages.Over lives = refl
