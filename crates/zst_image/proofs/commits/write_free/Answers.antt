use Rattle.std.proofs.Common.{List, length, ap, ◌∙◌}
use Rattle.zst_space.specs.TakenExtents.{without_blocks}
use Rattle.zst_space.specs.declared.space.Extent.{Extent}
use Rattle.zst_block.specs.IoStates.{blocks_of}
use Rattle.zst_leaves.specs.Leaves.{Laid}
use Rattle.zst_leaves.proofs.TakenBlocks.{blocks_none_taken}
use Rattle.zst_extents.specs.StoredExtents.{extent_blocks}
use Rattle.zst_extents.proofs.ExtentGrowth.{HasExtents-grows}
use Rattle.zst_image.proofs.commits.write_free.Goals as goal

pub returns-in-Ok-clause-there : goal.returns-in-Ok-clause-there
returns-in-Ok-clause-there g c =
    let stored = c.in-Ok.stored in
    HasExtents-grows (Laid c.args.number c.args.io.now.space (blocks_of c.write_extents.new.io)) (blocks_of c.write_extents.new.io) (λ ptr bytes is. is.0) stored.levels stored.root stored.count c.write_extents.new.io.space.free c.in-Ok.ensures.there

pub returns-in-Ok-clause-none : goal.returns-in-Ok-clause-none
returns-in-Ok-clause-none g c = λ none.
    c.in-Ok.ensures.after ∙ ap (λ (l : List Extent). without_blocks (extent_blocks (length l)) c.args.io.now.space) none ∙ blocks_none_taken c.args.io.now.space
