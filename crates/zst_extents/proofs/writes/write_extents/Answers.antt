use Rattle.std.proofs.Common.{◌≡◌, ◌*◌, ◌≤◌, ℕ, List, length, refl, sym, ◌∙◌, ap, subst, arith}
use Rattle.std.proofs.lemmas.Result.{err_from_is_err_and}
use Rattle.zst_space.specs.FreeSectors.{FreeSectors, IsFree}
use Rattle.zst_space.specs.TakenExtents.{without_blocks}
use Rattle.zst_space.specs.declared.space.Extent.{Extent}
use Rattle.zst_block.proofs.IoCallLemmas.{Looks-none, Works-looks, Works-more}
use Rattle.zst_block.proofs.TakenSectors.{takes_more}
use Rattle.zst_extents.specs.StoredExtents.{TakesTree, extent_blocks}
use Rattle.zst_extents.proofs.FewerSectors.{blocks_fewer_of, blocks_shorter}
use Rattle.zst_extents.proofs.Stored.{HasExtents-less}
use Rattle.zst_extents.proofs.TakenWorks.{Works-left, Works-space}
use Rattle.zst_extents.proofs.TreeBlocks.{fewer_extents}
use Rattle.zst_extents.proofs.writes.write_extents.Goals as goal

pub take_blocks-requires : goal.take_blocks-requires
take_blocks-requires g c = rw c.in_ok-left.ensures c.args.io.now.fits.extents

pub returns-in_err-left-clause-works : goal.returns-in_err-left-clause-works
returns-in_err-left-clause-works g c =
    let p = err_from_is_err_and c.from_residual.result c.from_residual.ensures.1 in
    rw (p.1, p.2) (Works-looks (Looks-none _))

pub returns-in-Err-clause-works : goal.returns-in-Err-clause-works
returns-in-Err-clause-works g c =
    let blocks = c.blocks_for-blocks.ensures ∙ ap (λ (e : List Extent). extent_blocks (length e)) c.extents-2.ensures in
    let full = rw c.in_ok-left.ensures at c.in-Err.ensures.full in
    rw c.from.ensures (Works-more (omega (arith, blocks)) (Works-space (rw c.in_ok-left.ensures at c.take_blocks.ensures.fewer) (rw c.in_ok-left.ensures at c.take_blocks.ensures.takes)
    (λ need largest is. let need_is : c.in-Err.full.need ≡ need = cc in let largest_is : c.in-Err.full.largest ≡ largest = cc in rw (need_is, largest_is) at full) refl (λ is. absurd (cc))))

-- once so many blocks were taken, as the extents before take, those that are left
module _ (blocks : ℕ) (space left : FreeSectors) (extents : List Extent) (is : left ≡ without_blocks blocks space) (blocks_are : blocks ≡ extent_blocks (length space.free)) (extents_are : extents ≡ left.free) where
  -- take no more
  fewer_blocks : extent_blocks (length extents) ≤ blocks
  fewer_blocks =
      let less : length left.free ≤ length space.free = rw is (blocks_shorter blocks space) in
      omega (arith, fewer_extents (length extents) (length space.free) (omega (arith, less, ap (λ (e : List Extent). length e) extents_are)), blocks_are)

  -- and the sectors that are left are free after they are written
  fewer_behind : (levels : ℕ) (mid : FreeSectors) → TakesTree levels extents space mid → (sector : ℕ) → IsFree left sector → IsFree mid sector
  fewer_behind levels mid taken sector free =
      subst (λ (s : FreeSectors). IsFree s sector) (sym taken.after) (blocks_fewer_of _ blocks space sector (omega (arith, taken.few, fewer_blocks)) (subst (λ (s : FreeSectors). IsFree s sector) is free))

pub returns-in_err-stored-clause-works : goal.returns-in_err-stored-clause-works
returns-in_err-stored-clause-works g c =
    let p = err_from_is_err_and c.from_residual-in_err-stored.result c.from_residual-in_err-stored.ensures.1 in
    let is : c.take_blocks.new.space ≡ without_blocks c.blocks_for-blocks.result c.args.io.now.space = c.in-Ok.ensures.after ∙ ap (without_blocks c.blocks_for-blocks.result) c.in_ok-left.ensures in
    let blocks = c.blocks_for-blocks.ensures ∙ ap (λ (e : List Extent). extent_blocks (length e)) c.extents-2.ensures in
    let few = fewer_blocks c.blocks_for-blocks.result c.args.io.now.space c.take_blocks.new.space c.extents-4.result.now is blocks c.extents-4.ensures in
    rw (p.1, p.2) (Works-more (omega (arith, few, blocks)) c.in_err-stored.ensures.works)

pub returns-clause-there : goal.returns-clause-there
returns-clause-there g c =
    let is : c.take_blocks.new.space ≡ without_blocks c.blocks_for-blocks.result c.args.io.now.space = c.in-Ok.ensures.after ∙ ap (without_blocks c.blocks_for-blocks.result) c.in_ok-left.ensures in
    let blocks = c.blocks_for-blocks.ensures ∙ ap (λ (e : List Extent). extent_blocks (length e)) c.extents-2.ensures in
    let stored = c.in_ok-stored.stored in
    let fewer = fewer_behind c.blocks_for-blocks.result c.args.io.now.space c.take_blocks.new.space c.extents-4.result.now is blocks c.extents-4.ensures stored.levels c.write_unmarked.new.io.space c.in_ok-stored.ensures.after in
    HasExtents-less c.args.number c.args.io.now.space _ c.write_unmarked.new.io.space c.take_blocks.new.space fewer stored.levels stored.root stored.count c.take_blocks.new.space.free (rw c.extents-4.ensures at c.in_ok-stored.ensures.there)

pub returns-clause-after : goal.returns-clause-after
returns-clause-after g c =
    c.in-Ok.ensures.after ∙ ap (without_blocks c.blocks_for-blocks.result) c.in_ok-left.ensures
    ∙ ap (λ (n : ℕ). without_blocks n c.args.io.now.space) (c.blocks_for-blocks.ensures ∙ ap (λ (e : List Extent). extent_blocks (length e)) c.extents-2.ensures)

pub returns-clause-works : goal.returns-clause-works
returns-clause-works g c =
    let is : c.take_blocks.new.space ≡ without_blocks c.blocks_for-blocks.result c.args.io.now.space = c.in-Ok.ensures.after ∙ ap (without_blocks c.blocks_for-blocks.result) c.in_ok-left.ensures in
    let blocks = c.blocks_for-blocks.ensures ∙ ap (λ (e : List Extent). extent_blocks (length e)) c.extents-2.ensures in
    let fewer = fewer_behind c.blocks_for-blocks.result c.args.io.now.space c.take_blocks.new.space c.extents-4.result.now is blocks c.extents-4.ensures c.in_ok-stored.stored.levels c.write_unmarked.new.io.space c.in_ok-stored.ensures.after in
    let taken = rw c.in_ok-left.ensures at c.take_blocks.ensures.takes in
    Works-left c.in_ok-stored.ensures.works fewer (takes_more (16 * c.blocks_for-blocks.result) _ _ _ (omega (arith, blocks)) taken)
