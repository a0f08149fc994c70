use Rattle.std.proofs.Common.{◌∙◌, arith, length, sym}
use Rattle.std.proofs.lemmas.Result.{err_from_is_err_and}
use Rattle.zst_block.specs.IoStates.{blocks_of}
use Rattle.zst_block.proofs.BlocksLaws.{KeepsBlocks-fills}
use Rattle.zst_block.proofs.IoCallLemmas.{Works-block, Works-then}
use Rattle.zst_tree.specs.Damage.{NamesNode}
use Rattle.zst_tree.proofs.LaterDamage.{fault_after, same_now}
use Rattle.zst_tree.proofs.IndicesLaws.{TreeIs-grows}
use Rattle.zst_objset.specs.BlockRuns.{AreSoFar}
use Rattle.zst_objset.proofs.RunLaws.{AreWritten-grows, are_written}
use Rattle.zst_objset.proofs.TreesWithin.{sums_before}
use Rattle.zst_objset.proofs.block_writes.put_blocks.Goals as goal

pub returns-in_err-set_all-clause-puts : goal.returns-in_err-set_all-clause-puts
returns-in_err-set_all-clause-puts g c = λ map honest is.
    let p = err_from_is_err_and c.from_residual-in_err-set_all.result c.from_residual-in_err-set_all.ensures.1 in
    rw (p.1, p.2) (c.in_err-set_all.ensures.holds map honest (TreeIs-grows _ _ (KeepsBlocks-fills _ _ _ _ c.in_ok-write_each.ensures.works.fills) c.args.tree map is))

pub returns-in_err-set_all-clause-works : goal.returns-in_err-set_all-clause-works
returns-in_err-set_all-clause-works g c =
    let p = err_from_is_err_and c.from_residual-in_err-set_all.result c.from_residual-in_err-set_all.ensures.1 in
    rw (p.1, p.2, sym c.requires.leaves) (Works-then c.in_ok-write_each.ensures.works (Works-block c.in_err-set_all.ensures.works))

pub returns-clause-puts : goal.returns-clause-puts
returns-clause-puts g c = λ map honest is.
    let mid = blocks_of c.write_each.new.io in
    let new = blocks_of c.set_all.new.io in
    let so_far : AreSoFar mid c.args.number c.args.size c.args.index c.args.bytes.now c.write_each.new.into (length c.write_each.new.into) = rw c.in_ok-write_each.ensures.long c.in_ok-write_each.ensures.written in
    record {
      leaves = c.write_each.new.into;
      long = c.in_ok-write_each.ensures.long ∙ c.requires.leaves;
      written = AreWritten-grows mid new (KeepsBlocks-fills _ _ _ _ c.in_ok-set_all.ensures.works.fills) c.args.number c.args.size c.args.index c.args.bytes.now c.write_each.new.into
          (are_written mid c.args.number c.args.size c.args.index c.args.bytes.now c.write_each.new.into so_far);
      tree_is = c.in_ok-set_all.ensures.holds map honest (TreeIs-grows _ _ (KeepsBlocks-fills _ _ _ _ c.in_ok-write_each.ensures.works.fills) c.args.tree map is);
    }

pub returns-clause-works : goal.returns-clause-works
returns-clause-works g c = rw (sym c.requires.leaves) (Works-then c.in_ok-write_each.ensures.works (Works-block c.in_ok-set_all.ensures.works))

pub returns-in_err-set_all-clause-damaged : goal.returns-in_err-set_all-clause-damaged
returns-in_err-set_all-clause-damaged g c = λ honest.
    let p = err_from_is_err_and c.from_residual-in_err-set_all.result c.from_residual-in_err-set_all.ensures.1 in
    let fills = c.in_ok-write_each.ensures.works.fills in
    rw (p.1, p.2) (fault_after _ _ _ _ fills NamesNode c.args.tree.levels c.args.tree.root c.args.tree.levels c.args.tree.root (same_now _ _ _ _ fills NamesNode c.args.tree.levels c.args.tree.root) _ (c.in_err-set_all.ensures.damaged honest))

pub returns-clause-trees : goal.returns-clause-trees
returns-clause-trees g c = λ honest.
    sums_before _ _ _ _ c.in_ok-write_each.ensures.works.fills c.args.tree.levels c.args.tree.root _ _ _ (c.in_ok-set_all.ensures.sums honest)

pub returns-clause-dated : goal.returns-clause-dated
returns-clause-dated g c = λ map honest is dated.
    c.in_ok-set_all.ensures.dated c.args.number map honest (TreeIs-grows _ _ (KeepsBlocks-fills _ _ _ _ c.in_ok-write_each.ensures.works.fills) c.args.tree map is) dated
    (λ j d less. let date = (c.in_ok-write_each.ensures.written j d (omega (arith, less, c.in_ok-write_each.ensures.long))).dated in omega (arith, date))
