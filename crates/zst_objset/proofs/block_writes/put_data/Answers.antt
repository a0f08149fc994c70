use Rattle.std.proofs.Common.{ap}
use Rattle.std.proofs.lemmas.Result.{err_from_is_err_and}
use Rattle.zst_block.specs.declared.ptr.Ptr.{Ptr}
use Rattle.zst_block.proofs.BlocksLaws.{KeepsBlocks-fills}
use Rattle.zst_block.proofs.IoCallLemmas.{Works-block, Works-then}
use Rattle.zst_tree.proofs.IndicesLaws.{TreeIs-grows}
use Rattle.zst_objset.proofs.SetPuts.{Puts-one, with_one}
use Rattle.zst_tree.specs.Damage.{NamesNode}
use Rattle.zst_tree.proofs.LaterDamage.{fault_after, same_now}
use Rattle.std.proofs.Common.{◌≡◌, arith}
use Rattle.zst_objset.proofs.TreesWithin.{sums_before}
use Rattle.zst_objset.proofs.block_writes.put_data.Goals as goal

pub returns-in_err-set-clause-puts : goal.returns-in_err-set-clause-puts
returns-in_err-set-clause-puts g c = λ map honest is.
    let p = err_from_is_err_and c.from_residual-in_err-set.result c.from_residual-in_err-set.ensures.1 in
    rw (p.1, p.2) (c.in_err-set.ensures.changes.puts map (with_one map c.args.index c.in_ok-block.block) honest (TreeIs-grows _ _ (KeepsBlocks-fills _ _ _ _ c.in_ok-block.ensures.block.works.fills) c.args.tree map is) (Puts-one map c.args.index c.in_ok-block.block))

pub returns-in_err-set-clause-works : goal.returns-in_err-set-clause-works
returns-in_err-set-clause-works g c =
    let p = err_from_is_err_and c.from_residual-in_err-set.result c.from_residual-in_err-set.ensures.1 in
    rw (p.1, p.2) (Works-then c.in_ok-block.ensures.block.works (Works-block c.in_err-set.ensures.changes.works))

pub returns-clause-puts : goal.returns-clause-puts
returns-clause-puts g c = λ map honest is. record {
  block = c.in_ok-block.block;
  is = (ap (λ (ptr : Ptr). ptr.kind) c.in_ok-block.ensures.block.pointer, KeepsBlocks-fills _ _ _ _ c.in_ok-set.ensures.changes.works.fills _ _ c.in_ok-block.ensures.block.wrote);
  date = ap (λ (ptr : Ptr). ptr.number) c.in_ok-block.ensures.block.pointer;
  map = with_one map c.args.index c.in_ok-block.block;
  puts = Puts-one map c.args.index c.in_ok-block.block;
  tree_is = c.in_ok-set.ensures.changes.puts map (with_one map c.args.index c.in_ok-block.block) honest (TreeIs-grows _ _ (KeepsBlocks-fills _ _ _ _ c.in_ok-block.ensures.block.works.fills) c.args.tree map is) (Puts-one map c.args.index c.in_ok-block.block);
}

pub returns-clause-works : goal.returns-clause-works
returns-clause-works g c = Works-then c.in_ok-block.ensures.block.works (Works-block c.in_ok-set.ensures.changes.works)

pub returns-clause-root : goal.returns-clause-root
returns-clause-root g c = record {
  block = c.in_ok-block.block;
  kind = ap (λ (ptr : Ptr). ptr.kind) c.in_ok-block.ensures.block.pointer;
  length_is = ap (λ (ptr : Ptr). ptr.length) c.in_ok-block.ensures.block.pointer;
  root = c.in_ok-set.ensures.changes.root;
}

pub returns-in_err-set-clause-damaged : goal.returns-in_err-set-clause-damaged
returns-in_err-set-clause-damaged g c = λ honest.
    let p = err_from_is_err_and c.from_residual-in_err-set.result c.from_residual-in_err-set.ensures.1 in
    let fills = c.in_ok-block.ensures.block.works.fills in
    rw (p.1, p.2) (fault_after _ _ _ _ fills NamesNode c.args.tree.levels c.args.tree.root c.args.tree.levels c.args.tree.root (same_now _ _ _ _ fills NamesNode c.args.tree.levels c.args.tree.root) _ (c.in_err-set.ensures.changes.damaged honest))

pub returns-clause-dated : goal.returns-clause-dated
returns-clause-dated g c = λ map honest is dated.
    let date : c.in_ok-block.block.number ≡ c.args.number = ap (λ (ptr : Ptr). ptr.number) c.in_ok-block.ensures.block.pointer in
    c.in_ok-set.ensures.dated c.args.number map honest (TreeIs-grows _ _ (KeepsBlocks-fills _ _ _ _ c.in_ok-block.ensures.block.works.fills) c.args.tree map is) dated (omega (arith, date))

pub write-requires-clause-some : goal.write-requires-clause-some
write-requires-clause-some g c = c.requires.block.some

pub write-requires-clause-whole : goal.write-requires-clause-whole
write-requires-clause-whole g c = c.requires.block.whole

pub write-requires-clause-small : goal.write-requires-clause-small
write-requires-clause-small g c = c.requires.block.small

pub returns-in_err-block-clause-levels : goal.returns-in_err-block-clause-levels
returns-in_err-block-clause-levels g c =
    let p = err_from_is_err_and c.from_residual.result c.from_residual.ensures.1 in
    rw p.1 tt

pub returns-in_err-block-clause-root : goal.returns-in_err-block-clause-root
returns-in_err-block-clause-root g c =
    let p = err_from_is_err_and c.from_residual.result c.from_residual.ensures.1 in
    rw p.1 tt

pub returns-in_err-block-clause-dated : goal.returns-in_err-block-clause-dated
returns-in_err-block-clause-dated g c = λ map honest tree dated.
    let p = err_from_is_err_and c.from_residual.result c.from_residual.ensures.1 in
    rw p.1 tt

pub set-requires-clause-levels : goal.set-requires-clause-levels
set-requires-clause-levels g c = c.requires.levels

pub set-requires-clause-index : goal.set-requires-clause-index
set-requires-clause-index g c = c.requires.index

pub returns-in_err-set-clause-levels : goal.returns-in_err-set-clause-levels
returns-in_err-set-clause-levels g c =
    let p = err_from_is_err_and c.from_residual-in_err-set.result c.from_residual-in_err-set.ensures.1 in
    rw p.1 tt

pub returns-in_err-set-clause-root : goal.returns-in_err-set-clause-root
returns-in_err-set-clause-root g c =
    let p = err_from_is_err_and c.from_residual-in_err-set.result c.from_residual-in_err-set.ensures.1 in
    rw p.1 tt

pub returns-in_err-set-clause-dated : goal.returns-in_err-set-clause-dated
returns-in_err-set-clause-dated g c = λ map honest tree dated.
    let p = err_from_is_err_and c.from_residual-in_err-set.result c.from_residual-in_err-set.ensures.1 in
    rw p.1 tt

pub returns-clause-trees : goal.returns-clause-trees
returns-clause-trees g c = λ honest.
    sums_before _ _ _ _ c.in_ok-block.ensures.block.works.fills c.args.tree.levels c.args.tree.root _ _ _ (c.in_ok-set.ensures.changes.within honest).sums

pub returns-in_err-block-clause-trees : goal.returns-in_err-block-clause-trees
returns-in_err-block-clause-trees g c = λ honest.
    let p = err_from_is_err_and c.from_residual.result c.from_residual.ensures.1 in
    rw p.1 tt

pub returns-in_err-set-clause-trees : goal.returns-in_err-set-clause-trees
returns-in_err-set-clause-trees g c = λ honest.
    let p = err_from_is_err_and c.from_residual-in_err-set.result c.from_residual-in_err-set.ensures.1 in
    rw p.1 tt

pub returns-clause-levels : goal.returns-clause-levels
returns-clause-levels g c = c.in_ok-set.ensures.changes.levels

pub returns-clause-damaged : goal.returns-clause-damaged
returns-clause-damaged g c = λ honest. tt
