use Rattle.std.proofs.Common.{sym, subst, refl, arith}
use Rattle.std.proofs.lemmas.Result.{err_from_is_err_and}
use Rattle.zst_block.specs.IoStates.{blocks_of, disk_of}
use Rattle.zst_tree.specs.Damage.{HangsIn, IsSeen, MayHave, NamesNode, TellsNode}
use Rattle.zst_tree.specs.Indices.{TreeIs}
use Rattle.zst_tree.specs.declared.tree.Tree.{Tree}
use Rattle.zst_traverse.proofs.Damage.{no_cell_told, tree_named_told}
use Rattle.zst_traverse.proofs.Indices.{cell_stands, counted, is_run, no_cell, run_has_cell}
use Rattle.zst_traverse.proofs.pairs.run_at.Goals as goal

pub returns-in_err-ptr : goal.returns-in_err-ptr
returns-in_err-ptr g c =
    let p = err_from_is_err_and c.from_residual.result c.from_residual.ensures.1 in
    let read = c.in_err-ptr.ensures in
    rw (p.1, p.2) (record {
      run = λ object date dates map withheld honest lawful shown is.
          let tree = subst (λ (t : Tree). TreeIs (blocks_of c.args.io.now) t map) (sym c.tree_of.ensures) is.tree in
          read.shows map honest tree;
      ranges = tt;
      of_walk = λ set honest stands.
          let seen = IsSeen (disk_of c.args.io.now).seen in
          let size = (disk_of c.args.io.now).size in
          record {
            stands = tt;
            damaged = tree_named_told seen size set c.args.dnode.now stands c.in_err-ptr.field-0.0
                (subst (λ (t : Tree). TellsNode seen size NamesNode t.levels t.root c.in_err-ptr.field-0.0) c.tree_of.ensures (read.damaged honest));
          };
      looks = c.in_err-ptr.ensures.looks;
    })

pub returns-in_default-clause-run : goal.returns-in_default-clause-run
returns-in_default-clause-run g c = λ object date dates map withheld honest lawful read is.
    let has = blocks_of c.args.io.now in
    let tree = subst (λ (t : Tree). TreeIs has t map) (sym c.tree_of.ensures) is.tree in
    absurd (run_has_cell _ _ c.args.dnode.now object date dates map lawful withheld is c.args.index read c.requires.index c.requires.dnode.end c.in_ok-ptr.ptr c.in_ok-ptr.alike (c.in_ok-ptr.ensures.shows map honest tree) (cc))

pub returns-in_default-clause-of_walk : goal.returns-in_default-clause-of_walk
returns-in_default-clause-of_walk g c = λ set honest stands.
    let seen = IsSeen (disk_of c.args.io.now).seen in
    let dnode = c.args.dnode.now in
    let hangs = subst (λ (t : Tree). HangsIn (MayHave seen) t c.in_ok-ptr.ptr) c.tree_of.ensures (c.in_ok-ptr.ensures.hangs honest) in
    record { stands = tt; damaged = rw c.of_layout.ensures (no_cell_told seen (disk_of c.args.io.now).size set dnode stands c.in_ok-ptr.ptr hangs (no_cell c.in_ok-ptr.ptr dnode.block_size (cc))) }

pub returns-clause-of_walk : goal.returns-clause-of_walk
returns-clause-of_walk g c = λ set honest stands.
    let seen = IsSeen (disk_of c.args.io.now).seen in
    let hangs = subst (λ (t : Tree). HangsIn (MayHave seen) t c.in_ok-ptr.ptr) c.tree_of.ensures (c.in_ok-ptr.ensures.hangs honest) in
    record { stands = cell_stands seen set c.args.dnode.now stands c.in_ok-ptr.ptr hangs _ (cc); damaged = tt }

pub returns-clause-run : goal.returns-clause-run
returns-clause-run g c = λ object date dates map withheld honest lawful read is.
    let has = blocks_of c.args.io.now in
    let tree = subst (λ (t : Tree). TreeIs has t map) (sym c.tree_of.ensures) is.tree in
    let shown = c.in_ok-ptr.ensures.shows map honest tree in
    let count = counted _ _ _ c.count_of-count.result c.count_of-count.ensures shown.some (omega (arith, c.requires.index)) in
    is_run has withheld c.args.dnode.now object date dates map is c.args.index c.requires.index c.requires.dnode.end _ c.in_ok-ptr.alike shown refl count.some count.alike (omega (arith, count.left, c.requires.index)) (cc) count.one

pub returns-clause-ranges : goal.returns-clause-ranges
returns-clause-ranges g c =
    let count = counted _ _ _ c.count_of-count.result c.count_of-count.ensures c.in_ok-ptr.ensures.range.0 (omega (arith, c.requires.index)) in
    (omega arith, count.some, omega (arith, count.left, c.requires.index))

pub returns-in_default-clause-ranges : goal.returns-in_default-clause-ranges
returns-in_default-clause-ranges g c = tt

pub returns-clause-looks : goal.returns-clause-looks
returns-clause-looks g c = c.in_ok-ptr.ensures.looks
