use Rattle.zst_block.specs.IoStates.{blocks_of, disk_of}
use Rattle.zst_compare.proofs.Sharing.{Has-one, alike_trees, tree_same}
use Rattle.zst_compare.proofs.shared.shared_to.Goals as goal

pub returns-then-eq-clause-shared : goal.returns-then-eq-clause-shared
returns-then-eq-clause-shared g c = λ one other honest first second.
    alike_trees (blocks_of c.args.io.now) (Has-one (disk_of c.args.io.now).seen c.args.io.now.space) c.args.later.now c.args.earlier.now c.args.index _ one other (tree_same c.args.later.now c.args.earlier.now c.if-eq.ensures) first second
