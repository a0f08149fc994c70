use Rattle.std.proofs.Common.{◌≡◌, ◌+◌, ◌^◌, ◌≤◌, arith, subst, sym}
use Rattle.zst_block.specs.Ptr.{hole_of}
use Rattle.zst_block.specs.declared.ptr.Ptr.{Ptr}
use Rattle.zst_tree.proofs.RangeChanges.{PutsRange-none}
use Rattle.zst_tree.proofs.tree.Tree.punch.Goals as goal

pub returns-then-count-eq0-clause-changes : goal.returns-then-count-eq0-clause-changes
returns-then-count-eq0-clause-changes g c = PutsRange-none c.args.self.now c.args.first c.args.count (hole_of c.args.number) c.requires.levels (omega arith)

pub returns-then-first-count-eq-TREE_INDEX_BOUND-clause-changes : goal.returns-then-first-count-eq-TREE_INDEX_BOUND-clause-changes
returns-then-first-count-eq-TREE_INDEX_BOUND-clause-changes g c = let end : c.args.first + c.args.count ≡ 2 ^ 44 = omega arith in rw end c.punch_on.ensures.changes

pub returns-clause-changes : goal.returns-clause-changes
returns-clause-changes g c = rw c.hole.ensures at c.put_range.ensures.changes

pub returns-then-first-count-eq-TREE_INDEX_BOUND-clause-dated : goal.returns-then-first-count-eq-TREE_INDEX_BOUND-clause-dated
returns-then-first-count-eq-TREE_INDEX_BOUND-clause-dated g c = λ bound map honest holds dated early. c.punch_on.ensures.dated bound map honest holds dated (early (omega arith))

pub returns-clause-dated : goal.returns-clause-dated
returns-clause-dated g c = λ bound map honest holds dated early.
    c.put_range.ensures.dated bound map honest holds dated (subst (λ (leaf : Ptr). leaf.number ≤ bound) (sym c.hole.ensures) (early (omega arith)))
