use Rattle.std.proofs.Common.{◌≤◌, arith, subst, sym}
use Rattle.zst_block.specs.Ptr.{redacted_of}
use Rattle.zst_block.specs.declared.ptr.Ptr.{Ptr}
use Rattle.zst_tree.proofs.RangeChanges.{PutsRange-none}
use Rattle.zst_tree.proofs.tree.Tree.redact.Goals as goal

pub returns-then-count-eq0-clause-changes : goal.returns-then-count-eq0-clause-changes
returns-then-count-eq0-clause-changes g c = PutsRange-none c.args.self.now c.args.first c.args.count (redacted_of c.args.number) c.requires.levels (omega arith)

pub returns-clause-changes : goal.returns-clause-changes
returns-clause-changes g c = rw c.redacted.ensures at c.put_range.ensures.changes

pub returns-clause-dated : goal.returns-clause-dated
returns-clause-dated g c = λ bound map honest holds dated early.
    c.put_range.ensures.dated bound map honest holds dated (subst (λ (leaf : Ptr). leaf.number ≤ bound) (sym c.redacted.ensures) (early (omega arith)))
