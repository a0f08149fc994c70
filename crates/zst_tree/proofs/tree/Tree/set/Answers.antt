use Rattle.std.proofs.Common.{refl}
use Rattle.zst_tree.proofs.RangeChanges.{PutsRange-fewer}
use Rattle.zst_tree.proofs.tree.Tree.set.Goals as goal

pub returns-clause-changes : goal.returns-clause-changes
returns-clause-changes g c = PutsRange-fewer _ _ _ (c.put_range.ensures.one refl) c.put_range.ensures.changes
