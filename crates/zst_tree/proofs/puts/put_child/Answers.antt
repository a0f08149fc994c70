use Rattle.zst_tree.proofs.Children.{puts}
use Rattle.zst_tree.proofs.puts.put_child.Goals as goal

pub returns-clause-puts : goal.returns-clause-puts
returns-clause-puts c = rw c.put_child.ensures.bytes (puts c.args.node.now c.args.k c.args.ptr.now c.put_child.ensures.before c.requires c.put_child.ensures.fits)
