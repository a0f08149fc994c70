use Rattle.std.proofs.Common.{◌*◌, ◌∙◌, subst, sym, ap, refl}
use Rattle.std.proofs.lemmas.List.{drop_all}
use Rattle.zst_block.specs.Blocks.{Has}
use Rattle.zst_tree.specs.Changes.{Parts}
use Rattle.zst_tree.specs.Indices.{Map}
use Rattle.zst_tree.specs.Leaves.{with_leaves}
use Rattle.zst_tree.proofs.LeafMaps.{put_more, with_none}
use Rattle.zst_tree.proofs.leaf_puts.put_each.Goals as goal

pub loop-leaf-init : goal.loop-leaf-init
loop-leaf-init c = λ image space group map all parts. (map, refl, parts)

pub loop-leaf-preserved : goal.loop-leaf-preserved
loop-leaf-preserved c = λ image space group map all parts.
    let so_far = c.loop-leaf.invariant image space group map all parts in
    put_more (Has image space) group c.args.leaves.now c.loop-leaf.leaf-index _ _ _ map so_far.0 c.loop-leaf-test.true all c.put_child.ensures.puts so_far.1 so_far.2

pub returns : goal.returns
returns c = record {
  parts = λ image space group map all parts.
      let so_far = c.loop-leaf.invariant image space group map all parts in
      let done = drop_all c.loop-leaf.leaf-index c.args.leaves.now c.loop-leaf-test.false in
      let is = sym (with_none so_far.0) ∙ (ap (with_leaves so_far.0) (sym done) ∙ so_far.1) in
      subst (λ (held : Map). Parts (Has image space) 0 c.loop-leaf.node (128 * group) held) is so_far.2;
}
