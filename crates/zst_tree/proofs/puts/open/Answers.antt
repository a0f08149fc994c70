use Rattle.zst_block.proofs.IoCallLemmas.{Looks-none}
use Rattle.std.proofs.Common.{◌≡◌, ◌-◌, true, rules, sym, subst, arith}
use Rattle.zst_block.specs.Ptr.{is_flat}
use Rattle.zst_block.specs.declared.ptr.Ptr.{Ptr}
use Rattle.zst_tree.proofs.SubtreeCases.{node_below}
use Rattle.zst_tree.proofs.BuiltSubtrees.{spread_parts, node_parts}
use Rattle.zst_tree.proofs.Results.{delivers_block}
use Rattle.zst_tree.proofs.Damage.{IsBelow-flat}
use Rattle.zst_tree.proofs.LaterDamage.{opened_told, opened_below, opened_sums}
use Rattle.zst_tree.proofs.ChangedTrees.{hangs_spread, opened_hangs}
use Rattle.zst_tree.proofs.puts.open.Goals as goal

pub returns-then-is_flat-clause-parts : goal.returns-then-is_flat-clause-parts
returns-then-is_flat-clause-parts g c = λ base map honest s. spread_parts _ map _ _ base _ _ c.requires.inner (search rules) s c.fill.ensures.fills (c.fill.ensures.long (omega arith))

pub returns-clause-parts : goal.returns-clause-parts
returns-clause-parts g c = λ base map honest s.
    let n = node_below _ c.args.level c.args.ptr base map c.requires.inner (search rules) s in
    delivers_block _ n.bytes _ c.load_node.result (c.load_node.ensures.there n.bytes honest n.node) (λ is. node_parts _ c.args.level c.args.ptr base map _ n is)

pub returns-then-is_flat-clause-below : goal.returns-then-is_flat-clause-below
returns-then-is_flat-clause-below g c = λ honest k under.
    let flat : is_flat c.args.ptr ≡ true = search rules in
    IsBelow-flat _ _ _ _ _ _ _ _ (subst (λ (p : Ptr). is_flat p ≡ true) (sym (c.fill.ensures.fills.inside k (omega arith) under).child_is) flat)

pub returns-clause-below : goal.returns-clause-below
returns-clause-below g c = λ honest. opened_below _ _ _ _ _ _ c.requires.inner (search rules) _ (c.load_node.ensures.block honest)

pub returns-then-is_flat-clause-sums : goal.returns-then-is_flat-clause-sums
returns-then-is_flat-clause-sums g c = λ honest k under.
    let flat : is_flat c.args.ptr ≡ true = search rules in
    IsBelow-flat _ _ _ _ _ _ _ _ (subst (λ (p : Ptr). is_flat p ≡ true) (sym (c.fill.ensures.fills.inside k (omega arith) under).child_is) flat)

pub returns-clause-sums : goal.returns-clause-sums
returns-clause-sums g c = λ honest. opened_sums _ _ _ _ _ _ c.requires.inner (search rules) _ (c.load_node.ensures.block honest)

pub returns-clause-damaged : goal.returns-clause-damaged
returns-clause-damaged g c = λ honest. opened_told _ _ _ _ _ _ (c.load_node.ensures.names c.requires.inner (search rules) honest)

pub returns-then-is_flat-clause-hangs : goal.returns-then-is_flat-clause-hangs
returns-then-is_flat-clause-hangs g c = λ honest k under found hangs.
    hangs_spread _ c.args.level (c.args.level - 1) c.args.ptr _ found (c.fill.ensures.fills.inside k (omega arith) under).child_is (search rules) hangs

pub returns-clause-hangs : goal.returns-clause-hangs
returns-clause-hangs g c = λ honest. opened_hangs _ _ c.args.level c.args.ptr _ c.requires.inner (search rules) _ (c.load_node.ensures.block honest)

pub returns-then-is_flat-clause-damaged : goal.returns-then-is_flat-clause-damaged
returns-then-is_flat-clause-damaged g c = λ honest. tt

pub returns-then-is_flat-clause-looks : goal.returns-then-is_flat-clause-looks
returns-then-is_flat-clause-looks g c = Looks-none _

pub returns-clause-looks : goal.returns-clause-looks
returns-clause-looks g c = c.load_node.ensures.looks.looks
