use Rattle.std.proofs.Common.{◌∙◌, sym, refl}
use Rattle.std.proofs.lemmas.Bool.{false≢true}
use Rattle.zst_block.proofs.BlocksLaws.{IsBlock-length}
use Rattle.zst_tree.proofs.SubtreeCases.{kind_three_or_four}
use Rattle.zst_tree.proofs.Damage.{alike_here, read_here}
use Rattle.zst_tree.proofs.LoadedNodes.{loaded_parts, node_fault}
use Rattle.zst_tree.proofs.nodes.load_node.Goals as goal

pub returns-then-not-is_node-clause-there : goal.returns-then-not-is_node-clause-there
returns-then-not-is_node-clause-there g c = λ bytes honest node.
    absurd (false≢true (sym c.if-not-is_node.true ∙ c.is_node.ensures.1 (record {
      kind = kind_three_or_four bytes c.args.ptr.kind node.kind_is;
      level_is = node.level_is;
      length_is = sym (IsBlock-length _ c.args.ptr bytes node.there.block) ∙ node.pointers.long;
    })))

pub returns-then-not-is_node-clause-parts : goal.returns-then-not-is_node-clause-parts
returns-then-not-is_node-clause-parts g c = λ base map some inner honest stands.
    node_fault _ c.args.level c.args.ptr base map c.args.io.now.node _ some inner (λ bytes node. returns-then-not-is_node-clause-there g c bytes honest node) stands

pub returns-clause-parts : goal.returns-clause-parts
returns-clause-parts g c = λ base map some inner honest stands.
    loaded_parts c.load.ensures.looks c.args.level c.args.ptr base map c.load.new.io.node c.load.result some inner
    (λ bytes node. c.load.ensures.there bytes honest node.there node.pointers.long) stands

pub returns-then-not-is_node-clause-names : goal.returns-then-not-is_node-clause-names
returns-then-not-is_node-clause-names g c = λ some inner honest.
    rw c.of_layout.ensures (alike_here _ _ _ c.args.level c.args.ptr some inner (λ names. false≢true (sym c.if-not-is_node.true ∙ c.is_node.ensures.1 names)))

pub returns-clause-names : goal.returns-clause-names
returns-clause-names g c = λ some inner honest.
    read_here _ _ _ _ refl c.args.level c.args.ptr some inner _ _ (c.load.ensures.answer honest (c.is_node.ensures.0 c.if-not-is_node.false).length_is)
