use Rattle.std.proofs.Common.{◌∙◌, sym, refl}
use Rattle.std.proofs.lemmas.Bool.{false≢true}
use Rattle.zst_block.proofs.BlocksLaws.{IsBlock-length}
use Rattle.zst_tree.proofs.Damage.{alike_here, read_here}
use Rattle.zst_reach.proofs.nodes.load_named.Goals as goal

pub returns-then-not-is_node-clause-there : goal.returns-then-not-is_node-clause-there
returns-then-not-is_node-clause-there g c = λ bytes honest names there. absurd (false≢true (sym c.if-not-is_node.true ∙ c.is_node.ensures.1 names))

pub returns-clause-there : goal.returns-clause-there
returns-clause-there g c = λ bytes honest names there. c.load.ensures.there bytes honest there (IsBlock-length _ c.args.ptr bytes there.block ∙ names.length_is)

pub returns-then-not-is_node-clause-names : goal.returns-then-not-is_node-clause-names
returns-then-not-is_node-clause-names g c = λ some inner honest.
    rw c.of_layout.ensures (alike_here _ _ _ c.args.level c.args.ptr some inner (λ names. false≢true (sym c.if-not-is_node.true ∙ c.is_node.ensures.1 names)))

pub returns-clause-names : goal.returns-clause-names
returns-clause-names g c = λ some inner honest.
    read_here _ _ _ _ refl c.args.level c.args.ptr some inner _ _ (c.load.ensures.answer honest (c.is_node.ensures.0 c.if-not-is_node.false).length_is)
