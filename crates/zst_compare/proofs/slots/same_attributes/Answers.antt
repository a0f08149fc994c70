use Rattle.std.proofs.Common.{◌≡◌, Bool}
use Rattle.std.specs.Prelude.{◌↔◌, IsTrue}
use Rattle.zst_block.specs.IoStates.{blocks_of}
use Rattle.zst_model.specs.states.State.{attr_at}
use Rattle.zst_tree.proofs.Results.{delivers_if}
use Rattle.zst_compare.proofs.ComparedSlots.{same_spills}
use Rattle.zst_compare.proofs.slots.same_attributes.Goals as goal

pub returns-clause-same : goal.returns-clause-same
returns-clause-same g c = λ now was k honest first second.
    let head = c.same_head.ensures.0 c.if-not-same_head.false in
    let spills = same_spills (blocks_of c.args.io.now) was now k c.args.later.now c.args.earlier.now first second head in
    delivers_if (λ (same : Bool). IsTrue same ↔ (second.object.attr.spill ≡ first.object.attr.spill)) (λ (same : Bool). IsTrue same ↔ (attr_at (was.state k) ≡ attr_at (now.state k))) c.same_spill.result
    (λ same is. (λ agree. spills.0 (is.0 agree), λ alike. is.1 (spills.1 alike)))
    (c.same_spill.ensures.same first.object.attr.spill second.object.attr.spill honest first.is.spill_is second.is.spill_is)
