use Rattle.std.proofs.Common.{◌≡◌, length, sym, ◌∙◌}
use Rattle.zst_block.proofs.BlocksLaws.{IsBlock-length}
use Rattle.zst_compare.proofs.blocks.read_data.Goals as goal
use Rattle.zst_compare.proofs.blocks.read_data.Goals.{then-ptr-ne1-via-then-ptr-ne1, then-ptr-ne1-via-else-ptr-ne1+then-ptr-into}

pub returns-then-ptr-ne1-clause-there : goal.returns-then-ptr-ne1-clause-there
returns-then-ptr-ne1-clause-there g c = λ bytes honest kind there long.
    let same : length bytes ≡ c.args.ptr.now.length = IsBlock-length _ c.args.ptr.now bytes there.block in
    elim c.then-ptr-ne1.branch [
      | then-ptr-ne1-via-then-ptr-ne1 w ↦ absurd (w.if-ptr-ne1.true kind)
      | then-ptr-ne1-via-else-ptr-ne1+then-ptr-into w ↦ absurd (w.if-ptr-into.true (sym same ∙ long))
    ]
