use Rattle.std.proofs.Common.{◌++◌, take, sym, arith, refl}
use Rattle.std.proofs.lemmas.List.{length-take-le}
use Rattle.zst_writer.proofs.SealedRecords.{sealed-text}
use Rattle.zst_writer.proofs.writer.Writer.seal.Goals as goal

pub slice_bounds-add-end-2 : goal.slice_bounds-add-end-2
slice_bounds-add-end-2 c = sym (length-take-le 280 c.args.into.now (omega arith))

pub returns-clause-added : goal.returns-clause-added
returns-clause-added c = λ text h.
    let mid = c.add.ensures text h in
    let new = c.add-2.ensures (text ++ take 280 c.args.into.now) mid in
    sealed-text _ text c.args.into.now c.put_sums.new.bytes _ c.parts.result c.requires c.put_sums.ensures refl new
