use Rattle.std.proofs.Common.{arith, ap, refl, ◌∙◌, ◌≡◌, length}
use Rattle.zst_outside.specs.Ranges.{overwritten}
use Rattle.zst_outside.proofs.Copies.{overwritten-put_mid, whole_vec}
use Rattle.zst_outside.specs.Ranges.{length-overwritten}
use Rattle.zst_outside.proofs.places.overwrite.Goals as goal

pub returns-clause-bytes : goal.returns-clause-bytes
returns-clause-bytes c =
    let n = length c.args.from.now in
    let same = overwritten-put_mid c.deref_mut.result.now c.args.place n c.copy_from_slice.new.self c.args.from.now refl c.copy_from_slice.ensures.after in
    let at = ap (λ l. overwritten l c.args.place c.args.from.now) c.deref_mut.ensures.value in
    let size : c.args.bytes.now.len ≡ length (overwritten c.args.bytes.now.items c.args.place c.args.from.now) = omega (arith, length-overwritten c.args.bytes.now.items c.args.place c.args.from.now c.requires) in
    whole_vec c.args.bytes.now.len _ _ c.args.bytes.now.items (same ∙ at) size

pub returns-clause-size : goal.returns-clause-size
returns-clause-size c = ap length (returns-clause-bytes c) ∙ length-overwritten c.args.bytes.now.items c.args.place c.args.from.now c.requires
