use Rattle.std.proofs.Common.{rules, ◌≡◌, refl, ◌∙◌}
use Rattle.std.proofs.lemmas.Result.{IfOk-equal}
use Rattle.zst_block.specs.Ptr.{ptr_bytes}
use Rattle.zst_tree.proofs.SetBytes.{written-whole}
use Rattle.zst_tree.proofs.words.push_ptr.Goals as goal

pub returns-clause-bytes : goal.returns-clause-bytes
returns-clause-bytes c =
    let whole : c.put.new.into ≡ ptr_bytes c.args.ptr.now = c.put.ensures.bytes ∙ written-whole 64 _ _ refl in
    let items = rw whole at c.extend_from_slice.ensures.items in
    search (rules, IfOk-equal)
