use Rattle.std.proofs.Common.{◌≡◌, ap, ◌∙◌, Some}
use Rattle.zst_block.specs.Ptr.{ptr_bytes}
use Rattle.zst_block.proofs.PtrLaws.{length-ptr_bytes}
use Rattle.zst_tree.proofs.SetBytes.{bytes_at-whole}
use Rattle.zst_tree.proofs.words.read_ptr.Goals as goal

pub returns-in_err-bytes-clause-exact : goal.returns-in_err-bytes-clause-exact
returns-in_err-bytes-clause-exact c = λ ptr rest fits is. absurd (cc (c.in_err-bytes.ensures.exact (ptr_bytes ptr) rest (length-ptr_bytes ptr) is).0)

pub returns-clause-exact : goal.returns-clause-exact
returns-clause-exact c = λ ptr rest fits is.
    let read = c.in_ok-bytes.ensures.exact (ptr_bytes ptr) rest (length-ptr_bytes ptr) is in
    let same : c.in_ok-bytes.bytes.now ≡ ptr_bytes ptr = cc read.0 in
    (ap Some (c.get.ensures.back ptr fits (bytes_at-whole 64 c.in_ok-bytes.bytes.now c.in_ok-bytes.ensures.size ∙ same)), read.1)
