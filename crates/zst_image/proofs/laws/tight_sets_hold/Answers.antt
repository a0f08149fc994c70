use Rattle.zst_image.proofs.PlainReads.{ReadsAs-plain}
use Rattle.zst_image.proofs.laws.tight_sets_hold.Goals as goal

pub returns : goal.returns
returns c = λ uber rows pool image is. ReadsAs-plain uber rows pool image is
