use Rattle.zst_writer.proofs.Puts.{all-put}
use Rattle.zst_writer.proofs.laws.image_is_put.Goals as goal

pub returns : goal.returns
returns c = all-put
