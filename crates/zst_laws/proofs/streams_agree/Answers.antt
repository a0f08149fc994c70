use Rattle.std.proofs.Common.{ap}
use Rattle.zst_model.specs.sends.Items.{items}
use Rattle.zst_model.specs.sends.View.{View}
use Rattle.zst_laws.proofs.sends.ViewLaws.{views_same}
use Rattle.zst_laws.proofs.streams_agree.Goals as goal

pub returns : goal.returns
returns c = λ header a b choice point numbers indices differ. ap (λ (view : View). items view point) (views_same header a b choice numbers indices differ)
