use Rattle.std.proofs.Common.{refl}
use Rattle.zst_reader.proofs.Places.{place-first}
use Rattle.zst_reader.proofs.place.Place.first.Goals as goal

pub returns : goal.returns
returns c = place-first _ refl c.zero.ensures c.zero-2.ensures refl refl refl
