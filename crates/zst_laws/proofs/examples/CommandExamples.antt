-- What commands make of an object that is there.
use Rattle.std.proofs.Common.{refl}
use Rattle.std.specs.Fmt.{digits}
use Rattle.zst_model.specs.states.State.{index_bound, number_bound}
use Rattle.zst_model.specs.states.AppliedItems.{apply, apply_change}
use Rattle.zst_model.specs.pools.Step.{stepped, last_number}
use Rattle.zst_laws.specs.CommandExample.{ObjectIsReplaced, RangeIsPunched}

pub object_replaced : ObjectIsReplaced
unfolding stepped apply apply_change number_bound last_number digits
object_replaced = (λ held now. (_, refl, _, refl, refl), λ held now. (_, refl, _, refl, refl))

pub range_punched : RangeIsPunched
unfolding stepped apply apply_change index_bound last_number digits
range_punched held now = (_, refl, _, refl, (refl, refl, refl, refl))
