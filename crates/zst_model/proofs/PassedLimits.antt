-- A limit that is passed, and one that isn't.
use Rattle.std.proofs.Common.{◌≡◌, ℕ, ◌<◌, ◌≤◌, Result, Err, ap}
use Rattle.std.proofs.lemmas.Bool.{lt-ltb, le-ltb}
use Rattle.zst_model.specs.declared.refusals.faults.Quantity.{Quantity}
use Rattle.zst_model.specs.declared.refusals.refusal.Refusal.{Refusal}
use Rattle.zst_model.specs.declared.refusals.refusal.Refusal.TheVariants as refusals
use Rattle.zst_model.specs.pools.Step.{limited}
use Rattle.zst_model.specs.states.AppliedItems.{unless}

pub over : {A : Type 0} (which : Quantity) (most quantity : ℕ) (rest : Result A Refusal) → most < quantity → limited which most quantity rest ≡ Err (refusals.Limit which most)
over which most quantity rest more = ap (λ t. unless t (refusals.Limit which most) rest) (lt-ltb most quantity more)

pub within_limit : {A : Type 0} (which : Quantity) (most quantity : ℕ) (rest : Result A Refusal) → quantity ≤ most → limited which most quantity rest ≡ rest
within_limit which most quantity rest less = ap (λ t. unless t (refusals.Limit which most) rest) (le-ltb most quantity less)
