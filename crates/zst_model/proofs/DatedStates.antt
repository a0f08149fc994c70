-- States whose parts have dates.
use Rattle.std.proofs.Common.{◌≡◌, ℕ, ◌≤◌, Ok, ap, ◌∙◌, arith}
use Rattle.zst_model.specs.declared.states.item.Item.{Item}
use Rattle.zst_model.specs.pools.Soundness.{DatedUpTo}
use Rattle.zst_model.specs.states.AppliedItems.{apply}
use Rattle.zst_model.specs.states.DatedState.{DatedState, apply_dated}
use Rattle.zst_model.proofs.Results.{bind_ok, ok_parts}

-- dates up to a number are up to each greater one
pub dated_higher : (number more : ℕ) → number ≤ more → (state : DatedState) → DatedUpTo number state → DatedUpTo more state
dated_higher number more l state h = record {
  numbers = λ k. let d = h.numbers k in omega arith;
  indices = λ k i. let d = h.indices k i in omega arith;
}

-- what applying an item in a commit makes of the state is what applying it makes
pub dated_state : (number : ℕ) (item : Item) (snap after : DatedState) → apply_dated number item snap ≡ Ok after → apply item snap.state ≡ Ok after.state
dated_state number item snap after h =
    let made = bind_ok (apply item snap.state) _ after h in
    made.1 ∙ ap (λ (d : DatedState). Ok d.state) (ok_parts _ after made.2)
