-- What the definition of a change finds at a head is the head of the pool's dataset.
use Rattle.std.specs.Prelude.{Option, Some, None, Result, Err}
use Rattle.std.proofs.Common.{◌≡◌, ℕ, ◌/◌, Bool, true, false, List, is_some, ap}
use Rattle.zst_model.specs.declared.refusals.faults.Quantity.TheVariants as quantities
use Rattle.zst_model.specs.declared.refusals.subjects.Name.TheVariants as names
use Rattle.zst_model.specs.declared.refusals.refusal.Refusal.{Refusal}
use Rattle.zst_model.specs.declared.refusals.refusal.Refusal.TheVariants as refusals
use Rattle.zst_model.specs.states.AppliedItems.{unless, ◌>>=◌}
use Rattle.zst_model.specs.states.DatedState.{DatedState, size_at}
use Rattle.zst_model.specs.pools.Pool.{Pool, dataset_named, partial_of}
use Rattle.zst_model.specs.pools.Pool as plain
use Rattle.zst_model.specs.pools.Step.{Stepped, busy_partial, committed, no_such, on_head, or_else}
use Rattle.zst_pool.specs.Checks.{with_head_of}
use Rattle.zst_pool.specs.Cost.{block_sectors}

-- a change that is refused by the size of an object's blocks tells that size
abbrev size_told : ℕ → DatedState → Result DatedState Refusal
size_told k head = Err (refusals.Limit quantities.Block (size_at (head.state k)))

told_same : (a b : ℕ) → ◌≡◌ {A = Result Stepped Refusal} (Err (refusals.Limit quantities.Block a)) (Err (refusals.Limit quantities.Block b)) → a ≡ b
told_same a b same = cc

module _ (name : List ℕ) (k : ℕ) (pool : Pool) (head : DatedState) where
  found_is : (found : Option plain.Dataset) (busy : Bool)
      → or_else (no_such (names.Dataset name)) found (λ dataset. unless busy (busy_partial name) (size_told k dataset.head >>= λ after. committed (with_head_of name after pool))) ≡ Err (refusals.Limit quantities.Block (size_at (head.state k)))
      → block_sectors k found ≡ size_at (head.state k) / 512
  found_is None busy same = absurd (cc)
  found_is (Some dataset) true same = absurd (cc)
  found_is (Some dataset) false same = ap (λ n. n / 512) (told_same (size_at (dataset.head.state k)) (size_at (head.state k)) same)

  pub block_is : ((change : DatedState → Result DatedState Refusal) → on_head name pool change ≡ (change head >>= λ after. committed (with_head_of name after pool)))
      → block_sectors k (dataset_named name pool) ≡ size_at (head.state k) / 512
  block_is finds = found_is (dataset_named name pool) (is_some (partial_of name pool)) (finds (size_told k))
