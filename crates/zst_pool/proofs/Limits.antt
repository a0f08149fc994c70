-- Which limit a pool passes first with its next commit.
use Rattle.std.proofs.Common.{◌≡◌, ◌+◌, ◌≤◌, ◌<◌, ◌^◌, length, Ok, Err, ◌∙◌, arith}
use Rattle.zst_model.specs.declared.refusals.faults.Quantity.TheVariants as quantities
use Rattle.zst_model.specs.declared.refusals.refusal.Refusal.TheVariants as refusals
use Rattle.zst_model.specs.pools.Limits.{most_partials}
use Rattle.zst_model.specs.pools.Pool.{Pool}
use Rattle.zst_model.specs.pools.Step.{count_datasets, last_number, most_datasets, most_snapshots}
use Rattle.zst_model.proofs.PassedLimits.{over, within_limit}
use Rattle.zst_pool.specs.Partials.{next_commit}

-- the first limit that is passed, in their order, and no limit
module _ (pool : Pool) where
  pub past_partials : 16 < length pool.partials → next_commit pool ≡ Err (refusals.Limit quantities.Partials 16)
  unfolding most_partials
  past_partials more = over quantities.Partials 16 (length pool.partials) _ more

  module _ (partials : length pool.partials ≤ 16) where
    pub past_datasets : 256 < count_datasets pool → next_commit pool ≡ Err (refusals.Limit quantities.Datasets 256)
    unfolding most_partials most_datasets
    past_datasets more = within_limit quantities.Partials 16 (length pool.partials) _ partials ∙ over quantities.Datasets 256 (count_datasets pool) _ more

    module _ (datasets : count_datasets pool ≤ 256) where
      pub past_snapshots : 1024 < length pool.snapshots + length pool.partials → next_commit pool ≡ Err (refusals.Limit quantities.Snapshots 1024)
      unfolding most_partials most_datasets most_snapshots
      past_snapshots more =
          within_limit quantities.Partials 16 (length pool.partials) _ partials ∙ within_limit quantities.Datasets 256 (count_datasets pool) _ datasets
          ∙ over quantities.Snapshots 1024 (length pool.snapshots + length pool.partials) _ more

      module _ (snapshots : length pool.snapshots + length pool.partials ≤ 1024) where
        pub past_number : 2 ^ 63 ≤ pool.number → next_commit pool ≡ Err (refusals.Limit quantities.Number (2 ^ 63))
        unfolding most_partials most_datasets most_snapshots last_number
        past_number le =
            within_limit quantities.Partials 16 (length pool.partials) _ partials ∙ within_limit quantities.Datasets 256 (count_datasets pool) _ datasets
            ∙ within_limit quantities.Snapshots 1024 (length pool.snapshots + length pool.partials) _ snapshots ∙ over quantities.Number (2 ^ 63) (pool.number + 1) _ (omega (arith, le))

        pub within_limits : pool.number < 2 ^ 63 → next_commit pool ≡ Ok (record pool { number = pool.number + 1 })
        unfolding most_partials most_datasets most_snapshots last_number
        within_limits below =
            within_limit quantities.Partials 16 (length pool.partials) _ partials ∙ within_limit quantities.Datasets 256 (count_datasets pool) _ datasets
            ∙ within_limit quantities.Snapshots 1024 (length pool.snapshots + length pool.partials) _ snapshots ∙ within_limit quantities.Number (2 ^ 63) (pool.number + 1) _ (omega (arith, below))
