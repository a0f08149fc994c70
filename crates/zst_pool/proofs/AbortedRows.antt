-- What a look at the rows says of a partial state that is given up, and the rows without it.
use Rattle.std.proofs.Common.{◌≡◌, true, false, not, ℕ, List, ◌∙◌, sym, ap, bytes_eq, Option, Result, Err}
use Rattle.std.specs.List.{list_any}
use Rattle.zst_model.specs.declared.refusals.refusal.Refusal.{Refusal}
use Rattle.zst_model.specs.pools.Pool.{Pool, partial_of}
use Rattle.zst_model.specs.pools.Pool as plain
use Rattle.zst_model.specs.pools.Step.{Stepped, no_partial, or_else, without_partial}
use Rattle.zst_model.proofs.Options.{none_there, there_is}
use Rattle.zst_tree.specs.Indices.{Blocks}
use Rattle.zst_dir.specs.RowNames.{AreNamed}
use Rattle.zst_dir.specs.Rows.{Rows}
use Rattle.zst_image.specs.Reads.{PartialIs, RunsBy}
use Rattle.zst_pool.specs.Lineage.{if_partial, rows_without_partial}
use Rattle.zst_dir.proofs.Matches.{filter-Match}
use Rattle.zst_pool.proofs.CheckLemmas.{partial_is_there}

module _ (rows : Rows) (pool : Pool) (are : AreNamed rows pool) (target : List ℕ) (rest : Result Stepped Refusal) where
  -- a partial state that is absent, and one that is there
  pub partial_is_absent : list_any (λ partial. bytes_eq partial.target target) rows.partials ≡ false → if_partial target pool rest ≡ Err (no_partial target)
  partial_is_absent absent =
      ap (λ o. or_else (no_partial target) o (λ (partial : plain.Partial). rest)) (none_there (partial_of target pool) (sym (partial_is_there rows pool are target) ∙ absent))

  pub partial_goes : list_any (λ partial. bytes_eq partial.target target) rows.partials ≡ true → if_partial target pool rest ≡ rest
  partial_goes there =
      let found = there_is (partial_of target pool) (sym (partial_is_there rows pool are target) ∙ there) in
      ap (λ o. or_else (no_partial target) o (λ (partial : plain.Partial). rest)) found.1

-- the rows without a partial state stand for the pool without it
pub aborted_runs : {bound : Option ℕ} (has : Blocks) (rows : Rows) (pool : Pool) (target : List ℕ) → RunsBy bound has rows pool
    → RunsBy bound has (rows_without_partial target rows) (without_partial target pool)
aborted_runs {bound = bound} has rows pool target runs = record {
  datasets = runs.datasets;
  snapshots = runs.snapshots;
  bookmarks = runs.bookmarks;
  partials =
      filter-Match (PartialIs bound has) (λ partial. not (bytes_eq partial.target target)) (λ partial. not (bytes_eq partial.target target))
      (λ x y is. ap (λ n. not (bytes_eq n target)) (sym is.named.target)) rows.partials pool.partials runs.partials;
}
