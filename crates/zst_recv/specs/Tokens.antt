-- The token that a pool tells of a dataset.
use Rattle.std.specs.Prelude.{ℕ, List, Option, Some, None, Result, Ok, Err, if◌then◌else◌}
use Rattle.zst_model.specs.declared.refusals.plan_fault.PlanFault.{PlanFault}
use Rattle.zst_model.specs.declared.refusals.plan_fault.PlanFault.TheVariants.{NoPartial}
use Rattle.zst_model.specs.pools.Pool.{Partial, Pool, partial_of}
use Rattle.zst_token.specs.PartialToken.{token_for}
use Rattle.zst_token.specs.declared.token.Token.{Token}

-- the token of a partial state of this dataset, where there is one that stays where its session ends; E14 otherwise
abbrev pub token_of_partial : List ℕ → Option Partial → Result Token PlanFault
token_of_partial dataset None = Err (NoPartial dataset)
token_of_partial dataset (Some partial) = if partial.keep then Ok (token_for partial.header partial.point) else Err (NoPartial dataset)

-- the token with which a cut receive into this dataset goes on, or E14
abbrev pub token_told : List ℕ → Pool → Result Token PlanFault
token_told dataset pool = token_of_partial dataset (partial_of dataset pool)
