-- The token that rows tell is that of the pool that they name.
use Rattle.std.proofs.Common.{◌≡◌, ℕ, suc, Bool, true, false, cond, List, [], ◌∷◌, Option, Some, None, Result, Ok, Err, if◌then◌else◌, bytes_eq, refl, sym, ap, subst, arith, ◌∙◌}
use Rattle.std.specs.List.{All, find}
use Rattle.zst_block.specs.Blocks.{Has}
use Rattle.zst_dir.specs.RowNames.{AreNamed, Match, NamesPartial}
use Rattle.zst_dir.specs.Rows.{IsLawful, IsPartialRow, Rows, is_for}
use Rattle.zst_dir.specs.declared.rows.Partial.{Partial as Row}
use Rattle.zst_model.specs.declared.refusals.plan_fault.PlanFault.{PlanFault}
use Rattle.zst_model.specs.declared.refusals.plan_fault.PlanFault.TheVariants.{NoPartial}
use Rattle.zst_model.specs.declared.sends.header.Header.{Header}
use Rattle.zst_model.specs.declared.sends.header.Point.{Point}
use Rattle.zst_model.specs.pools.Pool.{Partial, Pool}
use Rattle.zst_space.specs.FreeSectors.{FreeSectors}
use Rattle.zst_image.specs.Reads.{PartialIs, RunsBy}
use Rattle.zst_token.specs.PartialToken.{token_for}
use Rattle.zst_token.specs.declared.token.Token.{Token}
use Rattle.zst_recv.specs.Tokens.{token_of_partial, token_told}

-- the token of a row, as that of a partial state
abbrev pub token_of_row : List ℕ → Option Row → Result Token PlanFault
token_of_row dataset None = Err (NoPartial dataset)
token_of_row dataset (Some row) = if row.keep then Ok (token_for row.header row.point) else Err (NoPartial dataset)

-- what is found of the rows tells what is found of the partial states
pub tell_alike : (Is : Row → Partial → Type 0) → ((row : Row) (partial : Partial) → Is row partial → NamesPartial row partial)
    → (dataset : List ℕ) (rows : List Row) (partials : List Partial) → Match Is rows partials
    → token_of_row dataset (find (is_for dataset) rows) ≡ token_of_partial dataset (find (λ partial. bytes_eq partial.target dataset) partials)
tell_alike Is of dataset [] [] m = refl
tell_alike Is of dataset [] (partial ∷ partials) m = absurd m
tell_alike Is of dataset (row ∷ rows) [] m = absurd m
tell_alike Is of dataset (row ∷ rows) (partial ∷ partials) m =
    let named = of row partial m.0 in
    let same : bytes_eq partial.target dataset ≡ bytes_eq row.target dataset = ap (λ (t : List ℕ). bytes_eq t dataset) named.target in
    rw same (go (bytes_eq row.target dataset) (tell_alike Is of dataset rows partials m.1))
  where
    go : (b : Bool) → token_of_row dataset (find (is_for dataset) rows) ≡ token_of_partial dataset (find (λ partial. bytes_eq partial.target dataset) partials)
        → token_of_row dataset (cond b (Some row) (find (is_for dataset) rows))
        ≡ token_of_partial dataset (cond b (Some partial) (find (λ partial. bytes_eq partial.target dataset) partials))
    go true rest = let named = of row partial m.0 in rw (named.keep, named.header, named.point) refl
    go false rest = rest

-- so it is of rows that name a pool, and of rows that stand for one
pub named_tell : (dataset : List ℕ) (rows : Rows) (pool : Pool) (found : Option Row) (answer : Result Token PlanFault) → found ≡ find (is_for dataset) rows.partials → token_of_row dataset found ≡ answer
    → AreNamed rows pool → answer ≡ token_told dataset pool
named_tell dataset rows pool found answer is told named =
    sym told ∙ ap (token_of_row dataset) is ∙ tell_alike NamesPartial (λ row partial names. names) dataset rows.partials pool.partials named.partials

pub running_tell : (dataset : List ℕ) (rows : Rows) (pool : Pool) (found : Option Row) (answer : Result Token PlanFault) → found ≡ find (is_for dataset) rows.partials → token_of_row dataset found ≡ answer
    → (bound : Option ℕ) (image : List ℕ) (space : FreeSectors) → RunsBy bound (Has image space) rows pool → answer ≡ token_told dataset pool
running_tell dataset rows pool found answer is told bound image space runs =
    sym told ∙ ap (token_of_row dataset) is
    ∙ tell_alike (PartialIs bound (Has image space)) (λ row partial stands. stands.named) dataset rows.partials pool.partials runs.partials

-- what is found stands among the rows
pub found_is : (P : Row → Type 0) (p : Row → Bool) (rows : List Row) (row : Row) → All P rows → Some row ≡ find p rows → P row
found_is P p [] row all is = absurd (cc is)
found_is P p (first ∷ rows) row all is = go (p first) is (λ found. found_is P p rows row (λ k d below. all (suc k) d (omega (arith, below))) found)
  where
    go : (b : Bool) → Some row ≡ cond b (Some first) (find p rows) → (Some row ≡ find p rows → P row) → P row
    go true is later = let same : first ≡ row = cc is in subst P same (all 0 first (omega arith))
    go false is later = later is

pub found_fits : (dataset : List ℕ) (rows : Rows) (row : Row) → IsLawful rows → Some row ≡ find (is_for dataset) rows.partials → IsPartialRow row
found_fits dataset rows row lawful is = found_is IsPartialRow (is_for dataset) rows.partials row lawful.partials is

-- a token's point is the one that it is made for
pub point_told : (token : Token) (header : Header) (point : Point) → token ≡ token_for header point → token.point ≡ point
unfolding token_for
point_told token header point is = ap (λ (t : Token). t.point) is
