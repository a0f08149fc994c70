-- What reclaim makes of a pool, and when it is refused.
use Rattle.std.proofs.Common.{◌≡◌, ◌+◌, ◌<◌, ◌≤◌, Bool, true, false, [], ◌∷◌, nat_lt, Ok, Err, refl, sym, ap, subst, ◌∙◌, arith}
use Rattle.std.specs.Fmt.{digits}
use Rattle.std.proofs.lemmas.Bool.{ltb-true}
use Rattle.zst_model.specs.declared.refusals.faults.Quantity.TheVariants as quantities
use Rattle.zst_model.specs.declared.refusals.refusal.Refusal.{Refusal}
use Rattle.zst_model.specs.declared.refusals.refusal.Refusal.TheVariants as refusals
use Rattle.zst_model.specs.states.AppliedItems.{unless}
use Rattle.zst_model.specs.pools.AnswerLines.{ok_line}
use Rattle.zst_model.specs.pools.KeptPool.{kept_of}
use Rattle.zst_model.specs.pools.Pool.{Pool}
use Rattle.zst_model.specs.pools.Step.{Stepped, stepped, committed, last_number}
use Rattle.zst_model.proofs.PassedLimits.{over, within_limit}
use Rattle.zst_laws.specs.Reclaims.{ReclaimChangesNumber, ReclaimHasNoNumber, ReclaimLeavesReceives}
use Rattle.zst_laws.proofs.pools.Rows.{committed_ok}

pub reclaim_changes : ReclaimChangesNumber
unfolding stepped
reclaim_changes held now pool after h =
    subst (λ (s : Stepped). (s.pool.number ≡ pool.number + 1)
    × (s.reply ≡ ok_line s.pool.number ∷ [])
    × (record s.pool { number = pool.number } ≡ pool)
    × (record (kept_of s.pool) { number = pool.number } ≡ kept_of pool))
    (committed_ok pool after h).1 (refl, refl, refl, refl)

-- a commit is refused for its number alone
past_last : (pool : Pool) (refusal : Refusal) → committed pool ≡ Err refusal
    → (9223372036854775808 ≤ pool.number) × (refusal ≡ refusals.Limit quantities.Number 9223372036854775808)
unfolding last_number
past_last pool refusal h = go (nat_lt 9223372036854775808 (pool.number + 1)) refl _ h
  where
    go : (t : Bool) → nat_lt 9223372036854775808 (pool.number + 1) ≡ t
        → (made : Stepped) → unless t (refusals.Limit quantities.Number 9223372036854775808) (Ok made) ≡ Err refusal
        → (9223372036854775808 ≤ pool.number) × (refusal ≡ refusals.Limit quantities.Number 9223372036854775808)
    go true past made e = let less = ltb-true 9223372036854775808 (pool.number + 1) past in (omega (arith, less), cc)
    go false within made e = absurd (cc)

at_last : (pool : Pool) → 9223372036854775808 ≤ pool.number → committed pool ≡ Err (refusals.Limit quantities.Number 9223372036854775808)
unfolding last_number
at_last pool past = over quantities.Number 9223372036854775808 (pool.number + 1) _ (omega arith)

before_last : (pool : Pool) → pool.number < 9223372036854775808 → (after : Stepped) × (committed pool ≡ Ok after)
unfolding last_number
before_last pool below =
    let made : Stepped = record { reply = ok_line (pool.number + 1) ∷ []; pool = record pool { number = pool.number + 1 } } in
    (made, within_limit quantities.Number 9223372036854775808 (pool.number + 1) (Ok made) (omega arith))

pub reclaim_number : ReclaimHasNoNumber
unfolding stepped
reclaim_number held now pool =
    (λ refusal. (past_last pool refusal, λ (past, is). at_last pool past ∙ ap (λ (r : Refusal). Err r) (sym is)), before_last pool)

pub reclaim_leaves : ReclaimLeavesReceives
unfolding stepped last_number digits
reclaim_leaves now = refl
