-- What abort makes of a pool, what it leaves, and when it is refused.
use Rattle.std.proofs.Common.{◌≡◌, ◌≢◌, ℕ, ◌+◌, Bool, true, false, not, List, filter, nat_lt, Option, Some, None, Result, Ok, Err, Contains, bytes_eq, refl, sym, ap, subst, ◌∙◌}
use Rattle.std.specs.Fmt.{digits}
use Rattle.std.proofs.lemmas.Bool.{not-true, not_from_false}
use Rattle.std.proofs.lemmas.List.Elements.{All-contains, filter_passes}
use Rattle.zst_model.specs.declared.pools.command.Command.TheVariants as commands
use Rattle.zst_model.specs.declared.refusals.faults.Quantity.TheVariants as quantities
use Rattle.zst_model.specs.declared.refusals.refusal.Refusal.{Refusal}
use Rattle.zst_model.specs.declared.refusals.refusal.Refusal.TheVariants as refusals
use Rattle.zst_model.specs.states.AppliedItems.{unless}
use Rattle.zst_model.specs.pools.Sessions.{session_into, unless_busy}
use Rattle.zst_model.specs.pools.Pool.{Pool, Partial, partial_of}
use Rattle.zst_model.specs.pools.Step.{Stepped, stepped, no_partial, or_else, committed, last_number, without_partial}
use Rattle.zst_model.specs.refusals.PlanFault.{plan_text}
use Rattle.zst_model.specs.refusals.Refusal.{text_of}
use Rattle.zst_model.proofs.OrderLaws.{same_bytes}
use Rattle.zst_model.proofs.NameTests.{differ}
use Rattle.zst_laws.specs.Aborts.{AbortedGoes, NothingToAbort, OnlyNothingToAbort, AbortHasNoNumber, AbortLeavesOthers}
use Rattle.zst_laws.proofs.pools.Rows.{none_from_absent, committed_ok}
use Rattle.zst_laws.proofs.pools.Lookups.{find-filter}
use Rattle.zst_laws.proofs.pools.AcceptedRemovals.{with_aborted_ok}
use Rattle.zst_laws.proofs.pools.HoldingSessions.{free_ones}
use Rattle.zst_laws.proofs.pools.StepRefusals.{no_number}

-- whether a partial state is of another target
abbrev is_other : List ℕ → Partial → Bool
is_other target partial = not (bytes_eq partial.target target)

pub aborted_goes : AbortedGoes
unfolding stepped
aborted_goes held now target pool after h =
    subst (λ (s : Stepped). (partial_of target s.pool ≡ None)
    × ((other : List ℕ) → other ≢ target → partial_of other s.pool ≡ partial_of other pool)
    × (s.pool ≡ record pool { number = pool.number + 1; partials = s.pool.partials }))
    (committed_ok _ after (with_aborted_ok held target pool after h).made).1 (
      none_from_absent (λ p. bytes_eq p.target target) (filter (is_other target) pool.partials) gone,
      λ other apart. find-filter (λ p. bytes_eq p.target other) (is_other target) pool.partials
          (λ p passes. not_from_false (bytes_eq p.target target) (differ p.target target (λ e. apart (sym (same_bytes p.target other passes) ∙ e)))),
      refl,
    )
  where
    gone : (p : Partial) → Contains (filter (is_other target) pool.partials) p → bytes_eq p.target target ≡ false
    gone p there =
        not-true (bytes_eq p.target target)
        (All-contains (λ q. is_other target q ≡ true) (filter (is_other target) pool.partials) p (filter_passes (is_other target) pool.partials) there)

-- an abort by what is found
abbrev given_up : Pool → List ℕ → Option ℕ → Option Partial → Result Stepped Refusal
given_up pool target session found = or_else (no_partial target) found (λ partial. unless_busy session (committed (without_partial target pool)))

pub nothing_to_abort : NothingToAbort
unfolding stepped
nothing_to_abort pool target h held now = ap (given_up pool target (session_into target held)) h

-- behind the partial state comes no E14
not_absent : (target : List ℕ) (pool : Pool) (session : Option ℕ) → unless_busy session (committed pool) ≡ Err (no_partial target) → ⊥
not_absent target pool (Some id) h = cc
not_absent target pool None h = go (nat_lt last_number (pool.number + 1)) _ h
  where
    go : (t : Bool) (made : Stepped) → unless t (refusals.Limit quantities.Number last_number) (Ok made) ≡ Err (no_partial target) → ⊥
    go true made e = cc
    go false made e = cc

pub only_nothing : OnlyNothingToAbort
unfolding stepped
only_nothing held now target pool h = go (partial_of target pool) h
  where
    go : (found : Option Partial) → given_up pool target (session_into target held) found ≡ Err (no_partial target) → found ≡ None
    go None e = refl
    go (Some partial) e = absurd (not_absent target (without_partial target pool) (session_into target held) e)

pub abort_number : AbortHasNoNumber
unfolding stepped
abort_number pool target partial held now there free e =
    free_ones pool (commands.Abort target) held now free
    ∙ ap (given_up pool target None) there
    ∙ no_number (without_partial target pool) e

pub abort_leaves : AbortLeavesOthers
unfolding stepped last_number text_of plan_text digits
abort_leaves now = (refl, refl, refl, record { numbered = refl; worded = refl })
