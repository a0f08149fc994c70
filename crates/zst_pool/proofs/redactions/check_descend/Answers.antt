use Rattle.std.proofs.Common.{◌≡◌, ◌⊎◌, inl, inr, ◌∙◌, ◌+◌, ℕ, ◌<◌, true, false, List, get_or, Err, sym, ap, arith}
use Rattle.std.proofs.lemmas.Bool.{cases_lt}
use Rattle.std.proofs.lemmas.List.{get_or_default}
use Rattle.zst_model.specs.pools.Step.{not_descendant, unless_there}
use Rattle.zst_model.specs.refusals.Refusal.{refusal_of}
use Rattle.zst_model.specs.declared.refusals.plan_fault.PlanFault.TheVariants as plans
use Rattle.zst_pool.specs.Redactions.{comes_after}
use Rattle.zst_pool.proofs.RedactionRows.{all_descend, first_strays}
use Rattle.zst_pool.proofs.redactions.check_descend.Goals as goal

-- the place of the next name, or one before it
next_or_before : (j k : ℕ) → j < k + 1 → (j < k) ⊎ (j ≡ k)
next_or_before j k less = elim (cases_lt j k) [
  | inl before ↦ inl before
  | inr behind ↦ inr (omega (arith, less, behind))
]

pub loop-name-init : goal.loop-name-init
loop-name-init c = λ pool taken are named j d less. absurd (omega (arith, less))

pub loop-name-preserved : goal.loop-name-preserved
loop-name-preserved c = λ pool taken are named j d less.
    let words = c.args.names.now in
    let k = c.loop-name.name-index in
    let after : comes_after pool taken c.name-item.result ≡ true = sym (c.comes_after.ensures pool taken are named) ∙ c.if-not-comes_after.false in
    elim (next_or_before j k less) [
      | inl before ↦ c.loop-name.invariant pool taken are named j d before
      | inr here ↦ (
          let same : get_or words j d ≡ c.name-item.result = ap (λ (n : ℕ). get_or words n d) here ∙ get_or_default words k d c.name-item.result c.loop-name-test.true ∙ sym c.name-item.is in
          ap (comes_after pool taken) same ∙ after)
    ]

pub returns-then-not-comes_after-clause-judged : goal.returns-then-not-comes_after-clause-judged
returns-then-not-comes_after-clause-judged c = λ pool taken redactions rest are named found.
    let words = c.args.names.now in
    let k = c.loop-name.name-index in
    let word = c.name-item.result in
    let fails : comes_after pool taken word ≡ false = sym (c.comes_after.ensures pool taken are named) ∙ c.if-not-comes_after.true in
    let here : get_or words k word ≡ word = sym c.name-item.is in
    let first = first_strays pool taken words redactions k word found c.loop-name-test.true (c.loop-name.invariant pool taken are named) (ap (comes_after pool taken) here ∙ fails) in
    ap (λ o. unless_there not_descendant o rest) first.1
    ∙ ap (λ (n : List ℕ). Err (refusal_of (plans.NotDescendant n))) (first.2 ∙ here ∙ sym c.duplicate.ensures)

pub returns-clause-judged : goal.returns-clause-judged
returns-clause-judged c = λ pool taken redactions rest are named found.
    let words = c.args.names.now in
    ap (λ o. unless_there not_descendant o rest)
    (all_descend pool taken words redactions found (λ j d below. c.loop-name.invariant pool taken are named j d (omega (arith, below))))
