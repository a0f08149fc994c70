use Rattle.std.proofs.Common.{inl, inr, ⊎_elim, ℕ, List, ap, refl}
use Rattle.lru.proofs.Splits.{Contains-cons, Contains-head, Contains-nil, Contains-tail}
use Rattle.zst_block.proofs.cache.meets_in.Goals as goal

pub returns-then-not-is_apart : goal.returns-then-not-is_apart
returns-then-not-is_apart c =
    let first : ℕ × List ℕ = (c.in-Some.sector.now, c.in-Some.field-0-1.now) in
    let kept = (c.loop-sector.invariant first.0 first.1).1 (rw c.in-Some.ensures.steps (Contains-head first c.next.new.self)) in
    (λ no. cc, λ apart. cc (c.if-not-is_apart.ensures.1 (apart first.0 first.1 kept)))

pub loop-sector-preserved : goal.loop-sector-preserved
loop-sector-preserved c = λ sector bytes.
    let first : ℕ × List ℕ = (c.in-Some.sector.now, c.in-Some.field-0-1.now) in
    let before = c.loop-sector.invariant sector bytes in (
      λ is. ⊎_elim (λ later. elim (Contains-cons first c.next.new.self (sector, bytes) (rw c.in-Some.ensures.steps at later)) [
        | inl same ↦
            let key = ap (λ (pair : ℕ × List ℕ). pair.0) same in
            inr (rw (← key) (c.if-not-is_apart.ensures.0 refl))
        | inr rest ↦ inl rest
      ]) (λ apart. inr apart) (before.0 is),
      λ later. before.1 (rw c.in-Some.ensures.steps (Contains-tail first c.next.new.self (sector, bytes) later)),
    )

pub returns : goal.returns
returns c = (
  λ no sector bytes is.
      ⊎_elim (λ later. absurd (Contains-nil _ (rw c.in-None.ensures.steps.0 at later))) (λ apart. apart) ((c.loop-sector.invariant sector bytes).0 is),
  λ apart. refl,
)
