-- A text stops being a name at one place.
use Rattle.std.proofs.Common.{◌≡◌, ℕ, ◌+◌, ◌<◌, ◌≤◌, List, ◌++◌, length, take, drop, sym, ap, ◌∙◌, subst, inl, inr, arith, append_assoc, take-append-drop, length-take-le}
use Rattle.std.proofs.lemmas.List.{take-append-le}
use Rattle.zst_names.specs.Names.{CanGoOn, StopsAt}

-- where a front can go on, each shorter one can
pub shorter_goes_on : (IsOne : List ℕ → Type 0) (text : List ℕ) (short long : ℕ) → short ≤ long → long ≤ length text → CanGoOn IsOne (take long text) → CanGoOn IsOne (take short text)
shorter_goes_on IsOne text short long le within goes =
    let front = take long text in
    let below : short ≤ length front = omega (arith, length-take-le long text within) in
    let same : take short text ≡ take short front = sym (ap (λ bs. take short bs) (take-append-drop long text)) ∙ take-append-le short front (drop long text) below in
    let cut : front ≡ take short text ++ drop short front = sym (take-append-drop short front) ∙ ap (λ bs. bs ++ drop short front) (sym same) in
    (drop short front ++ goes.0, subst IsOne (ap (λ bs. bs ++ goes.0) cut ∙ append_assoc (take short text) (drop short front) goes.0) goes.1)

-- so none goes on past the place
pub not_past : (IsOne : List ℕ → Type 0) (text : List ℕ) (p q : ℕ) → StopsAt IsOne text p → StopsAt IsOne text q → p < q → ⊥
not_past IsOne text p q first later below =
    let within : q ≤ length text = elim later.stops [ inl h ↦ omega (arith, h.0) | inr h ↦ omega (arith, h.0) ] in
    elim first.stops [
      | inl h ↦ h.1 (shorter_goes_on IsOne text (p + 1) q (omega arith) within later.goes)
      | inr h ↦ omega (arith, h.0)
    ]

pub same_place : (IsOne : List ℕ → Type 0) (text : List ℕ) (p q : ℕ) → StopsAt IsOne text p → StopsAt IsOne text q → p ≡ q
same_place IsOne text p q first other =
    let low : p < q → ⊥ = not_past IsOne text p q first other in
    let high : q < p → ⊥ = not_past IsOne text q p other first in
    omega (arith, low, high)
