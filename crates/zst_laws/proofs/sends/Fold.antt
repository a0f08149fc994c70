-- A pass over rising numbers, each step of which changes its own number alone.
use Rattle.std.proofs.Common.{inl, inr, ◌⊎◌, subst, ◌≡◌, ℕ, zero, suc, ◌+◌, ◌<◌, ◌≤◌, cond, List, [], ◌++◌, flat_map, Result, Ok, sym, ap, ◌∙◌, arith, if◌then◌else◌}
use Rattle.std.proofs.Math.Path.{fun_ext}
use Rattle.std.proofs.lemmas.Bool.Decides.{nat_tests}
use Rattle.std.proofs.lemmas.Bool.{cases_eq, cond-true, cond-false}
use Rattle.zst_laws.proofs.sends.AppliedItemLemmas.{put_here, put_other, within_first, within_before, within_rest}
use Rattle.zst_model.specs.declared.refusals.apply_fault.ApplyFault.{ApplyFault}
use Rattle.zst_model.specs.states.AppliedItems.{◌>>=◌, within, put_at}
use Rattle.zst_model.specs.sends.Items.{rising}

abbrev pub swept : {X : Type 0} → (ℕ → X → X) → ℕ → ℕ → (ℕ → X) → ℕ → X
swept want a n f k = if within a n k then want k (f k) else f k

module _ {X Y Z : Type 0} (run : List Y → Z → Result Z ApplyFault) (embed : (ℕ → X) → Z) (step : ℕ → List Y) (want : ℕ → X → X) (P : ℕ → X → Type 0)
    (none : (z : Z) → run [] z ≡ Ok z)
    (more : (xs ys : List Y) (z : Z) → run (xs ++ ys) z ≡ (run xs z >>= run ys))
    (each : (k : ℕ) (f : ℕ → X) → P k (f k) → run (step k) (embed f) ≡ Ok (embed (put_at f k (want k (f k))))) where
  pub sweep : (n a : ℕ) (f : ℕ → X) → ((k : ℕ) → a ≤ k → k < a + n → P k (f k)) → run (flat_map step (rising a n)) (embed f) ≡ Ok (embed (swept want a n f))
  unfolding rising
  sweep zero a f h = none (embed f) ∙ ap (λ g. Ok (embed g)) (fun_ext (λ k. grind (arith, nat_tests)))
  sweep (suc n) a f h =
      more (step a) (flat_map step (rising (suc a) n)) (embed f)
      ∙ ap (λ r. r >>= run (flat_map step (rising (suc a) n))) (each a f (h a (omega arith) (omega arith)))
      ∙ sweep n (suc a) (put_at f a (want a (f a))) later
      ∙ ap (λ g. Ok (embed g)) (fun_ext (λ k. same k (cases_eq k a)))
    where
      later : (k : ℕ) → suc a ≤ k → k < suc a + n → P k (put_at f a (want a (f a)) k)
      later k low high =
          let ne : k ≡ a → ⊥ = omega arith in
          subst (P k) (sym (put_other f a k (want a (f a)) ne)) (h k (omega arith) (omega arith))

      same : (k : ℕ) → (k ≡ a) ⊎ (k ≡ a → ⊥) → swept want (suc a) n (put_at f a (want a (f a))) k ≡ swept want a (suc n) f k
      same k (inl e) =
          let at : ℕ → Type 0 = λ j. swept want (suc a) n (put_at f a (want a (f a))) j ≡ swept want a (suc n) f j in
          subst at (sym e)
          (cond-false (within (suc a) n a) _ _ (within_before a n) ∙ put_here f a (want a (f a)) ∙ sym (cond-true (within a (suc n) a) _ _ (within_first a n)))
      same k (inr e) =
          ap (λ x. cond (within (suc a) n k) (want k x) x) (put_other f a k (want a (f a)) e)
          ∙ ap (λ b. cond b (want k (f k)) (f k)) (within_rest a n k e)
