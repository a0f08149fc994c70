-- Marked sectors are counted one after another.
use Rattle.std.proofs.Common.{◌≡◌, ◌≢◌, ◌⊎◌, inl, inr, ℕ, zero, suc, ◌+◌, ◌<◌, ◌≤◌, List, [], ◌∷◌, get_or, refl, subst, sym, arith}
use Rattle.std.specs.Prelude.{All, Contains}
use Rattle.std.proofs.lemmas.Bool.{cases_lt}
use Rattle.std.proofs.lemmas.List.{get_or_default}
use Rattle.std.proofs.lemmas.List.Kept.{AllPairs-cons}
use Rattle.zst_model.proofs.InsertedLaws.{contains_nothing}
use Rattle.zst_count.specs.FirstSectors.{Counts}

-- so many of the numbers before one are such
pub record CountsBefore (is : ℕ → Type 0) (end count : ℕ) : Type 0 where
  pub counts : Counts (λ number. (number < end) × is number) count
  pub few : count ≤ end

-- before 0 there is none
pub none_before : (is : ℕ → Type 0) → CountsBefore is 0 0
none_before is = record {
  counts = record {
    numbers = [];
    once = λ i j d less within. absurd (omega arith);
    exact = λ number. (λ there. absurd (contains_nothing number there), λ h. absurd (omega (arith, h.0)));
    long = refl;
  };
  few = omega arith;
}

-- one that isn't such leaves the count
pub skips : (is : ℕ → Type 0) (end count : ℕ) → ¬ is end → CountsBefore is end count → CountsBefore is (end + 1) count
skips is end count none before = record {
  counts = record {
    numbers = before.counts.numbers;
    once = before.counts.once;
    exact = λ number. (
      λ there. let h = (before.counts.exact number).0 there in (omega (arith, h.0), h.1),
      λ h. elim (cases_lt number end) [
        | inl less ↦ (before.counts.exact number).1 (less, h.1)
        | inr on ↦ absurd (let same : number ≡ end = omega (arith, on, h.0) in none (subst is same h.1))
      ],
    );
    long = before.counts.long;
  };
  few = omega (arith, before.few);
}

-- a number is in a longer list where it is the first, or in the rest
in_longer : (first : ℕ) (rest : List ℕ) (number : ℕ) → (number ≡ first) ⊎ Contains rest number → Contains (first ∷ rest) number
in_longer first rest number (inl same) = (0, omega arith, sym same)
in_longer first rest number (inr there) = (suc there.0, omega (arith, there.1), there.2)

in_either : (first : ℕ) (rest : List ℕ) (number : ℕ) → Contains (first ∷ rest) number → (number ≡ first) ⊎ Contains rest number
in_either first rest number (zero, within, is) = inl (sym is)
in_either first rest number (suc k, within, is) = inr (k, omega (arith, within), is)

-- each that was counted is another than the next
all_other : (is : ℕ → Type 0) (end count : ℕ) (before : Counts (λ number. (number < end) × is number) count) → All (λ number. end ≢ number) before.numbers
all_other is end count before k d within = λ same.
    let value = get_or before.numbers k d in
    let there : Contains before.numbers value = (k, within, sym (get_or_default before.numbers k d value within)) in
    let less = ((before.exact value).0 there).0 in
    absurd (omega (arith, same, less))

-- one that is such is counted
pub takes : (is : ℕ → Type 0) (end count : ℕ) → is end → CountsBefore is end count → CountsBefore is (end + 1) (count + 1)
takes is end count one before = record {
  counts = record {
    numbers = end ∷ before.counts.numbers;
    once = AllPairs-cons (λ a b. a ≢ b) end before.counts.numbers (all_other is end count before.counts) before.counts.once;
    exact = λ number. (
      λ there. elim (in_either end before.counts.numbers number there) [
        | inl same ↦ (omega (arith, same), subst is (sym same) one)
        | inr earlier ↦ (let h = (before.counts.exact number).0 earlier in (omega (arith, h.0), h.1))
      ],
      λ h. in_longer end before.counts.numbers number (elim (cases_lt number end) [
        | inl less ↦ inr ((before.counts.exact number).1 (less, h.1))
        | inr on ↦ inl (omega (arith, on, h.0))
      ]),
    );
    long = omega (arith, before.counts.long);
  };
  few = omega (arith, before.few);
}
