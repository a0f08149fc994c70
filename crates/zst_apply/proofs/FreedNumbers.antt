-- FREEOBJECTS of a range, and of the numbers in it that objects may have.
use Rattle.std.proofs.Common.{◌≡◌, ℕ, ◌&&◌, nat_lt, Bool, true, false, refl, sym, ap, ◌∙◌, Option, None, Ok, if◌then◌else◌}
use Rattle.std.proofs.Math.Path.{fun_ext}
use Rattle.zst_model.specs.declared.states.item.Item.TheVariants.{FreeObjects}
use Rattle.zst_model.specs.states.AppliedItems.{apply, within}
use Rattle.zst_model.specs.states.DatedState.{DatedState, apply_dated}
use Rattle.zst_model.specs.states.State.{IsState, Object, State, index_bound, is_number}
use Rattle.zst_model.proofs.ObjectNumbers.{absent_outside}

abbrev freed : (number : ℕ) → (ℕ → Bool) → DatedState → State → DatedState
freed number frees old state = record {
  state = state;
  number_date = λ k. if frees k then number else old.number_date k;
  index_date = λ k i. if frees k && nat_lt i index_bound then number else old.index_date k i;
}

freed_is : (number first count : ℕ) (old : DatedState)
    → apply_dated number (FreeObjects first count) old ≡ Ok (freed number (λ k. within first count k && is_number k) old (λ k. if within first count k then None else old.state k))
unfolding apply
freed_is number first count old = refl

module _ (first count other more : ℕ) (same : (k : ℕ) → is_number k ≡ true → within other more k ≡ within first count k) where
  frees_same : (k : ℕ) (test : Bool) → is_number k ≡ test → (within first count k && is_number k) ≡ (within other more k && is_number k)
  frees_same k true is = ap (λ b. b && is_number k) (sym (same k is))
  frees_same k false is = none (within first count k) (within other more k) (is_number k) is
    where
      none : (a b c : Bool) → c ≡ false → (a && c) ≡ (b && c)
      none true true c is = refl
      none true false c is = is
      none false true c is = sym is
      none false false c is = refl

  absent : (a b : Bool) (there : Option Object) → there ≡ None → (if a then None else there) ≡ (if b then None else there)
  absent true true there is = refl
  absent true false there is = sym is
  absent false true there is = is
  absent false false there is = refl

  state_same : (state : State) → IsState state → (k : ℕ) (test : Bool) → is_number k ≡ test → (if within first count k then None else state k) ≡ (if within other more k then None else state k)
  state_same state lawful k true is = ap (λ b. if b then None else state k) (sym (same k is))
  state_same state lawful k false is = absent (within first count k) (within other more k) (state k) (absent_outside state lawful k is)

  -- a range with the same numbers frees the same
  pub same_freed : (number : ℕ) (old : DatedState) → IsState old.state → apply_dated number (FreeObjects first count) old ≡ apply_dated number (FreeObjects other more) old
  same_freed number old lawful =
      freed_is number first count old
      ∙ ap (λ (frees : ℕ → Bool). Ok (freed number frees old (λ k. if within first count k then None else old.state k))) (fun_ext (λ k. frees_same k (is_number k) refl))
      ∙ ap (λ (state : State). Ok (freed number (λ k. within other more k && is_number k) old state)) (fun_ext (λ k. state_same old.state lawful k (is_number k) refl))
      ∙ sym (freed_is number other more old)
