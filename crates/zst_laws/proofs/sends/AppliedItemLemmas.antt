-- Lists of items one after another, and tests of a range.
use Rattle.std.proofs.Common.{inl, inr, ◌⊎◌, ◌≡◌, ℕ, suc, ◌+◌, ◌%◌, Bool, true, false, cond, List, [], ◌∷◌, ◌++◌, Result, Ok, Err, refl, sym, ap, ◌∙◌, arith, ◌==◌, eqb-true, eq-eqb, ne_eqb}
use Rattle.std.proofs.Math.Path.{fun_ext}
use Rattle.std.proofs.Math.Nat.{add-mod, zero-mod}
use Rattle.std.proofs.lemmas.Bool.{not-false, not_from_true, cond-true, cond-false, cases_eq}
use Rattle.std.proofs.lemmas.Bool.Decides.{nat_tests}
use Rattle.zst_model.specs.states.State.{State}
use Rattle.zst_model.specs.declared.states.item.Item.{Item}
use Rattle.zst_model.specs.declared.refusals.apply_fault.ApplyFault.{ApplyFault}
use Rattle.zst_model.specs.states.AppliedItems.{apply, apply_all, ◌>>=◌, within, put_at, unless, is_unaligned}

-- the laws of `>>=` and of `unless`
pub bind-bind : {A B C : Type 0} (r : Result A ApplyFault) (f : A → Result B ApplyFault) (g : B → Result C ApplyFault) → ((r >>= f) >>= g) ≡ (r >>= λ x. f x >>= g)
bind-bind (Ok x) f g = refl
bind-bind (Err e) f g = refl

pub unless_from : {A : Type 0} (b : Bool) (e : ApplyFault) (r : Result A ApplyFault) → b ≡ false → unless b e r ≡ r
unless_from b e r h = ap (λ c. unless c e r) h

pub apply_all-append : (xs ys : List Item) (s : State) → apply_all (xs ++ ys) s ≡ (apply_all xs s >>= apply_all ys)
apply_all-append [] ys s = refl
apply_all-append (x ∷ xs) ys s =
    ap (λ f. apply x s >>= f) (fun_ext (apply_all-append xs ys)) ∙ sym (bind-bind (apply x s) (apply_all xs) (apply_all ys))

-- what stands at a place, and elsewhere
pub put_here : {X : Type 0} (f : ℕ → X) (k : ℕ) (x : X) → put_at f k x k ≡ x
put_here f k x = cond-true (k == k) x (f k) (eq-eqb k k refl)

pub put_other : {X : Type 0} (f : ℕ → X) (k j : ℕ) (x : X) → (j ≡ k → ⊥) → put_at f k x j ≡ f j
put_other f k j x h = cond-false (j == k) x (f j) (ne_eqb j k h)

pub put-put : {X : Type 0} (f : ℕ → X) (k : ℕ) (x y : X) → put_at (put_at f k x) k y ≡ put_at f k y
put-put {X = X} f k x y = fun_ext (λ j. go (j == k) (f j))
  where
    go : (b : Bool) (z : X) → cond b y (cond b x z) ≡ cond b y z
    go true z = refl
    go false z = refl

pub put_same : {X : Type 0} (f : ℕ → X) (k : ℕ) → put_at f k (f k) ≡ f
put_same f k = fun_ext (λ j. go j (cases_eq j k))
  where
    go : (j : ℕ) → (j ≡ k) ⊎ (j ≡ k → ⊥) → put_at f k (f k) j ≡ f j
    go j (inl e) = cond-true (j == k) (f k) (f j) (eq-eqb j k e) ∙ ap f (sym e)
    go j (inr e) = put_other f k j (f k) e

-- two ranges that touch
pub range-range : {X : Type 0} (a m b n k : ℕ) (x y : X) → a + m ≡ b → cond (within a (m + n) k) x y ≡ cond (within b n k) x (cond (within a m k) x y)
range-range a m b n k x y e = grind (arith, nat_tests)

pub within_first : (a n : ℕ) → within a (suc n) a ≡ true
within_first a n = grind (arith, nat_tests)

pub within_before : (a n : ℕ) → within (suc a) n a ≡ false
within_before a n = grind (arith, nat_tests)

pub within_rest : (a n k : ℕ) → (k ≡ a → ⊥) → within (suc a) n k ≡ within a (suc n) k
within_rest a n k h = grind (arith, nat_tests)

-- what is aligned
pub aligned_at : (size n : ℕ) → is_unaligned size n ≡ false → n % size ≡ 0
aligned_at size n h = eqb-true (n % size) 0 (not-false _ h)

pub aligned_from : (size n : ℕ) → n % size ≡ 0 → is_unaligned size n ≡ false
aligned_from size n h = not_from_true _ (eq-eqb (n % size) 0 h)

pub aligned-add : (size m n : ℕ) → is_unaligned size m ≡ false → is_unaligned size n ≡ false → is_unaligned size (m + n) ≡ false
aligned-add size m n a b =
    aligned_from size (m + n) (add-mod m n size ∙ ap (λ x. (x + n % size) % size) (aligned_at size m a) ∙ ap (λ x. (0 + x) % size) (aligned_at size n b) ∙ zero-mod size)
