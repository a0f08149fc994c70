-- What a look-up in a list gives.
use Rattle.std.proofs.Common.{inl, inr, ◌⊎◌, subst, ◌≡◌, ℕ, Bool, true, false, cond, List, [], ◌∷◌, Some, None, filter, refl, sym, ap, ◌∙◌}
use Rattle.std.specs.List.{Contains, find}
use Rattle.std.specs.Str.{bytes_eq}
use Rattle.std.proofs.lemmas.Option.{same_Some}
use Rattle.zst_model.specs.pools.Pool.{Pool, Partial, partial_of}
use Rattle.zst_model.proofs.InsertedLaws.{contains_first, contains_later, contains_cases, contains_nothing}
use Rattle.zst_model.proofs.OrderLaws.{same_bytes}

-- what a look-up gives passes and is in the list, and where it gives none, none passes
pub found_passes : {A : Type 0} (p : A → Bool) (xs : List A) (x : A) → find p xs ≡ Some x → Contains xs x × (p x ≡ true)
found_passes p [] x h = absurd (cc)
found_passes {A = A} p (y ∷ ys) x h = go (p y) refl (found_passes p ys x) h
  where
    go : (t : Bool) → p y ≡ t → (find p ys ≡ Some x → Contains ys x × (p x ≡ true)) → cond t (Some y) (find p ys) ≡ Some x → Contains (y ∷ ys) x × (p x ≡ true)
    go true e rest k = subst (λ z. Contains (y ∷ ys) z × (p z ≡ true)) (same_Some y x k) (contains_first y ys, e)
    go false e rest k = let found = rest k in (contains_later y ys x found.0, found.1)

pub none_passes : {A : Type 0} (p : A → Bool) (xs : List A) → find p xs ≡ None → (x : A) → Contains xs x → p x ≡ false
none_passes p [] h x k = absurd (contains_nothing x k)
none_passes {A = A} p (y ∷ ys) h x k = go (p y) refl (λ n. none_passes p ys n x) h (contains_cases y ys x k)
  where
    go : (t : Bool) → p y ≡ t → (find p ys ≡ None → Contains ys x → p x ≡ false) → cond t (Some y) (find p ys) ≡ None → (y ≡ x) ⊎ Contains ys x → p x ≡ false
    go true e rest n c = absurd (cc)
    go false e rest n (inl s) = ap p (sym s) ∙ e
    go false e rest n (inr k) = rest n k

-- what is found is found among those too that another test leaves, where it passes that itself
pub found_kept : {A : Type 0} (test keep : A → Bool) (xs : List A) (x : A) → find test xs ≡ Some x → keep x ≡ true → find test (filter keep xs) ≡ Some x
found_kept test keep [] x e k = absurd cc
found_kept {A} test keep (a ∷ xs) x e k = go (test a) (keep a) refl refl e (λ rest. found_kept test keep xs x rest k)
  where
    go : (t s : Bool) → test a ≡ t → keep a ≡ s → cond t (Some a) (find test xs) ≡ Some x → (find test xs ≡ Some x → find test (filter keep xs) ≡ Some x)
        → find test (cond s (a ∷ filter keep xs) (filter keep xs)) ≡ Some x
    go true true is kept e on = ap (λ (t : Bool). cond t (Some a) (find test (filter keep xs))) is ∙ e
    go true false is kept e on = absurd (let one = ap keep (same_Some a x e) in cc)
    go false true is kept e on = ap (λ (t : Bool). cond t (Some a) (find test (filter keep xs))) is ∙ on e
    go false false is kept e on = on e

-- the partial state of a target is the target's own
pub own_target : (target : List ℕ) (pool : Pool) (partial : Partial) → partial_of target pool ≡ Some partial → partial.target ≡ target
own_target target pool partial found =
    same_bytes partial.target target (found_passes (λ (p : Partial). bytes_eq p.target target) pool.partials partial found).1
