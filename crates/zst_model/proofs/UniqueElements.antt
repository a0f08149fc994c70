-- Elements of a list that its pairs can't tell apart are one.
use Rattle.std.proofs.Common.{◌≡◌, ◌≢◌, inl, inr, ◌⊎◌, List, [], ◌∷◌, AllPairs, Contains, sym, ◌∙◌, subst}
use Rattle.std.proofs.lemmas.List.Elements.{All-contains}
use Rattle.zst_model.specs.pools.Pool.{Snapshot}
use Rattle.zst_model.proofs.InsertedLaws.{contains_cases, contains_nothing, AllPairs-head, AllPairs-tail}

-- two elements of which neither may stand before the other
pub same_element : {A : Type 0} (R : A → A → Type 0) (xs : List A) → AllPairs R xs → (a b : A)
    → Contains xs a → Contains xs b → (R a b → ⊥) → (R b a → ⊥) → a ≡ b
same_element R [] pairs a b here there not_ab not_ba = absurd (contains_nothing a here)
same_element {A = A} R (x ∷ xs) pairs a b here there not_ab not_ba =
    go (same_element R xs (AllPairs-tail R x xs pairs) a b) (contains_cases x xs a here) (contains_cases x xs b there)
  where
    behind : (c d : A) → x ≡ c → Contains xs d → R c d
    behind c d e later = subst (λ y. R y d) e (All-contains (R x) xs d (AllPairs-head R x xs pairs) later)

    go : (Contains xs a → Contains xs b → (R a b → ⊥) → (R b a → ⊥) → a ≡ b) → (x ≡ a) ⊎ Contains xs a → (x ≡ b) ⊎ Contains xs b → a ≡ b
    go rest (inl e) (inl f) = sym e ∙ f
    go rest (inl e) (inr k) = absurd (not_ab (behind a b e k))
    go rest (inr k) (inl f) = absurd (not_ba (behind b a f k))
    go rest (inr k) (inr l) = rest k l not_ab not_ba

-- snapshots whose names differ and that have one name are one
pub same_named : (snapshots : List Snapshot) → AllPairs (λ a b. a.name ≢ b.name) snapshots → (a b : Snapshot)
    → Contains snapshots a → Contains snapshots b → a.name ≡ b.name → a ≡ b
same_named snapshots differ a b here there same =
    same_element (λ c d. c.name ≢ d.name) snapshots differ a b here there (λ h. h same) (λ h. h (sym same))
