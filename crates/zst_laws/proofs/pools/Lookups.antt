-- What a look-up finds in a list that was changed.
use Rattle.std.proofs.Common.{◌≡◌, inl, inr, ◌⊎◌, ℕ, AllPairs, Bool, true, false, cond, List, [], ◌∷◌, map, filter, find, Some, option_map, Contains, if◌then◌else◌, refl, sym, ap, ◌∙◌}
use Rattle.std.proofs.lemmas.Bool.{true≢false, cond-false, cond-true}
use Rattle.std.proofs.lemmas.List.Elements.{All-contains}
use Rattle.zst_model.specs.pools.Pool.{inserted, is_before}
use Rattle.zst_model.proofs.InsertedLaws.{contains_first, contains_later, contains_cases, contains_nothing, AllPairs-head, AllPairs-tail}

-- a row that was put in, where no other passes
pub find-inserted_row : {A : Type 0} (p : A → Bool) (before : A → A → Bool) (row : A) (xs : List A)
    → ((x : A) → Contains xs x → p x ≡ false) → p row ≡ true → find p (inserted before row xs) ≡ Some row
unfolding inserted
find-inserted_row p before row [] none passes = cond-true (p row) _ _ passes
find-inserted_row {A = A} p before row (y ∷ ys) none passes =
    go (before row y) (find-inserted_row p before row ys (λ x there. none x (contains_later y ys x there)) passes)
  where
    go : (t : Bool) → find p (inserted before row ys) ≡ Some row → find p (if t then row ∷ y ∷ ys else y ∷ inserted before row ys) ≡ Some row
    go true rest = cond-true (p row) _ _ passes
    go false rest = cond-false (p y) _ _ (none y (contains_first y ys)) ∙ rest

-- what else was there, where the row doesn't pass
pub find-inserted_other : {A : Type 0} (p : A → Bool) (before : A → A → Bool) (row : A) (xs : List A)
    → p row ≡ false → find p (inserted before row xs) ≡ find p xs
unfolding inserted
find-inserted_other p before row [] fails = cond-false (p row) _ _ fails
find-inserted_other {A = A} p before row (y ∷ ys) fails = go (before row y) (find-inserted_other p before row ys fails)
  where
    go : (t : Bool) → find p (inserted before row ys) ≡ find p ys → find p (if t then row ∷ y ∷ ys else y ∷ inserted before row ys) ≡ find p (y ∷ ys)
    go true rest = cond-false (p row) _ _ fails
    go false rest = ap (cond (p y) (Some y)) rest

-- what a filter leaves, where it leaves all that passes
pub find-filter : {A : Type 0} (p keep : A → Bool) (xs : List A) → ((x : A) → p x ≡ true → keep x ≡ true) → find p (filter keep xs) ≡ find p xs
find-filter p keep [] stays = refl
find-filter {A = A} p keep (y ∷ ys) stays = go (keep y) refl (p y) refl (find-filter p keep ys stays)
  where
    go : (t : Bool) → keep y ≡ t → (u : Bool) → p y ≡ u → find p (filter keep ys) ≡ find p ys
        → find p (if t then y ∷ filter keep ys else filter keep ys) ≡ cond u (Some y) (find p ys)
    go true kept u e rest = ap (λ v. cond v (Some y) (find p (filter keep ys))) e ∙ ap (cond u (Some y)) rest
    go false dropped true e rest = absurd (true≢false (sym (stays y e) ∙ dropped))
    go false dropped false e rest = rest

-- what a map makes, where the look-up doesn't see what it changes
pub find-map : {A : Type 0} (p : A → Bool) (f : A → A) (xs : List A) → ((x : A) → p (f x) ≡ p x) → find p (map f xs) ≡ option_map f (find p xs)
find-map p f [] same = refl
find-map {A = A} p f (y ∷ ys) same = ap (λ t. cond t (Some (f y)) (find p (map f ys))) (same y) ∙ go (p y) (find-map p f ys same)
  where
    go : (t : Bool) → find p (map f ys) ≡ option_map f (find p ys) → cond t (Some (f y)) (find p (map f ys)) ≡ option_map f (cond t (Some y) (find p ys))
    go true rest = refl
    go false rest = rest

-- of rows that stand by name the look-up finds the one with the least
pub find_least : {A : Type 0} (p : A → Bool) (name : A → List ℕ) (xs : List A) (one : A) → AllPairs (λ a b. is_before (name a) (name b) ≡ true) xs
    → Contains xs one → p one ≡ true → ((other : A) → Contains xs other → p other ≡ true → is_before (name other) (name one) ≡ false) → find p xs ≡ Some one
find_least p name [] one order there passes least = absurd (contains_nothing one there)
find_least {A = A} p name (y ∷ ys) one order there passes least =
    go (p y) refl (contains_cases y ys one there)
    (λ later. find_least p name ys one (AllPairs-tail (λ a b. is_before (name a) (name b) ≡ true) y ys order) later passes (λ other is. least other (contains_later y ys other is)))
  where
    go : (t : Bool) → p y ≡ t → (y ≡ one) ⊎ Contains ys one → (Contains ys one → find p ys ≡ Some one) → cond t (Some y) (find p ys) ≡ Some one
    go true e (inl same) rest = ap (λ x. Some x) same
    go true e (inr later) rest =
        let first = All-contains (λ x. is_before (name y) (name x) ≡ true) ys one (AllPairs-head (λ a b. is_before (name a) (name b) ≡ true) y ys order) later in
        absurd (true≢false (sym first ∙ least y (contains_first y ys) e))
    go false e (inl same) rest = absurd (true≢false (sym passes ∙ ap p (sym same) ∙ e))
    go false e (inr later) rest = rest later
