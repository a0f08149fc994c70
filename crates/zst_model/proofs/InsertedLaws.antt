-- What a list of rows contains, and what stands in it with a row put in its place.
use Rattle.std.proofs.Common.{inl, inr, ◌⊎◌, subst, ◌≡◌, ℕ, zero, suc, ◌+◌, Bool, true, false, cond, not, List, [], ◌∷◌, get_or, map, if◌then◌else◌, refl, sym, ap, ◌∙◌, add-one, arith}
use Rattle.std.proofs.Math.Nat.{add_comm}
use Rattle.std.specs.List.{All, AllPairs, Contains, insert, position_or_len}
use Rattle.std.proofs.lemmas.List.Elements.{Contains-get_or, All-nil, All-cons, All-contains, All-map, All-weaker}
use Rattle.std.proofs.lemmas.List.Kept.{AllPairs-cons}
use Rattle.zst_model.specs.pools.Pool.{inserted}

-- a list contains its first element
pub contains_first : {A : Type 0} (x : A) (xs : List A) → Contains (x ∷ xs) x
contains_first x xs = (0, omega arith, refl)

-- what the others contain, the whole list contains
pub contains_later : {A : Type 0} (y : A) (xs : List A) (x : A) → Contains xs x → Contains (y ∷ xs) x
contains_later y xs x h = (suc h.0, omega (arith, h.1), h.2)

-- what a list contains is its first element, or one of the others
pub contains_cases : {A : Type 0} (y : A) (xs : List A) (x : A) → Contains (y ∷ xs) x → (y ≡ x) ⊎ Contains xs x
contains_cases y xs x (zero, l, e) = inl e
contains_cases y xs x (suc k, l, e) = inr (k, omega (arith, l), e)

-- an empty list contains nothing
pub contains_nothing : {A : Type 0} (x : A) → Contains [] x → ⊥
contains_nothing x h = omega (arith, h.1)

-- what holds of all that a list contains holds of all its elements
pub All-from_contains : {A : Type 0} (P : A → Type 0) (xs : List A) → ((x : A) → Contains xs x → P x) → All P xs
All-from_contains P xs h k d l = h (get_or xs k d) (Contains-get_or xs k d l)

-- a mapped list contains what the elements are mapped to
pub contains-map : {A B : Type 0} (f : A → B) (xs : List A) (x : A) → Contains xs x → Contains (map f xs) (f x)
contains-map f [] x h = absurd (contains_nothing x h)
contains-map f (y ∷ ys) x h = elim (contains_cases y ys x h) [
  | inl e ↦ subst (λ z. Contains (map f (y ∷ ys)) (f z)) e (contains_first (f y) (map f ys))
  | inr later ↦ contains_later (f y) (map f ys) (f x) (contains-map f ys x later)
]

-- what a mapped list contains is what an element is mapped to
pub map_contains : {A B : Type 0} (f : A → B) (xs : List A) (y : B) → Contains (map f xs) y → (x : A) × Contains xs x × (f x ≡ y)
map_contains f [] y h = absurd (contains_nothing y h)
map_contains f (x ∷ xs) y h = elim (contains_cases (f x) (map f xs) y h) [
  | inl e ↦ (x, contains_first x xs, e)
  | inr later ↦ let found = map_contains f xs y later in (found.0, contains_later x xs found.0 found.1, found.2)
]

-- any relation holds in an empty list
pub AllPairs-nil : {A : Type 0} (R : A → A → Type 0) → AllPairs R []
AllPairs-nil R i j d l b = absurd (omega arith)

-- the first element is related to each of the others
pub AllPairs-head : {A : Type 0} (R : A → A → Type 0) (y : A) (ys : List A) → AllPairs R (y ∷ ys) → All (R y) ys
AllPairs-head R y ys h k d l = h 0 (suc k) d (omega arith) (omega arith)

-- the others are related among themselves
pub AllPairs-tail : {A : Type 0} (R : A → A → Type 0) (y : A) (ys : List A) → AllPairs R (y ∷ ys) → AllPairs R ys
AllPairs-tail R y ys h i j d l b = h (suc i) (suc j) d (omega arith) (omega arith)

-- a relation holds of the results where another holds of what they are made of
pub AllPairs-map : {A B : Type 0} (R : A → A → Type 0) (S : B → B → Type 0) (f : A → B) → ((x y : A) → R x y → S (f x) (f y))
    → (xs : List A) → AllPairs R xs → AllPairs S (map f xs)
AllPairs-map R S f keeps [] h = AllPairs-nil S
AllPairs-map R S f keeps (x ∷ xs) h =
    AllPairs-cons S (f x) (map f xs)
    (All-map (S (f x)) f xs (All-weaker (R x) (λ y. S (f x) (f y)) (λ y. keeps x y) xs (AllPairs-head R x xs h)))
    (AllPairs-map R S f keeps xs (AllPairs-tail R x xs h))

-- what a list contains with a row put in is the row, or was there
pub contains-inserted : {A : Type 0} (comes_before : A → A → Bool) (row : A) (xs : List A) (x : A)
    → Contains (inserted comes_before row xs) x → (row ≡ x) ⊎ Contains xs x
unfolding inserted
contains-inserted comes_before row [] x h = contains_cases row [] x h
contains-inserted {A = A} comes_before row (y ∷ ys) x h = go (comes_before row y) (contains-inserted comes_before row ys x) h
  where
    later : (row ≡ x) ⊎ Contains ys x → (row ≡ x) ⊎ Contains (y ∷ ys) x
    later (inl e) = inl e
    later (inr k) = inr (contains_later y ys x k)

    go : (t : Bool) → (Contains (inserted comes_before row ys) x → (row ≡ x) ⊎ Contains ys x)
        → Contains (if t then row ∷ y ∷ ys else y ∷ inserted comes_before row ys) x → (row ≡ x) ⊎ Contains (y ∷ ys) x
    go true rest k = contains_cases row (y ∷ ys) x k
    go false rest k = elim (contains_cases y (inserted comes_before row ys) x k) [
      | inl e ↦ inr (subst (Contains (y ∷ ys)) e (contains_first y ys))
      | inr k ↦ later (rest k)
    ]

-- the row that was put in is there
pub inserted_has_row : {A : Type 0} (comes_before : A → A → Bool) (row : A) (xs : List A) → Contains (inserted comes_before row xs) row
unfolding inserted
inserted_has_row comes_before row [] = contains_first row []
inserted_has_row {A = A} comes_before row (y ∷ ys) = go (comes_before row y) (inserted_has_row comes_before row ys)
  where
    go : (t : Bool) → Contains (inserted comes_before row ys) row → Contains (if t then row ∷ y ∷ ys else y ∷ inserted comes_before row ys) row
    go true k = contains_first row (y ∷ ys)
    go false k = contains_later y (inserted comes_before row ys) row k

-- what was there is there with a row put in
pub inserted_has_rest : {A : Type 0} (comes_before : A → A → Bool) (row : A) (xs : List A) (x : A) → Contains xs x → Contains (inserted comes_before row xs) x
unfolding inserted
inserted_has_rest comes_before row [] x h = absurd (contains_nothing x h)
inserted_has_rest {A = A} comes_before row (y ∷ ys) x h = go (comes_before row y) (inserted_has_rest comes_before row ys x)
  where
    go : (t : Bool) → (Contains ys x → Contains (inserted comes_before row ys) x) → Contains (if t then row ∷ y ∷ ys else y ∷ inserted comes_before row ys) x
    go true rest = contains_later row (y ∷ ys) x h
    go false rest = elim (contains_cases y ys x h) [
      | inl e ↦ subst (Contains (y ∷ inserted comes_before row ys)) e (contains_first y (inserted comes_before row ys))
      | inr k ↦ contains_later y (inserted comes_before row ys) x (rest k)
    ]

-- what holds of the row and of all others holds of all with the row put in
pub All-inserted : {A : Type 0} (P : A → Type 0) (comes_before : A → A → Bool) (row : A) (xs : List A)
    → P row → All P xs → All P (inserted comes_before row xs)
All-inserted {A = A} P comes_before row xs p h = All-from_contains P (inserted comes_before row xs) (λ x k. go x (contains-inserted comes_before row xs x k))
  where
    go : (x : A) → (row ≡ x) ⊎ Contains xs x → P x
    go x (inl e) = subst P e p
    go x (inr k) = All-contains P xs x h k

-- the row is related to each other row on the side where it comes to stand, so all are related with it put in
pub AllPairs-inserted : {A : Type 0} (R : A → A → Type 0) (comes_before : A → A → Bool) (row : A) (xs : List A)
    → ((x : A) → Contains xs x → comes_before row x ≡ true → R row x)
    → ((x : A) → Contains xs x → comes_before row x ≡ false → R x row)
    → ((x y : A) → Contains xs y → comes_before row x ≡ true → R x y → R row y)
    → AllPairs R xs → AllPairs R (inserted comes_before row xs)
unfolding inserted
AllPairs-inserted R comes_before row [] before after chain h = AllPairs-cons R row [] (All-nil (R row)) h
AllPairs-inserted {A = A} R comes_before row (y ∷ ys) before after chain h =
    go (comes_before row y) refl
    (AllPairs-inserted R comes_before row ys
    (λ x k. before x (contains_later y ys x k))
    (λ x k. after x (contains_later y ys x k))
    (λ x z k. chain x z (contains_later y ys z k))
    (AllPairs-tail R y ys h))
  where
    behind : All (R y) ys
    behind = AllPairs-head R y ys h

    go : (t : Bool) → comes_before row y ≡ t → AllPairs R (inserted comes_before row ys)
        → AllPairs R (if t then row ∷ y ∷ ys else y ∷ inserted comes_before row ys)
    go true e rest =
        AllPairs-cons R row (y ∷ ys)
        (All-cons (R row) y ys (before y (contains_first y ys) e)
        (All-from_contains (R row) ys (λ x k. chain y x (contains_later y ys x k) e (All-contains (R y) ys x behind k)))) h
    go false e rest =
        AllPairs-cons R y (inserted comes_before row ys) (All-inserted (R y) comes_before row ys (after y (contains_first y ys) e) behind) rest

-- the place of a row is that of the first row that it stands before
pub inserted-place : {A : Type 0} (comes_before : A → A → Bool) (row : A) (xs : List A)
    → inserted comes_before row xs ≡ insert xs (position_or_len (comes_before row) xs) row
unfolding inserted
inserted-place comes_before row [] = refl
inserted-place {A = A} comes_before row (y ∷ ys) = go (comes_before row y) (inserted-place comes_before row ys)
  where
    place : ℕ
    place = position_or_len (comes_before row) ys

    go : (t : Bool) → inserted comes_before row ys ≡ insert ys place row
        → (if t then row ∷ y ∷ ys else y ∷ inserted comes_before row ys) ≡ insert (y ∷ ys) (cond (not t) (1 + place) 0) row
    go true rest = refl
    go false rest = ap (λ (l : List A). y ∷ l) rest ∙ ap (λ (n : ℕ). insert (y ∷ ys) n row) (sym (add_comm 1 place ∙ add-one place))
